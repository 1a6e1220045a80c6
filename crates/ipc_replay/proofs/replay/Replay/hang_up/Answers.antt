use Rattle.std.proofs.Common.{ap, sym, ◌∙◌}
use Rattle.ipc_policy.specs.Decides.History.{History}
use Rattle.ipc_replay.proofs.HangUpLemmas.{hangs_up}
use Rattle.ipc_replay.proofs.replay.Replay.hang_up.Goals as goal

pub returns-clause-ok : goal.returns-clause-ok
returns-clause-ok c =
    let before = c.self.inside.state in
    let on = sym c.is_live.ensures ∙ c.if-not-is_live.false in
    rw (← c.self.view_is) (c.in_ok-add.ensures.ok ∙ ap (λ (h : History). record before { history = h }) (hangs_up before.config before.history c.args.sid on))
