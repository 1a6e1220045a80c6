use Rattle.std.proofs.Common.{◌≡◌, ap, refl, ◌∙◌, arith}
use Rattle.ipc_state.specs.StateView.{StateView}
use Rattle.ipc_policy.specs.Decides.Sessions.{hellos, live}
use Rattle.ipc_replay.specs.HangingUp.{first_hung_up}
use Rattle.ipc_replay.proofs.HangUpLemmas.{one_more, nobody_lives}
use Rattle.ipc_replay.proofs.replay.Replay.hang_up_all.Goals as goal

pub loop-number-preserved : goal.loop-number-preserved
loop-number-preserved c = one_more c.args.self c.loop-number.replay c.hang_up.new.self c.loop-number.number _ c.loop-number.invariant c.in_ok-hang_up.ensures.ok refl

-- each session had its turn
each_had : (c : goal.After-loop-number) → c.loop-number.number ≡ hellos c.args.self.history
each_had c =
    let started : c.session_count-started.result ≡ hellos c.replay.inside.state.history = c.session_count-started.ensures ∙ c.tables.ensures.agrees.sessions.count in
    let same : hellos c.replay.inside.state.history ≡ hellos c.args.self.history = ap (λ (a : StateView). hellos a.history) c.replay.view_is in
    let le = c.loop-number.auto.number-end in
    let ge = c.loop-number-test.false in
    omega arith

pub returns-clause-now : goal.returns-clause-now
returns-clause-now c = c.loop-number.invariant ∙ ap (λ n. record c.args.self { history = first_hung_up n c.args.self.history }) (each_had c)

pub returns-clause-nobody : goal.returns-clause-nobody
returns-clause-nobody c s = ap (λ (a : StateView). live a.history s) c.loop-number.invariant ∙ nobody_lives c.args.self.config c.args.self.history c.loop-number.number s (each_had c)
