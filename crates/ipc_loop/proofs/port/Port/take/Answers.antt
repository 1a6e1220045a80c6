use Rattle.std.proofs.Common.{ℕ, List, ◌++◌, Option, Some, None, cond, inl, inr, refl, sym, ap, subst, ◌∙◌}
use Rattle.ipc_loop.specs.Ports.{Port}
use Rattle.ipc_loop.proofs.MoveLemmas.{go_nowhere}
use Rattle.ipc_loop.proofs.ServingLemmas.{stays_serve}
use Rattle.ipc_hub.specs.Hub.{Hub}
use Rattle.ipc_loop.specs.Serving.{OthersStayUndone}
use Rattle.ipc_loop.proofs.UndoneLemmas.{same_undone, takes_undone}
use Rattle.ipc_loop.proofs.TakingLemmas.{takes_collects}
use Rattle.ipc_loop.proofs.PortionLemmas.{same_collects, none_untaken, adds_none, adds_to_none, took_serve, took_spelled, cut_serve, cut_collects, cut_left, uncut_left, behind_left}
use Rattle.ipc_loop.proofs.port.Port.take.Goals as goal

pub returns-then-self-clause-serves : goal.returns-then-self-clause-serves
returns-then-self-clause-serves c = λ moves. stays_serve _ _ moves moves _ _ (go_nowhere moves) refl refl

pub returns-then-self-clause-collects : goal.returns-then-self-clause-collects
returns-then-self-clause-collects c = same_collects _ _ _ (inl (cut_left c.args.self.now c.self.inside.is_cut _ (ap (λ (p : Port). p.left) c.self.view_is) c.if-self.true))

pub returns-then-self-clause-adds : goal.returns-then-self-clause-adds
returns-then-self-clause-adds c = adds_to_none _ _ _ (cut_left c.args.self.now c.self.inside.is_cut _ (ap (λ (p : Port). p.left) c.self.view_is) c.if-self.true)

pub returns-then-untaken-eq0-clause-serves : goal.returns-then-untaken-eq0-clause-serves
returns-then-untaken-eq0-clause-serves c = λ moves. stays_serve _ _ moves moves _ _ (go_nowhere moves) refl refl

pub returns-then-untaken-eq0-clause-collects : goal.returns-then-untaken-eq0-clause-collects
returns-then-untaken-eq0-clause-collects c = same_collects _ _ _ (inr (none_untaken c.args.number c.args.hub.now (sym c.untaken.ensures ∙ c.if-untaken-eq0.true)))

pub returns-then-untaken-eq0-clause-adds : goal.returns-then-untaken-eq0-clause-adds
returns-then-untaken-eq0-clause-adds c = adds_none _ _ (none_untaken c.args.number c.args.hub.now (sym c.untaken.ensures ∙ c.if-untaken-eq0.true))

pub returns-in-Ok-clause-serves : goal.returns-in-Ok-clause-serves
returns-in-Ok-clause-serves c = λ moves. took_serve _ _ _ moves c.args.self.now _ c.self.inside.unsent c.in-Ok.ensures.ok.0 c.in-Ok.ensures.ok.2 (uncut_left c.args.self.now c.self.inside.is_cut _ (ap (λ (p : Port). p.left) c.self.view_is) c.if-self.false) (behind_left c.self.inside.is_cut c.self.inside.unsent c.in-Ok.ensures.ok.0 _ c.if-self.false c.in-Ok.ensures.ok.1) (ap (λ (p : Port). p.ending) c.self.view_is)

pub returns-in-Ok-clause-collects : goal.returns-in-Ok-clause-collects
returns-in-Ok-clause-collects c = takes_collects c.args.hub.now c.take.new.hub c.args.number c.in-Ok.ensures.ok.0 _ c.is_sound.ensures.sessions c.in-Ok.ensures.ok.2

pub returns-in-Ok-clause-adds : goal.returns-in-Ok-clause-adds
returns-in-Ok-clause-adds c = took_spelled _ _ _ c.self.inside.unsent c.in-Ok.ensures.ok.0 _ _ c.in-Ok.ensures.ok.2 (uncut_left c.args.self.now c.self.inside.is_cut _ (ap (λ (p : Port). p.left) c.self.view_is) c.if-self.false) (behind_left c.self.inside.is_cut c.self.inside.unsent c.in-Ok.ensures.ok.0 _ c.if-self.false c.in-Ok.ensures.ok.1)

pub returns-in-Err-clause-serves : goal.returns-in-Err-clause-serves
returns-in-Err-clause-serves c = λ moves. cut_serve _ _ _ moves _ _ c.in-Err.ensures.hub c.cut.ensures.cut c.cut.ensures.ended

pub returns-in-Err-clause-collects : goal.returns-in-Err-clause-collects
returns-in-Err-clause-collects c = cut_collects _ _ _ _ c.in-Err.ensures.hub c.cut.ensures.cut

pub returns-in-Err-clause-adds : goal.returns-in-Err-clause-adds
returns-in-Err-clause-adds c = adds_to_none _ _ _ c.cut.ensures.cut

pub returns-then-self-clause-undone : goal.returns-then-self-clause-undone
returns-then-self-clause-undone c = same_undone c.args.number c.args.hub.now

pub returns-then-untaken-eq0-clause-undone : goal.returns-then-untaken-eq0-clause-undone
returns-then-untaken-eq0-clause-undone c = same_undone c.args.number c.args.hub.now

pub returns-in-Ok-clause-undone : goal.returns-in-Ok-clause-undone
returns-in-Ok-clause-undone c = takes_undone c.args.number c.args.hub.now c.take.new.hub c.in-Ok.ensures.ok.0 c.args.self.now c.is_sound.ensures.sessions c.in-Ok.ensures.ok.2

pub returns-in-Err-clause-undone : goal.returns-in-Err-clause-undone
returns-in-Err-clause-undone c = subst (λ (x : Hub). OthersStayUndone c.args.number c.args.hub.now x) (sym c.in-Err.ensures.hub) (same_undone c.args.number c.args.hub.now)

pub returns-in-Ok-clause-kept : goal.returns-in-Ok-clause-kept
returns-in-Ok-clause-kept c =
    let now = behind_left c.self.inside.is_cut c.self.inside.unsent c.in-Ok.ensures.ok.0 _ c.if-self.false c.in-Ok.ensures.ok.1 in
    inr (inl (c.self.inside.unsent ++ c.in-Ok.ensures.ok.0, ap (λ (p : Port). record p { left = cond c.self.inside.is_cut None (Some c.take.new.self) }) c.self.view_is ∙ ap (λ (left : Option (List ℕ)). record c.args.self.now { left = left }) now))
