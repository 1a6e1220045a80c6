use Rattle.std.proofs.Common.{◌≡◌, ◌+◌, suc, true, false, ℕ, List, slice_get, ap, inl, inr, refl, arith, subst, sym}
use Rattle.std.specs.Prelude.{unwrap_or}
use Rattle.std.specs.Option.{option_map}
use Rattle.ipc_hub.specs.Hub.{Connection, Hub, Ticks, would_end}
use Rattle.ipc_loop.specs.NextTick.{MakesTicks}
use Rattle.ipc_loop.specs.Serving.{KeepsUpToDate}
use Rattle.ipc_loop.proofs.UndoneLemmas.{hub_up}
use Rattle.ipc_loop.proofs.ServingLemmas.{served_nothing, serves_both, ticked_serves}
use Rattle.ipc_loop.proofs.ticking.make_ticks.Goals as goal

one_more : (count moment : ℕ) (old before new : Hub) → MakesTicks count moment old before → would_end before moment ≡ true → Ticks before moment new → MakesTicks (count + 1) moment old new
one_more count moment old before new made ends tick =
    let more : suc count ≡ count + 1 = omega arith in
    subst (λ (n : ℕ). MakesTicks n moment old new) more (before, made, ends, tick)

pub loop-made-init : goal.loop-made-init
loop-made-init c = record { made = refl; few = omega arith; serves = λ m p. served_nothing _ m p; marks = λ p i owed. owed }

pub loop-made-preserved : goal.loop-made-preserved
loop-made-preserved c = record {
  made = one_more c.loop-made.made c.args.moment c.args.hub.now c.loop-made.hub c.tick.new.self c.loop-made.invariant.made (sym c.if-not-due.ensures) c.in-Ok.ensures.ok;
  few = omega arith;
  serves = λ m p. serves_both _ _ _ _ _ _ _ _ _ (c.loop-made.invariant.serves m p) (ticked_serves c.args.moment _ _ m p c.in-Ok.ensures.ok);
  marks = λ p i owed. hub_up c.loop-made.hub c.tick.new.self p c.in-Ok.ensures.ok.marks (λ j. ap (λ (xs : List Connection). unwrap_or (option_map (λ (x : Connection). x.is_over) (slice_get xs j)) false) c.in-Ok.ensures.ok.connections) i (c.loop-made.invariant.marks p i owed);
}

pub returns-then-not-due-clause-due : goal.returns-then-not-due-clause-due
returns-then-not-due-clause-due c = (c.loop-made.made, c.loop-made.invariant.made)

pub returns-then-not-due-clause-all : goal.returns-then-not-due-clause-all
returns-then-not-due-clause-all c = inl (sym c.if-not-due.ensures)

pub returns-in_default-clause-due : goal.returns-in_default-clause-due
returns-in_default-clause-due c = (c.loop-made.made, subst (λ (x : Hub). MakesTicks c.loop-made.made c.args.moment c.args.hub.now x) (sym c.in_default.ensures.err) c.loop-made.invariant.made)

pub returns-in_default-clause-marks : goal.returns-in_default-clause-marks
returns-in_default-clause-marks c = λ ports. subst (λ (x : Hub). KeepsUpToDate c.args.hub.now ports x ports) (sym c.in_default.ensures.err) (c.loop-made.invariant.marks ports)

pub returns-clause-due : goal.returns-clause-due
returns-clause-due c = (c.loop-made.made, c.loop-made.invariant.made)

pub returns-clause-all : goal.returns-clause-all
returns-clause-all c =
    let all : c.loop-made.made ≡ 1024 = omega arith in
    inr (subst (λ (n : ℕ). MakesTicks n c.args.moment c.args.hub.now c.loop-made.hub) all c.loop-made.invariant.made)
