use Rattle.std.proofs.Common.{◌<◌, ◌≤◌, ℕ, false, slice_get, max, ap, refl, sym, subst, arith, ◌∙◌}
use Rattle.std.specs.Prelude.{unwrap_or}
use Rattle.std.specs.Option.{option_map}
use Rattle.ipc_hub.specs.Hub.{Connection, Hub}
use Rattle.ipc_loop.specs.Keeping.{AreWithin}
use Rattle.ipc_loop.proofs.UndoneLemmas.{hub_up}
use Rattle.ipc_loop.proofs.ServingLemmas.{served_nothing, serves_both, forgot_serves}
use Rattle.ipc_loop.proofs.keeping.forget_old.Goals as goal

pub loop-left-init : goal.loop-left-init
loop-left-init g c = record { same = refl; newest = λ place fits. omega arith; spare = omega arith; serves = λ m p. served_nothing _ m p; marks = λ p i owed. owed }

pub loop-left-preserved : goal.loop-left-preserved
loop-left-preserved g c =
    let forgets = c.forget_one.ensures.forgets in
    record {
      same = ap (λ (h : Hub). h.core.history) forgets.now ∙ c.loop-left.invariant.same;
      newest = newest;
      spare = spare;
      serves = λ m p. serves_both _ _ _ _ _ _ _ _ _ (c.loop-left.invariant.serves m p) (forgot_serves _ _ m p forgets);
      marks = λ p i owed. hub_up c.loop-left.hub c.forget_one.new.self p forgets.marks (λ j. ap (λ (h : Hub). unwrap_or (option_map (λ (x : Connection). x.is_over) (slice_get h.connections j)) false) forgets.now) i (c.loop-left.invariant.marks p i owed);
    } where
      newest : (place : ℕ) → AreWithin c.args.keeping place c.args.hub.now.core.history → c.forget_one.new.self.core.first ≤ max c.args.hub.now.core.first place
      newest place fits =
          let below : c.loop-left.hub.core.first < place = c.is_exceeded.ensures c.if-is_exceeded.true place (subst (AreWithin c.args.keeping place) (sym c.loop-left.invariant.same) fits) in
          let one = c.forget_one.ensures.one in
          omega arith

      spare : c.forget_one.new.self.core.first ≤ max c.args.hub.now.core.first (g.H.Host.spare c.args.host.now)
      spare =
          let below : c.loop-left.hub.core.first < g.H.Host.spare c.args.host.now = rw (c.first_kept.ensures.first, c.spare-spare.ensures) at c.if-first_kept-spare.true in
          let one = c.forget_one.ensures.one in
          omega arith
