use Rattle.std.proofs.Common.{List, [], ◌∷◌, Option, ◌||◌, refl, sym, ap, subst, ◌∙◌}
use Rattle.ipc_loop.specs.Moves.{Moved}
use Rattle.ipc_loop.specs.Ports.{port_at}
use Rattle.ipc_loop.specs.Asking.{Asks}
use Rattle.ipc_loop.proofs.AskingLemmas.{asked_nothing, asks_both, listed_both}
use Rattle.ipc_loop.proofs.ServingLemmas.{served_nothing, serves_both, moved_so}
use Rattle.ipc_loop.proofs.HearingLemmas.{hears_nothing, hears_more, or_true, or_false}
use Rattle.ipc_loop.proofs.OpeningLemmas.{closes_same, closes_both}
use Rattle.ipc_loop.specs.declared.links.Ready.{Ready}
use Rattle.ipc_loop.specs.Hearing.{TellsAlso, is_listener}
use Rattle.ipc_loop.proofs.turns.note_all.Goals as goal
use Rattle.ipc_loop.proofs.turns.note_all.Goals.{in-Listener, in_default-ready}

pub loop-init : goal.loop-init
loop-init g c = record { serves = served_nothing _ _ _; marks = λ i owed. owed; hears = hears_nothing _ _; closes = closes_same _ _ refl; turns = refl; next = λ i on. on; asks = asked_nothing _ _ }

pub loop-preserved : goal.loop-preserved
loop-preserved g c = record {
  serves = serves_both _ _ _ _ _ _ _ _ _ c.loop.invariant.serves (moved_so _ _ _ _ (g.H.Host.moves c.loop.host) _ _ _ c.next_ready.ensures.moved refl c.note.ensures.serves);
  marks = λ i owed. c.note.ensures.marks i (c.loop.invariant.marks i owed);
  closes = closes_both _ _ _ c.loop.invariant.closes c.note.ensures.closes;
  hears =
      hears_more _ _ _ _ _ _ c.loop.is_told c.match-ready.is_told c.in-Some.ready c.note.ensures.closes c.loop.invariant.hears
      (subst (λ (w : Option (List Ready)). TellsAlso (g.H.Host.told c.loop.host) w (c.in-Some.ready ∷ [])) (sym c.note.ensures.silent) c.in-Some.ensures.tells) c.note.ensures.notes
      (elim c.match-ready.branch [
        | in-Listener w ↦ w.is_told-is ∙ sym (ap (λ (r : Ready). c.loop.is_told || is_listener r) w.in-Listener.is ∙ or_true c.loop.is_told)
        | in_default-ready w ↦ w.is_told-is ∙ sym (ap (λ (r : Ready). c.loop.is_told || is_listener r) w.in_default-ready.is ∙ or_false c.loop.is_told)
      ]);
  turns = c.note.ensures.turns ∙ c.loop.invariant.turns;
  next = listed_both _ _ _ c.loop.invariant.next c.note.ensures.next;
  asks = asks_both [] [] _ _ _ _ _ _ c.loop.invariant.asks (subst (λ (w : Option (List Moved)). Asks [] w (g.H.Host.moves c.note.new.host) (port_at c.loop.ports.all) (port_at c.note.new.self.all)) c.next_ready.ensures.moved c.note.ensures.asks);
}
