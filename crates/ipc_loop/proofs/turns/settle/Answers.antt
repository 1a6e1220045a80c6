use Rattle.std.proofs.Common.{◌≡◌, ◌∙◌, ◌∷◌, [], ℕ, Option, Some, length, set, slice_get, inl, inr, refl, sym, ap, subst}
use Rattle.std.specs.Prelude.{unwrap_or}
use Rattle.std.specs.Option.{option_copied_mut}
use Rattle.ipc_terms.specs.Lists.{changed}
use Rattle.ipc_terms.proofs.Lists.{count_changed}
use Rattle.ipc_containers.specs.Slots.{at, emptied}
use Rattle.ipc_loop.specs.declared.ending.Ending.{Ending}
use Rattle.ipc_loop.specs.declared.ending.Ending.TheVariants.{NoMemory}
use Rattle.ipc_loop.specs.Moves.{GoOn, LinkClosed}
use Rattle.ipc_loop.specs.Ports.{Port}
use Rattle.ipc_loop.specs.Standing.{IsSettled, is_queued_in, seen, flags}
use Rattle.ipc_loop.specs.Serving.{is_done}
use Rattle.ipc_loop.specs.declared.ports.Place.{Place}
use Rattle.ipc_loop.proofs.TakingLemmas.{lets_go}
use Rattle.ipc_loop.proofs.AskingLemmas.{listed_so}
use Rattle.ipc_loop.proofs.KeepingLemmas.{but_room, kept_queued, kept_closed}
use Rattle.ipc_loop.proofs.PlaceLemmas.{Places, Rewritten, as_many, port_there, flag_there, flag_back, new_port_seen, new_flags, same_seen, unchanged, emptied_seen, emptied_unset}
use Rattle.ipc_loop.proofs.turns.settle.Goals as goal

same_port : (xs : Places) (k : ℕ) (place : Place) (port : Port) → at xs k ≡ Some place → slice_get (seen xs) k ≡ Some (Some port) → place.port ≡ port
same_port xs k place port e f = let is : Some (Some place.port) ≡ Some (Some port) = sym (port_there xs k place e) ∙ f in cc

emptied_flags : (xs : Places) (k : ℕ) → length (flags (changed emptied xs k)) ≡ length (flags xs)
emptied_flags xs k = as_many is_queued_in (changed emptied xs k) ∙ count_changed emptied xs k ∙ sym (as_many is_queued_in xs)

pub queue-requires : goal.queue-requires
queue-requires g c =
    let all = c.args.all.now in
    let here = sym c.get_mut.ensures.value ∙ ap option_copied_mut c.in-Some.is in
    λ off. but_room (seen all) (flags all) c.requires.0 c.args.next.now.items c.args.number c.in-Some.place.now.port _ _ _ (port_there all c.args.number c.in-Some.place.now here) c.requires.2 (flag_there all c.args.number c.in-Some.place.now here ∙ off)

pub returns-then-not-is_done-clause-settled : goal.returns-then-not-is_done-clause-settled
returns-then-not-is_done-clause-settled g c = λ port e.
    let all = c.args.all.now in
    let k = c.args.number in
    let here = sym c.get_mut.ensures.value ∙ ap option_copied_mut c.in-Some.is in
    let r : Rewritten all k c.in-Some.place.now c.queue.new.self (c.get_mut.follows.lender c.queue.new.self) = (here, rw c.in-Some.is at (c.get_mut.follows.holds c.queue.new.self)) in
    let same = same_port all k c.in-Some.place.now port here e in
    inl (refl, refl, new_port_seen all _ k c.in-Some.place.now c.queue.new.self r ∙ ap (λ (p : Port). set (seen all) k (Some p)) (c.queue.ensures.port ∙ same), ap (is_done c.args.hub.now k) (sym same) ∙ sym c.if-not-is_done.ensures)

pub returns-then-not-is_done-clause-kept : goal.returns-then-not-is_done-clause-kept
returns-then-not-is_done-clause-kept g c = λ turns most a.
    let all = c.args.all.now in
    let k = c.args.number in
    let place = c.in-Some.place.now in
    let here = sym c.get_mut.ensures.value ∙ ap option_copied_mut c.in-Some.is in
    let r : Rewritten all k place c.queue.new.self (c.get_mut.follows.lender c.queue.new.self) = (here, rw c.in-Some.is at (c.get_mut.follows.holds c.queue.new.self)) in
    rw (same_seen all _ k place c.queue.new.self r c.queue.ensures.port, new_flags all _ k place c.queue.new.self r, c.queue.ensures.room)
    (kept_queued (seen all) (flags all) turns c.args.next.now.items c.queue.new.next.items k place.port place.is_queued c.queue.new.self.is_queued _ _ _ (port_there all k place here) (flag_there all k place here) (flag_back all k place here) c.queue.ensures.queued c.queue.ensures.listed a)

pub returns-then-not-is_done-clause-next : goal.returns-then-not-is_done-clause-next
returns-then-not-is_done-clause-next g c = listed_so c.args.number c.in-Some.place.now.is_queued c.queue.new.self.is_queued c.args.next.now.items c.queue.new.next.items c.queue.ensures.listed

pub overflow_sub-open : goal.overflow_sub-open
overflow_sub-open g c =
    let all = c.args.all.now in
    let k = c.args.number in
    let here = sym c.get_mut.ensures.value ∙ ap option_copied_mut c.in-Some.is in
    (kept_closed (seen all) (flags all) (flags (changed emptied all k)) c.requires.0 c.args.next.now.items k c.in-Some.place.now.port _ _ _ (port_there all k c.in-Some.place.now here) (emptied_unset all k) (emptied_flags all k) c.requires.2).0

pub returns-clause-settled : goal.returns-clause-settled
returns-clause-settled g c = λ port e.
    let all = c.args.all.now in
    let k = c.args.number in
    let here = sym c.get_mut.ensures.value ∙ ap option_copied_mut c.in-Some.is in
    let same = same_port all k c.in-Some.place.now port here e in
    let back = unchanged all (c.get_mut.follows.lender c.in-Some.place.now) k c.in-Some.place.now (here, rw c.in-Some.is at (c.get_mut.follows.holds c.in-Some.place.now)) in
    let told = c.unwrap_or-ending.ensures ∙ ap (λ (x : Option Ending). unwrap_or x NoMemory) c.why.ensures in
    subst (λ (p : Port). IsSettled c.args.hub.now (g.H.Host.moves c.args.host.now) (seen all) k p c.discard.new.self (g.H.Host.moves c.close.new.self) (seen c.take.new.self)) same
    (inr (
      lets_go _ _ k c.in-Some.place.now.port c.in-Some.place.now.port c.if-not-is_done.ensures refl c.is_sound.ensures.sessions c.in-Ok.ensures.ok c.in-Ok.ensures.gone,
      subst (λ (x : Ending). GoOn (g.H.Host.moves c.args.host.now) (g.H.Host.moves c.close.new.self) (LinkClosed k x ∷ [])) told c.close.ensures.moved,
      ap seen c.take.ensures.rest ∙ ap (λ (xs : Places). seen (changed emptied xs k)) back ∙ emptied_seen all k c.in-Some.place.now here,
    ))

pub returns-clause-kept : goal.returns-clause-kept
returns-clause-kept g c = λ turns most a.
    let all = c.args.all.now in
    let k = c.args.number in
    let here = sym c.get_mut.ensures.value ∙ ap option_copied_mut c.in-Some.is in
    let back = unchanged all (c.get_mut.follows.lender c.in-Some.place.now) k c.in-Some.place.now (here, rw c.in-Some.is at (c.get_mut.follows.holds c.in-Some.place.now)) in
    rw (c.take.ensures.rest, back, emptied_seen all k c.in-Some.place.now here)
    (kept_closed (seen all) (flags all) (flags (changed emptied all k)) turns c.args.next.now.items k c.in-Some.place.now.port _ _ _ (port_there all k c.in-Some.place.now here) (emptied_unset all k) (emptied_flags all k) a).1
