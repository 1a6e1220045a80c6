-- What an accepted event makes of the parked calls, and of a list of those that are timed.
use Rattle.std.proofs.Common.{◌≡◌, ℕ, ◌+◌, Bool, true, false, ◌&&◌, eqb, cond, List, length, Option, Some, None, is_some, refl, sym, ap, subst, ◌∙◌, arith}
use Rattle.std.specs.Prelude.{option_and_then}
use Rattle.std.specs.Option.{option_map, option_or}
use Rattle.ipc_terms.specs.Lists.{first}
use Rattle.ipc_terms.specs.Timed.{plain, deadline}
use Rattle.ipc_terms.specs.Events.{caller}
use Rattle.ipc_terms.specs.declared.ids.Sid.{Sid}
use Rattle.ipc_terms.specs.declared.ids.Desc.{Desc}
use Rattle.ipc_terms.specs.declared.ids.Family.TheVariants.{Mq, Sem}
use Rattle.ipc_terms.specs.declared.call.Call.TheVariants.{MqSend, MqReceive, SemPost, SemWait, SemTryWait, Interrupt, MqTimedSend, MqTimedReceive, SemTimedWait}
use Rattle.ipc_terms.specs.declared.record.Event.{Event}
use Rattle.ipc_terms.specs.declared.record.Event.TheVariants.{Hello, Do, Hangup, Tick}
use Rattle.ipc_terms.proofs.Lists.{eqb_swapped}
use Rattle.ipc_containers.specs.declared.timed.Timed.{Timed}
use Rattle.ipc_policy.specs.declared.config.Config.{Config}
use Rattle.ipc_policy.specs.declared.config.Held.{Held}
use Rattle.ipc_policy.specs.Decides.History.{History, after_accepted, is_some_and}
use Rattle.ipc_policy.specs.Decides.Timed.{deadline_at}
use Rattle.ipc_policy.specs.Decides.Descriptions.{holds}
use Rattle.ipc_policy.specs.Decides.Queues.{Send, Waiter}
use Rattle.ipc_policy.specs.Decides.Bodies.{senders, receivers, waiters, is_full, is_empty, is_zero, due}
use Rattle.ipc_policy.specs.Decides.Parking.{Sending, Receiving, Waiting, Parked, parked}
use Rattle.ipc_policy.specs.Decides.Rules.{would_park}
use Rattle.ipc_policy.specs.Decides.Verdict.{verdict, Legal}
use Rattle.ipc_policy.proofs.Histories.Unforbidden.{IsFree, call_free}
use Rattle.ipc_policy.proofs.Blocked.ParkedSteps.{parked_by_others, parked_by_send, parked_by_receive, parked_by_interrupt, parked_by_hangup}
use Rattle.ipc_policy.proofs.Blocked.WaitSteps.{parked_by_post, parked_by_wait, parked_by_try}
use Rattle.ipc_policy.proofs.Blocked.TimedSteps.{parked_as_plain, parked_by_tick}
use Rattle.ipc_policy.specs.Follows.CallLists.{IsCallList, dropped, joined}
use Rattle.ipc_policy.proofs.Blocked.DueSteps.{Comes, starting, parked_before, deadline_stays, deadline_here, list_left, list_stays, list_joined, list_same}
use Rattle.ipc_tables.specs.TablesView.{TablesView}
use Rattle.ipc_state.specs.Agrees.{IsCore}
use Rattle.ipc_state.specs.OnTime.{ended_call, new_call, place_of, session_of, deadline_told, IsClock}
use Rattle.ipc_state.proofs.Accepted.{not_bad_held}
use Rattle.ipc_state.proofs.ParkedColumn.{there_mapped}
use Rattle.ipc_state.proofs.Serving.{call_here, semaphore_here, is_open, none_receives, none_sends}

-- after the event a session's call is ended, or one parks, or neither
pub record IsMoved (c : Config) (h k : History) (s : ℕ) (gone : Option ℕ) (parks : Bool) : Type 0 where
  pub call : Parked
  pub place : call.place ≡ length h
  pub free : parks ≡ true → parked c h s ≡ None
  pub alone : parks ≡ true → gone ≡ None
  pub moved : (i : ℕ) → parked c k i ≡ option_or (starting parks s call i) (cond (is_some_and (λ j. eqb j i) gone) None (parked c h i))

or_form : (b : Bool) (p : Parked) (w : Option Parked) → cond b (Some p) w ≡ option_or (cond b (Some p) None) w
or_form true p w = refl
or_form false p w = refl

none_starts : (d : Bool) (p : Parked) (w : Option Parked) → w ≡ option_or (cond (d && false) (Some p) None) w
none_starts true p w = refl
none_starts false p w = refl

none_parked : (w : Option Parked) → is_some w ≡ false → w ≡ None
none_parked None e = refl
none_parked (Some p) e = absurd cc

pub some_number : (w : Option Held) → is_some w ≡ true → (o : ℕ) × (option_map (λ (x : Held). x.object) w ≡ Some o)
some_number None e = absurd cc
some_number (Some x) e = (x.object, refl)

-- no call parks
moves_none : (c : Config) (h k : History) (s : ℕ) (gone : Option ℕ) → ((i : ℕ) → parked c k i ≡ cond (is_some_and (λ j. eqb j i) gone) None (parked c h i)) → IsMoved c h k s gone false
moves_none c h k s gone moved = record {
  call = record { object = 0; place = length h; kind = Sending };
  place = refl;
  free = λ e. absurd cc;
  alone = λ e. absurd cc;
  moved = λ i. moved i ∙ none_starts (eqb s i) (record { object = 0; place = length h; kind = Sending }) (cond (is_some_and (λ j. eqb j i) gone) None (parked c h i));
}

moves_send : (c : Config) (h k : History) (t : TablesView) (sid : Sid) (desc : Desc) (priority : ℕ) (bytes : List ℕ) → IsCore c h t → IsFree c h sid.0 Mq desc.0 → ((i : ℕ) → parked c k i ≡ parked c (after_accepted h (Do sid (MqSend desc priority bytes))) i) → IsMoved c h k sid.0 (ended_call c h (Do sid (MqSend desc priority bytes))) (would_park c h (Do sid (MqSend desc priority bytes)))
moves_send c h k t sid desc priority bytes core free form =
    let number = some_number (holds h sid.0 desc.0) (not_bad_held c h sid.0 Mq desc.0 free.held) in
    let here = call_here c h t sid.0 desc.0 number.0 core.agrees free number.1 in
    let o = here.x.object in
    let call : Parked = record { object = o; place = length h; kind = Sending } in
    subst (λ w. IsMoved c h k sid.0 (option_and_then (λ x. option_map (λ w. w.session) (first (receivers c h x.object))) w) (is_some_and (λ x. is_full c h x.object) w)) (sym here.held) (record {
      call = call;
      place = refl;
      free = λ e. none_parked (parked c h sid.0) free.idle;
      alone = none_receives c h o here.given (is_open c h t o here.given core here.made) here.made;
      moved = λ i.
          form i
          ∙ parked_by_send c h sid desc priority bytes here.x i core.legal here.held
          ∙ ap (λ b. cond (eqb sid.0 i && is_full c h o) (Some call) (cond b None (parked c h i))) (there_mapped (λ (w : Waiter). w.session) i (first (receivers c h o)))
          ∙ or_form (eqb sid.0 i && is_full c h o) call (cond (is_some_and (λ j. eqb j i) (option_map (λ (w : Waiter). w.session) (first (receivers c h o)))) None (parked c h i));
    })

moves_receive : (c : Config) (h k : History) (t : TablesView) (sid : Sid) (desc : Desc) (room : ℕ) → IsCore c h t → IsFree c h sid.0 Mq desc.0 → ((i : ℕ) → parked c k i ≡ parked c (after_accepted h (Do sid (MqReceive desc room))) i) → IsMoved c h k sid.0 (ended_call c h (Do sid (MqReceive desc room))) (would_park c h (Do sid (MqReceive desc room)))
moves_receive c h k t sid desc room core free form =
    let number = some_number (holds h sid.0 desc.0) (not_bad_held c h sid.0 Mq desc.0 free.held) in
    let here = call_here c h t sid.0 desc.0 number.0 core.agrees free number.1 in
    let o = here.x.object in
    let call : Parked = record { object = o; place = length h; kind = Receiving } in
    subst (λ w. IsMoved c h k sid.0 (option_and_then (λ x. option_map (λ m. m.session) (first (senders c h x.object))) w) (is_some_and (λ x. is_empty c h x.object) w)) (sym here.held) (record {
      call = call;
      place = refl;
      free = λ e. none_parked (parked c h sid.0) free.idle;
      alone = none_sends c h o here.given (is_open c h t o here.given core here.made) here.made;
      moved = λ i.
          form i
          ∙ parked_by_receive c h sid desc room here.x i core.legal here.held
          ∙ ap (λ b. cond (eqb sid.0 i && is_empty c h o) (Some call) (cond b None (parked c h i))) (there_mapped (λ (m : Send). m.session) i (first (senders c h o)))
          ∙ or_form (eqb sid.0 i && is_empty c h o) call (cond (is_some_and (λ j. eqb j i) (option_map (λ (m : Send). m.session) (first (senders c h o)))) None (parked c h i));
    })

moves_wait : (c : Config) (h k : History) (t : TablesView) (sid : Sid) (desc : Desc) → IsCore c h t → IsFree c h sid.0 Sem desc.0 → ((i : ℕ) → parked c k i ≡ parked c (after_accepted h (Do sid (SemWait desc))) i) → IsMoved c h k sid.0 (ended_call c h (Do sid (SemWait desc))) (would_park c h (Do sid (SemWait desc)))
moves_wait c h k t sid desc core free form =
    let number = some_number (holds h sid.0 desc.0) (not_bad_held c h sid.0 Sem desc.0 free.held) in
    let here = semaphore_here c h t sid.0 desc.0 number.0 core.agrees free number.1 in
    let o = here.x.object in
    let call : Parked = record { object = o; place = length h; kind = Waiting } in
    subst (λ w. IsMoved c h k sid.0 None (is_some_and (λ x. is_zero c h x.object) w)) (sym here.held) (record {
      call = call;
      place = refl;
      free = λ e. none_parked (parked c h sid.0) free.idle;
      alone = λ e. refl;
      moved = λ i.
          form i
          ∙ parked_by_wait c h sid desc here.x i here.held
          ∙ or_form (eqb sid.0 i && is_zero c h o) call (parked c h i);
    })

moves_post : (c : Config) (h : History) (t : TablesView) (sid : Sid) (desc : Desc) → IsCore c h t → IsFree c h sid.0 Sem desc.0 → IsMoved c h (after_accepted h (Do sid (SemPost desc))) sid.0 (ended_call c h (Do sid (SemPost desc))) false
moves_post c h t sid desc core free =
    let number = some_number (holds h sid.0 desc.0) (not_bad_held c h sid.0 Sem desc.0 free.held) in
    let here = semaphore_here c h t sid.0 desc.0 number.0 core.agrees free number.1 in
    let o = here.x.object in
    subst (λ w. IsMoved c h (after_accepted h (Do sid (SemPost desc))) sid.0 (option_and_then (λ x. option_map (λ w. w.session) (first (waiters c h x.object))) w) false) (sym here.held)
    (moves_none c h (after_accepted h (Do sid (SemPost desc))) sid.0 (option_map (λ (w : Waiter). w.session) (first (waiters c h o)))
    (λ i. parked_by_post c h sid desc here.x i core.legal here.held
    ∙ ap (λ b. cond b None (parked c h i)) (there_mapped (λ (w : Waiter). w.session) i (first (waiters c h o)))))

due_swapped : (i : ℕ) (w : Option ℕ) → is_some_and (λ j. eqb i j) w ≡ is_some_and (λ j. eqb j i) w
due_swapped i None = refl
due_swapped i (Some j) = eqb_swapped i j

-- what each accepted event makes of them
pub moved_by : (c : Config) (h : History) (t : TablesView) (e : Event) → IsCore c h t → verdict c h e ≡ None → IsMoved c h (after_accepted h e) (caller e).0 (ended_call c h (plain e)) (would_park c h (plain e))
moved_by c h t (Do sid (MqSend desc priority bytes)) core accepted = moves_send c h (after_accepted h (Do sid (MqSend desc priority bytes))) t sid desc priority bytes core (call_free c h sid (MqSend desc priority bytes) Mq desc refl refl accepted) (λ i. refl)
moved_by c h t (Do sid (MqTimedSend desc priority until bytes)) core accepted = moves_send c h (after_accepted h (Do sid (MqTimedSend desc priority until bytes))) t sid desc priority bytes core (call_free c h sid (MqTimedSend desc priority until bytes) Mq desc refl refl accepted) (parked_as_plain c h (Do sid (MqTimedSend desc priority until bytes)))
moved_by c h t (Do sid (MqReceive desc room)) core accepted = moves_receive c h (after_accepted h (Do sid (MqReceive desc room))) t sid desc room core (call_free c h sid (MqReceive desc room) Mq desc refl refl accepted) (λ i. refl)
moved_by c h t (Do sid (MqTimedReceive desc room until)) core accepted = moves_receive c h (after_accepted h (Do sid (MqTimedReceive desc room until))) t sid desc room core (call_free c h sid (MqTimedReceive desc room until) Mq desc refl refl accepted) (parked_as_plain c h (Do sid (MqTimedReceive desc room until)))
moved_by c h t (Do sid (SemWait desc)) core accepted = moves_wait c h (after_accepted h (Do sid (SemWait desc))) t sid desc core (call_free c h sid (SemWait desc) Sem desc refl refl accepted) (λ i. refl)
moved_by c h t (Do sid (SemTimedWait desc until)) core accepted = moves_wait c h (after_accepted h (Do sid (SemTimedWait desc until))) t sid desc core (call_free c h sid (SemTimedWait desc until) Sem desc refl refl accepted) (parked_as_plain c h (Do sid (SemTimedWait desc until)))
moved_by c h t (Do sid (SemPost desc)) core accepted = moves_post c h t sid desc core (call_free c h sid (SemPost desc) Sem desc refl refl accepted)
moved_by c h t (Do sid (SemTryWait desc)) core accepted = moves_none c h (after_accepted h (Do sid (SemTryWait desc))) sid.0 None (parked_by_try c h sid desc)
moved_by c h t (Do sid Interrupt) core accepted = moves_none c h (after_accepted h (Do sid Interrupt)) sid.0 (Some sid.0) (λ i. parked_by_interrupt c h sid i ∙ ap (λ b. cond b None (parked c h i)) (eqb_swapped i sid.0))
moved_by c h t (Do sid call) core accepted = moves_none c h (after_accepted h (Do sid call)) sid.0 None (λ i. parked_by_others c h (Do sid call) i refl)
moved_by c h t (Hello found) core accepted = moves_none c h (after_accepted h (Hello found)) (caller (Hello found)).0 None (λ i. parked_by_others c h (Hello found) i refl)
moved_by c h t (Hangup sid) core accepted = moves_none c h (after_accepted h (Hangup sid)) sid.0 (Some sid.0) (λ i. parked_by_hangup c h sid i ∙ ap (λ b. cond b None (parked c h i)) (eqb_swapped i sid.0))
moved_by c h t (Tick moment) core accepted = moves_none c h (after_accepted h (Tick moment)) (caller (Tick moment)).0 (due c h moment) (λ i. parked_by_tick c h moment i ∙ ap (λ b. cond b None (parked c h i)) (due_swapped i (due c h moment)))

-- and of the list
some_left : (b : Bool) (w : Option Parked) (q : Parked) → cond b None w ≡ Some q → w ≡ Some q
some_left true w q e = absurd cc
some_left false w q e = e

none_left : (b : Bool) (w : Option Parked) → w ≡ None → cond b None w ≡ None
none_left true w e = refl
none_left false w e = e

pub list_moved : (c : Config) (h : History) (e : Event) (sid : Sid) (gone : Option ℕ) (parks : Bool) (xs : List Timed) → Legal c h → IsMoved c h (after_accepted h e) sid.0 gone parks → IsClock c h xs → IsClock c (after_accepted h e) (joined (new_call parks (deadline e) (length h) sid) (dropped session_of gone xs))
list_moved c h e sid gone parks xs legal m listed = at parks (deadline e) refl (deadline_here h e) where
  mid : ℕ → Option Parked
  mid i = cond (is_some_and (λ j. eqb j i) gone) None (parked c h i)

  left : IsCallList place_of session_of deadline_told mid (deadline_at h) (length h) (dropped session_of gone xs)
  left = list_left place_of session_of deadline_told (parked c h) (deadline_at h) (length h) xs gone listed

  comes : Comes mid (deadline_at h) (deadline_at (after_accepted h e)) (length h) sid.0 m.call parks
  comes = record {
    before = λ i q is. parked_before c h legal i q (some_left (is_some_and (λ j. eqb j i) gone) (parked c h i) q is);
    same = deadline_stays h e;
    at_end = m.place;
    free = λ b. none_left (is_some_and (λ j. eqb j sid.0) gone) (parked c h sid.0) (m.free b);
  }

  whole : (ys : List Timed) → IsCallList place_of session_of deadline_told (λ i. option_or (starting parks sid.0 m.call i) (mid i)) (deadline_at (after_accepted h e)) (length h + 1) ys → IsClock c (after_accepted h e) ys
  whole ys made = list_same place_of session_of deadline_told (λ i. option_or (starting parks sid.0 m.call i) (mid i)) (parked c (after_accepted h e)) (deadline_at (after_accepted h e)) (deadline_at (after_accepted h e)) (length h + 1) (length (after_accepted h e)) ys m.moved (λ i. refl) (omega arith) made

  stays : (parks ≡ true → deadline_at (after_accepted h e) (length h) ≡ None) → IsClock c (after_accepted h e) (dropped session_of gone xs)
  stays untimed = whole (dropped session_of gone xs) (list_stays place_of session_of deadline_told mid (deadline_at h) (deadline_at (after_accepted h e)) (length h) sid.0 m.call parks (dropped session_of gone xs) comes untimed left)

  at : (b : Bool) (w : Option ℕ) → parks ≡ b → deadline_at (after_accepted h e) (length h) ≡ w → IsClock c (after_accepted h e) (joined (new_call b w (length h) sid) (dropped session_of gone xs))
  at false w off dl = stays (λ on. absurd (let wrong : true ≡ false = sym on ∙ off in cc))
  at true None on dl = stays (λ b. dl)
  at true (Some t) on dl =
      let x : Timed = record { place = length h; session = sid; deadline = t } in
      whole (joined (Some x) (dropped session_of gone xs))
      (subst (λ (b : Bool). IsCallList place_of session_of deadline_told (λ i. option_or (starting b sid.0 m.call i) (mid i)) (deadline_at (after_accepted h e)) (length h + 1) (joined (Some x) (dropped session_of gone xs))) (sym on)
      (list_joined place_of session_of deadline_told mid (deadline_at h) (deadline_at (after_accepted h e)) (length h) m.call (dropped session_of gone xs) x
      (subst (λ (b : Bool). Comes mid (deadline_at h) (deadline_at (after_accepted h e)) (length h) sid.0 m.call b) on comes) refl dl left))
