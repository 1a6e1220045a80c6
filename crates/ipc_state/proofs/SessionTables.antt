-- What an accepted event does to the table of sessions.
use Rattle.std.proofs.Common.{◌≡◌, ℕ, zero, suc, ◌+◌, ◌%◌, ◌<◌, Bool, true, false, not, ◌&&◌, ◌||◌, eqb, cond, List, [], ◌∷◌, ◌++◌, length, slice_get, Option, Some, None, is_some, refl, sym, ap, ◌∙◌, arith}
use Rattle.std.specs.Prelude.{option_and_then}
use Rattle.std.specs.Option.{option_or, option_map}
use Rattle.std.proofs.lemmas.Bool.{eqb-true}
use Rattle.std.proofs.lemmas.List.{length_push}
use Rattle.ipc_terms.specs.declared.ids.Uid.{Uid}
use Rattle.ipc_terms.specs.declared.ids.Sid.{Sid}
use Rattle.ipc_terms.specs.declared.ids.Mode.{Mode}
use Rattle.ipc_terms.specs.declared.call.Call.TheVariants.{Umask}
use Rattle.ipc_terms.specs.declared.record.Event.{Event}
use Rattle.ipc_terms.specs.declared.record.Event.TheVariants.{Hello, Do, Hangup}
use Rattle.ipc_policy.specs.declared.config.Config.{Config}
use Rattle.ipc_policy.specs.Decides.History.{History, after_accepted}
use Rattle.ipc_policy.specs.Decides.Sessions.{hellos, user, live, mask}
use Rattle.ipc_policy.specs.Decides.Parking.{Parked, parked}
use Rattle.ipc_policy.specs.Follows.Grow.{Grows, hellos_after, user_after, live_after, mask_after}
use Rattle.ipc_policy.specs.Decides.Verdict.{Legal}
use Rattle.ipc_policy.proofs.Histories.Known.{first_mask}
use Rattle.ipc_policy.proofs.Blocked.ParkedSteps.{parked_by_others}
use Rattle.ipc_tables.specs.declared.rows.Session.{Session}
use Rattle.ipc_tables.specs.TablesView.{is_live_row, live_at, parked_on_at}
use Rattle.ipc_tables.specs.Steps.{with_mask, with_parked, hung_up}
use Rattle.ipc_terms.specs.Lists.{changed}
use Rattle.ipc_state.specs.Agrees.{SessionsAgree}
use Rattle.ipc_state.proofs.ParkedColumn.{parked_object}
use Rattle.ipc_terms.proofs.Lists.{slice_get_push, column_push, slice_past, at_changed, changed_if, count_changed}

-- what the table says of each session
pub record Columns (xs : List Session) (n : ℕ) (u : ℕ → Option Uid) (m : ℕ → ℕ) (l : ℕ → Bool) (p : ℕ → Option ℕ) : Type 0 where
  pub users : (s : ℕ) → option_map (λ row. row.user) (slice_get xs s) ≡ u s
  pub masks : (s : ℕ) (row : Session) → slice_get xs s ≡ Some row → row.mask.0 ≡ m s
  pub lives : (s : ℕ) → live_at xs s ≡ l s
  pub parks : (s : ℕ) → parked_on_at xs s ≡ p s
  pub count : length xs ≡ n

pub columns_of : (c : Config) (h : History) (xs : List Session) → SessionsAgree c h xs → Columns xs (hellos h) (user h) (mask h) (live h) (parked_object c h)
columns_of c h xs a = record { users = a.users; masks = a.masks; lives = a.lives; parks = a.parks; count = a.count }

-- it says what the history says, where the two agree in each
pub sessions_are : (c : Config) (k : History) (xs : List Session) (n : ℕ) (u : ℕ → Option Uid) (m : ℕ → ℕ) (l : ℕ → Bool) (p : ℕ → Option ℕ) → Columns xs n u m l p → n ≡ hellos k → ((s : ℕ) → u s ≡ user k s) → ((s : ℕ) → m s ≡ mask k s) → ((s : ℕ) → l s ≡ live k s) → ((s : ℕ) → p s ≡ parked_object c k s) → SessionsAgree c k xs
sessions_are c k xs n u m l p t one two three four five = record {
  users = λ s. t.users s ∙ two s;
  masks = λ s row is. t.masks s row is ∙ three s;
  lives = λ s. t.lives s ∙ four s;
  parks = λ s. t.parks s ∙ five s;
  count = t.count ∙ one;
}

-- an event that changes what sessions are parked on alone
pub sessions_parked : (c : Config) (h k : History) (e : Event) (xs : List Session) (p : ℕ → Option ℕ) → Grows c h k e → hellos_after e (hellos h) ≡ hellos h → ((s : ℕ) → user_after s e (hellos h) (user h s) ≡ user h s) → ((s : ℕ) → live_after s e (hellos h) (live h s) ≡ live h s) → ((s : ℕ) → mask_after s e (mask h s) ≡ mask h s) → ((s : ℕ) → parked_object c k s ≡ p s) → Columns xs (hellos h) (user h) (mask h) (live h) p → SessionsAgree c k xs
sessions_parked c h k e xs p g n u l m w t = sessions_are c k xs (hellos h) (user h) (mask h) (live h) p t (sym (g.hello_count ∙ n)) (λ s. sym (g.user_of s ∙ u s)) (λ s. sym (g.mask_of s ∙ m s)) (λ s. sym (g.live_or_not s ∙ l s)) (λ s. sym (w s))

-- an event that changes nothing of sessions
pub sessions_kept : (c : Config) (h k : History) (e : Event) (xs : List Session) → Grows c h k e → hellos_after e (hellos h) ≡ hellos h → ((s : ℕ) → user_after s e (hellos h) (user h s) ≡ user h s) → ((s : ℕ) → live_after s e (hellos h) (live h s) ≡ live h s) → ((s : ℕ) → mask_after s e (mask h s) ≡ mask h s) → ((s : ℕ) → parked c k s ≡ parked c h s) → SessionsAgree c h xs → SessionsAgree c k xs
sessions_kept c h k e xs g n u l m w a = sessions_parked c h k e xs (parked_object c h) g n u l m (λ s. ap (option_map (λ (p : Parked). p.object)) (w s)) (columns_of c h xs a)

-- a new session
abbrev new_row : Uid → Session
new_row uid = record { user = uid; mask = record { 0 = 18 }; is_live = true; parked_on = None }

begun_mask : (c : Config) (h : History) (xs : List Session) (uid : Uid) → Legal c h → SessionsAgree c h xs → (s : ℕ) (row : Session) → option_or (cond (eqb (length xs) s) (Some (new_row uid)) None) (slice_get xs s) ≡ Some row → row.mask.0 ≡ mask h s
begun_mask c h xs uid legal a s row e = begun_at (eqb (length xs) s) refl e where
  begun_at : (b : Bool) → eqb (length xs) s ≡ b → option_or (cond b (Some (new_row uid)) None) (slice_get xs s) ≡ Some row → row.mask.0 ≡ mask h s
  begun_at true k f =
      let same : new_row uid ≡ row = cc in
      let at : length xs ≡ s = eqb-true _ _ k in
      let n : length xs ≡ hellos h = a.count in
      ap (λ (r : Session). r.mask.0) (sym same) ∙ sym (first_mask c h legal s (omega arith))
  begun_at false k f = a.masks s row f

begun_live : (b : Bool) (uid : Uid) (w : Option Session) → is_live_row (option_or (cond b (Some (new_row uid)) None) w) ≡ (b || is_live_row w)
begun_live true uid w = refl
begun_live false uid w = refl

begun_parks : (b : Bool) (uid : Uid) (w : Option Session) → (b ≡ true → w ≡ None) → option_and_then (λ (row : Session). row.parked_on) (option_or (cond b (Some (new_row uid)) None) w) ≡ option_and_then (λ (row : Session). row.parked_on) w
begun_parks true uid w none = sym (ap (option_and_then (λ (row : Session). row.parked_on)) (none refl))
begun_parks false uid w none = refl

found_first : (b : Bool) (uid : Uid) (w : Option Uid) → option_or (cond b (Some uid) None) w ≡ cond b (Some uid) w
found_first true uid w = refl
found_first false uid w = refl

pub sessions_begun : (c : Config) (h : History) (xs : List Session) (uid : Uid) → Legal c h → Grows c h (after_accepted h (Hello (Some uid))) (Hello (Some uid)) → SessionsAgree c h xs → SessionsAgree c (after_accepted h (Hello (Some uid))) (xs ++ new_row uid ∷ [])
sessions_begun c h xs uid legal g a = record {
  users = λ s. column_push (λ (row : Session). row.user) xs (new_row uid) s (hellos h) a.count ∙ ap (option_or (cond (eqb (hellos h) s) (Some uid) None)) (a.users s) ∙ found_first (eqb (hellos h) s) uid (user h s) ∙ sym (g.user_of s);
  masks = λ s row is. begun_mask c h xs uid legal a s row (sym (slice_get_push xs (new_row uid) s) ∙ is) ∙ sym (g.mask_of s);
  lives = λ s. ap is_live_row (slice_get_push xs (new_row uid) s) ∙ begun_live (eqb (length xs) s) uid (slice_get xs s) ∙ ap (λ n. eqb n s || live_at xs s) a.count ∙ ap (λ b. eqb (hellos h) s || b) (a.lives s) ∙ sym (g.live_or_not s);
  parks = λ s.
      ap (option_and_then (λ (row : Session). row.parked_on)) (slice_get_push xs (new_row uid) s)
      ∙ begun_parks (eqb (length xs) s) uid (slice_get xs s) (λ e. let at : length xs ≡ s = eqb-true _ _ e in slice_past xs s (omega arith))
      ∙ a.parks s
      ∙ sym (ap (option_map (λ (p : Parked). p.object)) (parked_by_others c h (Hello (Some uid)) s refl));
  count = length_push xs (new_row uid) ∙ ap (λ n. n + 1) a.count ∙ sym g.hello_count;
}

-- a umask
masked_user : (b : Bool) (m : Mode) (w : Option Session) → option_map (λ (row : Session). row.user) (option_map (changed_if b (with_mask m)) w) ≡ option_map (λ (row : Session). row.user) w
masked_user true m None = refl
masked_user true m (Some x) = refl
masked_user false m None = refl
masked_user false m (Some x) = refl

masked_live : (b : Bool) (m : Mode) (w : Option Session) → is_live_row (option_map (changed_if b (with_mask m)) w) ≡ is_live_row w
masked_live true m None = refl
masked_live true m (Some x) = refl
masked_live false m None = refl
masked_live false m (Some x) = refl

masked_parks : (b : Bool) (m : Mode) (w : Option Session) → option_and_then (λ (row : Session). row.parked_on) (option_map (changed_if b (with_mask m)) w) ≡ option_and_then (λ (row : Session). row.parked_on) w
masked_parks true m None = refl
masked_parks true m (Some x) = refl
masked_parks false m None = refl
masked_parks false m (Some x) = refl

masked_mask : (b : Bool) (m : Mode) (w : Option Session) (row : Session) (was : ℕ) → ((r : Session) → w ≡ Some r → r.mask.0 ≡ was) → option_map (changed_if b (with_mask m)) w ≡ Some row → row.mask.0 ≡ cond b m.0 was
masked_mask b m None row was known e = absurd cc
masked_mask true m (Some x) row was known e = let same : with_mask m x ≡ row = cc in ap (λ (r : Session). r.mask.0) (sym same)
masked_mask false m (Some x) row was known e = known row e

pub sessions_masked : (c : Config) (h : History) (xs : List Session) (sid : Sid) (m : Mode) → Grows c h (after_accepted h (Do sid (Umask m))) (Do sid (Umask m)) → SessionsAgree c h xs → SessionsAgree c (after_accepted h (Do sid (Umask m))) (changed (with_mask (record { 0 = m.0 % 512 })) xs sid.0)
sessions_masked c h xs sid m g a = record {
  users = λ s. ap (option_map (λ (row : Session). row.user)) (at_changed (with_mask (record { 0 = m.0 % 512 })) xs sid.0 s) ∙ masked_user (eqb sid.0 s) (record { 0 = m.0 % 512 }) (slice_get xs s) ∙ a.users s ∙ sym (g.user_of s);
  masks = λ s row is. masked_mask (eqb sid.0 s) (record { 0 = m.0 % 512 }) (slice_get xs s) row (mask h s) (a.masks s) (sym (at_changed (with_mask (record { 0 = m.0 % 512 })) xs sid.0 s) ∙ is) ∙ sym (g.mask_of s);
  lives = λ s. ap is_live_row (at_changed (with_mask (record { 0 = m.0 % 512 })) xs sid.0 s) ∙ masked_live (eqb sid.0 s) (record { 0 = m.0 % 512 }) (slice_get xs s) ∙ a.lives s ∙ sym (g.live_or_not s);
  parks = λ s. ap (option_and_then (λ (row : Session). row.parked_on)) (at_changed (with_mask (record { 0 = m.0 % 512 })) xs sid.0 s) ∙ masked_parks (eqb sid.0 s) (record { 0 = m.0 % 512 }) (slice_get xs s) ∙ a.parks s ∙ sym (ap (option_map (λ (p : Parked). p.object)) (parked_by_others c h (Do sid (Umask m)) s refl));
  count = count_changed (with_mask (record { 0 = m.0 % 512 })) xs sid.0 ∙ a.count ∙ sym g.hello_count;
}

-- a session that parks, is served or withdraws
moved_user : (b : Bool) (o : Option ℕ) (w : Option Session) → option_map (λ (row : Session). row.user) (option_map (changed_if b (with_parked o)) w) ≡ option_map (λ (row : Session). row.user) w
moved_user true o None = refl
moved_user true o (Some x) = refl
moved_user false o None = refl
moved_user false o (Some x) = refl

moved_live : (b : Bool) (o : Option ℕ) (w : Option Session) → is_live_row (option_map (changed_if b (with_parked o)) w) ≡ is_live_row w
moved_live true o None = refl
moved_live true o (Some x) = refl
moved_live false o None = refl
moved_live false o (Some x) = refl

moved_mask : (b : Bool) (o : Option ℕ) (w : Option Session) (row : Session) (was : ℕ) → ((r : Session) → w ≡ Some r → r.mask.0 ≡ was) → option_map (changed_if b (with_parked o)) w ≡ Some row → row.mask.0 ≡ was
moved_mask b o None row was known e = absurd cc
moved_mask true o (Some x) row was known e = let same : with_parked o x ≡ row = cc in ap (λ (r : Session). r.mask.0) (sym same) ∙ known x refl
moved_mask false o (Some x) row was known e = known row e

moved_parks : (b : Bool) (o : Option ℕ) (w : Option Session) → (b ≡ true → is_some w ≡ true) → option_and_then (λ (row : Session). row.parked_on) (option_map (changed_if b (with_parked o)) w) ≡ cond b o (option_and_then (λ (row : Session). row.parked_on) w)
moved_parks true o None there = absurd (let none = there refl in cc)
moved_parks true o (Some x) there = refl
moved_parks false o None there = refl
moved_parks false o (Some x) there = refl

stands : (xs : List Session) (s : ℕ) → s < length xs → is_some (slice_get xs s) ≡ true
stands [] s lt = absurd (omega arith)
stands (x ∷ xs) zero lt = refl
stands (x ∷ xs) (suc s) lt = stands xs s (omega arith)

pub columns_moved : (xs : List Session) (n : ℕ) (u : ℕ → Option Uid) (m : ℕ → ℕ) (l : ℕ → Bool) (p : ℕ → Option ℕ) (o : Option ℕ) (i : ℕ) → i < length xs → Columns xs n u m l p → Columns (changed (with_parked o) xs i) n u m l (λ s. cond (eqb i s) o (p s))
columns_moved xs n u m l p o i lt t = record {
  users = λ s. ap (option_map (λ (row : Session). row.user)) (at_changed (with_parked o) xs i s) ∙ moved_user (eqb i s) o (slice_get xs s) ∙ t.users s;
  masks = λ s row is. moved_mask (eqb i s) o (slice_get xs s) row (m s) (t.masks s) (sym (at_changed (with_parked o) xs i s) ∙ is);
  lives = λ s. ap is_live_row (at_changed (with_parked o) xs i s) ∙ moved_live (eqb i s) o (slice_get xs s) ∙ t.lives s;
  parks = λ s.
      ap (option_and_then (λ (row : Session). row.parked_on)) (at_changed (with_parked o) xs i s)
      ∙ moved_parks (eqb i s) o (slice_get xs s) (λ e. ap (λ j. is_some (slice_get xs j)) (sym (eqb-true _ _ e)) ∙ stands xs i lt)
      ∙ ap (cond (eqb i s) o) (t.parks s);
  count = count_changed (with_parked o) xs i ∙ t.count;
}

-- a hang-up
ended_user : (b : Bool) (w : Option Session) → option_map (λ (row : Session). row.user) (option_map (changed_if b hung_up) w) ≡ option_map (λ (row : Session). row.user) w
ended_user true None = refl
ended_user true (Some x) = refl
ended_user false None = refl
ended_user false (Some x) = refl

ended_live : (b : Bool) (w : Option Session) → is_live_row (option_map (changed_if b hung_up) w) ≡ (not b && is_live_row w)
ended_live true None = refl
ended_live true (Some x) = refl
ended_live false None = refl
ended_live false (Some x) = refl

ended_parks : (b : Bool) (w : Option Session) → option_and_then (λ (row : Session). row.parked_on) (option_map (changed_if b hung_up) w) ≡ option_and_then (λ (row : Session). row.parked_on) w
ended_parks true None = refl
ended_parks true (Some x) = refl
ended_parks false None = refl
ended_parks false (Some x) = refl

ended_mask : (b : Bool) (w : Option Session) (row : Session) (was : ℕ) → ((r : Session) → w ≡ Some r → r.mask.0 ≡ was) → option_map (changed_if b hung_up) w ≡ Some row → row.mask.0 ≡ was
ended_mask b None row was known e = absurd cc
ended_mask true (Some x) row was known e = let same : hung_up x ≡ row = cc in ap (λ (r : Session). r.mask.0) (sym same) ∙ known x refl
ended_mask false (Some x) row was known e = known row e

pub columns_ended : (xs : List Session) (n : ℕ) (u : ℕ → Option Uid) (m : ℕ → ℕ) (l : ℕ → Bool) (p : ℕ → Option ℕ) (i : ℕ) → Columns xs n u m l p → Columns (changed hung_up xs i) n u m (λ s. not (eqb i s) && l s) p
columns_ended xs n u m l p i t = record {
  users = λ s. ap (option_map (λ (row : Session). row.user)) (at_changed hung_up xs i s) ∙ ended_user (eqb i s) (slice_get xs s) ∙ t.users s;
  masks = λ s row is. ended_mask (eqb i s) (slice_get xs s) row (m s) (t.masks s) (sym (at_changed hung_up xs i s) ∙ is);
  lives = λ s. ap is_live_row (at_changed hung_up xs i s) ∙ ended_live (eqb i s) (slice_get xs s) ∙ ap (λ b. not (eqb i s) && b) (t.lives s);
  parks = λ s. ap (option_and_then (λ (row : Session). row.parked_on)) (at_changed hung_up xs i s) ∙ ended_parks (eqb i s) (slice_get xs s) ∙ t.parks s;
  count = count_changed hung_up xs i ∙ t.count;
}

pub sessions_ended : (c : Config) (h : History) (xs : List Session) (sid : Sid) (p : ℕ → Option ℕ) → Grows c h (after_accepted h (Hangup sid)) (Hangup sid) → ((s : ℕ) → parked_object c (after_accepted h (Hangup sid)) s ≡ p s) → Columns xs (hellos h) (user h) (mask h) (live h) p → SessionsAgree c (after_accepted h (Hangup sid)) (changed hung_up xs sid.0)
sessions_ended c h xs sid p g w t = sessions_are c (after_accepted h (Hangup sid)) (changed hung_up xs sid.0) (hellos h) (user h) (mask h) (λ s. not (eqb sid.0 s) && live h s) p (columns_ended xs (hellos h) (user h) (mask h) (live h) p sid.0 t) (sym g.hello_count) (λ s. sym (g.user_of s)) (λ s. sym (g.mask_of s)) (λ s. sym (g.live_or_not s)) (λ s. sym (w s))
