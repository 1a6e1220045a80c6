-- Whose call stands at a place stays so, and notes of it stay true.
use Rattle.std.proofs.Common.{◌≡◌, ℕ, zero, suc, ◌+◌, ◌<◌, Bool, true, false, cond, eqb, List, [], ◌∷◌, length, Option, Some, None, is_some, refl, sym, ap, subst, ◌∙◌, arith}
use Rattle.std.specs.Prelude.{option_and_then, slice_get}
use Rattle.std.specs.BTreeMap.{BTreeMap, get, is_at}
use Rattle.std.specs.Map.{lookup}
use Rattle.std.specs.Option.{option_or, option_flatten}
use Rattle.std.specs.Ordering.{nat_cmp}
use Rattle.std.proofs.lemmas.Bool.{eqb-true, eq-eqb, ne_eqb}
use Rattle.std.proofs.lemmas.Bool.Decides.{nat_tests}
use Rattle.ipc_terms.specs.Events.{caller}
use Rattle.ipc_terms.specs.History.{record_at}
use Rattle.ipc_terms.specs.declared.ids.Uid.{Uid}
use Rattle.ipc_terms.specs.declared.record.Event.{Event}
use Rattle.ipc_terms.specs.declared.record.Event.TheVariants.{Hello, Do, Hangup, Tick}
use Rattle.ipc_terms.specs.declared.record.Record.{Record}
use Rattle.ipc_terms.specs.declared.rule.Rule.{Rule}
use Rattle.ipc_tables.specs.TablesView.{TablesView, live_row, live_session}
use Rattle.ipc_tables.specs.declared.rows.Session.{Session}
use Rattle.ipc_policy.specs.declared.config.Config.{Config}
use Rattle.ipc_policy.specs.Decides.History.{History, newest, how_many}
use Rattle.ipc_policy.specs.Decides.Sessions.{begins, hellos, is_hello, live, user}
use Rattle.ipc_policy.proofs.Histories.Growing.{user_grows}
use Rattle.ipc_policy.proofs.Histories.Moments.{place_below, record_stays, record_now}
use Rattle.ipc_replay.specs.HangingUp.{all_hung_up, first_hung_up, hung_up}
use Rattle.ipc_state.specs.Agrees.{IsCore}
use Rattle.ipc_state.proofs.Accepted.{user_row}
use Rattle.ipc_living.specs.Living.{sender_at, AreNotes}
use Rattle.ipc_living.specs.declared.senders.Note.{Note}

-- a session that has a user has begun
begun_more : (before : History) (s : ℕ) → (is_some (newest (begins s) before) ≡ true → s < hellos before) → (e : Event) (o : Option Rule) → is_some (newest (begins s) (record { event = e; rule = o } ∷ before)) ≡ true → s < hellos (record { event = e; rule = o } ∷ before)
unfolding hellos
begun_more before s known e (Some rule) h = known h
begun_more before s known (Hello found) None h = begun_at (eqb (hellos before) s) refl h where
  begun_at : (b : Bool) → eqb (hellos before) s ≡ b → is_some (option_or (cond b (Some found) None) (newest (begins s) before)) ≡ true → s < how_many is_hello before + 1
  begun_at true e k = let same : hellos before ≡ s = eqb-true _ _ e in let same' : how_many is_hello before ≡ s = same in omega arith
  begun_at false e k = let below : s < how_many is_hello before = known k in omega arith
begun_more before s known (Do sid call) None h = known h
begun_more before s known (Hangup sid) None h = known h
begun_more before s known (Tick moment) None h = known h

begun_below : (h : History) (s : ℕ) → is_some (newest (begins s) h) ≡ true → s < hellos h
begun_below [] s h = absurd cc
begun_below (r ∷ before) s h = begun_more before s (begun_below before s) r.event r.rule h

flat_some : (w : Option (Option Uid)) (u : Uid) → option_flatten w ≡ Some u → is_some w ≡ true
flat_some None u e = absurd cc
flat_some (Some v) u e = refl

user_below : (h : History) (s : ℕ) (u : Uid) → user h s ≡ Some u → s < hellos h
unfolding user
user_below h s u e = begun_below h s (flat_some (newest (begins s) h) u e)

-- it keeps its user
user_stays : (h : History) (r : Record) (s : ℕ) (u : Uid) → user h s ≡ Some u → user (r ∷ h) s ≡ Some u
unfolding user
user_stays h r s u e = at r.event r.rule where
  other : eqb (hellos h) s ≡ false
  other = let less = user_below h s u e in ne_eqb (hellos h) s (λ (q : hellos h ≡ s). omega arith)

  at : (x : Event) (o : Option Rule) → user (record { event = x; rule = o } ∷ h) s ≡ Some u
  at x (Some rule) = e
  at (Hello found) None = user_grows h (Hello found) s ∙ ap (λ b. cond b found (user h s)) other ∙ e
  at (Do sid call) None = e
  at (Hangup sid) None = e
  at (Tick moment) None = e

-- whose call stands at a place stays so
pub sender_stays : (h : History) (r : Record) (place : ℕ) (u : Uid) → sender_at h place ≡ Some u → sender_at (r ∷ h) place ≡ Some u
unfolding sender_at
sender_stays h r place u e = at (record_at place h) refl e where
  at : (w : Option Record) → record_at place h ≡ w → option_and_then (λ (x : Record). user h (caller x.event).0) w ≡ Some u → option_and_then (λ (x : Record). user (r ∷ h) (caller x.event).0) (record_at place (r ∷ h)) ≡ Some u
  at None is k = absurd cc
  at (Some x) is k = ap (option_and_then (λ (y : Record). user (r ∷ h) (caller y.event).0)) (record_stays h r place (place_below h place x is) ∙ is) ∙ user_stays h r (caller x.event).0 u k

-- of the newest record it is its caller's
pub sender_now : (h : History) (r : Record) (u : Uid) → user h (caller r.event).0 ≡ Some u → sender_at (r ∷ h) (length h) ≡ Some u
unfolding sender_at
sender_now h r u e = ap (option_and_then (λ (y : Record). user (r ∷ h) (caller y.event).0)) (record_now h r) ∙ user_stays h r (caller r.event).0 u e

live_there : (xs : List Session) (s : ℕ) (row : Session) → live_session xs s ≡ Some row → slice_get xs s ≡ Some row
live_there xs s row e = at (slice_get xs s) refl e where
  same : (x : Session) (b : Bool) → cond b (Some x) None ≡ Some row → Some x ≡ Some row
  same x true k = k
  same x false k = absurd cc

  at : (w : Option Session) → slice_get xs s ≡ w → option_and_then live_row w ≡ Some row → slice_get xs s ≡ Some row
  at None is k = absurd cc
  at (Some x) is k = is ∙ same x x.is_live k

-- the user of a session that is live
pub live_user : (c : Config) (h : History) (t : TablesView) (s : ℕ) (row : Session) → IsCore c h t → live_session t.sessions s ≡ Some row → user h s ≡ Some row.user
live_user c h t s row core e = user_row c h t.sessions s row core.agrees.sessions (live_there t.sessions s row e)

-- notes stay true
pub notes_stay : (notes : BTreeMap ℕ Note) (h : History) (r : Record) → AreNotes notes h → AreNotes notes (r ∷ h)
notes_stay notes h r true' place note e = sender_stays h r place note.user (true' place note e)

-- and with one more, which is true
pub note_more : (notes more : BTreeMap ℕ Note) (h : History) (place : ℕ) (note : Note) → AreNotes notes h → sender_at h place ≡ Some note.user → ((q : ℕ) → get nat_cmp more q ≡ cond (is_at (nat_cmp place) q) (Some note) (get nat_cmp notes q)) → AreNotes more h
note_more notes more h place note true' is updates q x e = at (is_at (nat_cmp place) q) refl (sym (updates q) ∙ e) where
  at : (b : Bool) → is_at (nat_cmp place) q ≡ b → cond b (Some note) (get nat_cmp notes q) ≡ Some x → sender_at h q ≡ Some x.user
  at true k l =
      let same : place ≡ q = grind (arith, nat_tests) in
      let own : note ≡ x = cc in
      ap (sender_at h) (sym same) ∙ is ∙ ap (λ (n : Note). Some n.user) own
  at false k l = true' q x l

-- the same notes are as true
pub notes_same : (notes same : BTreeMap ℕ Note) (h : History) → ((q : ℕ) → get nat_cmp same q ≡ get nat_cmp notes q) → AreNotes notes h → AreNotes same h
notes_same notes same h is true' q x e = true' q x (sym (is q) ∙ e)

pub notes_unchanged : (notes same : BTreeMap ℕ Note) (h : History) → same.entries ≡ notes.entries → AreNotes notes h → AreNotes same h
notes_unchanged notes same h e true' = notes_same notes same h (λ q. ap (λ es. lookup (is_at (nat_cmp q)) es) e) true'

-- the caller of the record at a place
pub sender_of_record : (h : History) (place : ℕ) (r : Record) (u : Uid) → record_at place h ≡ Some r → user h (caller r.event).0 ≡ Some u → sender_at h place ≡ Some u
unfolding sender_at
sender_of_record h place r u there who = ap (option_and_then (λ (y : Record). user h (caller y.event).0)) there ∙ who

-- and behind hang-ups
notes_behind : (notes : BTreeMap ℕ Note) (s : ℕ) (is_live : Bool) (h : History) → AreNotes notes h → AreNotes notes (hung_up s is_live h)
notes_behind notes s true h are = notes_stay notes h (record { event = Hangup (record { 0 = s }); rule = None }) are
notes_behind notes s false h are = are

notes_behind_first : (notes : BTreeMap ℕ Note) (n : ℕ) (h : History) → AreNotes notes h → AreNotes notes (first_hung_up n h)
notes_behind_first notes zero h are = are
notes_behind_first notes (suc n) h are = notes_behind notes n (live h n) (first_hung_up n h) (notes_behind_first notes n h are)

pub notes_hung_up : (notes : BTreeMap ℕ Note) (h : History) → AreNotes notes h → AreNotes notes (all_hung_up h)
notes_hung_up notes h are = notes_behind_first notes (hellos h) h are
