-- What the two maps find, and that they follow the list when one more session stands at its end.
use Rattle.std.proofs.Common.{◌≡◌, ◌∙◌, Bool, cond, ℕ, ◌==◌, not, List, [], ◌∷◌, ◌++◌, length, length-append, find, position, slice_get, Option, Some, None, IsSome, String, string_bytes, string_cmp, sym, ap, arith}
use Rattle.std.specs.Option.{option_map, option_or, option_and_then}
use Rattle.std.specs.Ordering.{nat_cmp}
use Rattle.std.specs.BTreeMap.{BTreeMap, Updates, get, get_by_text}
use Rattle.std.specs.Str.{bytes_eq}
use Rattle.std.proofs.lemmas.Bool.Decides.{nat_tests}
use Rattle.std.proofs.lemmas.List.{reverse-append}
use Rattle.std.proofs.lemmas.List.Folds.{find_at, position_or_len_push}
use Rattle.std.proofs.lemmas.List.Sums.{prefix_len-le-length}
use Rattle.std.proofs.lemmas.Map.Text.{btree_map_updates_text}
use Rattle.std.proofs.lemmas.Option.{slice_get_past}
use Rattle.ipc_terms.specs.declared.ids.Sid.{Sid}
use Rattle.ipc_script.specs.declared.labels.Started.{Started}
use Rattle.ipc_script.specs.Labels.{newest_of, starter_of}
use Rattle.ipc_script.specs.LabelMaps.{Follow}

-- ---- a session's first label

found_at : {X : Type 0} (p : X → Bool) (xs : List X) → find p xs ≡ option_and_then (slice_get xs) (position p xs)
found_at p xs = grind (arith, nat_tests, find_at p xs, slice_get_past)

pub starter_at : {Y : Type 0} (newest : BTreeMap (String Y) Sid) (places : BTreeMap ℕ ℕ) (started : List Started) (sid : Sid) (place : Option ℕ) → Follow newest places started → place ≡ get nat_cmp places sid.0 → starter_of started sid ≡ option_map (λ s. s.label) (option_and_then (slice_get started) place)
starter_at newest places started sid place follow found =
    ap (option_map (λ s. s.label)) (found_at (λ s. s.sid.0 == sid.0) started ∙ ap (option_and_then (slice_get started)) (sym (found ∙ follow.sessions sid.0)))

-- ---- one more session

newest_pushed : (started : List Started) (s : Started) (label : List ℕ) → newest_of (started ++ s ∷ []) label ≡ cond (bytes_eq s.label label) (Some s.sid) (newest_of started label)
newest_pushed started s label = grind (arith, reverse-append started (s ∷ []))

position_pushed : {X : Type 0} (p : X → Bool) (xs : List X) (x : X) → position p (xs ++ x ∷ []) ≡ option_or (position p xs) (cond (p x) (Some (length xs)) None)
position_pushed p xs x = grind (arith, nat_tests, length-append, position_or_len_push p xs x, prefix_len-le-length (λ y. not (p y)) xs)

labels_pushed : {Y : Type 0} (newest later : BTreeMap (String Y) Sid) (started : List Started) (s : Started) (key : String Y) → ((label : List ℕ) → get_by_text newest label ≡ newest_of started label) → string_bytes key ≡ s.label → Updates string_cmp newest later key (Some s.sid) → (label : List ℕ) → get_by_text later label ≡ newest_of (started ++ s ∷ []) label
labels_pushed newest later started s key follow is updates label =
    btree_map_updates_text (string_bytes key) newest later (Some s.sid) updates label
    ∙ ap (λ text. cond (bytes_eq text label) (Some s.sid) (get_by_text newest label)) is
    ∙ ap (cond (bytes_eq s.label label) (Some s.sid)) (follow label)
    ∙ sym (newest_pushed started s label)

-- a session that was started before stays at its first place
place_stays : (places : BTreeMap ℕ ℕ) (started : List Started) (s : Started) → IsSome (get nat_cmp places s.sid.0) → (q : ℕ) → get nat_cmp places q ≡ position (λ t. t.sid.0 == q) started → get nat_cmp places q ≡ position (λ t. t.sid.0 == q) (started ++ s ∷ [])
place_stays places started s some q follow = grind (arith, nat_tests, position_pushed (λ t. t.sid.0 == q) started s)

pub follow_known : {Y : Type 0} (newest later : BTreeMap (String Y) Sid) (places : BTreeMap ℕ ℕ) (started : List Started) (s : Started) (key : String Y) → Follow newest places started → string_bytes key ≡ s.label → Updates string_cmp newest later key (Some s.sid) → IsSome (get nat_cmp places s.sid.0) → Follow later places (started ++ s ∷ [])
follow_known newest later places started s key follow is updates some = record {
  labels = labels_pushed newest later started s key follow.labels is updates;
  sessions = λ q. place_stays places started s some q (follow.sessions q);
}

-- one that was not is first at the end
place_added : (places further : BTreeMap ℕ ℕ) (started : List Started) (s : Started) → get nat_cmp places s.sid.0 ≡ None → Updates nat_cmp places further s.sid.0 (Some (length started)) → (q : ℕ) → get nat_cmp places q ≡ position (λ t. t.sid.0 == q) started → get nat_cmp further q ≡ position (λ t. t.sid.0 == q) (started ++ s ∷ [])
place_added places further started s none added q follow = let here = added.0 q in grind (arith, nat_tests, position_pushed (λ t. t.sid.0 == q) started s)

pub follow_new : {Y : Type 0} (newest later : BTreeMap (String Y) Sid) (places further : BTreeMap ℕ ℕ) (started : List Started) (s : Started) (key : String Y) → Follow newest places started → string_bytes key ≡ s.label → Updates string_cmp newest later key (Some s.sid) → get nat_cmp places s.sid.0 ≡ None → Updates nat_cmp places further s.sid.0 (Some (length started)) → Follow later further (started ++ s ∷ [])
follow_new newest later places further started s key follow is updates none added = record {
  labels = labels_pushed newest later started s key follow.labels is updates;
  sessions = λ q. place_added places further started s none added q (follow.sessions q);
}
