-- One lemma for each change of the slab and the keys.
use Rattle.std.proofs.Common.{◌≡◌, ◌≢◌, ◌∙◌, true, ◌==◌, Bool, ℕ, List, ◌∷◌, ◌++◌, Option, Some, None, refl, sym, ap, subst, arith, is_some}
use Rattle.std.specs.Option.{option_map, option_and_then}
use Rattle.std.proofs.lemmas.Bool.Decides.{nat_tests}
use Rattle.slab.specs.Slab.{Slab, get, Updates}
use Rattle.ipc_terms.specs.declared.ids.Sid.{Sid}
use Rattle.ipc_descr.specs.declared.row.Row.{Row}
use Rattle.ipc_terms.specs.Lists.{changed_first, changed as with_changed}
use Rattle.ipc_containers.specs.Slots.{at, emptied}
use Rattle.ipc_descr.specs.Descriptions.{is_desc, is_of, if_of, row_of, without_desc, with_nonblock, with_session}
use Rattle.ipc_descr.specs.Counting.{Gone}
use Rattle.ipc_descr.specs.Places.{if_desc, row_at, row_numbered, with_row, rows_of}
use Rattle.ipc_descr.proofs.AmongOthers.{Others, filter_split, count_once, changed_split}
use Rattle.ipc_descr.proofs.Answering.{row_found, row_own}
use Rattle.ipc_descr.proofs.PlacesLemmas.{IsOnly, only, only_same, differ_at, found, found_of, split, rows_emptied}

-- a slab's room is no matter
pub rows_reserved : (rows next : Slab Row) (slots : List (Option ℕ)) → next ≡ record rows { capacity = next.capacity } → rows_of (get next) 0 slots ≡ rows_of (get rows) 0 slots
rows_reserved rows next slots same = let stored : next.slots ≡ rows.slots = ap (λ s. s.slots) same in rw stored refl

-- ---- what a session holds

-- the row at the key of a description that session s holds
record Held (stored : ℕ → Option Row) (s d k : ℕ) : Type 0 where
  row : Row
  here : stored k ≡ Some row
  is : row.desc.0 ≡ d
  of : is_of s row ≡ true

held_by_row : (stored : ℕ → Option Row) (slots : List (Option ℕ)) (s d k : ℕ) (o : Option Row) → row_of (rows_of stored 0 slots) s d ≡ o → at slots d ≡ Some k → stored k ≡ o → true ≡ is_some o → Held stored s d k
held_by_row stored slots s d k None e there here some = cc
held_by_row stored slots s d k (Some row) e there here some =
    let at_key : row_at stored d k ≡ Some row = sym (found stored slots d ∙ ap (option_and_then (row_at stored d)) there) ∙ row_found (rows_of stored 0 slots) s d row e in
    record { row = row; here = here; is = subst (IsOnly d) at_key (only d (stored k)); of = row_own (rows_of stored 0 slots) s d row e }

held : (stored : ℕ → Option Row) (slots : List (Option ℕ)) (s d k : ℕ) → at slots d ≡ Some k → stored k ≡ option_and_then (if_of s) (row_numbered stored slots d) → true ≡ is_some (option_and_then (if_of s) (row_numbered stored slots d)) → Held stored s d k
held stored slots s d k there here some =
    let same = sym (found_of stored slots s d) in
    held_by_row stored slots s d k (row_of (rows_of stored 0 slots) s d) refl there (here ∙ same) (some ∙ ap is_some same)

-- a row of description d among the others, in the slab before and after a change of what stands at its key
record Among (stored next : ℕ → Option Row) (slots : List (Option ℕ)) (d : ℕ) (row : Row) (change : Option Row → Option Row) : Type 0 where
  before : List Row
  after : List Row
  was : rows_of stored 0 slots ≡ before ++ row ∷ after
  now : rows_of next 0 slots ≡ before ++ with_row (change (Some row)) after
  others_before : Others d before
  others_after : Others d after

among : (stored next : ℕ → Option Row) (slots : List (Option ℕ)) (s d k : ℕ) (change : Option Row → Option Row) (h : Held stored s d k) → IsOnly d (change (Some h.row)) → at slots d ≡ Some k → next k ≡ change (stored k) → ((q : ℕ) → q ≢ k → next q ≡ stored q) → Among stored next slots d h.row change
among stored next slots s d k change h only_now there changes others =
    let now : next k ≡ change (Some h.row) = changes ∙ ap change h.here in
    let place = split stored next d k slots there (differ_at stored next d k (subst (IsOnly d) (sym h.here) h.is) (subst (IsOnly d) (sym now) only_now) others) in
    record {
      before = place.before;
      after = place.after;
      was = place.was ∙ ap (λ o. place.before ++ with_row o place.after) (ap (option_and_then (if_desc d)) h.here ∙ only_same d (Some h.row) h.is);
      now = place.now ∙ ap (λ o. place.before ++ with_row o place.after) (ap (option_and_then (if_desc d)) now ∙ only_same d (change (Some h.row)) only_now);
      others_before = place.others_before;
      others_after = place.others_after;
    }

-- ---- a row is taken out

pub record Closed (rows next : Slab Row) (slots : List (Option ℕ)) (s d k : ℕ) : Type 0 where
  pub row : Row
  pub here : get rows k ≡ Some row
  pub rest : rows_of (get next) 0 (with_changed emptied slots d) ≡ without_desc (rows_of (get rows) 0 slots) s d
  pub gone : Gone row (rows_of (get rows) 0 slots) (rows_of (get next) 0 (with_changed emptied slots d))

closed_among : (before after all rest : List Row) (s d : ℕ) (row : Row) → all ≡ before ++ row ∷ after → rest ≡ before ++ after → row.desc.0 ≡ d → is_of s row ≡ true → Others d before → Others d after → rest ≡ without_desc all s d
closed_among before after all rest s d row was less is of others_before others_after =
    less ∙ sym (ap (λ rows. without_desc rows s d) was ∙ filter_split s d row before after of is others_before others_after)

gone_among : (before after all rest : List Row) (s d : ℕ) (row : Row) → all ≡ before ++ row ∷ after → rest ≡ before ++ after → row.desc.0 ≡ d → is_of s row ≡ true → rest ≡ without_desc all s d → Gone row all rest
gone_among before after all rest s d row was less is of closed =
    let test : (s == row.session.0) ≡ true = of in
    let session : s ≡ row.session.0 = grind (arith, nat_tests) in
    record {
      others = closed ∙ ap (λ n. without_desc all n d) session ∙ ap (without_desc all row.session.0) (sym is);
      once = rw (was, less) (count_once row before after);
    }

pub closed : (rows next : Slab Row) (slots : List (Option ℕ)) (s d k : ℕ) → at slots d ≡ Some k → get rows k ≡ option_and_then (if_of s) (row_numbered (get rows) slots d) → true ≡ is_some (option_and_then (if_of s) (row_numbered (get rows) slots d)) → Updates rows next k None → Closed rows next slots s d k
closed rows next slots s d k there here some updates =
    let h = held (get rows) slots s d k there here some in
    let a = among (get rows) (get next) slots s d k (λ o. None) h tt there updates.changed updates.others in
    let now = rows_emptied (get next) d k slots there updates.changed ∙ a.now in
    let rest = closed_among a.before a.after _ _ s d h.row a.was now h.is h.of a.others_before a.others_after in
    record { row = h.row; here = h.here; rest = rest; gone = gone_among a.before a.after _ _ s d h.row a.was now h.is h.of rest }

-- ---- a row is set

pub changed : (rows next : Slab Row) (slots : List (Option ℕ)) (s d k : ℕ) (b : Bool) → at slots d ≡ Some k → get rows k ≡ option_and_then (if_of s) (row_numbered (get rows) slots d) → true ≡ is_some (option_and_then (if_of s) (row_numbered (get rows) slots d)) → Updates rows next k (option_map (with_nonblock b) (get rows k)) → rows_of (get next) 0 slots ≡ changed_first (is_desc d) (with_nonblock b) (rows_of (get rows) 0 slots)
changed rows next slots s d k b there here some updates =
    let h = held (get rows) slots s d k there here some in
    let a = among (get rows) (get next) slots s d k (option_map (with_nonblock b)) h h.is there updates.changed updates.others in
    a.now ∙ sym (ap (changed_first (is_desc d) (with_nonblock b)) a.was ∙ changed_split d (with_nonblock b) h.row a.before a.after h.is a.others_before)

-- ---- a row passes to another session

pub passed : (rows next : Slab Row) (slots : List (Option ℕ)) (s d k : ℕ) (taker : Sid) → at slots d ≡ Some k → get rows k ≡ option_and_then (if_of s) (row_numbered (get rows) slots d) → true ≡ is_some (option_and_then (if_of s) (row_numbered (get rows) slots d)) → Updates rows next k (option_map (with_session taker) (get rows k)) → rows_of (get next) 0 slots ≡ changed_first (is_desc d) (with_session taker) (rows_of (get rows) 0 slots)
passed rows next slots s d k taker there here some updates =
    let h = held (get rows) slots s d k there here some in
    let a = among (get rows) (get next) slots s d k (option_map (with_session taker)) h h.is there updates.changed updates.others in
    a.now ∙ sym (ap (changed_first (is_desc d) (with_session taker)) a.was ∙ changed_split d (with_session taker) h.row a.before a.after h.is a.others_before)
