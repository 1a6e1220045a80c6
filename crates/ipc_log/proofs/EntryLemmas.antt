-- Heads, and records behind their places, are spelled and read alike, but for the flags that mean nothing.
use Rattle.std.proofs.Common.{◌≡◌, ℕ, ◌^◌, true, ltb, List, [], Some, Ok, refl, sym, ap, ◌∙◌}
use Rattle.std.proofs.lemmas.Bool.{and_parts}
use Rattle.std.proofs.lemmas.List.{append-nil}
use Rattle.ipc_terms.specs.declared.record.Record.{Record}
use Rattle.ipc_fields.specs.Field.{Field, u32, u64, seen, ◌⊗◌}
use Rattle.ipc_fields.proofs.FieldLemmas.{IsExact, IsExactBody, u32_exact, u64_exact, seen_exact, pair_exact, only_exact}
use Rattle.ipc_log.specs.Fields.{digest_of, digest_parts, digest_field, retelling_of, retelling_parts, retelling_field, head_of, head_parts, head_field, verdict_field, event_field, record_of, record_parts, record_field, entry, plain_event, plain_record, event_fits, record_fits}
use Rattle.ipc_log.proofs.VerdictLemmas.{verdict_exact}
use Rattle.ipc_log.proofs.EventLemmas.{ReadsAs, exact_reads, pair_reads, event_reads, event_exact}

digest_exact : IsExact digest_field
unfolding digest_field
digest_exact = seen_exact digest_of digest_parts (u64 ⊗ u64 ⊗ u64 ⊗ u64) (λ x. refl) (λ d. refl) (pair_exact u64 _ u64_exact (pair_exact u64 _ u64_exact (pair_exact u64 _ u64_exact u64_exact)))

retelling_exact : IsExact retelling_field
unfolding retelling_field
retelling_exact = seen_exact retelling_of retelling_parts (u64 ⊗ u64 ⊗ u64 ⊗ digest_field) (λ x. refl) (λ r. refl) (pair_exact u64 _ u64_exact (pair_exact u64 _ u64_exact (pair_exact u64 _ u64_exact digest_exact)))

pub head_exact : IsExact head_field
unfolding head_field
head_exact = seen_exact head_of head_parts (u64 ⊗ u32 ⊗ u32 ⊗ u32 ⊗ u64 ⊗ retelling_field) (λ x. refl) (λ h. refl) (pair_exact u64 _ u64_exact (pair_exact u32 _ u32_exact (pair_exact u32 _ u32_exact (pair_exact u32 _ u32_exact (pair_exact u64 _ u64_exact retelling_exact)))))

record_exact : IsExact record_field
unfolding record_field
record_exact = seen_exact record_of record_parts (verdict_field ⊗ event_field) (λ x. refl) (λ r. refl) (pair_exact verdict_field event_field verdict_exact event_exact)

pub entry_exact : IsExactBody entry
entry_exact = only_exact (u64 ⊗ record_field) (pair_exact u64 record_field u64_exact record_exact)

-- ---- with flags that mean nothing

seen_reads : {A B : Type 0} (to : A → B) (from : B → A) (f : Field A) (x y : B) → to (from y) ≡ y → ReadsAs f (from x) (from y) → ReadsAs (seen to from f) x y
seen_reads {A} {B} to from f x y forth p s r e = rw (p s r e) (ap (λ (z : B). Ok (z, r)) forth)

record_reads : (x : Record) → event_fits x.event ≡ true → ReadsAs record_field x (plain_record x)
unfolding record_field verdict_field
record_reads x fit = seen_reads record_of record_parts (verdict_field ⊗ event_field) x (plain_record x) refl (pair_reads verdict_field event_field x.rule x.rule x.event (plain_event x.event) (exact_reads verdict_field verdict_exact x.rule refl) (event_reads x.event fit))

pub entry_reads : (place : ℕ) (x : Record) (body : List ℕ) → record_fits place x ≡ true → entry.spell (place, x) ≡ Some body → entry.read body ≡ Ok (place, plain_record x)
entry_reads place x body fit e =
    let p = and_parts (ltb place (2 ^ 64)) (event_fits x.event) fit in
    let both = pair_reads u64 record_field place place x (plain_record x) (exact_reads u64 u64_exact place p.0) (record_reads x p.1) in
    ap entry.read (sym (append-nil body)) ∙ rw (both body [] e) refl
