-- What each field of the shared words reads was spelled so, and what it spells is read again.
use Rattle.std.proofs.Common.{◌≡◌, ℕ, Bool, true, false, cond, eqb, ltb, ◌&&◌, List, Option, Some, None, refl, sym, ap, subst, ◌∙◌}
use Rattle.std.specs.Int.RustNames.{bit_and}
use Rattle.std.proofs.lemmas.Bool.{eqb-true, and_from, and_parts}
use Rattle.ipc_terms.specs.declared.call.Access.{Access}
use Rattle.ipc_terms.specs.declared.call.Access.TheVariants as access
use Rattle.ipc_terms.specs.declared.flags.OpenFlags.{OpenFlags}
use Rattle.ipc_terms.specs.declared.ids.Family.{Family}
use Rattle.ipc_terms.specs.declared.ids.Family.TheVariants as family
use Rattle.ipc_terms.specs.declared.ids.Target.{Target}
use Rattle.ipc_terms.specs.declared.ids.Target.TheVariants as target
use Rattle.ipc_fields.specs.Field.{byte, u16, u32, u64, text, optional, ◌⊗◌}
use Rattle.ipc_fields.proofs.FieldLemmas.{IsExact, some_is, chosen, byte_exact, u16_exact, u32_exact, u64_exact, text_exact, coded_exact, pair_exact, seen_exact, optional_exact}
use Rattle.ipc_fields.specs.Terms.{sid_field, desc_field, uid_field, gid_field, mode_field, access_code, access_of, access_field, family_code, family_of, family_field, flags_field, attributes_field, target_of, target_parts, target_field}

pub sid_exact : IsExact sid_field
sid_exact = seen_exact (λ n. record { 0 = n }) (λ x. x.0) u64 (λ n. refl) (λ x. refl) u64_exact

pub desc_exact : IsExact desc_field
desc_exact = seen_exact (λ n. record { 0 = n }) (λ x. x.0) u64 (λ n. refl) (λ x. refl) u64_exact

pub uid_exact : IsExact uid_field
uid_exact = seen_exact (λ n. record { 0 = n }) (λ x. x.0) u32 (λ n. refl) (λ x. refl) u32_exact

pub gid_exact : IsExact gid_field
gid_exact = seen_exact (λ n. record { 0 = n }) (λ x. x.0) u32 (λ n. refl) (λ x. refl) u32_exact

pub mode_exact : IsExact mode_field
mode_exact = seen_exact (λ n. record { 0 = n }) (λ x. x.0) u16 (λ n. refl) (λ x. refl) u16_exact

access_back : (b : ℕ) (x : Access) → ltb b 256 ≡ true → access_of b ≡ Some x → (access_code x ≡ b) × (true ≡ true)
access_back b x lt e =
    let Goal : Type 0 = (access_code x ≡ b) × (true ≡ true) in
    chosen 1 b access.Read x _ Goal e (λ is y. (ap access_code (sym y) ∙ sym is, refl)) (λ f.
    chosen 2 b access.Write x _ Goal f (λ is y. (ap access_code (sym y) ∙ sym is, refl)) (λ g.
    chosen 3 b access.Both x None Goal g (λ is y. (ap access_code (sym y) ∙ sym is, refl)) (λ h. absurd cc)))

access_again : (x : Access) → true ≡ true → (access_of (access_code x) ≡ Some x) × (ltb (access_code x) 256 ≡ true)
access_again access.Read p = (refl, refl)
access_again access.Write p = (refl, refl)
access_again access.Both p = (refl, refl)

pub access_exact : IsExact access_field
unfolding access_field
access_exact = coded_exact access_code (λ a. true) access_of byte (record { back = access_back; again = access_again }) byte_exact

family_back : (b : ℕ) (x : Family) → ltb b 256 ≡ true → family_of b ≡ Some x → (family_code x ≡ b) × (true ≡ true)
family_back b x lt e =
    let Goal : Type 0 = (family_code x ≡ b) × (true ≡ true) in
    chosen 1 b family.Mq x _ Goal e (λ is y. (ap family_code (sym y) ∙ sym is, refl)) (λ f.
    chosen 2 b family.Sem x None Goal f (λ is y. (ap family_code (sym y) ∙ sym is, refl)) (λ h. absurd cc))

family_again : (x : Family) → true ≡ true → (family_of (family_code x) ≡ Some x) × (ltb (family_code x) 256 ≡ true)
family_again family.Mq p = (refl, refl)
family_again family.Sem p = (refl, refl)

pub family_exact : IsExact family_field
unfolding family_field
family_exact = coded_exact family_code (λ a. true) family_of byte (record { back = family_back; again = family_again }) byte_exact

abbrev flags : ℕ → OpenFlags
flags b = record { 0 = b }

abbrev flags_plain : ℕ → OpenFlags → Bool
flags_plain mask f = eqb (bit_and f.0 mask) f.0 && ltb f.0 256

abbrev flags_of : ℕ → ℕ → Option OpenFlags
flags_of mask b = cond (eqb (bit_and b mask) b) (Some (flags b)) None

flags_back : (mask b : ℕ) (t : Bool) (x : OpenFlags) → ltb b 256 ≡ true → eqb (bit_and b mask) b ≡ t → cond t (Some (flags b)) None ≡ Some x → (bit_and x.0 mask ≡ b) × (flags_plain mask x ≡ true)
flags_back mask b true x lt is e = subst (λ (f : OpenFlags). (bit_and f.0 mask ≡ b) × (flags_plain mask f ≡ true)) (some_is (flags b) x e) (eqb-true _ _ is, and_from _ _ is lt)
flags_back mask b false x lt is e = absurd cc

flags_again : (mask : ℕ) (x : OpenFlags) → flags_plain mask x ≡ true → (flags_of mask (bit_and x.0 mask) ≡ Some x) × (ltb (bit_and x.0 mask) 256 ≡ true)
flags_again mask x p =
    let parts = and_parts (eqb (bit_and x.0 mask) x.0) (ltb x.0 256) p in
    let same_bits : bit_and x.0 mask ≡ x.0 = eqb-true _ _ parts.0 in
    (rw (same_bits, parts.0) refl, rw same_bits parts.1)

pub flags_exact : (mask : ℕ) → IsExact (flags_field mask)
unfolding flags_field
flags_exact mask = coded_exact (λ f. bit_and f.0 mask) (flags_plain mask) (flags_of mask) byte (record { back = λ b x lt e. flags_back mask b (eqb (bit_and b mask) b) x lt refl e; again = flags_again mask }) byte_exact

pub attributes_exact : IsExact attributes_field
unfolding attributes_field
attributes_exact = seen_exact (λ x. record { maxmsg = x.0; msgsize = x.1 }) (λ a. (a.maxmsg, a.msgsize)) (u32 ⊗ u32) (λ x. refl) (λ a. refl) (pair_exact u32 u32 u32_exact u32_exact)

parts_of : (x : Family × Option (List ℕ)) → target_parts (target_of x) ≡ x
parts_of (f, None) = refl
parts_of (f, Some name) = refl

of_parts : (t : Target) → target_of (target_parts t) ≡ t
of_parts (target.Dir f) = refl
of_parts (target.Name f name) = refl

pub target_exact : IsExact target_field
unfolding target_field
target_exact = seen_exact target_of target_parts (family_field ⊗ optional text) parts_of of_parts (pair_exact family_field (optional text) family_exact (optional_exact text text_exact))
