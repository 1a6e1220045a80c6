-- Verdicts are spelled and read alike.
use Rattle.std.proofs.Common.{◌≡◌, ℕ, Bool, true, false, cond, eqb, ltb, Option, Some, None, refl, sym, subst}
use Rattle.std.specs.Prelude.{option_map}
use Rattle.std.proofs.lemmas.Bool.{eqb-true}
use Rattle.ipc_terms.specs.Rules.{every_rule, number_of}
use Rattle.ipc_terms.specs.declared.rule.Rule.{Rule}
use Rattle.ipc_terms.specs.declared.rule.Rule.TheVariants as rule
use Rattle.ipc_fields.specs.Field.{byte}
use Rattle.ipc_fields.proofs.FieldLemmas.{IsExact, some_is, byte_exact, coded_exact}
use Rattle.ipc_fields.proofs.FormatLemmas.{among_is}
use Rattle.ipc_wire.specs.Answers.{rule_of}
use Rattle.ipc_log.specs.Fields.{verdict_code, verdict_of, verdict_field}

verdict_found : (n : ℕ) (v : Option Rule) (found : Option Rule) → rule_of n ≡ found → option_map (λ r. Some r) found ≡ Some v → verdict_code v ≡ n
unfolding rule_of
verdict_found n v None is e = absurd cc
verdict_found n v (Some r) is e = subst (λ (x : Option Rule). verdict_code x ≡ n) (some_is (Some r) v e) (among_is number_of every_rule n r is)

verdict_at : (n : ℕ) (v : Option Rule) (none : Bool) → eqb n 0 ≡ none → cond none (Some None) (option_map (λ r. Some r) (rule_of n)) ≡ Some v → verdict_code v ≡ n
verdict_at n v true is e = subst (λ (x : Option Rule). verdict_code x ≡ n) (some_is None v e) (sym (eqb-true n 0 is))
verdict_at n v false is e = verdict_found n v (rule_of n) refl e

verdict_back : (n : ℕ) (v : Option Rule) → ltb n 256 ≡ true → verdict_of n ≡ Some v → (verdict_code v ≡ n) × (true ≡ true)
verdict_back n v lt e = (verdict_at n v (eqb n 0) refl e, refl)

refused_again : (r : Rule) → (verdict_of (number_of r) ≡ Some (Some r)) × (ltb (number_of r) 256 ≡ true)
unfolding rule_of
refused_again rule.NoSession = (refl, refl)
refused_again rule.InCall = (refl, refl)
refused_again rule.NotInCall = (refl, refl)
refused_again rule.NameForm = (refl, refl)
refused_again rule.NameLong = (refl, refl)
refused_again rule.NotAdmin = (refl, refl)
refused_again rule.NoUser = (refl, refl)
refused_again rule.BadDescr = (refl, refl)
refused_again rule.NotForWrite = (refl, refl)
refused_again rule.NotForRead = (refl, refl)
refused_again rule.DirSearch = (refl, refl)
refused_again rule.DirRead = (refl, refl)
refused_again rule.Absent = (refl, refl)
refused_again rule.Present = (refl, refl)
refused_again rule.ModeDenied = (refl, refl)
refused_again rule.DirWrite = (refl, refl)
refused_again rule.Sticky = (refl, refl)
refused_again rule.NotOwner = (refl, refl)
refused_again rule.ChownDenied = (refl, refl)
refused_again rule.AttrRange = (refl, refl)
refused_again rule.ValueRange = (refl, refl)
refused_again rule.QueueCount = (refl, refl)
refused_again rule.ByteLimit = (refl, refl)
refused_again rule.DescrLimit = (refl, refl)
refused_again rule.PrioRange = (refl, refl)
refused_again rule.MessageLong = (refl, refl)
refused_again rule.BufferShort = (refl, refl)
refused_again rule.NotifyTaken = (refl, refl)
refused_again rule.WouldBlock = (refl, refl)
refused_again rule.Overflow = (refl, refl)
refused_again rule.BadKey = (refl, refl)
refused_again rule.TimedOut = (refl, refl)
refused_again rule.NoTaker = (refl, refl)

verdict_again : (v : Option Rule) → true ≡ true → (verdict_of (verdict_code v) ≡ Some v) × (ltb (verdict_code v) 256 ≡ true)
verdict_again None p = (refl, refl)
verdict_again (Some r) p = refused_again r

pub verdict_exact : IsExact verdict_field
unfolding verdict_field
verdict_exact = coded_exact verdict_code (λ v. true) verdict_of byte (record { back = verdict_back; again = verdict_again }) byte_exact
