-- What a call on a queue or a semaphore does to the tables: what stands in an object changes, and a session parks or is
-- parked no more.
use Rattle.std.proofs.Common.{◌≡◌, ℕ, zero, suc, List, [], ◌∷◌, Option, Some, None, refl, sym, ap, ◌∙◌}
use Rattle.std.specs.Borrow.{MutBor}
use Rattle.std.specs.Option.{OnSome, option_copied_mut}
use Rattle.ipc_terms.specs.Lists.{changed, changed_first}
use Rattle.ipc_terms.specs.declared.ids.Sid.{Sid}
use Rattle.ipc_tables.specs.contracts.tables.Tables.{the_view}
use Rattle.ipc_tables.specs.declared.objects.Objects.{Objects}
use Rattle.ipc_tables.specs.declared.rows.Body.{Body}
use Rattle.ipc_tables.specs.declared.rows.ObjectRow.{ObjectRow}
use Rattle.ipc_tables.specs.declared.rows.Session.{Session}
use Rattle.ipc_tables.specs.declared.tables.Tables.TheInside.{Inside}
use Rattle.ipc_tables.specs.Lending.{HasRows}
use Rattle.ipc_tables.specs.Objects.{is_number, with_withdrawal}
use Rattle.ipc_tables.specs.Standing.{rows_in, IsStanding}
use Rattle.ipc_tables.specs.Steps.{with_parked, after_withdrawal}
use Rattle.ipc_tables.specs.TablesView.{TablesView, parked_on_at}
use Rattle.ipc_tables.proofs.Parts.{IsPart, part_at, part_changed, part_same, with_changed}
use Rattle.ipc_tables.proofs.StandingLemmas.{Keeps, changed_stands, unchanged_stands}
use Rattle.ipc_tables.proofs.TableChanges.{seen}

-- what a call makes of the tables: all stands, and they are `next`, where the sessions are what its outcome makes of them
pub record Called {W : Type 0} (inside : Inside) (after : Objects) (outcome : W) (parked_by : W → List Session → List Session) (next : TablesView) : Type 0 where
  pub stands : IsStanding inside.queues inside.semaphores inside.descriptions.rows after
  pub tables : (w : W) (ss : List Session) → outcome ≡ w → ss ≡ parked_by w inside.sessions → the_view (record inside { sessions = ss; objects = after }) ≡ next

-- what stands in object o changes, and the outcome is of what stood there
abbrev pub after_call : {A W : Type 0} → (Body → Option A) → ((A → A) → Body → Body) → ℕ → (A → A) → (Option A → W) → (W → List Session → List Session) → TablesView → TablesView
after_call of with_part o change outcome_of parked_by t = record t { sessions = parked_by (outcome_of (part_at of t.objects o)) t.sessions; objects = with_changed o (with_part change) t.objects }

-- a call that touches one object: what stands there was lent, as x, and is w since
module _ {A : Type 0} {of : Body → Option A} {make : A → Body} {with_part : (A → A) → Body → Body} (part : IsPart of make with_part) (o : ℕ) (inside : Inside) {after : Objects} {r : Option (MutBor A)} {t : TablesView} (x : MutBor A) (w : A) (value : option_copied_mut r ≡ part_at of (rows_in inside.objects) o) (is : r ≡ Some x) (holds : OnSome r (HasRows (with_changed o (with_part (λ y. w)) (rows_in inside.objects)) inside.objects after)) (stood : IsStanding inside.queues inside.semaphores inside.descriptions.rows inside.objects) (was : the_view inside ≡ t) where
  pub called : {W : Type 0} (change : A → A) (outcome_of : Option A → W) (parked_by : W → List Session → List Session) (outcome : W) → Keeps inside.descriptions.rows o (λ row. record row { body = with_part change row.body }) → w ≡ change x.now → outcome ≡ outcome_of (Some x.now) → Called inside after outcome parked_by (after_call of with_part o change outcome_of parked_by t)
  called change outcome_of parked_by outcome keeps changes comes =
      let has = part_changed part o inside.objects after r value change x w is changes holds in
      let there : Some x.now ≡ part_at of (rows_in inside.objects) o = sym (ap option_copied_mut is) ∙ value in
      record {
        stands = changed_stands inside o _ after keeps has stood;
        tables = λ v ss so parked.
            seen inside ss _ after has
            ∙ ap (λ (s : List Session). record (the_view inside) { sessions = s; objects = with_changed o (with_part change) (rows_in inside.objects) }) (parked ∙ ap (λ k. parked_by k inside.sessions) (sym so ∙ comes ∙ ap outcome_of there))
            ∙ ap (after_call of with_part o change outcome_of parked_by) was;
      }

  -- where memory is refused nothing changes
  pub refused : w ≡ x.now → IsStanding inside.queues inside.semaphores inside.descriptions.rows after × (the_view (record inside { objects = after }) ≡ t)
  refused same =
      let has = part_same part o inside.objects after r value x w is same holds in
      (unchanged_stands inside after has stood, seen inside inside.sessions _ after has ∙ was)

-- a withdrawal, where the session was parked
pub after_withdrawal_is : (t : TablesView) (sid : Sid) (o : ℕ) (ss : List Session) (cs : List ObjectRow) → parked_on_at t.sessions sid.0 ≡ Some o → ss ≡ changed (with_parked None) t.sessions sid.0 → cs ≡ changed_first (is_number o) (with_withdrawal sid) t.objects → record t { sessions = ss; objects = cs } ≡ after_withdrawal t sid
after_withdrawal_is t sid o ss cs parked one two = rw (parked, one, two) refl

changed_is : (xs : List Session) (s : ℕ) → parked_on_at (changed (with_parked None) xs s) s ≡ None
changed_is [] s = refl
changed_is (x ∷ xs) zero = refl
changed_is (x ∷ xs) (suc s) = changed_is xs s

-- whose call was withdrawn isn't parked
pub withdrawn_unparked : (t : TablesView) (sid : Sid) → parked_on_at (after_withdrawal t sid).sessions sid.0 ≡ None
withdrawn_unparked t sid = by (parked_on_at t.sessions sid.0) refl where
  by : (w : Option ℕ) → parked_on_at t.sessions sid.0 ≡ w → parked_on_at (after_withdrawal t sid).sessions sid.0 ≡ None
  by None e = rw e e
  by (Some o) e = rw e (changed_is t.sessions sid.0)
