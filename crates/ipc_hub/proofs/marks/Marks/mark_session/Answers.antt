use Rattle.std.proofs.Common.{◌≡◌, ◌∙◌, ℕ, [], ◌∷◌, Bool, true, false, Option, Some, refl, sym, ap, subst}
use Rattle.std.specs.Option.{option_to_list}
use Rattle.ipc_terms.specs.declared.ids.Sid.{Sid}
use Rattle.ipc_hub.specs.Marking.{is_set, owner_of, MarksView, MarksOwners}
use Rattle.ipc_hub.proofs.MarkLemmas.{owner_marked, unflagged_owner}
use Rattle.ipc_hub.proofs.marks.Marks.mark_session.Goals as goal

pub returns-in-Some-owner_of : goal.returns-in-Some-owner_of
returns-in-Some-owner_of c = subst (λ (w : Option Sid). MarksOwners m (option_to_list w) c.mark.new.self) (sym c.in-Some.is) (by (is_set m.flagged i) refl) where
  m : MarksView
  m = c.args.self.now

  i : ℕ
  i = c.in-Some-owner_of.connection

  own : owner_of m.owners c.in-Some.sid.0 ≡ Some i
  own = ap (λ (z : MarksView). owner_of z.owners c.in-Some.sid.0) (sym c.self.view_is) ∙ sym c.owner_of.ensures ∙ c.in-Some-owner_of.is

  by : (b : Bool) → is_set m.flagged i ≡ b → MarksOwners m (c.in-Some.sid ∷ []) c.mark.new.self
  by true may = subst (λ (n : MarksView). MarksOwners m (c.in-Some.sid ∷ []) n) (sym (c.mark.ensures.kept may)) (owner_marked m c.in-Some.sid i own (c.mark.ensures.within may))
  by false none = subst (λ (n : MarksView). MarksOwners m (c.in-Some.sid ∷ []) n) (sym (c.mark.ensures.none none)) (unflagged_owner m c.in-Some.sid i own none)
