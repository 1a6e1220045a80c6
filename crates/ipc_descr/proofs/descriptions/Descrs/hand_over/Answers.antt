use Rattle.std.proofs.Common.{◌≡◌, Bool, true, false, not, ℕ, IsSome, refl, sym, ap, subst, ◌∙◌}
use Rattle.std.proofs.lemmas.Bool.{eqb-true}
use Rattle.ipc_descr.specs.Descriptions.{row_of}
use Rattle.ipc_descr.proofs.PassingLemmas.{unpassed}
use Rattle.ipc_descr.proofs.descriptions.Descrs.hand_over.Goals as goal

not_other : (b : Bool) → not b ≡ false → b ≡ true
not_other true e = refl
not_other false e = absurd cc

pub returns-else-ne-clause-ok : goal.returns-else-ne-clause-ok
returns-else-ne-clause-ok c =
    let same : c.args.sid.0 ≡ c.args.taker.0 = eqb-true _ _ (not_other _ (sym c.ne.ensures ∙ c.if-ne.false)) in
    let some = subst (λ (s : ℕ). IsSome (row_of c.args.self.now.rows s c.args.desc.0)) same c.requires in
    ap (λ rows. record { rows = rows; opened = c.args.self.now.opened }) (sym (unpassed c.args.self.now.rows c.args.desc.0 c.args.taker some))
