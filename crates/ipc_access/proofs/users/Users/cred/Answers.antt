use Rattle.std.proofs.Common.{rules, arith, ◌≡◌, ◌∙◌, sym, ap, Some, None, slice_get}
use Rattle.std.proofs.lemmas.Option.{gets}
use Rattle.std.proofs.lemmas.Grind.{common_steps}
use Rattle.std.specs.Option.{option_map}
use Rattle.ipc_access.specs.declared.users.User.{User}
use Rattle.ipc_access.proofs.PlaceLemmas.{cred_at}
use Rattle.ipc_access.proofs.users.Users.cred.Goals as goal

pub returns-in_err-place : goal.returns-in_err-place
returns-in_err-place c = rw (← c.self.view_is, cred_at c.self.inside.ids _ c.args.uid None c.self.invariant.ids_are c.in_err-place.ensures) (search rules)

pub returns : goal.returns
returns c =
    let here : slice_get c.self.inside.rows.items c.in_ok-place.place ≡ Some c.in_ok-user.user.now = grind (arith, common_steps, gets) in
    rw (← c.self.view_is) (sym (cred_at c.self.inside.ids _ c.args.uid _ c.self.invariant.ids_are c.in_ok-place.ensures ∙ ap (option_map (λ (user : User). user.cred)) here))
