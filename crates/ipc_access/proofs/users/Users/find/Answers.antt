use Rattle.std.proofs.Common.{rules, arith, ◌≡◌, ◌∙◌, sym, ap, Some, None, slice_get}
use Rattle.std.proofs.lemmas.Option.{gets}
use Rattle.std.proofs.lemmas.Grind.{common_steps}
use Rattle.std.specs.Option.{option_map}
use Rattle.ipc_access.specs.declared.users.User.{User}
use Rattle.ipc_access.proofs.PlaceLemmas.{user_at}
use Rattle.ipc_access.proofs.users.Users.find.Goals as goal

pub returns-in_err-place : goal.returns-in_err-place
returns-in_err-place c = rw (← c.self.view_is, user_at c.self.inside.keys _ c.args.key.now None c.self.invariant.keys_are c.in_err-place.ensures) (search rules)

pub returns : goal.returns
returns c =
    let here : slice_get c.self.inside.rows.items c.in_ok-place.place ≡ Some c.in_ok-user.user.now = grind (arith, common_steps, gets) in
    rw (← c.self.view_is) (sym (user_at c.self.inside.keys _ c.args.key.now _ c.self.invariant.keys_are c.in_ok-place.ensures ∙ ap (option_map (λ (user : User). user.cred.uid)) here))
