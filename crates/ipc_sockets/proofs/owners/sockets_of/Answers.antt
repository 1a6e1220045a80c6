use Rattle.std.proofs.Common.{◌≡◌, ◌∙◌, ◌++◌, ◌∷◌, [], ℕ, ◌+◌, ◌<◌, length, get_or, take, cond, Bool, true, List, ap, sym}
use Rattle.std.proofs.lemmas.List.{take_more}
use Rattle.std.specs.List.{AllZip}
use Rattle.std.specs.Prelude.{not}
use Rattle.ipc_access.specs.declared.users.User.{User}
use Rattle.ipc_sockets.specs.declared.folder.UserSocket.{UserSocket}
use Rattle.ipc_sockets.specs.Owners.{IsOf}
use Rattle.ipc_sockets.proofs.owners.sockets_of.Goals as goal

one_more : {A B : Type 0} (R : A → B → Type 0) (xs : List A) (ys : List B) (x : A) (y : B) → AllZip R xs ys → R x y → AllZip R (xs ++ x ∷ []) (ys ++ y ∷ [])
one_more R [] [] x y all one = (one, tt)
one_more R [] (b ∷ ys) x y all one = absurd all
one_more R (a ∷ xs) [] x y all one = absurd all
one_more R (a ∷ xs) (b ∷ ys) x y all one = (all.0, one_more R xs ys x y all.1 one)

-- a socket more, of the next user
go_on : (users : List User) (i : ℕ) (user : User) (before after : List UserSocket) (socket : UserSocket) (fits : Bool)
    → AllZip IsOf (take i users) before → IsOf user socket → i < length users → user ≡ get_or users i user → fits ≡ true
    → after ≡ cond fits (before ++ socket ∷ []) before → AllZip IsOf (take (i + 1) users) after
go_on users i user before after socket fits all one within found is_there pushed =
    let grown : after ≡ before ++ socket ∷ [] = pushed ∙ ap (λ (b : Bool). cond b (before ++ socket ∷ []) before) is_there in
    let more : take (i + 1) users ≡ take i users ++ user ∷ [] = take_more users i user within ∙ ap (λ (u : User). take i users ++ u ∷ []) (sym found) in
    rw (more, grown) (one_more IsOf (take i users) before user socket all one)

pub loop-user-preserved : goal.loop-user-preserved
loop-user-preserved c =
    go_on c.as_slice-users.result.now c.loop-user.user-index c.user-item.result c.loop-user.sockets.items c.push.new.self.items c.in_ok-socket_of.field-0 _
    c.loop-user.invariant c.in_ok-socket_of.ensures c.loop-user-test.true c.user-item.is (c.is_err.ensures.negation ∙ ap not c.if-is_err.false) c.push.ensures.items
