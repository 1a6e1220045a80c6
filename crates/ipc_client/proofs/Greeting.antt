-- A hello with a short key has a frame.
use Rattle.std.proofs.Common.{◌≡◌, ℕ, ◌≤◌, ◌^◌, true, nat_lt, List, ◌∷◌, ◌++◌, length, None, Some, refl, sym, ap, ◌∙◌, arith}
use Rattle.std.specs.Int.{w16, to_be_bytes}
use Rattle.std.proofs.lemmas.Bool.{lt-ltb}
use Rattle.std.proofs.lemmas.List.{length-append}
use Rattle.ipc_fields.specs.Field.{text}
use Rattle.ipc_fields.specs.Frame.{frame, framed}
use Rattle.ipc_fields.proofs.FramingLemmas.{framed_is}
use Rattle.ipc_wire.specs.Requests.{request_with, request_body}
use Rattle.ipc_wire.specs.Streams.{spell}
use Rattle.ipc_wire.specs.declared.request.Request.TheVariants as request

text_is : (t : List ℕ) → length t ≤ 65535 → text.spell t ≡ Some (to_be_bytes w16 (length t) ++ t)
unfolding text
text_is t short =
    let small : nat_lt (length t) (2 ^ 16) ≡ true = lt-ltb _ _ (omega arith) in
    rw small refl

body_is : (key : List ℕ) → length key ≤ 65535 → request_body (request.Hello key) ≡ Some (1 ∷ (to_be_bytes w16 (length key) ++ key))
unfolding request_body request_with
body_is key short = rw (text_is key short) refl

clash : (t : List ℕ) → None ≡ Some t → ⊥
clash t e = absurd cc

pub hello_spelled : (key : List ℕ) → length key ≤ 65535 → spell (request.Hello key) ≡ None → ⊥
hello_spelled key short none =
    let body : List ℕ = 1 ∷ (to_be_bytes w16 (length key) ++ key) in
    let size = length-append (to_be_bytes w16 (length key)) key in
    clash (frame body) (sym none ∙ ap framed (body_is key short) ∙ framed_is body (omega arith))
