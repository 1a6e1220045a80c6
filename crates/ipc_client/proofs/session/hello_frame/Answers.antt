use Rattle.std.proofs.Common.{◌∙◌, ◌≤◌, ap, sym, subst, length, Err}
use Rattle.ipc_client.proofs.Greeting.{hello_spelled}
use Rattle.ipc_client.proofs.session.hello_frame.Goals as goal

pub unreachable-requires : goal.unreachable-requires
unreachable-requires c =
    let key = c.in_ok-from_slice.ensures in
    hello_spelled _ (subst (λ k. length k ≤ 65535) (sym key) c.requires.short_key) (c.write_request.ensures.too_long (c.in-Err-TooLong.is ∙ ap Err c.in-Err-TooLong.field-0-is))
