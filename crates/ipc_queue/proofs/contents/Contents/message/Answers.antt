use Rattle.std.proofs.Common.{◌≡◌, List, [], ◌∷◌, Option, Some, None, refl, sym, ap, ◌∙◌, slice_get}
use Rattle.std.specs.Option.{unwrap_or}
use Rattle.ipc_containers.specs.Buckets.{bucket_of, Holds}
use Rattle.ipc_queue.specs.declared.queue.Ticket.{Ticket}
use Rattle.ipc_queue.specs.Contents.{present, of_priority}
use Rattle.ipc_queue.proofs.contents.Contents.message.Goals as goal

unwrapped : (xs : List Ticket) → unwrap_or (bucket_of xs) [] ≡ xs
unwrapped [] = refl
unwrapped (x ∷ xs) = refl

pub returns : goal.returns
unfolding Holds
returns c =
    let tickets = present c.self.inside.past.value in
    c.item.ensures ∙ ap (λ o. slice_get (unwrap_or o []) c.args.index) (c.self.invariant.0.1 c.args.priority) ∙ ap (λ xs. slice_get xs c.args.index) (unwrapped (of_priority c.args.priority tickets)) ∙ ap (λ ts. slice_get (of_priority c.args.priority ts) c.args.index) c.self.view_is
