use Rattle.std.proofs.Common.{◌≡◌, ℕ, Some, take, drop, ap, subst, ◌∙◌}
use Rattle.std.proofs.lemmas.List.{take-append-drop}
use Rattle.ipc_fields.specs.Field.{u32}
use Rattle.ipc_fields.specs.Given.{Puts}
use Rattle.ipc_fields.proofs.Many.{puts_on}
use Rattle.ipc_log.specs.Checksum.{crc32c}
use Rattle.ipc_log.specs.Summed.{sum_of}
use Rattle.ipc_log.proofs.summed.put_sum.Goals as goal

pub returns-clause-puts : goal.returns-clause-puts
returns-clause-puts c =
    let old = c.args.out.now.items in
    let new = c.put_u32.new.out.items in
    let text = drop c.args.start old in
    let behind : c.split_at.result.1.now ≡ text = c.split_at.ensures.back ∙ ap (drop c.args.start) c.deref.ensures.value in
    let sum : c.crc32c-sum.result ≡ crc32c text = c.crc32c-sum.ensures ∙ ap crc32c behind in
    let put : Puts old new c.put_u32.result (Some (sum_of text)) = subst (λ (n : ℕ). Puts old new c.put_u32.result (u32.spell n)) sum c.put_u32.ensures.puts in
    puts_on (take c.args.start old) old new c.put_u32.result (Some text) (Some (sum_of text)) (ap Some (take-append-drop c.args.start old)) put
