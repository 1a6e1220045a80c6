use Rattle.std.proofs.Common.{◌≡◌, Some, Ok, length, arith}
use Rattle.std.proofs.lemmas.Result.{err_from_is_err_and}
use Rattle.ipc_fields.specs.Field.{◌⊕◌}
use Rattle.ipc_fields.proofs.Many.{puts_on}
use Rattle.ipc_log.specs.Fields.{head_field}
use Rattle.ipc_log.specs.Trail.{magic, spell_head}
use Rattle.ipc_log.proofs.WritingLemmas.{sum_put, summed_lacks}
use Rattle.ipc_log.proofs.head.put_summed.Goals as goal

pub returns-in_err-put_fields-clause-puts : goal.returns-in_err-put_fields-clause-puts
unfolding spell_head
returns-in_err-put_fields-clause-puts c =
    let p = err_from_is_err_and c.from_residual-in_err-put_fields.result c.from_residual-in_err-put_fields.ensures.1 in
    rw (p.1, p.2) (summed_lacks c.in_err-put_fields.field-0.0 magic (head_field.spell c.args.head.now) c.in_err-put_fields.ensures.puts)

pub returns-clause-puts : goal.returns-clause-puts
unfolding spell_head
returns-clause-puts c =
    let old = c.args.out.now.items in
    let full = c.put_fields.new.out.items in
    let fields = head_field.spell c.args.head.now in
    let start : c.len-start.result ≡ length old = omega (arith, c.len-start.ensures, c.args.out.now.ok.0) in
    let put = puts_on {X = Unit {0}} old c.put_bytes.new.out.items full (Ok tt) (Some magic) fields c.in_ok-put_bytes.ensures.puts c.in_ok-put_fields.ensures.puts in
    sum_put old full c.put_sum.new.out.items c.len-start.result (Some magic ⊕ fields) c.put_sum.result start put c.put_sum.ensures.puts
