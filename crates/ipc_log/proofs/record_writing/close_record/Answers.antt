use Rattle.std.proofs.Common.{◌≡◌, ◌+◌, ◌≤◌, ◌-◌, length, sym, take, drop, arith}
use Rattle.std.proofs.lemmas.List.{take-append-drop, length-take, length-drop}
use Rattle.ipc_log.specs.Trail.{max_length}
use Rattle.ipc_log.proofs.WritingLemmas.{close_put, set_begins}
use Rattle.ipc_log.proofs.record_writing.close_record.Goals as goal

pub returns-then-len-gt-MAX_BODY-clause-begins : goal.returns-then-len-gt-MAX_BODY-clause-begins
returns-then-len-gt-MAX_BODY-clause-begins c = record {
  more = drop c.args.start c.args.out.now.items;
  parts = sym (take-append-drop c.args.start c.args.out.now.items);
}

pub returns-clause-puts : goal.returns-clause-puts
returns-clause-puts c =
    let old = c.args.out.now.items in
    let at = c.args.start + 8 in
    let body = drop at old in
    let front : length (take c.args.start old) + 8 ≡ at = omega (arith, length-take c.args.start old, c.requires, c.args.out.now.ok.0) in
    let len : c.len.result - at ≡ length body = omega (arith, length-drop at old, c.len.ensures, c.args.out.now.ok.0) in
    let small : c.len.result - at ≤ max_length = omega (arith, c.if-len-gt-MAX_BODY.false) in
    close_put (take c.args.start old) body c.set_prefix.new.out.items c.put_sum.new.out.items (c.len.result - at) at c.put_sum.result c.set_prefix.ensures front len small c.put_sum.ensures.puts

pub returns-clause-begins : goal.returns-clause-begins
returns-clause-begins c = set_begins (take c.args.start c.args.out.now.items) (drop (c.args.start + 8) c.args.out.now.items) c.set_prefix.new.out.items c.put_sum.new.out.items (c.len.result - (c.args.start + 8)) c.set_prefix.ensures c.put_sum.ensures.begins
