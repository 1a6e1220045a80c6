use Rattle.std.proofs.Common.{sym, drop}
use Rattle.std.proofs.lemmas.List.{take-append-drop}
use Rattle.ipc_fields.proofs.framing.close_frame.Goals as goal

pub returns-then-body_len-gt-MAX_BODY-clause-begins : goal.returns-then-body_len-gt-MAX_BODY-clause-begins
returns-then-body_len-gt-MAX_BODY-clause-begins c = record {
  more = drop c.args.start c.args.out.now.items;
  parts = sym (take-append-drop c.args.start c.args.out.now.items);
}
