use Rattle.std.proofs.lemmas.Result.{err_from_is_err_and}
use Rattle.ipc_history.specs.Incoming.{incoming}
use Rattle.ipc_history.proofs.PastLemmas.{steps_more, steps_to_end, steps_to_fault, steps_to_other}
use Rattle.ipc_history.proofs.past.Past.read_records.Goals as goal

pub returns-in_err-next-clause-reads : goal.returns-in_err-next-clause-reads
returns-in_err-next-clause-reads g c =
    let given = err_from_is_err_and c.from_residual.result c.from_residual.ensures.1 in
    rw (given.1, given.2) (steps_to_fault c.args.self.now c.loop.self c.in_err-next.field-0.0
    (incoming g.R.Read.remaining c.args.reader.now) (incoming g.R.Read.remaining c.loop.reader) (incoming g.R.Read.remaining c.next_record.new.self)
    c.loop.invariant.reads (rw c.place.ensures at c.in_err-next.ensures.fault))

pub returns-in_default-clause-reads : goal.returns-in_default-clause-reads
returns-in_default-clause-reads g c =
    steps_to_end c.args.self.now c.loop.self
    (incoming g.R.Read.remaining c.args.reader.now) (incoming g.R.Read.remaining c.loop.reader) (incoming g.R.Read.remaining c.next_record.new.self)
    c.loop.invariant.reads (rw (c.place.ensures, c.in_default.is) at c.in_ok-next.ensures.next)

pub returns-in_err-step-clause-reads : goal.returns-in_err-step-clause-reads
returns-in_err-step-clause-reads g c =
    let given = err_from_is_err_and c.from_residual-in_err-step.result c.from_residual-in_err-step.ensures.1 in
    rw (given.1, given.2, c.in_err-step.ensures.err) (steps_to_other c.args.self.now c.loop.self c.in-Some.next c.in_err-step.field-0.0
    (incoming g.R.Read.remaining c.args.reader.now) (incoming g.R.Read.remaining c.loop.reader) (incoming g.R.Read.remaining c.next_record.new.self)
    c.in_err-step.ensures.fault c.loop.invariant.reads (rw (c.place.ensures, c.in-Some.is) at c.in_ok-next.ensures.next))

pub loop-preserved : goal.loop-preserved
loop-preserved g c = record {
  reads = steps_more c.args.self.now c.loop.self c.step.new.self c.in-Some.next
      (incoming g.R.Read.remaining c.args.reader.now) (incoming g.R.Read.remaining c.loop.reader) (incoming g.R.Read.remaining c.next_record.new.self)
      c.in_ok-step.ensures.ok c.loop.invariant.reads (rw (c.place.ensures, c.in-Some.is) at c.in_ok-next.ensures.next);
  bounded = λ within. c.in_ok-next.ensures.bounded (c.loop.invariant.bounded within);
}
