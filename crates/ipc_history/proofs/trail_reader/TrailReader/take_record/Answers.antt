use Rattle.ipc_history.specs.Incoming.{waiting}
use Rattle.ipc_history.proofs.BoundLemmas.{record_awaited}
use Rattle.ipc_history.proofs.trail_reader.TrailReader.take_record.Goals as goal

pub returns-in-Ok-None-clause-short : goal.returns-in-Ok-None-clause-short
returns-in-Ok-None-clause-short g c = record_awaited c.args.place (waiting c.args.self.now) (rw (c.deref.ensures.value, c.in-Ok-None.field-0-is) at c.in-Ok-None.ensures.finds)
