use Rattle.std.proofs.Common.{◌≡◌, Some, Ok, sym, subst}
use Rattle.ipc_log.specs.Given.{Finds}
use Rattle.ipc_log.specs.Trail.{body_front}
use Rattle.ipc_log.proofs.TrailLemmas.{record_behind, found_within}
use Rattle.ipc_log.proofs.record_reading.read_record.Goals as goal

pub returns-clause-within : goal.returns-clause-within
returns-clause-within c =
    let w = c.args.bytes.now in
    let result = c.record_of.result in
    let body : body_front w ≡ Ok (Some c.in-Some.body.now) = rw c.in-Some.is at c.in_ok-body.ensures in
    found_within c.args.place w result (subst (λ read. Finds (λ x. x) result read) (sym (record_behind c.args.place w c.in-Some.body.now body)) c.record_of.ensures)
