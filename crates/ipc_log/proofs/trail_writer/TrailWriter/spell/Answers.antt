use Rattle.std.proofs.Common.{◌≡◌, ◌<◌, length, Some, None, refl, sym, arith}
use Rattle.ipc_terms.specs.History.{record_at}
use Rattle.ipc_log.proofs.PendingLemmas.{record_there, kept_record, one_spelled, long_enough}
use Rattle.ipc_log.proofs.trail_writer.TrailWriter.spell.Goals as goal

pub unreachable-requires : goal.unreachable-requires
unreachable-requires c =
    let place = c.loop-self.self-inside.spelled in
    let history = c.args.trail.now.history in
    let below : place < length history = rw c.len-recorded.ensures.count at c.loop-self-test.true in
    record_there history place ⊥ below (sym (kept_record c.args.trail.now.first place history None c.loop-self.invariant.kept (rw c.in_default.is at c.get.ensures)))

pub loop-self-preserved : goal.loop-self-preserved
loop-self-preserved c =
    let inside = c.loop-self.self-inside in
    let history = c.args.trail.now.history in
    let found : record_at inside.spelled history ≡ Some c.in-Some.next.now = sym (kept_record c.args.trail.now.first inside.spelled history (Some c.in-Some.next.now) c.loop-self.invariant.kept (rw c.in-Some.is at c.get.ensures)) in
    record {
      spells = one_spelled history c.args.self.now _ _ inside.text.items c.put_record.new.out.items inside.written c.in-Some.next.now c.loop-self.invariant.spells refl c.loop-self.invariant.within found c.in_ok-put_record.ensures.put refl refl;
      within = long_enough inside.text.items c.put_record.new.out.items _ inside.written c.loop-self.invariant.within c.in_ok-put_record.ensures.put;
      kept = (let kept = c.loop-self.invariant.kept in omega arith);
    }
