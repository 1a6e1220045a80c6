use Rattle.std.proofs.Common.{ℕ, ◌<◌, ◌∷◌, [], take, arith, sym, subst}
use Rattle.std.specs.declared.io.ErrorKind.{ErrorKind}
use Rattle.ipc_loop.specs.Moves.{GoOn, LinkGave, GaveNothing}
use Rattle.ipc_loop.proofs.ServingLemmas.{ends_serve, unread_serve, piece_serve, not_end, waits_gave_none}
use Rattle.ipc_loop.proofs.PortionLemmas.{same_portion}
use Rattle.ipc_loop.proofs.OfferingLemmas.{gave_reads, refused_reads}
use Rattle.ipc_loop.proofs.UndoneLemmas.{same_undone}
use Rattle.ipc_loop.proofs.port.Port.read.Goals as goal

pub returns-then-count-eq0-clause-serves : goal.returns-then-count-eq0-clause-serves
returns-then-count-eq0-clause-serves g c =
    ends_serve _ _ _ _ _ _ (subst (λ (n : ℕ). GoOn (g.H.Host.moves c.args.host.now) (g.H.Host.moves c.read.new.self) (LinkGave c.args.number (take n c.read.new.buffer) ∷ [])) c.if-count-eq0.true c.in-Ok.ensures.moved) c.end.ensures.left c.end.ensures.ended

pub returns-else-count-eq0-clause-serves : goal.returns-else-count-eq0-clause-serves
returns-else-count-eq0-clause-serves g c =
    let some : 0 < c.in-Ok.count = omega arith in
    piece_serve _ _ _ _ _ c.args.self.now c.feed.new.self _ c.in-Ok.ensures.moved (not_end c.in-Ok.count c.read.new.buffer some c.in-Ok.ensures.bound.0) c.requires c.feed.ensures.fed

pub returns-in-Err-clause-serves : goal.returns-in-Err-clause-serves
returns-in-Err-clause-serves g c =
    unread_serve _ _ _ _ _ _ c.kind.result (subst (λ (kind : ErrorKind). GoOn (g.H.Host.moves c.args.host.now) (g.H.Host.moves c.read.new.self) (GaveNothing c.args.number kind ∷ [])) (sym c.kind.ensures) c.in-Err.ensures.moved) c.note_unread.ensures.left c.note_unread.ensures.fault c.note_unread.ensures.other

pub returns-in-Err-clause-more : goal.returns-in-Err-clause-more
returns-in-Err-clause-more g c = λ before byte bytes was now. absurd (waits_gave_none c.args.number _ _ _ c.in-Err.ensures.moved before byte bytes was now)

pub returns-then-count-eq0-clause-steps : goal.returns-then-count-eq0-clause-steps
returns-then-count-eq0-clause-steps g c = same_portion _ _ _ _ _ c.end.ensures.left

pub returns-in-Err-clause-steps : goal.returns-in-Err-clause-steps
returns-in-Err-clause-steps g c = same_portion _ _ _ _ _ c.note_unread.ensures.left

pub returns-then-count-eq0-clause-asks : goal.returns-then-count-eq0-clause-asks
returns-then-count-eq0-clause-asks g c = gave_reads c.args.number _ _ _ _ c.in-Ok.ensures.moved

pub returns-else-count-eq0-clause-asks : goal.returns-else-count-eq0-clause-asks
returns-else-count-eq0-clause-asks g c = gave_reads c.args.number _ _ _ _ c.in-Ok.ensures.moved

pub returns-in-Err-clause-asks : goal.returns-in-Err-clause-asks
returns-in-Err-clause-asks g c = refused_reads c.args.number _ _ _ _ c.in-Err.ensures.moved

pub returns-then-count-eq0-clause-undone : goal.returns-then-count-eq0-clause-undone
returns-then-count-eq0-clause-undone g c = same_undone c.args.number c.args.hub.now

pub returns-in-Err-clause-undone : goal.returns-in-Err-clause-undone
returns-in-Err-clause-undone g c = same_undone c.args.number c.args.hub.now
