use Rattle.std.proofs.Common.{ℕ, ◌+◌, ◌-◌, length, ap, ◌∙◌}
use Rattle.std.specs.Prelude.{min, ◌^◌}
use Rattle.ipc_loop.specs.Ports.{Port}
use Rattle.ipc_loop.specs.Requests.{requests_among}
use Rattle.ipc_loop.proofs.ServingLemmas.{fed_port}
use Rattle.ipc_loop.proofs.PortionLemmas.{fed_portion}
use Rattle.ipc_loop.proofs.RequestLemmas.{feed_counts}
use Rattle.ipc_loop.proofs.UndoneLemmas.{fed_undone}
use Rattle.ipc_loop.proofs.port.Port.feed.Goals as goal

pub returns-clause-fed : goal.returns-clause-fed
returns-clause-fed c = fed_port _ _ _ c.args.self.now c.note_fed.new.self _ c.feed_piece-fed.result c.requires c.feed_piece-fed.ensures.ok c.feed_piece-fed.ensures.err c.note_fed.ensures.err c.note_fed.ensures.over (λ e is. c.note_fed.ensures.why e (ap (λ (p : Port). p.ending) c.count.ensures ∙ c.requires) is) (c.note_fed.ensures.left ∙ ap (λ (p : Port). p.left) c.count.ensures)

pub returns-clause-steps : goal.returns-clause-steps
returns-clause-steps c = fed_portion _ _ _ _ c.args.self.now c.note_fed.new.self c.args.piece.now c.feed_piece-fed.result c.feed_piece-fed.ensures.ok c.feed_piece-fed.ensures.bound c.feed_piece-fed.ensures.err (c.note_fed.ensures.left ∙ ap (λ (p : Port). p.left) c.count.ensures)

pub returns-clause-counted : goal.returns-clause-counted
returns-clause-counted c =
    let counted = ap (λ (before : ℕ). min (c.args.self.now.requests + requests_among (length c.feed_piece-fed.new.hub.core.history - before) c.feed_piece-fed.result) (2 ^ 64 - 1)) c.recorded-before.ensures in
    (_, c.note_fed.ensures.requests ∙ ap (λ (p : Port). p.requests) c.count.ensures ∙ counted, feed_counts c.args.number _ _ c.args.piece.now c.feed_piece-fed.result c.feed_piece-fed.ensures.ok c.feed_piece-fed.ensures.err)

pub returns-clause-undone : goal.returns-clause-undone
returns-clause-undone c = fed_undone c.args.number _ _ c.args.piece.now c.feed_piece-fed.result c.feed_piece-fed.ensures.ok c.feed_piece-fed.ensures.err
