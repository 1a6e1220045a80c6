use Rattle.std.proofs.Common.{rules, arith}
use Rattle.ipc_book.specs.Closing.{IsInTrail}
use Rattle.ipc_book.proofs.Counts.{standing_within, counted_hit, counted_miss}
use Rattle.ipc_book.proofs.close.note.Goals as goal

pub returns-then-not-stands-clause-counted : goal.returns-then-not-stands-clause-counted
returns-then-not-stands-clause-counted c ks h =
    counted_miss c.args.core.now.history c.args.counts.now ks c.args.entry.now (search rules) h

pub bounds-counts-at : goal.bounds-counts-at
bounds-counts-at c =
    let s : IsInTrail c.args.core.now.history c.args.entry.now = search rules in
    omega (arith, standing_within c.args.core.now.history c.args.entry.now s)

pub bounds-counts-at-2 : goal.bounds-counts-at-2
bounds-counts-at-2 c =
    let s : IsInTrail c.args.core.now.history c.args.entry.now = search rules in
    omega (arith, standing_within c.args.core.now.history c.args.entry.now s)

pub returns-clause-counted : goal.returns-clause-counted
returns-clause-counted c ks h =
    let s : IsInTrail c.args.core.now.history c.args.entry.now = search rules in
    counted_hit c.args.core.now.history c.args.counts.now ks c.args.entry.now c.up.result c.requires.counts s c.up.ensures h
