use Rattle.std.proofs.Common.{rules, ◌≡◌, sym, subst}
use Rattle.ipc_book.specs.Closing.{Counted, all_kept, FirstMissing}
use Rattle.ipc_book.proofs.Counts.{closes_by, misses_here, misses_past}
use Rattle.ipc_book.proofs.close.audit.Goals as goal

pub returns-in-Some-clause-missing : goal.returns-in-Some-clause-missing
returns-in-Some-clause-missing g c p e =
    let log = c.args.core.now.history in
    let counts = c.as_slice.result.now in
    let kept = all_kept c.args.seats.now.items in
    let counted : Counted log counts kept = subst (λ v. Counted log v kept) (sym c.as_slice.ensures.value) c.in-Ok.ensures.counted in
    let q : c.in-Some.p ≡ p = cc in
    subst (FirstMissing log kept) q (misses_here log counts kept c.in-Some.p (search rules) counted c.in-Some.ensures.some.0 c.in-Some.ensures.some.1 c.in-Some.ensures.some.2)

pub returns-in-None-clause-ok : goal.returns-in-None-clause-ok
returns-in-None-clause-ok g c =
    let log = c.args.core.now.history in
    let counts = c.as_slice.result.now in
    let kept = all_kept c.args.seats.now.items in
    let counted : Counted log counts kept = subst (λ v. Counted log v kept) (sym c.as_slice.ensures.value) c.in-Ok.ensures.counted in
    closes_by log counts c.args.seats.now.items (search rules) counted (c.first_amiss.ensures.none c.in-None.is) (c.in-Ok.ensures.stand c.if-all.true) c.in-Ok.ensures.order

pub returns-clause-missing : goal.returns-clause-missing
returns-clause-missing g c p e =
    let log = c.args.core.now.history in
    let counts = c.as_slice.result.now in
    let kept = all_kept c.args.seats.now.items in
    let counted : Counted log counts kept = subst (λ v. Counted log v kept) (sym c.as_slice.ensures.value) c.in-Ok.ensures.counted in
    let q : c.len.result ≡ p = cc in
    subst (FirstMissing log kept) q (misses_past log counts kept c.len.result (search rules) counted (search rules) (c.first_amiss.ensures.none c.in-None.is) (c.in-Ok.ensures.fall c.if-all.false))
