use Rattle.std.proofs.Common.{◌≡◌, ◌+◌, ◌-◌, ◌++◌, length, take, drop, ap, ◌∙◌, arith}
use Rattle.std.specs.Prelude.{reverse, min, max}
use Rattle.ipc_terms.specs.Lines.{lines}
use Rattle.ipc_terms.specs.Pages.{page}
use Rattle.ipc_trail.specs.Log.{Log}
use Rattle.ipc_trail.specs.Gone.{gone_records}
use Rattle.ipc_trail.specs.Receipts.{lines_from}
use Rattle.ipc_trail.proofs.Paging.{kept_page, bounded}
use Rattle.ipc_trail.proofs.trail.Trail.page.Goals as goal

pub returns : goal.returns
returns c =
    let xs = c.self.inside.records.items in
    let gone = gone_records c.self.inside.gone.value in
    let f = c.self.inside.first in
    let n = max c.args.start f - f in
    let m = min c.args.count 1000 in
    let cut = c.self.invariant.0 in
    let kept : c.len-kept.result ≡ length xs = (let a = c.len-kept.ensures in let b = c.self.invariant.2 in omega (arith, a, b)) in
    let skipped : c.min-skipped.result ≡ min n (length xs) = omega (arith, kept, c.min-skipped.ensures, c.max.ensures) in
    let asked : c.min-asked.result ≡ min (length xs - min n (length xs)) m = omega (arith, kept, skipped, c.min-asked.ensures, c.min.ensures) in
    let place : length gone + n ≡ max c.args.start c.args.self.now.first = (let same : f ≡ c.args.self.now.first = ap (λ (t : Log). t.first) c.self.view_is in omega (arith, same, cut)) in
    c.new.ensures
    ∙ c.in_ok-lines_from.ensures
    ∙ ap (λ k. lines_from (f + k) (take c.min-asked.result (drop k xs))) skipped
    ∙ ap (λ k. lines_from (f + min n (length xs)) (take k (drop (min n (length xs)) xs))) asked
    ∙ bounded xs f n m
    ∙ ap (λ k. lines_from (k + n) (take m (drop n xs))) cut
    ∙ kept_page xs gone n c.args.count
    ∙ ap (λ k. page k c.args.count (lines (reverse xs ++ gone))) place
    ∙ ap (λ (t : Log). page (max c.args.start c.args.self.now.first) c.args.count (lines t.history)) c.self.view_is
