use Rattle.std.proofs.Common.{◌≡◌, ◌+◌, ◌<◌, ℕ, List, [], ◌∷◌, ◌++◌, length, take, drop, get_or, sym, ap, ◌∙◌, arith}
use Rattle.std.proofs.lemmas.List.{take_more, length-take-le, length-drop, get_or-drop}
use Rattle.ipc_terms.specs.Lines.{line_of}
use Rattle.ipc_terms.specs.declared.line.Line.{Line}
use Rattle.ipc_terms.specs.declared.record.Record.{Record}
use Rattle.ipc_trail.specs.Receipts.{lines_from}
use Rattle.ipc_trail.proofs.Paging.{from_push}
use Rattle.ipc_trail.proofs.audit.lines_from.Goals as goal

-- one more record has its line
one_more : (place i : ℕ) (rs : List Record) (r : Record) (was : List Line) (line : Line) → i < length rs → was ≡ lines_from place (take i rs) → line ≡ line_of (place + i) r → r ≡ get_or rs i r → was ++ line ∷ [] ≡ lines_from place (take (i + 1) rs)
one_more place i rs r was line lt known made at =
    ap (λ ls. ls ++ line ∷ []) known
    ∙ ap (λ l. lines_from place (take i rs) ++ l ∷ []) (made ∙ ap (λ n. line_of (place + n) r) (sym here))
    ∙ sym (from_push place (take i rs) r)
    ∙ ap (lines_from place) (ap (λ x. take i rs ++ x ∷ []) at ∙ sym (take_more rs i r lt)) where
      here : length (take i rs) ≡ i
      here = length-take-le i rs (omega arith)

pub loop-index-preserved : goal.loop-index-preserved
loop-index-preserved c =
    let rs = drop c.args.skipped c.args.records.now.items in
    let left = length-drop c.args.skipped c.args.records.now.items in
    let lt : c.loop-index.index < length rs = omega (arith, left, c.requires.there, c.loop-index-test.true) in
    c.in_ok-push.ensures.items ∙ one_more c.args.first c.loop-index.index rs c.in-Some.record.now c.loop-index.lines.items c.in_ok-line_of.field-0 lt c.loop-index.invariant c.in_ok-line_of.ensures (c.in-Some.ensures.lookup ∙ sym (get_or-drop c.args.skipped c.args.records.now.items c.loop-index.index c.in-Some.record.now))
