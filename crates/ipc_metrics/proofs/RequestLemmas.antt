-- What a whole head asks for.
use Rattle.std.proofs.Common.{◌≡◌, ◌∙◌, ℕ, ◌≤◌, Bool, true, false, cond, List, length, take, drop, refl, sym, ap, ap₂, arith}
use Rattle.std.proofs.lemmas.List.{length-map, length-take}
use Rattle.std.specs.Str.{bytes_eq}
use Rattle.std.specs.Prelude.{codes}
use Rattle.httparse.specs.Grammar.{Field}
use Rattle.httparse.specs.Spans.{AreFieldsAt, IsRequestOf, header_bytes, name_and_value, span_bytes}
use Rattle.httparse.specs.declared.spans.HeaderSpan.{HeaderSpan}
use Rattle.httparse.specs.declared.spans.RequestSpans.{RequestSpans}
use Rattle.ipc_metrics.specs.Requests.{Asks, HeadAsks, asked_for, is_page}
use Rattle.ipc_metrics.specs.declared.asked.Asked.{Asked}
use Rattle.ipc_metrics.specs.declared.asked.Asked.TheVariants.{Unfinished, Page, PageHead, OtherPath, OtherPathHead, OtherMethod, Malformed, TooLong}

-- the answer is one to a whole head
abbrev pub is_of_head : Asked → Bool
is_of_head Unfinished = false
is_of_head Malformed = false
is_of_head TooLong = false
is_of_head _ = true

of_choice : (get head page : Bool)
    → is_of_head (cond get (cond page Page OtherPath) (cond head (cond page PageHead OtherPathHead) OtherMethod)) ≡ true
of_choice true head true = refl
of_choice true head false = refl
of_choice false true true = refl
of_choice false true false = refl
of_choice false false page = refl

of_head : (method target : List ℕ) → is_of_head (asked_for method target) ≡ true
of_head method target = of_choice (bytes_eq method (codes "GET")) (bytes_eq method (codes "HEAD")) (is_page target)

no_head : (asked : Asked) (bytes : List ℕ) → is_of_head asked ≡ false → HeadAsks bytes asked → ⊥
no_head asked bytes none (h, rest, reads, few, e) = let k : false ≡ true = sym none ∙ ap is_of_head e ∙ of_head h.method h.target in cc

asks_of_head : (bytes : List ℕ) (asked : Asked) → HeadAsks bytes asked → Asks bytes asked
asks_of_head bytes Unfinished found = absurd (no_head Unfinished bytes refl found)
asks_of_head bytes Page found = found
asks_of_head bytes PageHead found = found
asks_of_head bytes OtherPath found = found
asks_of_head bytes OtherPathHead found = found
asks_of_head bytes OtherMethod found = found
asks_of_head bytes Malformed found = absurd (no_head Malformed bytes refl found)
asks_of_head bytes TooLong found = absurd (no_head TooLong bytes refl found)

-- spans cover no more fields than there are spans
few_fields : (bytes : List ℕ) (headers : List HeaderSpan) (count : ℕ) (fields : List Field) → AreFieldsAt bytes headers count fields
    → length fields ≤ length headers
few_fields bytes headers count fields same =
    let all = ap length same in
    let spans = length-map (take count headers) (header_bytes bytes) in
    let shown = length-map fields name_and_value in
    omega (arith, all, spans, shown, length-take count headers)

-- what the parts of a head that the parser found ask for
pub asks_of_parts : (bytes : List ℕ) (headers : List HeaderSpan) (spans : RequestSpans) → length headers ≡ 32 → IsRequestOf bytes headers spans
    → (method target : List ℕ) → method ≡ span_bytes bytes spans.method → target ≡ span_bytes bytes spans.path
    → (asked : Asked) → asked ≡ asked_for method target → Asks bytes asked
asks_of_parts bytes headers spans room (h, is) method target m t asked e =
    let few : length h.fields ≤ 32 = omega (arith, few_fields bytes headers spans.headers h.fields is.fields) in
    asks_of_head bytes asked (h, drop spans.len bytes, is.reads, few, e ∙ ap₂ asked_for (m ∙ is.method) (t ∙ is.path))
