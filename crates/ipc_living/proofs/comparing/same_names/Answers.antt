use Rattle.std.proofs.Common.{◌≡◌, ◌<◌, ◌≤◌, ⊎_elim, length, slice_get, sym, ap, ◌∙◌, arith}
use Rattle.std.proofs.lemmas.Bool.{cases_lt}
use Rattle.std.proofs.lemmas.Option.{slice_get_within}
use Rattle.ipc_names.specs.Directory.{Directory}
use Rattle.ipc_living.proofs.comparing.same_names.Goals as goal

pub loop-index-preserved : goal.loop-index-preserved
loop-index-preserved c = λ h h' t t' i x y less p q.
    ⊎_elim (λ (old : i < c.loop-index.index). c.loop-index.invariant h h' t t' i x y old p q)
    (λ (past : c.loop-index.index ≤ i). (let is : i ≡ c.loop-index.index = omega arith in c.same_binding.ensures h h' x y t t' (ap (λ n. slice_get c.names-names.result.now.bindings n) (sym is) ∙ p) (ap (λ n. slice_get c.names-others.result.now.bindings n) (sym is) ∙ q) c.if-not-same_binding.false))
    (cases_lt i c.loop-index.index)

pub returns : goal.returns
returns c = λ h h' t t' yes.
    let a = c.names-names.ensures in
    let b = c.names-others.ensures in
    record {
      facts_are = ap (λ (d : Directory). d.facts) (sym a) ∙ c.same_facts.ensures c.if-not-same_facts.false ∙ ap (λ (d : Directory). d.facts) b;
      count = ap (λ (d : Directory). length d.bindings) (sym a) ∙ sym c.len.ensures ∙ c.if-len.false ∙ c.len-2.ensures ∙ ap (λ (d : Directory). length d.bindings) b;
      each = λ i x y p q. (
          let p' = ap (λ (d : Directory). slice_get d.bindings i) a ∙ p in
          let q' = ap (λ (d : Directory). slice_get d.bindings i) b ∙ q in
          let within = slice_get_within c.names-names.result.now.bindings i x p' in
          let end = c.len-index-end.ensures in
          let past = c.loop-index-test.false in
          c.loop-index.invariant h h' t t' i x y (omega arith) p' q');
    }
