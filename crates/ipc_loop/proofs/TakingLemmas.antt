-- What taking a connection's answers leaves of the others'.
use Rattle.std.proofs.Common.{◌≡◌, ◌⊎◌, inr, ℕ, Bool, true, false, ◌&&◌, eqb, cond, List, [], set, slice_get, Option, Some, None, refl, sym, ap, subst, ◌∙◌}
use Rattle.std.specs.Prelude.{unwrap_or}
use Rattle.std.specs.Option.{option_map}
use Rattle.std.proofs.lemmas.Bool.{eqb-true, eq-eqb}
use Rattle.ipc_terms.specs.declared.ids.Sid.{Sid}
use Rattle.ipc_terms.specs.declared.call.Answer.{Answer}
use Rattle.ipc_core.specs.CoreView.{CoreView}
use Rattle.ipc_core.proofs.BoxSteps.{taken_elsewhere}
use Rattle.ipc_hub.specs.Hub.{Connection, Hub, IsGone, Takes, core_after_take, untaken_of, untaken, untaken_at, is_over_at}
use Rattle.ipc_hub.specs.Sessions.{EachHasItsOwn}
use Rattle.ipc_hub.proofs.GoneLemmas.{none_left}
use Rattle.ipc_loop.specs.Ports.{Port}
use Rattle.ipc_loop.specs.Portions.{Collects}
use Rattle.ipc_loop.specs.Serving.{LetsGo, is_done}
use Rattle.ipc_loop.proofs.PortLemmas.{get_set}

-- what another session was answered stays
left_elsewhere : (a : CoreView) (s t : Option Sid) → ((sid : Sid) → s ≡ Some sid → t ≡ Some sid → ⊥) → untaken_of (core_after_take a s) t ≡ untaken_of a t
left_elsewhere a None t apart = refl
left_elsewhere a (Some sid) None apart = refl
left_elsewhere a (Some sid) (Some other) apart = taken_elsewhere a.untaken sid.0 other.0 (λ (q : other.0 ≡ sid.0). apart sid refl (ap (λ (n : ℕ). Some (record { 0 = n })) q))

pub takes_collects : (h h' : Hub) (k : ℕ) (bytes : List ℕ) (port : Port) → EachHasItsOwn h.core h.connections → Takes h k bytes h' → Collects k h h' port
takes_collects h h' k bytes port sound takes = record { all = inr own; others = others; marks = takes.marked } where
  x : Connection
  x = takes.before

  y : Connection
  y = record takes.before { has_refusal = false }

  found : (i : ℕ) → slice_get h'.connections i ≡ cond (eqb k i) (Some y) (slice_get h.connections i)
  found i = ap (λ (xs : List Connection). slice_get xs i) takes.changes.others ∙ get_set h.connections k x y i takes.changes.was

  own : untaken_at h' k ≡ []
  own =
      ap (λ (s : Option Connection). unwrap_or (option_map (untaken h'.core) s) []) (found k ∙ ap (λ (b : Bool). cond b (Some y) (slice_get h.connections k)) (eq-eqb k k refl))
      ∙ ap (λ (a : CoreView). untaken_of a x.session) takes.core ∙ none_left h.core x.session

  stays : (i : ℕ) → eqb k i ≡ false → (z : Connection) → slice_get h.connections i ≡ Some z → (w : List Answer) (refused : Bool) → cond refused w (untaken_of h'.core z.session) ≡ cond refused w (untaken_of h.core z.session)
  stays i other z there w true = refl
  stays i other z there w false =
      ap (λ (a : CoreView). untaken_of a z.session) takes.core
      ∙ left_elsewhere h.core x.session z.session (λ sid own theirs. let same : k ≡ i = sound.apart k i x z sid takes.changes.was there own theirs in let wrong : true ≡ false = sym (eq-eqb k i same) ∙ other in absurd cc)

  others : (i : ℕ) → eqb k i ≡ false → untaken_at h' i ≡ untaken_at h i
  others i other = ap (λ (s : Option Connection). unwrap_or (option_map (untaken h'.core) s) []) (found i ∙ ap (λ (b : Bool). cond b (Some y) (slice_get h.connections i)) other) ∙ at (slice_get h.connections i) refl where
    at : (s : Option Connection) → slice_get h.connections i ≡ s → unwrap_or (option_map (untaken h'.core) s) [] ≡ unwrap_or (option_map (untaken h.core) s) []
    at None e = refl
    at (Some z) e = stays i other z e _ z.has_refusal

-- a link that is done is let go
in_front : (a b : Bool) → (a && b) ≡ true → a ≡ true
in_front true b e = refl
in_front false b e = absurd cc

pub lets_go : (h h' : Hub) (k : ℕ) (p q : Port) → true ≡ is_done h k q → q ≡ p → EachHasItsOwn h.core h.connections → (bytes : List ℕ) × Takes h k bytes h' → (is_over_at h k ≡ true → IsGone h' k) → LetsGo h k p h'
lets_go h h' k p q done is sound takes gone =
    let now : is_done h k p ≡ true = subst (λ (x : Port). is_done h k x ≡ true) is (sym done) in
    record { done = now; bytes = takes.0; dropped = takes.1; gone = gone (in_front (is_over_at h k) _ now); others = (takes_collects h h' k takes.0 p sound takes.1).others }
