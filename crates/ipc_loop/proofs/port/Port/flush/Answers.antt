use Rattle.std.proofs.Common.{◌≡◌, Bool, ℕ, List, [], ◌∷◌, Some, None, cond, refl, sym, ap, subst, ◌∙◌}
use Rattle.ipc_loop.specs.Ports.{Port}
use Rattle.ipc_loop.specs.Serving.{Offers}
use Rattle.ipc_loop.proofs.MoveLemmas.{go_nowhere, adds_nothing}
use Rattle.ipc_loop.proofs.PassingLemmas.{passes_nothing}
use Rattle.ipc_loop.proofs.WhyLemmas.{why_stays}
use Rattle.ipc_loop.proofs.ServingLemmas.{offered_writes, cut_writes}
use Rattle.ipc_loop.proofs.PortionLemmas.{cut_left, uncut_left}
use Rattle.ipc_loop.proofs.OfferingLemmas.{flushes_none, flushes_offer, flushes_refused, writable_of, rest_writable, none_there}
use Rattle.ipc_loop.proofs.port.Port.flush.Goals as goal
use Rattle.ipc_loop.proofs.port.Port.flush.Goals.{then-self-via-then-self, then-self-via-else-self+then-is_empty, then-self-via-else-self+else-is_empty+then-not-self}

pub invariant_of-self : goal.invariant_of-self
invariant_of-self g c =
    rest_writable c.self.inside.is_cut c.self.inside.unsent c.advance.new.self c.in-Some.count c.self.inside.may_write c.write_some.new.may_write c.advance.ensures (sym c.is_empty.ensures ∙ c.if-is_empty.false) c.if-not-self.false c.in-Some.ensures.took

pub returns-then-self-clause-writes : goal.returns-then-self-clause-writes
returns-then-self-clause-writes g c = record { took = []; added = adds_nothing _ _ _ (go_nowhere _); left = passes_nothing _; fails = λ e. absurd cc; refuses = λ e. absurd cc; why = why_stays _ _ _ refl; drops = λ d. d }

pub returns-then-self-clause-all : goal.returns-then-self-clause-all
returns-then-self-clause-all g c = flushes_none c.args.number _ c.args.self.now (λ b bytes is. elim c.then-self.branch [
  | then-self-via-then-self w ↦ (let wrong : None ≡ Some (b ∷ bytes) = sym (cut_left c.args.self.now c.self.inside.is_cut _ (ap (λ (p : Port). p.left) c.self.view_is) w.if-self.true) ∙ is in absurd cc)
  | then-self-via-else-self+then-is_empty w ↦ (let same : Some c.self.inside.unsent ≡ Some (b ∷ bytes) = sym (uncut_left c.args.self.now c.self.inside.is_cut _ (ap (λ (p : Port). p.left) c.self.view_is) w.if-self.false) ∙ is in let it : c.self.inside.unsent ≡ b ∷ bytes = cc in absurd (none_there c.self.inside.unsent b bytes (sym w.is_empty.ensures ∙ w.if-is_empty.true) it))
  | then-self-via-else-self+else-is_empty+then-not-self w ↦ sym (ap (λ (p : Port). p.may_write) c.self.view_is) ∙ w.if-not-self.true
])

pub returns-then-self-clause-writable : goal.returns-then-self-clause-writable
returns-then-self-clause-writable g c = λ is. sym (ap (λ (p : Port). p.may_write) c.self.view_is) ∙ writable_of c.self.inside.is_cut c.self.inside.unsent c.self.inside.may_write c.self.invariant (ap (λ (p : Port). p.left) c.self.view_is ∙ is)

pub returns-in-Some-clause-writes : goal.returns-in-Some-clause-writes
returns-in-Some-clause-writes g c =
    let offers = subst (λ (bytes : List ℕ). Offers c.args.number (g.H.Host.moves c.args.host.now) (g.H.Host.moves c.write_some.new.host) bytes (Some c.in-Some.count)) c.as_slice.ensures c.in-Some.ensures.offers in
    let now = ap (λ (b : Bool). cond b None (Some c.advance.new.self)) c.if-self.false ∙ ap (λ (left : List ℕ). Some left) c.advance.ensures in
    offered_writes _ _ _ c.args.self.now _ c.self.inside.unsent c.in-Some.count offers (uncut_left c.args.self.now c.self.inside.is_cut _ (ap (λ (p : Port). p.left) c.self.view_is) c.if-self.false) now (ap (λ (p : Port). p.ending) c.self.view_is)

pub returns-in-Some-clause-all : goal.returns-in-Some-clause-all
returns-in-Some-clause-all g c =
    let offers = subst (λ (bytes : List ℕ). Offers c.args.number (g.H.Host.moves c.args.host.now) (g.H.Host.moves c.write_some.new.host) bytes (Some c.in-Some.count)) c.as_slice.ensures c.in-Some.ensures.offers in
    let now = ap (λ (b : Bool). cond b None (Some c.advance.new.self)) c.if-self.false ∙ ap (λ (left : List ℕ). Some left) c.advance.ensures in
    flushes_offer _ _ _ c.args.self.now _ c.self.inside.unsent c.in-Some.count (sym c.is_empty.ensures ∙ c.if-is_empty.false) offers (uncut_left c.args.self.now c.self.inside.is_cut _ (ap (λ (p : Port). p.left) c.self.view_is) c.if-self.false) now

pub returns-in-Some-clause-writable : goal.returns-in-Some-clause-writable
returns-in-Some-clause-writable g c = λ is.
    writable_of c.self.inside.is_cut c.advance.new.self c.write_some.new.may_write
    (rest_writable c.self.inside.is_cut c.self.inside.unsent c.advance.new.self c.in-Some.count c.self.inside.may_write c.write_some.new.may_write c.advance.ensures (sym c.is_empty.ensures ∙ c.if-is_empty.false) c.if-not-self.false c.in-Some.ensures.took) is

pub returns-in-None-clause-writes : goal.returns-in-None-clause-writes
returns-in-None-clause-writes g c = cut_writes _ _ _ _ _ _ c.in-None.ensures.offers c.cut.ensures.cut c.cut.ensures.ended

pub returns-in-None-clause-all : goal.returns-in-None-clause-all
returns-in-None-clause-all g c =
    let offers = subst (λ (bytes : List ℕ). Offers c.args.number (g.H.Host.moves c.args.host.now) (g.H.Host.moves c.write_some.new.host) bytes None) c.as_slice.ensures c.in-None.ensures.offers in
    flushes_refused _ _ _ c.args.self.now _ c.self.inside.unsent (sym c.is_empty.ensures ∙ c.if-is_empty.false) offers (uncut_left c.args.self.now c.self.inside.is_cut _ (ap (λ (p : Port). p.left) c.self.view_is) c.if-self.false) c.cut.ensures.cut
