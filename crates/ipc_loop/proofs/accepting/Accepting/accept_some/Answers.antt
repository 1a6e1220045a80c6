use Rattle.std.proofs.Common.{[], Bool, refl, sym, ap, subst, ◌∙◌, arith}
use Rattle.ipc_loop.specs.declared.accepting.Bounds.{Bounds}
use Rattle.ipc_loop.specs.Bounds.{IsWithin}
use Rattle.ipc_loop.proofs.ServingLemmas.{served_nothing}
use Rattle.ipc_loop.proofs.OpeningLemmas.{goes_same, goes_both, adds_goes, adds_within}
use Rattle.ipc_loop.proofs.AcceptingLemmas.{opens_both, opens_none}
use Rattle.ipc_loop.proofs.AskingLemmas.{asked_nothing, asks_both}
use Rattle.ipc_loop.specs.declared.accepting.Accepting.{Accepting}
use Rattle.ipc_loop.specs.Listening.{Listens, HasNoRoom}
use Rattle.ipc_loop.proofs.ListeningLemmas.{tried_never, tried_again, again_same, listens_full, listens_often, listens_refused}
use Rattle.ipc_loop.proofs.accepting.Accepting.accept_some.Goals as goal

pub loop-init : goal.loop-init
loop-init g c = record { serves = opens_none _ _ _ _ _ _ refl (served_nothing _ _ _); marks = λ i owed. owed; bounds = refl; within = λ w. w; continues = goes_same _; turns = refl; next = refl; silent = refl; pausing = refl; may = refl; tried = tried_never _ _; asks = asked_nothing _ _ }

pub returns-then-not-goes_on-clause-serves : goal.returns-then-not-goes_on-clause-serves
returns-then-not-goes_on-clause-serves g c = opens_both _ _ _ _ _ _ _ _ _ c.loop.invariant.continues (adds_goes _ _ c.accept-accepted.ensures.adds) c.loop.invariant.serves c.accept-accepted.ensures.serves

pub returns-then-not-goes_on-clause-marks : goal.returns-then-not-goes_on-clause-marks
returns-then-not-goes_on-clause-marks g c = λ i owed. c.accept-accepted.ensures.marks i (c.loop.invariant.marks i owed)

pub returns-then-not-goes_on-clause-within : goal.returns-then-not-goes_on-clause-within
returns-then-not-goes_on-clause-within g c = λ w. subst (λ (b : Bounds). IsWithin b c.accept-accepted.new.ports.all) c.loop.invariant.bounds (adds_within c.loop.self.bounds _ _ (c.if-not-is_open.ensures.room refl) c.accept-accepted.ensures.adds (subst (λ (b : Bounds). IsWithin b c.loop.ports.all) (sym c.loop.invariant.bounds) (c.loop.invariant.within w)))

pub returns-then-not-goes_on-clause-continues : goal.returns-then-not-goes_on-clause-continues
returns-then-not-goes_on-clause-continues g c = goes_both _ _ _ c.loop.invariant.continues (adds_goes _ _ c.accept-accepted.ensures.adds)

pub loop-preserved : goal.loop-preserved
loop-preserved g c = record {
  serves = opens_both _ _ _ _ _ _ _ _ _ c.loop.invariant.continues (adds_goes _ _ c.accept-accepted.ensures.adds) c.loop.invariant.serves c.accept-accepted.ensures.serves;
  marks = λ i owed. c.accept-accepted.ensures.marks i (c.loop.invariant.marks i owed);
  bounds = c.if-not-goes_on.ensures.bounds ∙ c.loop.invariant.bounds;
  within = λ w. subst (λ (b : Bounds). IsWithin b c.accept-accepted.new.ports.all) c.loop.invariant.bounds (adds_within c.loop.self.bounds _ _ (c.if-not-is_open.ensures.room refl) c.accept-accepted.ensures.adds (subst (λ (b : Bounds). IsWithin b c.loop.ports.all) (sym c.loop.invariant.bounds) (c.loop.invariant.within w)));
  continues = goes_both _ _ _ c.loop.invariant.continues (adds_goes _ _ c.accept-accepted.ensures.adds);
  turns = c.accept-accepted.ensures.turns ∙ c.loop.invariant.turns;
  next = c.accept-accepted.ensures.next ∙ c.loop.invariant.next;
  silent = c.accept-accepted.ensures.silent ∙ c.loop.invariant.silent;
  pausing = ap (λ (a : Accepting). a.pausing) (again_same _ _ _ c.if-not-goes_on.ensures.ok c.if-not-goes_on.ensures.again c.if-not-goes_on.ensures.err) ∙ c.loop.invariant.pausing;
  may = ap (λ (a : Accepting). a.may_accept) (again_same _ _ _ c.if-not-goes_on.ensures.ok c.if-not-goes_on.ensures.again c.if-not-goes_on.ensures.err) ∙ c.loop.invariant.may;
  tried = tried_again c.loop.counter _ _ _ _ c.args.ports.now.all c.loop.ports.all c.accept-accepted.new.ports.all c.if-not-goes_on.ensures.again c.loop.invariant.tried c.accept-accepted.ensures.comes;
  asks = asks_both [] [] _ _ _ _ _ _ c.loop.invariant.asks c.accept-accepted.ensures.asks;
}

pub returns-then-not-goes_on-clause-asks : goal.returns-then-not-goes_on-clause-asks
returns-then-not-goes_on-clause-asks g c = asks_both [] [] _ _ _ _ _ _ c.loop.invariant.asks c.accept-accepted.ensures.asks

pub returns-then-not-is_open-clause-listens : goal.returns-then-not-is_open-clause-listens
returns-then-not-is_open-clause-listens g c =
    listens_full c.args.self.now.bounds c.loop.counter _ _ c.args.ports.now.all c.loop.ports.all c.args.self.now.may_accept c.loop.self.may_accept c.loop.self.pausing c.loop.invariant.pausing c.loop.invariant.may
    (λ on. subst (λ (b : Bounds). HasNoRoom b c.loop.ports.all) c.loop.invariant.bounds (c.if-not-is_open.ensures.full on refl)) c.loop.invariant.tried

pub returns-then-not-goes_on-clause-listens : goal.returns-then-not-goes_on-clause-listens
returns-then-not-goes_on-clause-listens g c =
    subst (λ (may : Bool). Listens c.args.self.now.bounds may (g.H.Host.moves c.args.host.now) (g.H.Host.moves c.accept-accepted.new.host) c.args.ports.now.all c.accept-accepted.new.ports.all c.goes_on.new.self.may_accept c.goes_on.new.self.pausing) c.loop.invariant.may
    (listens_refused c.args.self.now.bounds c.loop.counter _ _ _ _ c.args.ports.now.all c.loop.ports.all c.accept-accepted.new.ports.all c.loop.self c.goes_on.new.self c.if-not-goes_on.ensures.more c.if-not-goes_on.ensures.again c.if-not-goes_on.ensures.err c.loop.invariant.pausing c.loop.invariant.tried c.accept-accepted.ensures.comes)

pub returns-clause-listens : goal.returns-clause-listens
returns-clause-listens g c = listens_often c.args.self.now.bounds c.loop.counter _ _ c.args.ports.now.all c.loop.ports.all c.args.self.now.may_accept c.loop.self.may_accept c.loop.self.pausing c.loop.invariant.pausing c.loop.invariant.may (omega (arith, c.loop-test.false)) c.loop.invariant.tried
