use Rattle.std.proofs.Common.{◌≡◌, ℕ, Bool, false, ◌||◌, List, [], ◌∷◌, ◌++◌, refl, sym, ap, subst, ◌∙◌}
use Rattle.ipc_loop.proofs.PortLemmas.{stands_both}
use Rattle.ipc_loop.proofs.AskingLemmas.{Covers, asked_nothing, asks_both, asks_fewer, covers_all, covers_next, covers_over}
use Rattle.ipc_loop.proofs.ServingLemmas.{served_nothing, serves_both}
use Rattle.ipc_loop.proofs.OpeningLemmas.{closes_same, closes_both}
use Rattle.ipc_loop.proofs.turns.give_turns.Goals as goal

pub loop-hub-init : goal.loop-hub-init
loop-hub-init g c = record { serves = served_nothing _ _ _; marks = λ i owed. owed; silent = refl; closes = closes_same _ _ refl; asks = ([], (covers_all c.args.ports.now.turns, asked_nothing _ _)) }

pub loop-hub-preserved : goal.loop-hub-preserved
loop-hub-preserved g c =
    let start = c.args.ports.now.turns in
    let had = c.loop-hub.invariant.asks.0 in
    let k = c.in-Some.field-0 in
    record {
      serves = serves_both _ _ _ _ _ _ _ _ _ (serves_both _ _ _ _ _ _ _ _ _ c.loop-hub.invariant.serves c.turn.ensures.serves) c.keep_bound.ensures.serves;
      marks = λ i owed. c.keep_bound.ensures.marks i (c.turn.ensures.marks i (c.loop-hub.invariant.marks i owed));
      silent = c.keep_bound.ensures.silent ∙ c.turn.ensures.silent ∙ c.loop-hub.invariant.silent;
      closes = closes_both _ _ _ (closes_both _ _ _ c.loop-hub.invariant.closes c.turn.ensures.closes) c.keep_bound.ensures.closes;
      asks = (had ++ k ∷ [], (subst (λ (rest : List ℕ). Covers start (had ++ k ∷ []) rest) (sym c.keep_bound.ensures.turns) (covers_next start had c.loop-hub.ports.turns c.turn.new.self.turns k c.in-Some.ensures.first c.loop-hub.invariant.asks.1.0), asks_both had (k ∷ []) _ _ _ _ _ _ c.loop-hub.invariant.asks.1.1 (asks_both (k ∷ []) [] _ _ _ _ _ _ c.in-Some.ensures.asks c.keep_bound.ensures.asks)));
    }

pub returns-clause-serves : goal.returns-clause-serves
returns-clause-serves g c = serves_both _ _ _ _ _ _ _ _ _ c.loop-hub.invariant.serves c.turn.ensures.serves

pub returns-clause-marks : goal.returns-clause-marks
returns-clause-marks g c = λ i owed. c.turn.ensures.marks i (c.loop-hub.invariant.marks i owed)

pub returns-clause-asks : goal.returns-clause-asks
returns-clause-asks g c =
    let start = c.args.ports.now.turns in
    let had = c.loop-hub.invariant.asks.0 in
    let none : c.loop-hub.ports.turns ≡ [] = c.in_default.ensures.first ∙ ap (λ (ts : List ℕ). ts ++ []) c.in_default.ensures.over in
    asks_fewer (had ++ []) start _ _ _ _ (λ i on. stands_both i had [] ∙ ap (λ (b : Bool). b || false) (covers_over start had c.loop-hub.ports.turns none c.loop-hub.invariant.asks.1.0 i on))
    (asks_both had [] _ _ _ _ _ _ c.loop-hub.invariant.asks.1.1 c.in_default.ensures.asks)
