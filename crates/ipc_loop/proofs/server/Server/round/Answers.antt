use Rattle.std.proofs.Common.{List, [], ℕ, Bool, ◌||◌, ◌++◌, Option, refl, sym, ap, subst, ◌∙◌}
use Rattle.ipc_loop.specs.declared.accepting.Bounds.{Bounds}
use Rattle.ipc_loop.specs.Ports.{Port, port_at, open_at, Continues}
use Rattle.ipc_loop.specs.Moves.{Moved, GoOn}
use Rattle.ipc_loop.specs.Asking.{Asks, AsksAll}
use Rattle.ipc_loop.specs.Bounds.{IsWithin}
use Rattle.ipc_loop.specs.Server.{Server}
use Rattle.ipc_loop.specs.Serving.{Serves, ServesAndOpens, IsUpToDateByMark, LeavesNothing}
use Rattle.ipc_loop.proofs.ServingLemmas.{served_nothing, serves_both, moved_so}
use Rattle.ipc_loop.proofs.OpeningLemmas.{closes_same, closes_both, closes_goes, closes_within, goes_same, goes_both}
use Rattle.ipc_loop.proofs.AcceptingLemmas.{opens_both, opens_none}
use Rattle.ipc_loop.specs.declared.links.Ready.{Ready}
use Rattle.ipc_loop.specs.Standing.{EachIsQueued}
use Rattle.ipc_loop.specs.Listening.{Listens}
use Rattle.ipc_loop.specs.Hearing.{Hears, HearsAll}
use Rattle.ipc_loop.proofs.HearingLemmas.{hears_all, or_true}
use Rattle.ipc_loop.proofs.MoveLemmas.{go_both}
use Rattle.ipc_loop.proofs.ListeningLemmas.{listens_within}
use Rattle.ipc_loop.proofs.AskingLemmas.{asks_both, asks_all, serves_stop, listed_both, listed_same}
use Rattle.ipc_loop.proofs.server.Server.round.Goals as goal

pub returns-in_err-wait-clause-serves : goal.returns-in_err-wait-clause-serves
returns-in_err-wait-clause-serves g c =
    subst (λ (s : Server). ServesAndOpens s.hub (g.H.Host.moves c.args.host.now) s.ports c.self.inside.hub (g.H.Host.moves c.wait.new.self) c.self.inside.ports.all) c.self.view_is
    (opens_none _ _ _ _ _ _ refl
    (moved_so c.self.inside.hub c.self.inside.hub (g.H.Host.moves c.args.host.now) (g.H.Host.moves c.args.host.now) (g.H.Host.moves c.args.host.now) (g.H.Host.moves c.wait.new.self) (port_at c.self.inside.ports.all) (port_at c.self.inside.ports.all) refl (c.wait.ensures.moved ∙ c.moment-now.ensures.moved)
    (served_nothing c.self.inside.hub (g.H.Host.moves c.args.host.now) (port_at c.self.inside.ports.all))))

pub returns-in_err-wait-clause-continues : goal.returns-in_err-wait-clause-continues
returns-in_err-wait-clause-continues g c = subst (λ (s : Server). Continues s.ports c.self.inside.ports.all) c.self.view_is (goes_same c.self.inside.ports.all)

pub answer_all-requires : goal.answer_all-requires
answer_all-requires g c = λ i.
    c.give_turns.ensures.marks i
    (subst (λ (zs : List (Option Port)). IsUpToDateByMark c.forget_old.new.hub (open_at zs) i) (sym c.start_round.ensures.all)
    (c.forget_old.ensures.marks (open_at c.accept_some.new.ports.all) i (c.make_ticks.ensures.marks (open_at c.accept_some.new.ports.all) i (c.accept_some.ensures.marks i (c.note_all-is_told.ensures.marks i (c.self.invariant.marked i))))))

pub invariant_of-self-2 : goal.invariant_of-self-2
invariant_of-self-2 g c =
    let closes = closes_both _ _ _ (closes_same _ _ c.start_round.ensures.all) (closes_both _ _ _ c.give_turns.ensures.closes c.answer_all.ensures.closes) in
    record {
      turns = c.answer_all.ensures.turns ∙ c.give_turns.ensures.turns;
      marked = λ i u. (c.answer_all.ensures.rests i, c.answer_all.ensures.undone i);
      within =
          subst (λ (b : Bounds). IsWithin b c.answer_all.new.ports.all) (sym c.accept_some.ensures.bounds)
          (closes_within _ _ _ closes (c.accept_some.ensures.within (closes_within _ _ _ c.note_all-is_told.ensures.closes c.self.invariant.within)));
      closed = λ i.
          let noted = c.note_all-is_told.ensures.serves.closed i (c.self.invariant.closed i) in
          let accepted = c.accept_some.ensures.serves.closed i noted in
          let ticked = (c.make_ticks.ensures.serves (g.H.Host.moves c.accept_some.new.host) (port_at c.accept_some.new.ports.all)).closed i accepted in
          let forgot = (c.forget_old.ensures.serves (g.H.Host.moves c.accept_some.new.host) (port_at c.accept_some.new.ports.all)).closed i ticked in
          let started = subst (λ (zs : List (Option Port)). LeavesNothing c.forget_old.new.hub (port_at zs) i) (sym c.start_round.ensures.all) forgot in
          c.answer_all.ensures.serves.closed i (c.give_turns.ensures.serves.closed i started);
    }

pub returns-clause-serves : goal.returns-clause-serves
returns-clause-serves g c =
    let noted = moved_so c.self.inside.hub c.note_all-is_told.new.hub (g.H.Host.moves c.wait.new.self) (g.H.Host.moves c.note_all-is_told.new.host) (g.H.Host.moves c.args.host.now) (g.H.Host.moves c.note_all-is_told.new.host) (port_at c.self.inside.ports.all) (port_at c.note_all-is_told.new.ports.all) (c.wait.ensures.moved ∙ c.moment-now.ensures.moved) refl c.note_all-is_told.ensures.serves in
    let begun = closes_goes _ _ c.note_all-is_told.ensures.closes in
    let accepted = opens_both _ _ _ _ _ _ _ _ _ begun c.accept_some.ensures.continues (opens_none _ _ _ _ _ _ c.note_all-is_told.ensures.closes.count noted) c.accept_some.ensures.serves in
    let ticked = serves_both _ _ _ _ _ _ _ _ _ (c.make_ticks.ensures.serves (g.H.Host.moves c.accept_some.new.host) (port_at c.accept_some.new.ports.all)) (c.forget_old.ensures.serves (g.H.Host.moves c.accept_some.new.host) (port_at c.accept_some.new.ports.all)) in
    let turns = moved_so _ _ _ _ (g.H.Host.moves c.accept_some.new.host) _ _ _ c.moment-later.ensures.moved refl c.give_turns.ensures.serves in
    let turned = subst (λ (zs : List (Option Port)). Serves c.forget_old.new.hub (g.H.Host.moves c.accept_some.new.host) (port_at zs) c.give_turns.new.hub (g.H.Host.moves c.give_turns.new.host) (port_at c.give_turns.new.ports.all)) c.start_round.ensures.all turns in
    let rest = serves_both _ _ _ _ _ _ _ _ _ (serves_both _ _ _ _ _ _ _ _ _ ticked turned) c.answer_all.ensures.serves in
    let closes = closes_both _ _ _ (closes_same _ _ c.start_round.ensures.all) (closes_both _ _ _ c.give_turns.ensures.closes c.answer_all.ensures.closes) in
    let all = opens_both _ _ _ _ _ _ _ _ _ (goes_both _ _ _ begun c.accept_some.ensures.continues) (closes_goes _ _ closes) accepted (opens_none _ _ _ _ _ _ closes.count rest) in
    subst (λ (s : Server). ServesAndOpens s.hub (g.H.Host.moves c.args.host.now) s.ports c.answer_all.new.hub (g.H.Host.moves c.answer_all.new.host) c.answer_all.new.ports.all) c.self.view_is all

pub returns-clause-continues : goal.returns-clause-continues
returns-clause-continues g c =
    let closes = closes_both _ _ _ (closes_same _ _ c.start_round.ensures.all) (closes_both _ _ _ c.give_turns.ensures.closes c.answer_all.ensures.closes) in
    subst (λ (s : Server). Continues s.ports c.answer_all.new.ports.all) c.self.view_is
    (goes_both _ _ _ (goes_both _ _ _ (closes_goes _ _ c.note_all-is_told.ensures.closes) c.accept_some.ensures.continues) (closes_goes _ _ closes))

pub returns-clause-asks : goal.returns-clause-asks
returns-clause-asks g c =
    let noted = subst (λ (w : Option (List Moved)). Asks [] w (g.H.Host.moves c.note_all-is_told.new.host) (port_at c.self.inside.ports.all) (port_at c.note_all-is_told.new.ports.all)) (c.wait.ensures.moved ∙ c.moment-now.ensures.moved) c.note_all-is_told.ensures.asks in
    let accepted = asks_both [] [] _ _ _ _ _ _ noted c.accept_some.ensures.asks in
    let turned = subst (λ (w : Option (List Moved)). Asks c.start_round.new.self.turns w (g.H.Host.moves c.give_turns.new.host) (port_at c.accept_some.new.ports.all) (port_at c.give_turns.new.ports.all)) c.moment-later.ensures.moved
    (subst (λ (zs : List (Option Port)). Asks c.start_round.new.self.turns (g.H.Host.moves c.moment-later.new.self) (g.H.Host.moves c.give_turns.new.host) (port_at zs) (port_at c.give_turns.new.ports.all)) c.start_round.ensures.all c.give_turns.ensures.asks) in
    let listed = listed_both _ _ _ c.note_all-is_told.ensures.next (listed_same _ _ (c.start_round.ensures.turns ∙ c.accept_some.ensures.next)) in
    subst (λ (s : Server). AsksAll s.turns (g.H.Host.moves c.args.host.now) (g.H.Host.moves c.answer_all.new.host) (port_at s.ports) (port_at c.answer_all.new.ports.all)) c.self.view_is
    (asks_all c.start_round.new.self.turns c.self.inside.ports.next _ _ _ (port_at c.self.inside.ports.all) (port_at c.give_turns.new.ports.all) (port_at c.answer_all.new.ports.all) listed (serves_stop _ _ _ _ _ _ c.answer_all.ensures.serves)
    (asks_both [] c.start_round.new.self.turns _ _ _ _ _ _ accepted turned) c.answer_all.ensures.refuses)

pub returns-clause-listens : goal.returns-clause-listens
returns-clause-listens g c =
    let noted = subst (λ (w : Option (List Moved)). GoOn w (g.H.Host.moves c.note_all-is_told.new.host) c.note_all-is_told.ensures.asks.moved) (c.wait.ensures.moved ∙ c.moment-now.ensures.moved) c.note_all-is_told.ensures.asks.went in
    let turned = subst (λ (w : Option (List Moved)). GoOn w (g.H.Host.moves c.give_turns.new.host) c.give_turns.ensures.asks.moved) c.moment-later.ensures.moved c.give_turns.ensures.asks.went in
    let rest = go_both _ _ _ _ _ turned c.answer_all.ensures.refuses.went in
    let closes = closes_both _ _ _ (closes_same _ _ c.start_round.ensures.all) (closes_both _ _ _ c.give_turns.ensures.closes c.answer_all.ensures.closes) in
    subst (λ (s : Server). Listens s.bounds s.may_accept (g.H.Host.moves c.args.host.now) (g.H.Host.moves c.answer_all.new.host) s.ports c.answer_all.new.ports.all c.accept_some.new.self.may_accept c.accept_some.new.self.pausing) c.self.view_is
    (listens_within c.self.inside.accepting.bounds _ _ _ _ c.self.inside.ports.all c.note_all-is_told.new.ports.all c.accept_some.new.ports.all c.answer_all.new.ports.all c.note_all-is_told.ensures.asks.moved (c.give_turns.ensures.asks.moved ++ c.answer_all.ensures.refuses.moved) c.self.inside.accepting.may_accept _ _ _
    c.note_all-is_told.ensures.closes closes noted rest (λ on. ap (λ (b : Bool). b || c.note_all-is_told.result) on) c.accept_some.ensures.listens)

pub returns-clause-hears : goal.returns-clause-hears
returns-clause-hears g c =
    let began = subst (λ (w : Option (List Moved)). GoOn w (g.H.Host.moves c.note_all-is_told.new.host) c.note_all-is_told.ensures.asks.moved) (c.wait.ensures.moved ∙ c.moment-now.ensures.moved) c.note_all-is_told.ensures.asks.went in
    let turned = subst (λ (w : Option (List Moved)). Asks c.start_round.new.self.turns w (g.H.Host.moves c.give_turns.new.host) (port_at c.accept_some.new.ports.all) (port_at c.give_turns.new.ports.all)) c.moment-later.ensures.moved
    (subst (λ (zs : List (Option Port)). Asks c.start_round.new.self.turns (g.H.Host.moves c.moment-later.new.self) (g.H.Host.moves c.give_turns.new.host) (port_at zs) (port_at c.give_turns.new.ports.all)) c.start_round.ensures.all c.give_turns.ensures.asks) in
    let told = subst (λ (w : Option (List Ready)). Hears w (g.H.Host.told c.note_all-is_told.new.host) c.self.inside.ports.all c.note_all-is_told.new.ports.all c.note_all-is_told.result) (c.wait.ensures.silent ∙ c.moment-now.ensures.silent) c.note_all-is_told.ensures.hears in
    let went = subst (λ (w : Option (List Moved)). GoOn w (g.H.Host.moves c.give_turns.new.host) c.give_turns.ensures.asks.moved) c.moment-later.ensures.moved c.give_turns.ensures.asks.went in
    let rest = go_both _ _ _ _ _ went c.answer_all.ensures.refuses.went in
    let closes = closes_both _ _ _ (closes_same _ _ c.start_round.ensures.all) (closes_both _ _ _ c.give_turns.ensures.closes c.answer_all.ensures.closes) in
    let listened = listens_within c.self.inside.accepting.bounds _ _ _ _ c.self.inside.ports.all c.note_all-is_told.new.ports.all c.accept_some.new.ports.all c.answer_all.new.ports.all c.note_all-is_told.ensures.asks.moved (c.give_turns.ensures.asks.moved ++ c.answer_all.ensures.refuses.moved) c.note_all-is_told.result _ _ _
    c.note_all-is_told.ensures.closes closes began rest (λ on. ap (λ (b : Bool). c.self.inside.accepting.may_accept || b) on ∙ or_true c.self.inside.accepting.may_accept) c.accept_some.ensures.listens in
    let quiet = c.answer_all.ensures.silent ∙ c.give_turns.ensures.silent ∙ c.moment-later.ensures.silent ∙ c.accept_some.ensures.silent in
    subst (λ (s : Server). HearsAll (g.H.Host.told c.args.host.now) (g.H.Host.told c.answer_all.new.host) (g.H.Host.moves c.args.host.now) (g.H.Host.moves c.answer_all.new.host) s.ports c.answer_all.new.ports.all c.accept_some.new.self.may_accept) c.self.view_is
    (hears_all _ _ _ _ _ _ _ _ c.self.inside.ports.all c.note_all-is_told.new.ports.all c.accept_some.new.ports.all c.give_turns.new.ports.all c.answer_all.new.ports.all c.accept_some.new.ports.queued c.accept_some.new.ports.turns c.start_round.new.self.turns c.note_all-is_told.result c.accept_some.new.self.may_accept _ _ _
    told quiet began c.accept_some.ensures.asks
    (subst (λ (ns : List ℕ). EachIsQueued c.accept_some.new.ports.all c.accept_some.new.ports.queued c.accept_some.new.ports.turns ns) (sym c.start_round.ensures.turns) c.are_queued.ensures)
    (c.accept_some.ensures.turns ∙ c.note_all-is_told.ensures.turns ∙ c.self.invariant.turns)
    turned c.answer_all.ensures.refuses (serves_stop _ _ _ _ _ _ c.answer_all.ensures.serves) listened)
