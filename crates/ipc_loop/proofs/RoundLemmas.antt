-- What any number of rounds brings.
use Rattle.std.proofs.Common.{◌≡◌, ℕ, List, [], ◌∷◌, ◌++◌, Option, Some, None, sym, ap, subst, ◌∙◌, append_assoc}
use Rattle.ipc_policy.specs.declared.config.Config.{Config}
use Rattle.ipc_hub.specs.Laws.{stream_of, output_of}
use Rattle.ipc_hub.proofs.RunLemmas.{each_output}
use Rattle.ipc_hub.proofs.StreamLemmas.{each_stream}
use Rattle.ipc_hub.proofs.RefusalLemmas.{each_stranger}
use Rattle.ipc_loop.specs.declared.accepting.Bounds.{Bounds}
use Rattle.ipc_loop.specs.Moves.{Moved, read_of, written_of}
use Rattle.ipc_loop.specs.Ports.{port_at}
use Rattle.ipc_loop.specs.Server.{Server}
use Rattle.ipc_loop.specs.Serving.{PassesOn, ServesOpening}
use Rattle.ipc_loop.specs.Rounds.{Between, MakesRounds, new_server, EachLinkIsServed, EachOtherIsRefused}
use Rattle.ipc_loop.proofs.ServingLemmas.{opening_both, served_nothing}

abbrev Moves : Type 0
Moves = Option (List Moved)

-- rounds come to one serving, which opens some links
rounds_serve : (rounds : List Between) (old new : Server) (moves moves' : Moves) → MakesRounds rounds old moves new moves' → (opened : List ℕ) × ServesOpening opened old.hub moves (port_at old.ports) new.hub moves' (port_at new.ports)
rounds_serve [] old new moves moves' made = (
  [],
  subst (λ (z : Server). ServesOpening [] old.hub moves (port_at old.ports) z.hub moves' (port_at z.ports)) (sym made.0)
      (subst (λ (m : Moves). ServesOpening [] old.hub moves (port_at old.ports) old.hub m (port_at old.ports)) (sym made.1) (served_nothing old.hub moves (port_at old.ports))),
)
rounds_serve (next ∷ rounds) old new moves moves' made =
    let later = rounds_serve rounds next.server new next.moves moves' made.1 in
    (_, opening_both _ later.0 old.hub next.server.hub new.hub moves next.moves moves' (port_at old.ports) (port_at next.server.ports) (port_at new.ports) made.0 later.1)

-- what passed on is a beginning of what came
beginning : (came passed : List ℕ) (left : Option (List ℕ)) → PassesOn (Some []) came passed left → (rest : List ℕ) × (came ≡ passed ++ rest)
beginning came passed None h = h
beginning came passed (Some left) h = (left, h)

-- from the start on
served_from : (c : Config) (bounds : Bounds) (rounds : List Between) (server : Server) (moved : List Moved) → MakesRounds rounds (new_server c bounds) (Some []) server (Some moved) → (opened : List ℕ) × ServesOpening opened (new_server c bounds).hub (Some []) (port_at []) server.hub (Some moved) (port_at server.ports)
served_from c bounds rounds server moved made = rounds_serve rounds (new_server c bounds) server (Some []) (Some moved) made

pub each_link : EachLinkIsServed
each_link c bounds rounds server moved i x sid range made there own =
    let s = (served_from c bounds rounds server moved made).1 in
    let all : moved ≡ s.moved = s.went in
    let gave = beginning (read_of i s.moved) (stream_of i s.calls) _ (s.read i) in
    let took = beginning (output_of i s.calls) (written_of i s.moved) _ (s.written i) in
    let given = each_output c s.calls server.hub i x sid range s.made there own in (
      record {
        fed = stream_of i s.calls;
        rest = gave.0;
        whole = ap (read_of i) all ∙ gave.1;
        stepped = each_stream c s.calls server.hub i x sid range s.made there own;
      },
      record {
        rest = took.0 ++ given.left;
        whole = given.whole ∙ ap (λ (t : List ℕ). Some (t ++ given.left)) took.1 ∙ ap Some (append_assoc (written_of i s.moved) took.0 given.left) ∙ ap (λ (m : List Moved). Some (written_of i m ++ (took.0 ++ given.left))) (sym all);
      },
    )

pub each_other : EachOtherIsRefused
each_other c bounds rounds server moved i x range made there none =
    let s = (served_from c bounds rounds server moved made).1 in
    let all : moved ≡ s.moved = s.went in
    let took = beginning (output_of i s.calls) (written_of i s.moved) _ (s.written i) in
    let refusal = each_stranger c s.calls server.hub i x range s.made there none in
    (took.0 ++ refusal.0, refusal.1 ∙ ap (λ (t : List ℕ). Some (t ++ refusal.0)) took.1 ∙ ap Some (append_assoc (written_of i s.moved) took.0 refusal.0) ∙ ap (λ (m : List Moved). Some (written_of i m ++ (took.0 ++ refusal.0))) (sym all))
