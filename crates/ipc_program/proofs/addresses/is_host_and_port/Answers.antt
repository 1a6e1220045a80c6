use Rattle.std.proofs.Common.{◌∙◌, List, ℕ, Bor, Option, false, option_map, ap, sym, arith}
use Rattle.std.specs.Option.{option_map_or}
use Rattle.ipc_program.specs.Addresses.{are_host_and_port}
use Rattle.ipc_program.proofs.ColonLemmas.{split_at_last}
use Rattle.ipc_program.proofs.addresses.is_host_and_port.Goals as goal

abbrev parts_of : Bor (List ℕ) × Bor (List ℕ) → List ℕ × List ℕ
parts_of parts = (parts.0.now, parts.1.now)

pub returns-in-Some : goal.returns-in-Some
returns-in-Some c =
    let split = split_at_last 58 c.args.address.now _ c.rsplit_once.ensures.cases (omega arith) in
    c.are_host_and_port.ensures
    ∙ ap (λ (parts : Option (List ℕ × List ℕ)). option_map_or are_host_and_port parts false) (sym (ap (option_map parts_of) c.in-Some.is) ∙ split)

pub returns-in-None : goal.returns-in-None
returns-in-None c =
    let split = split_at_last 58 c.args.address.now _ c.rsplit_once.ensures.cases (omega arith) in
    ap (λ (parts : Option (List ℕ × List ℕ)). option_map_or are_host_and_port parts false) (sym (ap (option_map parts_of) c.in-None.is) ∙ split)
