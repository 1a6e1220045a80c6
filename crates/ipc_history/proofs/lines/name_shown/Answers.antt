use Rattle.std.proofs.Common.{rules, ◌≡◌, [], take, min, length, unwrap_or, ap, ◌∙◌, arith}
use Rattle.std.proofs.lemmas.List.{take_min}
use Rattle.ipc_terms.specs.Lines.{event_name}
use Rattle.ipc_history.proofs.lines.name_shown.Goals as goal
use Rattle.ipc_history.proofs.lines.name_shown.Goals.{in-Some, in-None}

pub returns : goal.returns
returns c =
    let named : c.match-name.bytes.now ≡ unwrap_or (event_name c.args.event.now) [] = elim c.match-name.branch [
      | in-Some w ↦ search rules
      | in-None w ↦ search rules
    ] in
    let most : c.min.result ≡ min 256 (length c.match-name.bytes.now) = omega arith in
    c.new.ensures ∙ c.in_ok-from_slice.ensures ∙ c.split_at.ensures.front ∙ ap (λ n. take n c.match-name.bytes.now) most ∙ take_min 256 c.match-name.bytes.now ∙ ap (take 256) named
