use Rattle.std.proofs.Common.{◌≡◌, ◌∙◌, true, map, ap, refl, subst, sym}
use Rattle.clap.specs.Simple.{App, HasMatchesOf, is_simple}
use Rattle.ipc_program.specs.Options.{app_of_program}
use Rattle.ipc_program.specs.Tasks.{task_given}
use Rattle.ipc_program.proofs.arguments.task_read.Goals as goal

pub returns-in-Ok : goal.returns-in-Ok
returns-in-Ok g c =
    let words = map g.S.AsStr.text c.args.words.now in
    let simple : is_simple app_of_program ≡ true = refl in
    let has = subst (λ (a : App). HasMatchesOf a words c.in_ok-found.found) c.requires c.in_ok-found.ensures.ok.2 in
    ap task_given (sym (has simple).1) ∙ c.in-Ok.ensures
