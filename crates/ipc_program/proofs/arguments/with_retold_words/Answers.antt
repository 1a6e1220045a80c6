use Rattle.std.proofs.Common.{◌≡◌, ◌∙◌, ◌||◌, Bool, ap, ap₂, codes}
use Rattle.std.proofs.lemmas.Result.{IfOk-weaker}
use Rattle.clap.specs.Simple.{app_of, with_rule}
use Rattle.ipc_program.specs.Options.{limit_options, place, with_rules}
use Rattle.ipc_program.proofs.arguments.with_retold_words.Goals as goal

abbrev either : Bool → Bool → Bool
either a b = a || b

pub returns : goal.returns
returns c =
    let first : app_of c.in_ok-arg.field-0 ≡ with_rule (app_of c.args.command) (place (codes "users")) =
    c.in_ok-arg.ensures.shape c.place.ensures.local ∙ ap (with_rule (app_of c.args.command)) c.place.ensures.rule in
    let second = c.in_ok-arg-2.ensures.shape c.place-2.ensures.local ∙ ap₂ with_rule first c.place-2.ensures.rule in
    let third = c.in_ok-arg-3.ensures.shape c.places.ensures.local ∙ ap₂ with_rule second c.places.ensures.rule in
    let words = c.in_ok-command.ensures.shape c.value.ensures.local ∙ ap₂ with_rule third c.value.ensures.rule in
    IfOk-weaker c.with_new_limits.result _ _
    (λ command added. (
      added.0 ∙ ap (with_rules limit_options) words,
      λ none. added.1 (c.in_ok-command.ensures.globals
          ∙ ap₂ either (c.in_ok-arg-3.ensures.globals
          ∙ ap₂ either (c.in_ok-arg-2.ensures.globals
          ∙ ap₂ either (c.in_ok-arg.ensures.globals ∙ ap₂ either none c.place.ensures.local) c.place-2.ensures.local) c.places.ensures.local) c.value.ensures.local),
    ))
    c.with_new_limits.ensures
