use Rattle.std.proofs.Common.{◌≡◌, ◌∙◌, ◌||◌, Bool, ap, ap₂, codes}
use Rattle.clap.specs.Simple.{app_of, with_rule}
use Rattle.ipc_program.specs.Options.{value_option}
use Rattle.ipc_program.proofs.arguments.with_trail_options.Goals as goal

abbrev either : Bool → Bool → Bool
either a b = a || b

pub returns : goal.returns
returns c =
    let first : app_of c.in_ok-arg.field-0 ≡ with_rule (app_of c.args.command) (value_option (codes "trail-file")) =
    c.in_ok-arg.ensures.shape c.value.ensures.local ∙ ap (with_rule (app_of c.args.command)) c.value.ensures.rule in
    let second = c.in_ok-arg-2.ensures.shape c.flag.ensures.local ∙ ap₂ with_rule first c.flag.ensures.rule in
    let third = c.in_ok-arg-3.ensures.shape c.value-2.ensures.local ∙ ap₂ with_rule second c.value-2.ensures.rule in
    let fourth = c.in_ok-arg-4.ensures.shape c.value-3.ensures.local ∙ ap₂ with_rule third c.value-3.ensures.rule in (
      c.in_ok-command.ensures.shape c.flag-2.ensures.local ∙ ap₂ with_rule fourth c.flag-2.ensures.rule,
      λ none. c.in_ok-command.ensures.globals
          ∙ ap₂ either (c.in_ok-arg-4.ensures.globals
          ∙ ap₂ either (c.in_ok-arg-3.ensures.globals
          ∙ ap₂ either (c.in_ok-arg-2.ensures.globals
          ∙ ap₂ either (c.in_ok-arg.ensures.globals ∙ ap₂ either none c.value.ensures.local) c.flag.ensures.local) c.value-2.ensures.local) c.value-3.ensures.local) c.flag-2.ensures.local,
    )
