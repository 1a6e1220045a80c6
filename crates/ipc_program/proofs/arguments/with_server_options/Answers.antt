use Rattle.std.proofs.Common.{◌≡◌, ◌∙◌, ◌||◌, Bool, ap₂, codes}
use Rattle.clap.specs.Simple.{app_of, with_rule}
use Rattle.ipc_program.specs.Options.{thread_options, value_option, with_rules}
use Rattle.ipc_program.proofs.arguments.with_server_options.Goals as goal

abbrev either : Bool → Bool → Bool
either a b = a || b

pub returns : goal.returns
returns c =
    let thread = c.in_ok-with_thread_options.ensures in
    let first : app_of c.in_ok-arg.field-0 ≡ with_rule (with_rules thread_options (app_of c.args.command)) (value_option (codes "workers")) =
    c.in_ok-arg.ensures.shape c.value.ensures.local ∙ ap₂ with_rule thread.0 c.value.ensures.rule in
    let second = c.in_ok-arg-2.ensures.shape c.value-2.ensures.local ∙ ap₂ with_rule first c.value-2.ensures.rule in
    let third = c.in_ok-arg-3.ensures.shape c.value-3.ensures.local ∙ ap₂ with_rule second c.value-3.ensures.rule in (
      c.in_ok-command.ensures.shape c.value-4.ensures.local ∙ ap₂ with_rule third c.value-4.ensures.rule,
      λ none. c.in_ok-command.ensures.globals
          ∙ ap₂ either (c.in_ok-arg-3.ensures.globals
          ∙ ap₂ either (c.in_ok-arg-2.ensures.globals
          ∙ ap₂ either (c.in_ok-arg.ensures.globals ∙ ap₂ either (thread.1 none) c.value.ensures.local) c.value-2.ensures.local) c.value-3.ensures.local) c.value-4.ensures.local,
    )
