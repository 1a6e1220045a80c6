use Rattle.std.proofs.Common.{◌≡◌, ◌∙◌, ◌||◌, Bool, ap, ap₂, codes}
use Rattle.std.proofs.lemmas.Result.{IfOk-weaker}
use Rattle.clap.specs.Simple.{app_of, app_of_fields, new_app, with_rule}
use Rattle.clap.specs.declared.builder.command.Command.TheOpen.{Command-F}
use Rattle.clap.specs.declared.builder.command.Command.{Command}
use Rattle.ipc_program.specs.Options.{HasNoGlobals, limit_options, metrics_options, server_options, trail_options, with_rules}
use Rattle.ipc_program.proofs.arguments.serve.Goals as goal

-- no argument is global, and so the command has none such
abbrev has_globals : Command-F Command → Bool
has_globals fields = fields.has_globals

abbrev either : Bool → Bool → Bool
either a b = a || b

pub returns : goal.returns
returns c =
    let bare : app_of c.after_help.result ≡ new_app (codes "serve") =
    ap app_of_fields c.after_help.ensures ∙ ap app_of_fields c.about.ensures ∙ c.new.ensures.app in
    let places = c.in_ok-serve.ensures.shape c.place-2.ensures.local
    ∙ ap₂ with_rule (c.in_ok-arg.ensures.shape c.place.ensures.local ∙ ap₂ with_rule bare c.place.ensures.rule) c.place-2.ensures.rule in
    let rules = c.in_ok-serve-4.ensures.0
    ∙ ap (with_rules trail_options) (c.in_ok-serve-3.ensures.0 ∙ ap (with_rules metrics_options) (c.in_ok-serve-2.ensures.0 ∙ ap (with_rules server_options) places)) in
    let local : HasNoGlobals c.in_ok-serve-4.serve =
    c.in_ok-serve-4.ensures.1 (c.in_ok-serve-3.ensures.1 (c.in_ok-serve-2.ensures.1 (c.in_ok-serve.ensures.globals
    ∙ ap₂ either (c.in_ok-arg.ensures.globals
    ∙ ap₂ either (ap has_globals c.after_help.ensures ∙ ap has_globals c.about.ensures ∙ c.new.ensures.local) c.place.ensures.local) c.place-2.ensures.local))) in
    IfOk-weaker c.with_limits.result _ _ (λ command added. (added.0 ∙ ap (with_rules limit_options) rules, added.1 local)) c.with_limits.ensures
