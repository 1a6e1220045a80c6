use Rattle.std.proofs.Common.{◌≡◌, ◌∙◌, ◌||◌, Bool, ap, ap₂, codes}
use Rattle.std.proofs.lemmas.Result.{IfOk-weaker}
use Rattle.clap.specs.Simple.{app_of, app_of_fields, new_app, with_rule}
use Rattle.clap.specs.declared.builder.command.Command.TheOpen.{Command-F}
use Rattle.clap.specs.declared.builder.command.Command.{Command}
use Rattle.ipc_program.specs.Options.{HasNoGlobals, line_options, with_rules}
use Rattle.ipc_program.proofs.arguments.replay.Goals as goal

-- no argument is global, and so the command has none such
abbrev has_globals : Command-F Command → Bool
has_globals fields = fields.has_globals

abbrev either : Bool → Bool → Bool
either a b = a || b

pub returns : goal.returns
returns c =
    let bare : app_of c.after_help.result ≡ new_app (codes "replay") =
    ap app_of_fields c.after_help.ensures ∙ ap app_of_fields c.about.ensures ∙ c.new.ensures.app in
    let places = c.in_ok-replay.ensures.shape c.places.ensures.local
    ∙ ap₂ with_rule (c.in_ok-arg.ensures.shape c.place.ensures.local ∙ ap₂ with_rule bare c.place.ensures.rule) c.places.ensures.rule in
    let local : HasNoGlobals c.in_ok-replay.replay =
    c.in_ok-replay.ensures.globals
    ∙ ap₂ either (c.in_ok-arg.ensures.globals
    ∙ ap₂ either (ap has_globals c.after_help.ensures ∙ ap has_globals c.about.ensures ∙ c.new.ensures.local) c.place.ensures.local) c.places.ensures.local in
    IfOk-weaker c.with_line_options.result _ _ (λ command added. (added.0 ∙ ap (with_rules line_options) places, added.1 local)) c.with_line_options.ensures
