use Rattle.std.proofs.Common.{◌≡◌, ◌∙◌, true, ap, ap₂, codes}
use Rattle.std.proofs.lemmas.Result.{IfOk-weaker}
use Rattle.clap.specs.Simple.{App, app_of, app_of_fields, new_app, on_top, with_subcommand}
use Rattle.ipc_program.proofs.arguments.program.Goals as goal

pub returns : goal.returns
returns c =
    let bare : app_of c.after_help.result ≡ on_top (λ s. record s { has_version = true }) (new_app (codes "mqserve")) =
    ap app_of_fields c.after_help.ensures ∙ ap app_of_fields c.override_usage.ensures ∙ ap app_of_fields c.about.ensures ∙ ap app_of_fields c.version.ensures
    ∙ ap (on_top (λ s. record s { has_version = true })) c.new.ensures.app in
    let with_script = c.in_ok-subcommand.ensures.shape c.in_ok-script.ensures.1
    ∙ ap₂ with_subcommand bare (ap (λ (a : App). a.top) c.in_ok-script.ensures.0) in
    let with_serve = c.in_ok-subcommand-2.ensures.shape c.in_ok-serve.ensures.1
    ∙ ap₂ with_subcommand with_script (ap (λ (a : App). a.top) c.in_ok-serve.ensures.0) in
    let with_replay = c.in_ok-subcommand-3.ensures.shape c.in_ok-replay.ensures.1
    ∙ ap₂ with_subcommand with_serve (ap (λ (a : App). a.top) c.in_ok-replay.ensures.0) in
    let with_compact = c.in_ok-subcommand-4.ensures.shape c.in_ok-compact.ensures.1
    ∙ ap₂ with_subcommand with_replay (ap (λ (a : App). a.top) c.in_ok-compact.ensures.0) in
    IfOk-weaker c.subcommand-5.result _ _
    (λ command added. added.shape c.in_ok-same.ensures.1 ∙ ap₂ with_subcommand with_compact (ap (λ (a : App). a.top) c.in_ok-same.ensures.0))
    c.subcommand-5.ensures
