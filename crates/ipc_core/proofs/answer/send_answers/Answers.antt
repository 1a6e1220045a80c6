use Rattle.std.proofs.Common.{◌≡◌, ◌∷◌, ◌∙◌, sym, subst}
use Rattle.std.specs.Option.{option_to_list}
use Rattle.ipc_terms.specs.declared.ids.Sid.{Sid}
use Rattle.ipc_terms.specs.declared.call.Answer.TheVariants.{Sent}
use Rattle.ipc_policy.specs.Decides.Descriptions.{holds}
use Rattle.ipc_policy.specs.Decides.Verdict.{answers_of, send_answers}
use Rattle.ipc_state.specs.Meetings.{by_description}
use Rattle.ipc_core.proofs.ByDescription.{full_by, noticed_by}
use Rattle.ipc_core.proofs.answer.send_answers.Goals as goal

pub returns-then-is_full : goal.returns-then-is_full
returns-then-is_full c = rw (← c.requires.caller) (sym (full_by _ _ c.args.lookup.now.event c.args.priority c.args.bytes.now (sym c.is_full.ensures ∙ c.if-is_full.true)))

pub returns : goal.returns
returns c =
    let met = c.args.lookup.now in
    let told = noticed_by _ _ met.event c.args.priority c.args.bytes.now _ c.requires.queue (sym c.is_full.ensures ∙ c.if-is_full.false) (sym c.receiver_held.ensures ∙ c.in_default.is) c.notice.ensures in
    let for_caller = subst (λ (s : Sid). (s, Sent) ∷ option_to_list c.notice.result ≡ answers_of (by_description (holds met.history) met.event) (send_answers met.config met.history s c.args.priority c.args.bytes.now)) c.requires.caller told in
    c.of.ensures ∙ for_caller
