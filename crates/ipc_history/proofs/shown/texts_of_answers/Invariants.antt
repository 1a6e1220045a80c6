use Rattle.std.proofs.Common.{◌≡◌, map, string_bytes, take}
use Rattle.ipc_policy.specs.Decides.Verdict.{for_session}
use Rattle.ipc_history.specs.Shown.{answer_text}
use Rattle.ipc_history.proofs.shown.texts_of_answers.Given as goal

-- the session's answers so far
abbrev pub invariant-loop-answered : goal.invariant-loop-answered
invariant-loop-answered l = map string_bytes l.texts.items ≡ map (answer_text l.place) (for_session l.session.0 (take l.answered-index l.given))
