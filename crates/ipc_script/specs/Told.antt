-- What a step answers, and that nothing is left untaken.
use Rattle.std.specs.Prelude.{◌≡◌, ℕ, List, [], ◌∷◌, ◌++◌, map}
use Rattle.ipc_terms.specs.declared.ids.Sid.{Sid}
use Rattle.ipc_terms.specs.declared.call.Answer.{Answer}
use Rattle.ipc_terms.specs.declared.call.Answer.TheVariants.{Refused}
use Rattle.ipc_core.specs.Boxes.{box_at}
use Rattle.ipc_script.specs.declared.stepping.Told.{Told}
use Rattle.ipc_script.specs.declared.stepping.Told.TheVariants.{Refused as IsRefused, Given}

-- no session has untaken answers
abbrev pub AllTaken : List (List Answer) → Type 0
AllTaken boxes = (s : ℕ) → box_at boxes s ≡ []

-- answers to a session, each with it
abbrev pub to_session : Sid → List Answer → List (Sid × Answer)
to_session sid answers = map (λ answer. (sid, answer)) answers

-- what is told, and to whom, in order
abbrev pub told_list : Told → List (Sid × Answer)
told_list (IsRefused sid rule) = (sid, Refused rule) ∷ []
told_list (Given first second) = to_session first.sid first.answers.items ++ to_session second.sid second.answers.items
