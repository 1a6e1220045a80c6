-- What was said one after another.
use Rattle.std.proofs.Common.{◌≡◌, ℕ, Bool, true, false, not, List, [], ◌∷◌, ◌++◌, Option, None, Some, Result, Ok, Err, refl, sym, ap, subst, append_assoc}
use Rattle.std.specs.Prelude.{IfErr, IfOk, Vec}
use Rattle.std.specs.Io.KnownBytes.{Appends}
use Rattle.std.proofs.KnownBytes.{Appends-nil, Appends-trans, Consumes-nil, Consumes-trans}
use Rattle.ipc_terms.specs.declared.call.Answer.{Answer}
use Rattle.ipc_words.specs.declared.faults.WordFault.{WordFault}
use Rattle.ipc_words.specs.declared.faults.WordFault.TheVariants.{Usage, BadValue, NoMemory}
use Rattle.ipc_client.specs.Connections.{Incoming, Reads}
use Rattle.ipc_client.specs.Dialogues.{Goes, IsAnswered, IsFrameOf, Link, Nothing, Says, Talks, Then, bytes_of}
use Rattle.ipc_client.specs.Frames.{AreSpelled, FailsBy}
use Rattle.ipc_client.proofs.StreamLemmas.{answered_open}

pub talk_nothing : (P : List ℕ → List ℕ → List ℕ → Type 0) (l : Link) → ((bytes : List ℕ) → P [] bytes bytes) → Talks P l l
talk_nothing P l holds = ([], [], Appends-nil l.held, Consumes-nil l.incoming.unread, λ more. holds (l.incoming.waiting ++ more))

pub talk_then : (P Q : List ℕ → List ℕ → List ℕ → Type 0) (a b c : Link) → Talks P a b → Talks Q b c → Talks (Then P Q) a c
talk_then P Q a b c (sent, came, held, given, p) (sent_then, came_then, held_then, given_then, q) = (
  sent ++ sent_then,
  came ++ came_then,
  Appends-trans a.held b.held c.held sent sent_then held held_then,
  Consumes-trans a.incoming.unread b.incoming.unread c.incoming.unread came came_then given given_then,
  λ more. (
    sent,
    sent_then,
    b.incoming.waiting ++ (came_then ++ more),
    refl,
    subst (λ (bytes : List ℕ). P sent (a.incoming.waiting ++ bytes) (b.incoming.waiting ++ (came_then ++ more))) (sym (append_assoc came came_then more)) (p (came_then ++ more)),
    q more,
  ),
)

-- what was said is also this
pub talk_as : (P Q : List ℕ → List ℕ → List ℕ → Type 0) (a b : Link) → ((sent bytes rest : List ℕ) → P sent bytes rest → Q sent bytes rest) → Talks P a b → Talks Q a b
talk_as P Q a b also (sent, came, held, given, p) = (sent, came, held, given, λ more. also sent (a.incoming.waiting ++ (came ++ more)) (b.incoming.waiting ++ more) (p more))

-- what is written elsewhere changes nothing
pub talk_shown : (P : List ℕ → List ℕ → List ℕ → Type 0) (a b : Link) (later : Incoming) → Talks P a b → later ≡ b.incoming → Talks P a (record { incoming = later; held = b.held })
talk_shown P a b later talks same = subst (λ (i : Incoming). Talks P a (record { incoming = i; held = b.held })) (sym same) talks

pub talk_answered : (frame : List ℕ) (answer : Answer) (a b : Link) → Appends a.held b.held frame → Reads (IsAnswered answer) a.incoming b.incoming
    → Talks (λ sent bytes rest. (sent ≡ frame) × IsAnswered answer bytes rest) a b
talk_answered frame answer a b sent (came, given, answered) = (
  frame,
  came,
  sent,
  given,
  λ more. (refl, subst (λ (bytes : List ℕ). IsAnswered answer bytes (b.incoming.waiting ++ more)) (append_assoc a.incoming.waiting came more) (answered_open answer (a.incoming.waiting ++ came) b.incoming.waiting more answered)),
)

pub frame_of : {Z : Type 0} (words : List (List ℕ)) (frame : Result (Vec ℕ Z) WordFault) → IfOk frame (λ f. AreSpelled words (Some f.items)) → IfErr frame (FailsBy words) → IsFrameOf words (bytes_of frame)
frame_of words (Ok frame) spelled fault = spelled
frame_of words (Err fault) spelled fails = fails
