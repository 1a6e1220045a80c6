-- Streams of frames: what spells a request or an answer, and how a stream is cut.
use Rattle.std.specs.Prelude.{◌≡◌, ◌⊎◌, ℕ, zero, suc, List, [], ◌∷◌, ◌++◌, length, Option, Some, None, Result, Ok, Err, Bool, true, false, ◌&&◌}
use Rattle.ipc_terms.specs.declared.call.Answer.{Answer}
use Rattle.ipc_fields.specs.declared.fault.WireFault.{WireFault}
use Rattle.ipc_fields.specs.Frame.{framed, front_by}
use Rattle.ipc_wire.specs.declared.request.Request.{Request}
use Rattle.ipc_wire.specs.Requests.{request_body, request_at, is_plain, is_hello_request, same}
use Rattle.ipc_wire.specs.Answers.{answer_body, answer_at, answer_fits}

-- The one byte string of a request. None where a length is too great.
abbrev pub spell : Request → Option (List ℕ)
spell q = framed (request_body q)

-- The one byte string of an answer. None where a length is too great.
abbrev pub spell_answer : Answer → Option (List ℕ)
spell_answer a = framed (answer_body a)

-- a spelling of a request or an answer
abbrev pub IsSpelling : List ℕ → Type 0
IsSpelling text = ((q : Request) × (spell q ≡ Some text)) ⊎ ((a : Answer) × (spell_answer a ≡ Some text))

abbrev pub front : Bool → List ℕ → Result (Option (Request × List ℕ)) WireFault
front first w = front_by (request_at first) w

abbrev pub answer_front : List ℕ → Result (Option (Answer × List ℕ)) WireFault
answer_front w = front_by answer_at w

-- a whole frame of this answer stands in front, and each of its fields is within its type
pub record IsAnswerSpelledBy (w : List ℕ) (a : Answer) (rest : List ℕ) : Type 0 where
  pub text : List ℕ
  pub spelled : spell_answer a ≡ Some text
  pub parts : w ≡ text ++ rest
  pub plain : answer_fits a ≡ true

-- a whole frame of this request stands in front, and the request has no bit that means nothing
pub record IsSpelledBy (first : Bool) (w : List ℕ) (q : Request) (rest : List ℕ) : Type 0 where
  pub text : List ℕ
  pub spelled : spell q ≡ Some text
  pub parts : w ≡ text ++ rest
  pub plain : is_plain q ≡ true
  pub hello_is : is_hello_request q ≡ first

-- what a stream is cut into: requests, and then the rest, with the fault that stands in front of it
pub record Cut : Type 0 where
  pub requests : List Request
  pub rest : List ℕ
  pub fault : Option WireFault

abbrev pub after : List Request → Cut → Cut
after qs c = record { requests = qs ++ c.requests; rest = c.rest; fault = c.fault }

abbrev pub cut_by : (List ℕ → Cut) → List ℕ → Result (Option (Request × List ℕ)) WireFault → Cut
cut_by cut_rest w (Err f) = record { requests = []; rest = w; fault = Some f }
cut_by cut_rest w (Ok None) = record { requests = []; rest = w; fault = None }
cut_by cut_rest w (Ok (Some x)) = after (x.0 ∷ []) (cut_rest x.1)

-- at most n requests
unfoldable pub cut_within : ℕ → Bool → List ℕ → Cut
cut_within zero first w = record { requests = []; rest = w; fault = None }
cut_within (suc n) first w = cut_by (cut_within n false) w (front first w)

-- front repeated. There are fewer requests than bytes.
unfoldable pub cut : Bool → List ℕ → Cut
cut first w = cut_within (length w) first w

-- a stream so far: what is kept of it, whether no request has come yet, and the fault that ended it
pub record Stream : Type 0 where
  pub kept : List ℕ
  pub first : Bool
  pub fault : Option WireFault

abbrev pub new_stream : Stream
new_stream = record { kept = []; first = true; fault = None }

-- whether the next request is still the first
abbrev pub still_first : Bool → List Request → Bool
still_first first [] = first
still_first first (q ∷ qs) = false

abbrev pub stream_after : Bool → Cut → Stream
stream_after first c = record { kept = c.rest; first = still_first first c.requests; fault = c.fault }

-- The requests are those of the cut of what was kept and the piece, and its rest is kept.
pub record Feeds (old : Stream) (piece : List ℕ) (requests : List Request) (new : Stream) : Type 0 where
  pub requests_are : requests ≡ (cut old.first (old.kept ++ piece)).requests
  pub stream_is : new ≡ stream_after old.first (cut old.first (old.kept ++ piece))

-- the first request is a hello where the stream is at its first, and no other is
abbrev pub is_in_order : Bool → List Request → Bool
is_in_order first [] = true
is_in_order first (q ∷ qs) = same (is_hello_request q) first && is_in_order false qs
