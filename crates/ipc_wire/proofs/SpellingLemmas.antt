-- No spelling begins another.
use Rattle.std.proofs.Common.{◌≡◌, ℕ, List, [], ◌++◌, inl, inr}
use Rattle.ipc_fields.proofs.FramingLemmas.{IsFramed, framed_some, no_frame_begins}
use Rattle.ipc_wire.specs.Requests.{request_body}
use Rattle.ipc_wire.specs.Answers.{answer_body}
use Rattle.ipc_wire.specs.Streams.{IsSpelling}

frame_of : (text : List ℕ) → IsSpelling text → (body : List ℕ) × IsFramed body text
frame_of text s =
    elim s [
      | inl q ↦ (let f = framed_some (request_body q.0) text q.1 in (f.0, f.2))
      | inr a ↦ (let f = framed_some (answer_body a.0) text a.1 in (f.0, f.2))
    ]

pub none_begins_another : (text more : List ℕ) → IsSpelling text → IsSpelling (text ++ more) → more ≡ []
none_begins_another text more p q =
    let a = frame_of text p in
    let b = frame_of (text ++ more) q in
    no_frame_begins a.0 b.0 text more a.1 b.1
