-- Bytes that come later change nothing of the answers before them.
use Rattle.std.proofs.Common.{ℕ, zero, suc, List, [], ◌++◌, sym, ap, subst, append_assoc, append-nil}
use Rattle.std.proofs.KnownBytes.{Consumes-nil, Consumes-trans}
use Rattle.ipc_terms.specs.declared.call.Answer.{Answer}
use Rattle.ipc_fields.proofs.FrontLemmas.{front_grow}
use Rattle.ipc_wire.specs.Answers.{answer_at}
use Rattle.ipc_client.specs.Connections.{Incoming, IsNext, Reads}
use Rattle.ipc_client.specs.Dialogues.{AreNotices, IsAnswered, NoticesStand}

-- first this, and then that
abbrev pub ReadThen : (List ℕ → List ℕ → Type 0) → (List ℕ → List ℕ → Type 0) → List ℕ → List ℕ → Type 0
ReadThen P Q bytes rest = (between : List ℕ) × P bytes between × Q between rest

-- it holds also where more follows
abbrev pub IsOpen : (List ℕ → List ℕ → Type 0) → Type 0
IsOpen P = (bytes rest more : List ℕ) → P bytes rest → P (bytes ++ more) (rest ++ more)

pub next_open : (answer : Answer) → IsOpen (IsNext answer)
next_open answer bytes rest more next = front_grow answer_at bytes more answer rest next

so_many_notices_open : (n : ℕ) → IsOpen (NoticesStand n)
unfolding NoticesStand
so_many_notices_open zero bytes rest more e = ap (λ (b : List ℕ). b ++ more) e
so_many_notices_open (suc n) bytes rest more (notice, between, earlier, next, is) = (notice, between ++ more, so_many_notices_open n bytes between more earlier, next_open notice between rest more next, is)

pub notices_open : IsOpen AreNotices
notices_open bytes rest more (n, stand) = (n, so_many_notices_open n bytes rest more stand)

pub answered_open : (answer : Answer) → IsOpen (IsAnswered answer)
answered_open answer bytes rest more (between, notices, next, is) = (between ++ more, notices_open bytes between more notices, next_open answer between rest more next, is)

-- ---- reading one after another

pub read_nothing : (P : List ℕ → List ℕ → Type 0) (i : Incoming) → P i.waiting i.waiting → Reads P i i
read_nothing P i holds = ([], Consumes-nil i.unread, subst (λ (bytes : List ℕ). P bytes i.waiting) (sym (append-nil i.waiting)) holds)

pub read_then : (P Q : List ℕ → List ℕ → Type 0) → IsOpen P → (a b c : Incoming) → Reads P a b → Reads Q b c → Reads (ReadThen P Q) a c
read_then P Q more a b c (first, given, p) (second, given_then, q) = (
  first ++ second,
  Consumes-trans a.unread b.unread c.unread first second given given_then,
  (b.waiting ++ second, subst (λ (bytes : List ℕ). P bytes (b.waiting ++ second)) (append_assoc a.waiting first second) (more (a.waiting ++ first) b.waiting second p), q),
)
