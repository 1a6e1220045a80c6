-- Whole files: a head, and then records.
use Rattle.std.proofs.Common.{◌≡◌, List, ℕ, Ok, Err, refl, subst, inl, inr}
use Rattle.ipc_access.specs.declared.users.User.{User}
use Rattle.ipc_log.specs.declared.head.Head.{Head}
use Rattle.ipc_history.specs.declared.fault.HistoryFault.{HistoryFault}
use Rattle.ipc_history.specs.Files.{IsHead, IsNoHead}
use Rattle.ipc_history.specs.Incoming.{Incoming, Reads}
use Rattle.ipc_history.specs.Pasts.{PastView, before_all, IsFirst, IsNoFirst, GoesOn, GoesNotOn}
use Rattle.ipc_history.specs.Replays.{Continues, IsFile, IsFileFault, IsNextFile, IsNextFileFault}
use Rattle.ipc_history.proofs.GrowLemmas.{head_open}
use Rattle.ipc_history.proofs.StreamLemmas.{ReadThen, read_then, read_as}

-- a head, and records behind it
read_behind : (Q R : List ℕ → List ℕ → Type 0) (head : Head) (a b c : Incoming)
    → ((bytes left behind : List ℕ) → IsHead head bytes behind → Q behind left → R bytes left)
    → Reads (IsHead head) a b → Reads Q b c → Reads R a c
read_behind Q R head a b c turn found reads =
    read_as (ReadThen (IsHead head) Q) R (λ bytes left x. turn bytes left x.0 x.1 x.2) a c (read_then (IsHead head) Q (head_open head) a b c found reads)

-- what ends well ends with nothing to tell
same_done : (past longer : PastView) (done : Unit {0}) (bytes left : List ℕ) → Continues past longer (Ok done) bytes left → Continues past longer (Ok tt) bytes left
same_done past longer done bytes left goes =
    record { config_is = goes.config_is; retelling_is = goes.retelling_is; read = goes.read; history_is = goes.history_is; rest = goes.rest; stand = goes.stand; ends = goes.ends }

-- ---- a first file

pub no_file : (users : List User) (f : HistoryFault) (a b : Incoming) → Reads (λ bytes rest. IsNoHead f bytes) a b → Reads (IsFileFault users f) a b
no_file users f a b reads = read_as (λ bytes rest. IsNoHead f bytes) (IsFileFault users f) (λ bytes left none. inl none) a b reads

pub no_first : (users : List User) (head : Head) (f : HistoryFault) (a b : Incoming) → IsNoFirst users head f → Reads (IsHead head) a b → Reads (IsFileFault users f) a b
no_first users head f a b why reads = read_as (IsHead head) (IsFileFault users f) (λ bytes left found. inr (head, left, found, inl why)) a b reads

pub file_ends : (users : List User) (head : Head) (past longer : PastView) (f : HistoryFault) (a b c : Incoming) → past ≡ before_all users head
    → Reads (IsHead head) a b → Reads (Continues past longer (Err f)) b c → Reads (IsFileFault users f) a c
file_ends users head past longer f a b c is found goes =
    read_behind (Continues past longer (Err f)) (IsFileFault users f) head a b c
    (λ bytes left behind x y. inr (head, behind, x, inr (longer, subst (λ (s : PastView). Continues s longer (Err f) behind left) is y)))
    found goes

pub file_read : (users : List User) (head : Head) (past longer : PastView) (done : Unit {0}) (a b c : Incoming) → past ≡ before_all users head → IsFirst users head
    → Reads (IsHead head) a b → Reads (Continues past longer (Ok done)) b c → Reads (IsFile users longer) a c
file_read users head past longer done a b c is first found goes =
    read_behind (Continues past longer (Ok done)) (IsFile users longer) head a b c
    (λ bytes left behind x y. record {
      head = head;
      behind = behind;
      head_is = x;
      first = first;
      records = subst (λ (s : PastView). Continues s longer (Ok tt) behind left) is (same_done past longer done behind left y);
    })
    found goes

-- ---- a next one

pub no_next_file : (past : PastView) (f : HistoryFault) (a b : Incoming) → Reads (λ bytes rest. IsNoHead f bytes) a b → Reads (IsNextFileFault past past f) a b
no_next_file past f a b reads = read_as (λ bytes rest. IsNoHead f bytes) (IsNextFileFault past past f) (λ bytes left none. inl (refl, none)) a b reads

pub not_next : (past : PastView) (head : Head) (f : HistoryFault) (a b : Incoming) → GoesNotOn past head f → Reads (IsHead head) a b → Reads (IsNextFileFault past past f) a b
not_next past head f a b why reads = read_as (IsHead head) (IsNextFileFault past past f) (λ bytes left found. inr (head, left, found, inl (refl, why))) a b reads

pub next_ends : (head : Head) (past longer : PastView) (f : HistoryFault) (a b c : Incoming)
    → Reads (IsHead head) a b → Reads (Continues past longer (Err f)) b c → Reads (IsNextFileFault past longer f) a c
next_ends head past longer f a b c found goes =
    read_behind (Continues past longer (Err f)) (IsNextFileFault past longer f) head a b c (λ bytes left behind x y. inr (head, behind, x, inr y)) found goes

pub next_read : (head : Head) (past longer : PastView) (done : Unit {0}) (a b c : Incoming) → GoesOn past head
    → Reads (IsHead head) a b → Reads (Continues past longer (Ok done)) b c → Reads (IsNextFile past longer) a c
next_read head past longer done a b c next found goes =
    read_behind (Continues past longer (Ok done)) (IsNextFile past longer) head a b c
    (λ bytes left behind x y. record { head = head; behind = behind; head_is = x; next = next; records = same_done past longer done behind left y })
    found goes
