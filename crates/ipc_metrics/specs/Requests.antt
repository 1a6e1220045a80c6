-- What the bytes of a request ask for.
use Rattle.std.specs.Prelude.{◌≡◌, ℕ, ◌<◌, ◌≤◌, ◌==◌, nat_lt, ◌⊎◌, Bool, ◌&&◌, ◌||◌, List, length, take, slice_index, codes, if◌then◌else◌}
use Rattle.std.specs.Str.{bytes_eq}
use Rattle.httparse.specs.Grammar.{HasNoRequest, MayBecomeRequest, NeverHasRequest, ReadsRequest, RequestHead}
use Rattle.httparse.specs.Spans.{RequestExceeds}
use Rattle.ipc_metrics.specs.declared.asked.Asked.{Asked}
use Rattle.ipc_metrics.specs.declared.asked.Asked.TheVariants.{Unfinished, Page, PageHead, OtherPath, OtherPathHead, OtherMethod, Malformed, TooLong}

-- `/metrics`, with or without a query
abbrev pub is_page : List ℕ → Bool
is_page target = bytes_eq (take 8 target) (codes "/metrics") && (length target == 8 || slice_index target 8 == 63)

-- what a whole head asks for
abbrev pub asked_for : List ℕ → List ℕ → Asked
asked_for method target =
    if bytes_eq method (codes "GET") then (if is_page target then Page else OtherPath)
    else if bytes_eq method (codes "HEAD") then (if is_page target then PageHead else OtherPathHead)
    else OtherMethod

-- what bytes that are no whole head yet ask for
abbrev pub asked_so_far : ℕ → Asked
asked_so_far came = if nat_lt came 8192 then Unfinished else TooLong

-- a head of few header lines stands at the front, and this is what it asks for
abbrev pub HeadAsks : List ℕ → Asked → Type 0
HeadAsks bytes asked =
    (h : RequestHead) × (rest : List ℕ) × ReadsRequest bytes h rest × (length h.fields ≤ 32) × (asked ≡ asked_for h.method h.target)

-- what each answer says of the bytes
abbrev pub Asks : List ℕ → Asked → Type 0
Asks bytes Unfinished = HasNoRequest bytes × MayBecomeRequest bytes × (length bytes < 8192)
Asks bytes Malformed = NeverHasRequest bytes
Asks bytes TooLong = RequestExceeds 32 bytes ⊎ (HasNoRequest bytes × MayBecomeRequest bytes × (8192 ≤ length bytes))
Asks bytes Page = HeadAsks bytes Page
Asks bytes PageHead = HeadAsks bytes PageHead
Asks bytes OtherPath = HeadAsks bytes OtherPath
Asks bytes OtherPathHead = HeadAsks bytes OtherPathHead
Asks bytes OtherMethod = HeadAsks bytes OtherMethod
