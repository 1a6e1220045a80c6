-- What a trail's bytes say: a head, the records that stand one behind the other, and why they go no further.
use Rattle.std.specs.Prelude.{◌≡◌, ◌≢◌, ⊤, ℕ, ◌+◌, List, [], ◌∷◌, length, drop, Option, None, Some, Result, Ok, Err}
use Rattle.ipc_terms.specs.declared.record.Record.{Record}
use Rattle.ipc_policy.specs.declared.config.Config.{Config}
use Rattle.ipc_policy.specs.Decides.History.{History}
use Rattle.ipc_policy.specs.Decides.Verdict.{verdict}
use Rattle.ipc_log.specs.declared.head.Head.{Head}
use Rattle.ipc_log.specs.Trail.{head_front, record_front}
use Rattle.ipc_history.specs.declared.fault.HistoryFault.{HistoryFault}
use Rattle.ipc_history.specs.declared.fault.HistoryFault.TheVariants as fault

-- the head stands in front of the bytes, and the rest behind it
abbrev pub IsHead : Head → List ℕ → List ℕ → Type 0
IsHead head bytes rest = (n : ℕ) × (head_front bytes ≡ Ok (Some (head, n))) × (rest ≡ drop n bytes)

-- the head in front, or that no whole one is there
abbrev pub IsHeadIf : Option Head → List ℕ → List ℕ → Type 0
IsHeadIf (Some head) bytes rest = IsHead head bytes rest
IsHeadIf None bytes rest = (head_front bytes ≡ Ok None) × (rest ≡ bytes)

-- the record of this place stands in front of the bytes, and the rest behind it
abbrev pub IsNext : ℕ → Record → List ℕ → List ℕ → Type 0
IsNext place r bytes rest = (n : ℕ) × (record_front place bytes ≡ Ok (Some (r, n))) × (rest ≡ drop n bytes)

-- the record that is next, or that no whole one is there
abbrev pub IsNextIf : ℕ → Option Record → List ℕ → List ℕ → Type 0
IsNextIf place (Some r) bytes rest = IsNext place r bytes rest
IsNextIf place None bytes rest = (record_front place bytes ≡ Ok None) × (rest ≡ bytes)

-- These records, the newest first, stand one behind the other in front of the bytes, the oldest as that of the place `first`,
-- and the rest behind them.
abbrev pub Stand : ℕ → List Record → List ℕ → List ℕ → Type 0
Stand first [] bytes rest = rest ≡ bytes
Stand first (r ∷ older) bytes rest = (between : List ℕ) × Stand first older bytes between × IsNext (length older + first) r between rest

-- ---- why it goes no further

-- a read or memory failed
abbrev pub IsOfReader : HistoryFault → Type 0
IsOfReader fault.Read = ⊤
IsOfReader fault.NoMemory = ⊤
IsOfReader other = ⊥

-- no head stands in front of all the bytes that there are, or memory or a read failed
abbrev pub IsNoHead : HistoryFault → List ℕ → Type 0
IsNoHead fault.NoHead bytes = head_front bytes ≡ Ok None
IsNoHead (fault.Head f) bytes = head_front bytes ≡ Err f
IsNoHead fault.Read bytes = ⊤
IsNoHead fault.NoMemory bytes = ⊤
IsNoHead other bytes = ⊥

-- what stands in front is no record of this place, or memory or a read failed
abbrev pub IsNoRecord : ℕ → HistoryFault → List ℕ → Type 0
IsNoRecord place (fault.Record at f) bytes = (at ≡ place) × (record_front place bytes ≡ Err f)
IsNoRecord place fault.Read bytes = ⊤
IsNoRecord place fault.NoMemory bytes = ⊤
IsNoRecord place other bytes = ⊥

-- the record of this place stands in front, and its rule is not the verdict on its event
abbrev pub IsOther : Config → History → List ℕ → Type 0
IsOther c h bytes = (r : Record) × (rest : List ℕ) × IsNext (length h) r bytes rest × (r.rule ≢ verdict c h r.event)

-- Behind a history that was read the bytes that are left are no whole record; or the fault is there.
abbrev pub Ends : Config → History → Result Unit HistoryFault → List ℕ → List ℕ → Type 0
Ends c h (Ok done) rest left = (record_front (length h) rest ≡ Ok None) × (left ≡ rest)
Ends c h (Err (fault.Differs place)) rest left = (place ≡ length h) × IsOther c h rest
Ends c h (Err other) rest left = IsNoRecord (length h) other rest
