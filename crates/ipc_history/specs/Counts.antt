-- What the records of a history count up to.
use Rattle.std.specs.Prelude.{◌≡◌, ℕ, ◌+◌, ◌<◌, ◌==◌, ◌&&◌, Bool, true, false, List, [], ◌∷◌, slice_index, is_some, is_none, if◌then◌else◌}
use Rattle.ipc_terms.specs.declared.record.Record.{Record}
use Rattle.ipc_terms.specs.declared.record.Event.{Event}
use Rattle.ipc_terms.specs.declared.record.Event.TheVariants.{Hello, Do, Hangup}
use Rattle.ipc_log.specs.Fields.{verdict_code}
use Rattle.ipc_history.specs.declared.counts.Counts.{Counts}

-- how many records pass the test
abbrev pub how_many : (Record → Bool) → List Record → ℕ
how_many test [] = 0
how_many test (r ∷ older) = if test r then how_many test older + 1 else how_many test older

abbrev pub is_do : Event → Bool
is_do (Do sid call) = true
is_do _ = false

abbrev pub is_hello : Event → Bool
is_hello (Hello found) = true
is_hello _ = false

abbrev pub is_hangup : Event → Bool
is_hangup (Hangup sid) = true
is_hangup _ = false

-- a call, accepted or refused
abbrev pub is_call : Record → Bool
is_call r = is_do r.event

-- a hello that was accepted: a session began
abbrev pub is_session : Record → Bool
is_session r = is_hello r.event && is_none r.rule

abbrev pub is_refused_hello : Record → Bool
is_refused_hello r = is_hello r.event && is_some r.rule

-- a hang-up that was accepted: a session ended
abbrev pub is_end : Record → Bool
is_end r = is_hangup r.event && is_none r.rule

unfoldable pub calls : List Record → ℕ
calls h = how_many is_call h

unfoldable pub sessions : List Record → ℕ
sessions h = how_many is_session h

unfoldable pub refused_hellos : List Record → ℕ
refused_hellos h = how_many is_refused_hello h

unfoldable pub ends : List Record → ℕ
ends h = how_many is_end h

-- the events with this verdict: 0 where they were accepted, else the number of the rule that refused them
unfoldable pub with_verdict : ℕ → List Record → ℕ
with_verdict code h = how_many (λ r. verdict_code r.rule == code) h

-- these are the counts of the history
pub record AreCounts (counts : Counts) (h : List Record) : Type 0 where
  pub calls_are : counts.calls ≡ calls h
  pub sessions_are : counts.sessions ≡ sessions h
  pub refused_are : counts.refused_hellos ≡ refused_hellos h
  pub ended_are : counts.ended ≡ ends h
  pub verdicts_are : (code : ℕ) → code < 34 → slice_index counts.verdicts code ≡ with_verdict code h
