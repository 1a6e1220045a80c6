-- Open descriptions.
use Rattle.std.specs.Prelude.{Bool, false, ℕ, ◌&&◌, ◌==◌, List, Option, Some, None, is_some, if◌then◌else◌, unwrap_or, option_and_then}
use Rattle.std.specs.Option.{option_or, option_map}
use Rattle.ipc_terms.specs.Flags.{has_create}
use Rattle.ipc_terms.specs.declared.ids.Family.{Family}
use Rattle.ipc_terms.specs.declared.call.Call.TheVariants.{MqClose, MqSetattr, MqGive, SemClose}
use Rattle.ipc_terms.specs.declared.record.Event.{Event}
use Rattle.ipc_terms.specs.declared.record.Event.TheVariants.{Do, Hangup}
use Rattle.ipc_policy.specs.declared.config.Held.{Held}
use Rattle.ipc_policy.specs.Decides.History.{History, newest, unended_from, how_many, how_many_below}
use Rattle.ipc_policy.specs.Decides.Names.{Opening, opening, nonblock_asked, bound, creations}

-- how many opens were accepted
unfoldable pub opens : History → ℕ
opens h = how_many (λ e before. is_some (opening e)) h

-- the object that the open finds, or else the one that it creates, by what the names are bound to and by how many
-- objects were created; without CREAT it creates none
abbrev pub opened_by : (Family → List ℕ → Option ℕ) → ℕ → Opening → Option ℕ
opened_by bound creations asked = option_or (bound asked.family asked.name) (if has_create asked.flags then Some creations else None)

-- the object that the open finds or creates
abbrev pub opened : History → Opening → Option ℕ
opened before asked = opened_by (bound before) (creations before) asked

-- what a description gives, where its open found or created this object
abbrev pub held_as : Opening → ℕ → Held
held_as asked o = record { session = asked.session; object = o; access = asked.access }

-- a give of description d by the session that holds it makes it the taker's: the same object, the same access
abbrev pub hands_over : ℕ → Event → Option Held → Option Held
hands_over d (Do sid (MqGive desc taker)) None = None
hands_over d (Do sid (MqGive desc taker)) (Some x) = if (sid.0 == x.session.0) && (desc.0 == d) then Some (record x { session = taker }) else None
hands_over d _ was = None

-- description d begins with the open that has d accepted opens before it, and begins anew with each give of it, made of what
-- was held just before
abbrev pub gives : ℕ → Event → History → Option Held → Option Held
gives d e before was = given_by (opening e) where
  given_by : Option Opening → Option Held
  given_by None = hands_over d e was
  given_by (Some asked) = if opens before == d then option_map (held_as asked) (opened before asked) else None

-- session s lets description d go: it closes it, gives it to another, or hangs up
abbrev pub lets_go : ℕ → ℕ → Event → Bool
lets_go s d (Do sid (MqClose desc)) = (sid.0 == s) && (desc.0 == d)
lets_go s d (Do sid (SemClose desc)) = (sid.0 == s) && (desc.0 == d)
lets_go s d (Do sid (MqGive desc taker)) = (sid.0 == s) && (desc.0 == d)
lets_go s d (Hangup sid) = sid.0 == s
lets_go s d _ = false

-- it ends for its session when that lets it go
abbrev pub ends_held : ℕ → Held → Event → Bool
ends_held d held e = lets_go held.session.0 d e

-- what description d gives, and to which session: that of its open, or the taker of the newest give of it by the session that
-- held it
unfoldable pub held : History → ℕ → Option Held
held h d = unended_from (gives d) (λ x e before. ends_held d x e) h

-- it, if it is this session's
abbrev pub if_of : ℕ → Held → Option Held
if_of s x = if x.session.0 == s then Some x else None

-- what session s holds by description d
unfoldable pub holds : History → ℕ → ℕ → Option Held
holds h s d = option_and_then (if_of s) (held h d)

-- how many descriptions session s holds
unfoldable pub held_count : History → ℕ → ℕ
held_count h s = how_many_below (λ d. is_some (holds h s d)) (opens h)

-- the open of description d, and each later change of it, whoever makes it, sets whether its calls are refused where they
-- would wait
abbrev pub sets_nonblock : ℕ → Event → History → Option Bool
sets_nonblock d (Do sid (MqSetattr desc nonblock)) before = if desc.0 == d then Some nonblock else None
sets_nonblock d e before = set_by (opening e) where
  set_by : Option Opening → Option Bool
  set_by None = None
  set_by (Some asked) = if opens before == d then Some (nonblock_asked asked.kind asked.flags) else None

-- whether calls by description d are refused where they would wait
unfoldable pub is_nonblock : History → ℕ → Bool
is_nonblock h d = unwrap_or (newest (sets_nonblock d) h) false
