-- What the tables have for a call that is accepted.
use Rattle.std.proofs.Common.{◌≡◌, ℕ, ◌<◌, ◌≤◌, Bool, true, false, not, ◌&&◌, ◌||◌, eqb, cond, List, length, slice_get, Option, Some, None, is_some, refl, sym, ap, subst, ◌∙◌, arith}
use Rattle.std.specs.Prelude.{option_and_then, min, nat_lt}
use Rattle.std.specs.Option.{option_map}
use Rattle.std.proofs.lemmas.Option.{slice_get_within}
use Rattle.std.proofs.lemmas.Bool.Decides.{nat_tests}
use Rattle.ipc_terms.specs.Flags.{has_create}
use Rattle.ipc_terms.specs.declared.ids.Sid.{Sid}
use Rattle.ipc_terms.specs.Names.{same_family}
use Rattle.ipc_terms.specs.declared.ids.Family.{Family}
use Rattle.ipc_terms.specs.declared.ids.Family.TheVariants.{Mq, Sem}
use Rattle.ipc_terms.specs.declared.object.Asked.{Asked}
use Rattle.ipc_terms.specs.declared.object.Asked.TheVariants.{Queue as AskedQueue, Semaphore as AskedSemaphore}
use Rattle.ipc_terms.specs.declared.object.TheConstants.{SEM_VALUE_MAX}
use Rattle.ipc_terms.specs.declared.record.Event.{Event}
use Rattle.ipc_terms.specs.declared.call.Attributes.{Attributes}
use Rattle.ipc_terms.specs.declared.call.Call.{Call}
use Rattle.ipc_terms.specs.declared.call.Call.TheVariants.{MqOpen, SemOpen}
use Rattle.ipc_terms.specs.declared.record.Event.TheVariants.{Hello, Do, Hangup, Tick}
use Rattle.ipc_access.specs.declared.class.Cred.{Cred}
use Rattle.ipc_access.specs.Users.{cred_of}
use Rattle.ipc_policy.specs.declared.config.Config.{Config}
use Rattle.ipc_policy.specs.declared.config.Held.{Held}
use Rattle.ipc_terms.specs.declared.object.Object.{Object}
use Rattle.ipc_policy.specs.Decides.History.{History}
use Rattle.ipc_policy.specs.Decides.Sessions.{user, live, cred}
use Rattle.ipc_policy.specs.Decides.Names.{Opening, opening, queue_opening, semaphore_opening, is_bound, bound}
use Rattle.ipc_policy.specs.Follows.Grow.{is_new}
use Rattle.ipc_policy.specs.Decides.Objects.{object, attributes_of, kind_of}
use Rattle.ipc_policy.specs.Decides.Descriptions.{holds}
use Rattle.ipc_policy.specs.Decides.Rules.{is_some_and, is_of_family, not_held, out_of_range, above_limit, queue_made}
use Rattle.ipc_policy.specs.Decides.Charges.{limit}
use Rattle.ipc_policy.specs.Decides.Bodies.{due}
use Rattle.ipc_policy.specs.Decides.Verdict.{verdict}
use Rattle.ipc_policy.proofs.Histories.Known.{bound_iff}
use Rattle.ipc_tables.specs.declared.rows.Session.{Session}
use Rattle.ipc_terms.specs.Objects.{family_of, of_queue, as_queue, of_semaphore, as_semaphore, attributes_asked, value_asked}
use Rattle.ipc_terms.specs.declared.object.Kind.{Kind}
use Rattle.ipc_terms.specs.declared.object.Kind.TheVariants.{Queue as QueueKind, Semaphore as SemaphoreKind}
use Rattle.ipc_tables.specs.Objects.{HasRoom}
use Rattle.ipc_tables.specs.TablesView.{TablesView, is_live_row, live_at}
use Rattle.ipc_state.specs.Agrees.{Agrees, IsCore, SessionsAgree, ChargesAgree}
use Rattle.ipc_state.specs.Ranges.{first_bad}
use Rattle.ipc_state.specs.declared.limits.Field.TheVariants.{MsgMax, MsgsizeMax}
use Rattle.ipc_policy.proofs.Histories.Unforbidden.{off, caller_live, leaver_live}
use Rattle.ipc_policy.proofs.Blocked.Earliest.{due_live}
use Rattle.ipc_policy.proofs.Directories.OpenAccepted.{open_there, open_in_range, open_value_in_range, open_within_limit}
use Rattle.ipc_policy.proofs.Queues.Limiting.{caller_limited}
use Rattle.ipc_descr.specs.declared.charges.Charge.{Charge}
use Rattle.ipc_tables.specs.Charging.{Affords}
use Rattle.ipc_state.proofs.ChargeTables.{affords_kind}

pub within_live : (xs : List Session) (s : ℕ) → live_at xs s ≡ true → s < length xs
within_live xs s k = at (slice_get xs s) refl k where
  at : (o : Option Session) → slice_get xs s ≡ o → is_live_row o ≡ true → s < length xs
  at None e k = absurd cc
  at (Some x) e k = slice_get_within xs s x e

-- who the session of a row is
pub user_row : (c : Config) (h : History) (xs : List Session) (s : ℕ) (row : Session) → SessionsAgree c h xs → slice_get xs s ≡ Some row → user h s ≡ Some row.user
user_row c h xs s row a e = sym (a.users s) ∙ ap (option_map (λ (row : Session). row.user)) e

pub cred_row : (c : Config) (h : History) (xs : List Session) (s : ℕ) (row : Session) → SessionsAgree c h xs → slice_get xs s ≡ Some row → cred_of c.users row.user ≡ cred c h s
unfolding cred
cred_row c h xs s row a e = rw (user_row c h xs s row a e) refl

-- an open that is not refused for its absent name creates where the name is unbound
new_at : (b u : Bool) → u ≡ false → (not b && true) ≡ false → (b && not u) ≡ true
new_at true true k l = absurd cc
new_at true false k l = refl
new_at false true k l = absurd cc
new_at false false k l = absurd cc

-- what is held and gives an object of the family
there_held : (c : Config) (h : History) (family : Family) (w : Option Held) → is_of_family family (option_and_then (λ x. object c h x.object) w) ≡ true → is_some w ≡ true
there_held c h family None e = absurd cc
there_held c h family (Some x) e = refl

there_queue : (w : Option Object) → is_of_family Mq w ≡ true → is_some (as_queue w) ≡ true
there_queue None e = absurd cc
there_queue (Some x) e = at x.kind e where
  at : (kind : Kind) → same_family (family_of kind) Mq ≡ true → is_some (of_queue kind) ≡ true
  at (QueueKind given) k = refl
  at (SemaphoreKind value) k = absurd cc

there_semaphore : (w : Option Object) → is_of_family Sem w ≡ true → is_some (as_semaphore w) ≡ true
there_semaphore None e = absurd cc
there_semaphore (Some x) e = at x.kind e where
  at : (kind : Kind) → same_family (family_of kind) Sem ≡ true → is_some (of_semaphore kind) ≡ true
  at (QueueKind given) k = absurd cc
  at (SemaphoreKind value) k = refl

-- a description is held, and gives an object of the family, where the description is not refused
pub not_bad_held : (c : Config) (h : History) (s : ℕ) (family : Family) (d : ℕ) → not_held c h s family d ≡ false → is_some (holds h s d) ≡ true
not_bad_held c h s family d e = there_held c h family (holds h s d) (off _ e)

pub not_bad_queue : (c : Config) (h : History) (s d : ℕ) (x : Held) → not_held c h s Mq d ≡ false → holds h s d ≡ Some x → is_some (as_queue (object c h x.object)) ≡ true
not_bad_queue c h s d x e k = there_queue (object c h x.object) (rw k at (off _ e))

pub not_bad_semaphore : (c : Config) (h : History) (s d : ℕ) (x : Held) → not_held c h s Sem d ≡ false → holds h s d ≡ Some x → is_some (as_semaphore (object c h x.object)) ≡ true
not_bad_semaphore c h s d x e k = there_semaphore (object c h x.object) (rw k at (off _ e))

-- what an accepted open of an unbound name asks for, or is given without asking, is some
or_off : (a b : Bool) → (a || b) ≡ false → (a ≡ false) × (b ≡ false)
or_off true b e = absurd cc
or_off false b e = (refl, e)

pub not_zero : (n : ℕ) → eqb n 0 ≡ false → 0 < n
not_zero n e = grind (arith, nat_tests)

min_some : (a b : ℕ) → 0 < a → 0 < b → 0 < min a b
min_some a b k l = omega arith

min_most : (a b most : ℕ) → a ≤ most → min a b ≤ most
min_most a b most le = omega arith

-- what is not above a limit is not above the greatest limit
at_most : (n most : ℕ) → nat_lt most n ≡ false → n ≤ most
at_most n most e = grind (arith, nat_tests)

under : (b : Bool) (hard limit n : ℕ) → limit ≤ hard → nat_lt (cond b hard limit) n ≡ false → n ≤ hard
under true hard limit n le e = at_most n hard e
under false hard limit n le e = let most = at_most n limit e in omega arith

-- where no condition holds, the first does not, and none of the others does
pub first_none : {X : Type 0} (b : Bool) (x : X) (o : Option X) → cond b (Some x) o ≡ None → (b ≡ false) × (o ≡ None)
first_none true x o e = absurd cc
first_none false x o e = (refl, e)

limits_range : (c : Config) → first_bad c.limits ≡ None → ((0 < c.limits.msg_max) × (c.limits.msg_max ≤ 65536)) × ((0 < c.limits.msgsize_max) × (c.limits.msgsize_max ≤ 16777216))
limits_range c e =
    let past1 = first_none _ MsgMax _ e in
    let past2 = first_none _ MsgsizeMax _ past1.1 in
    let part1 = or_off _ _ past1.0 in
    let part2 = or_off _ _ past2.0 in
    ((not_zero c.limits.msg_max part1.0, at_most c.limits.msg_max 65536 part1.1), (not_zero c.limits.msgsize_max part2.0, at_most c.limits.msgsize_max 16777216 part2.1))

pub limits_some : (c : Config) → first_bad c.limits ≡ None → (0 < c.limits.msg_max) × (0 < c.limits.msgsize_max)
limits_some c e = let range = limits_range c e in (range.0.0, range.1.0)

attributes_range : (c : Config) (who : Cred) (given : Option Attributes) → first_bad c.limits ≡ None → out_of_range c (Some who) given ≡ false → HasRoom (QueueKind (attributes_of c given))
attributes_range c who None e k = let range = limits_range c e in ((min_some 10 c.limits.msg_max (omega arith) range.0.0, min_most 10 c.limits.msg_max 65536 (omega arith)), (min_some 8192 c.limits.msgsize_max (omega arith) range.1.0, min_most 8192 c.limits.msgsize_max 16777216 (omega arith)))
attributes_range c who (Some given) e k =
    let range = limits_range c e in
    let part1 = or_off _ _ k in
    let part2 = or_off _ _ part1.0 in
    let part3 = or_off _ _ part2.0 in
    ((not_zero given.maxmsg part3.0, under (eqb who.uid.0 0) 65536 c.limits.msg_max given.maxmsg range.0.1 part2.1), (not_zero given.msgsize part3.1, under (eqb who.uid.0 0) 16777216 c.limits.msgsize_max given.msgsize range.1.1 part1.1))

-- an accepted call's session is live, so it stands in the table
pub caller_lives : (c : Config) (h : History) (t : TablesView) (sid : Sid) (call : Call) → Agrees c h t → verdict c h (Do sid call) ≡ None → live_at t.sessions sid.0 ≡ true
caller_lives c h t sid call a e = a.sessions.lives sid.0 ∙ caller_live c h sid call e

pub caller_within : (c : Config) (h : History) (t : TablesView) (sid : Sid) (call : Call) → Agrees c h t → verdict c h (Do sid call) ≡ None → sid.0 < length t.sessions
caller_within c h t sid call a e = within_live t.sessions sid.0 (caller_lives c h t sid call a e)

pub opener_live : (c : Config) (h : History) (e : Event) (asked : Opening) → opening e ≡ Some asked → verdict c h e ≡ None → live h asked.session.0 ≡ true
opener_live c h (Do sid (MqOpen given)) asked k accepted = let same : queue_opening sid given ≡ asked = cc in subst (λ (a : Opening). live h a.session.0 ≡ true) same (caller_live c h sid (MqOpen given) accepted)
opener_live c h (Do sid (SemOpen given)) asked k accepted = let same : semaphore_opening sid given ≡ asked = cc in subst (λ (a : Opening). live h a.session.0 ≡ true) same (caller_live c h sid (SemOpen given) accepted)
opener_live c h (Do sid call) asked k accepted = absurd cc
opener_live c h (Hello found) asked k accepted = absurd cc
opener_live c h (Hangup sid) asked k accepted = absurd cc
opener_live c h (Tick moment) asked k accepted = absurd cc

pub leaver_within : (c : Config) (h : History) (t : TablesView) (sid : Sid) → Agrees c h t → verdict c h (Hangup sid) ≡ None → sid.0 < length t.sessions
leaver_within c h t sid a e = within_live t.sessions sid.0 (a.sessions.lives sid.0 ∙ leaver_live c h sid e)

-- and so does the session whose call a tick ends
pub due_within : (c : Config) (h : History) (t : TablesView) (moment : ℕ) (sid : Sid) → IsCore c h t → due c h moment ≡ Some sid.0 → sid.0 < length t.sessions
due_within c h t moment sid k e = within_live t.sessions sid.0 (k.agrees.sessions.lives sid.0 ∙ due_live c h moment sid.0 k.legal e)

-- an accepted open of an unbound name creates, and what it creates has its room
unbound_is : (h : History) (family : Family) (name : List ℕ) → bound h family name ≡ None → is_bound h family name ≡ false
unbound_is h family name none = bound_iff h family name ∙ ap is_some none

pub open_new : (c : Config) (h : History) (e : Event) (asked : Opening) → opening e ≡ Some asked → verdict c h e ≡ None → bound h asked.family asked.name ≡ None → is_new asked (is_bound h) ≡ true
open_new c h e asked is accepted none = new_at (has_create asked.flags) (is_bound h asked.family asked.name) (unbound_is h asked.family asked.name none) (ap (λ b. not (has_create asked.flags) && not b) (sym (unbound_is h asked.family asked.name none)) ∙ open_there c h e asked is accepted)

room_at : (c : Config) (asked : Asked) (who : Cred) → first_bad c.limits ≡ None → out_of_range c (Some who) (attributes_asked asked) ≡ false → is_some_and (nat_lt SEM_VALUE_MAX) (value_asked asked) ≡ false → HasRoom (kind_of c asked)
room_at c (AskedQueue given) who in_range one two = attributes_range c who given in_range one
room_at c (AskedSemaphore value) who in_range one two = grind (arith, nat_tests)

pub open_room : (c : Config) (h : History) (e : Event) (asked : Opening) (who : Cred) → first_bad c.limits ≡ None → opening e ≡ Some asked → verdict c h e ≡ None → bound h asked.family asked.name ≡ None → cred c h asked.session.0 ≡ Some who → HasRoom (kind_of c asked.kind)
open_room c h e asked who in_range is accepted none known =
    let new = open_new c h e asked is accepted none in
    let one = ap (λ b. b && out_of_range c (cred c h asked.session.0) (attributes_asked asked.kind)) (sym new) ∙ open_in_range c h e asked is accepted in
    let two = ap (λ b. b && is_some_and (nat_lt SEM_VALUE_MAX) (value_asked asked.kind)) (sym new) ∙ open_value_in_range c h e asked is accepted in
    room_at c asked.kind who in_range (ap (λ w. out_of_range c w (attributes_asked asked.kind)) (sym known) ∙ one) two

-- and its creator can afford it
pub open_affords : (c : Config) (h : History) (e : Event) (asked : Opening) (charges : List Charge) (who : Cred) → opening e ≡ Some asked → verdict c h e ≡ None → bound h asked.family asked.name ≡ None → cred c h asked.session.0 ≡ Some who → ChargesAgree c h charges → Affords charges who.uid.0 (kind_of c asked.kind)
open_affords c h e asked charges who is accepted none known a =
    let new = open_new c h e asked is accepted none in
    let fits = ap (λ b. b && is_some_and (λ given. is_some_and (above_limit c h given) (cred c h asked.session.0)) (queue_made c asked)) (sym new) ∙ open_within_limit c h e asked is accepted in
    affords_kind c h charges who (kind_of c asked.kind) (caller_limited c h asked.session.0 who known) a (subst (λ (w : Option Cred). is_some_and (λ given. is_some_and (above_limit c h given) w) (queue_made c asked) ≡ false) known fits)
