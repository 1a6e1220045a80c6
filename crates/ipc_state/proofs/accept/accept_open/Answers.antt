use Rattle.std.proofs.Common.{◌≡◌, true, Some, None, slice_get, ◌∙◌, sym, ap, subst, arith, is_some}
use Rattle.std.specs.Option.{option_copied}
use Rattle.ipc_terms.specs.declared.ids.Sid.{Sid}
use Rattle.ipc_terms.specs.declared.ids.Family.{Family}
use Rattle.ipc_terms.specs.declared.object.Object.{Object}
use Rattle.ipc_terms.specs.Objects.{family_of}
use Rattle.ipc_policy.specs.Decides.Sessions.{live, cred, mask}
use Rattle.ipc_policy.specs.Decides.Names.{Opening, opening, bound}
use Rattle.ipc_policy.proofs.Histories.Known.{opens_le-length, creations_le-length, mask_lt, known_user}
use Rattle.ipc_names.specs.Directory.{object_named}
use Rattle.ipc_tables.specs.TablesView.{is_live_row, directory_kept}
use Rattle.ipc_state.proofs.LiveSessions.{live_same, there_stands}
use Rattle.ipc_state.proofs.Lookups.{found_is, directory_agrees}
use Rattle.ipc_state.proofs.Accepted.{cred_row, user_row, opener_live, open_new, open_room, open_affords}
use Rattle.ipc_state.proofs.Opens.{opens_of, named_by_open}
use Rattle.ipc_state.proofs.Opened.{agrees_found, agrees_created}
use Rattle.ipc_state.proofs.accept.accept_open.Goals as goal
use Rattle.ipc_state.proofs.accept.accept_open.Goals.{In-Some, In-Some-session, In-Some-cred}

-- what is opened, and to what its name is bound
opens : (c : In-Some) → opening c.args.event.now ≡ Some c.in-Some.asked
opens c = sym c.opening_of.ensures ∙ c.in-Some.is

found : (c : In-Some) → bound c.args.past.now.history c.in-Some.asked.family c.in-Some.asked.name ≡ c.args.bound
found c = sym (named_by_open c.args.past.now.history c.args.event.now c.in-Some.asked (opens c)) ∙ sym c.requires.bound

-- the row of the session that opens what is to be created
opener : (c : In-Some-session) → slice_get c.args.tables.now.sessions c.asked.inside.session.0 ≡ Some c.in-Some-session.session
opener c = there_stands _ c.asked.inside.session.0 c.in-Some-session.session (sym c.session.ensures.live ∙ c.in-Some-session.is)

-- the name is unbound, and the user of the session is known
unbound : (c : In-Some-cred) → bound c.args.past.now.history c.in-Some.asked.family c.in-Some.asked.name ≡ None
unbound c = found (goal.at.In-Some-cred c).In-Some ∙ c.in_default-bound.is

creator : (c : In-Some-cred) → cred c.args.config.now c.args.past.now.history c.in-Some.asked.session.0 ≡ Some c.in-Some-cred.who.now
creator c =
    let h = c.args.past.now.history in
    let session = ap (λ (x : Opening). x.session) c.asked.view_is in
    ap (λ (s : Sid). cred c.args.config.now h s.0) (sym session)
    ∙ sym (cred_row c.args.config.now h c.args.tables.now.sessions c.asked.inside.session.0 c.in-Some-session.session c.requires.core.agrees.sessions (opener (goal.at.In-Some-cred c).In-Some-session))
    ∙ sym c.cred.ensures
    ∙ ap option_copied c.in-Some-cred.is

pub unreachable-requires : goal.unreachable-requires
unreachable-requires c = let none = ap is_some (sym c.opening_of.ensures ∙ c.in_default.is) in let some = c.requires.opens in cc

pub open_found-requires : goal.open_found-requires
open_found-requires c =
    let n = c.requires.core.agrees.descriptions.opened in
    let le = opens_le-length c.args.past.now.history in
    omega arith

pub returns-in-Some-bound-clause-ok : goal.returns-in-Some-bound-clause-ok
returns-in-Some-bound-clause-ok c =
    let here = (goal.at.returns-in-Some-bound-clause-ok c).In-Some in
    rw (c.in_ok-open_found.ensures.ok, c.grant_of-grant.ensures) (agrees_found c.args.config.now c.args.past.now.history c.args.tables.now c.args.event.now c.in-Some.asked c.in-Some-bound.object (opens_of c.args.event.now c.in-Some.asked (opens here)) c.requires.core.agrees (found here ∙ c.in-Some-bound.is))

pub unreachable-requires-in_default-session : goal.unreachable-requires-in_default-session
unreachable-requires-in_default-session c =
    let h = c.args.past.now.history in
    let session = ap (λ (x : Opening). x.session) c.asked.view_is in
    let live' = opener_live c.args.config.now h c.args.event.now c.in-Some.asked (opens (goal.at.unreachable-requires-in_default-session c).In-Some) c.requires.accepted in
    let lives = c.requires.core.agrees.sessions.lives c.asked.inside.session.0 ∙ subst (λ (s : Sid). live h s.0 ≡ true) (sym session) live' in
    let none = sym c.session.ensures.live ∙ c.in_default-session.is in
    let no = sym (ap is_live_row none) ∙ live_same _ c.asked.inside.session.0 ∙ lives in
    cc

pub unreachable-requires-in_default-cred : goal.unreachable-requires-in_default-cred
unreachable-requires-in_default-cred c =
    let h = c.args.past.now.history in
    let user = user_row c.args.config.now h c.args.tables.now.sessions c.asked.inside.session.0 c.in-Some-session.session c.requires.core.agrees.sessions (opener (goal.at.unreachable-requires-in_default-cred c).In-Some-session) in
    let known = known_user c.args.config.now h c.requires.core.legal c.asked.inside.session.0 c.in-Some-session.session.user user in
    let none = ap is_some (sym c.cred.ensures ∙ ap option_copied c.in_default-cred.is) in
    cc

pub new_facts-facts-requires : goal.new_facts-facts-requires
new_facts-facts-requires c =
    let m = c.requires.core.agrees.sessions.masks c.asked.inside.session.0 c.in-Some-session.session (opener (goal.at.new_facts-facts-requires c).In-Some-session) in
    let lt = mask_lt c.args.past.now.history c.asked.inside.session.0 in
    omega arith

pub open_created-requires-clause-opened : goal.open_created-requires-clause-opened
open_created-requires-clause-opened c =
    let n = c.requires.core.agrees.descriptions.opened in
    let le = opens_le-length c.args.past.now.history in
    omega arith

pub open_created-requires-clause-created : goal.open_created-requires-clause-created
open_created-requires-clause-created c =
    let n = c.requires.core.agrees.objects.count in
    let le = creations_le-length c.args.past.now.history in
    omega arith

pub open_created-requires-clause-room : goal.open_created-requires-clause-room
open_created-requires-clause-room c =
    let here = (goal.at.open_created-requires-clause-room c).In-Some-cred in
    let is = opens (goal.at.open_created-requires-clause-room c).In-Some in
    rw c.new_object-object.ensures (open_room c.args.config.now c.args.past.now.history c.args.event.now c.in-Some.asked c.in-Some-cred.who.now c.requires.core.in_range is c.requires.accepted (unbound here) (creator here))

pub open_created-requires-clause-affords : goal.open_created-requires-clause-affords
open_created-requires-clause-affords c =
    let here = (goal.at.open_created-requires-clause-affords c).In-Some-cred in
    let is = opens (goal.at.open_created-requires-clause-affords c).In-Some in
    rw c.new_object-object.ensures (open_affords c.args.config.now c.args.past.now.history c.args.event.now c.in-Some.asked c.args.tables.now.charges c.in-Some-cred.who.now is c.requires.accepted (unbound here) (creator here) c.requires.core.agrees.charges)

pub returns-clause-ok : goal.returns-clause-ok
returns-clause-ok c =
    let h = c.args.past.now.history in
    let a = c.requires.core.agrees in
    let here = (goal.at.returns-clause-ok c).In-Some-cred in
    let is = opens (goal.at.returns-clause-ok c).In-Some in
    let session = ap (λ (x : Opening). x.session) c.asked.view_is in
    let name = ap (λ (x : Opening). x.name) c.asked.view_is in
    let masked = a.sessions.masks c.asked.inside.session.0 c.in-Some-session.session (opener (goal.at.returns-clause-ok c).In-Some-session) ∙ ap (λ (s : Sid). mask h s.0) session in
    let new = open_new c.args.config.now h c.args.event.now c.in-Some.asked is c.requires.accepted (unbound here) in
    rw (c.in_ok-open_created.ensures.ok, c.grant_of-grant.ensures, c.new_object-object.ensures, c.new_facts-facts.ensures, masked, name) (agrees_created c.args.config.now h c.args.tables.now c.args.event.now c.in-Some.asked c.in-Some-cred.who.now (opens_of c.args.event.now c.in-Some.asked is) a new (unbound here) (creator here))

pub open_created-requires-clause-unbound : goal.open_created-requires-clause-unbound
open_created-requires-clause-unbound c =
    let h = c.args.past.now.history in
    let t = c.args.tables.now in
    let asked = c.in-Some.asked in
    let is = opens (goal.at.open_created-requires-clause-unbound c).In-Some in
    let family : family_of c.new_object-object.result.kind ≡ asked.family = ap (λ (x : Object). family_of x.kind) c.new_object-object.ensures ∙ (opens_of c.args.event.now asked is).family' c.args.config.now in
    let name = ap (λ (x : Opening). x.name) c.asked.view_is in
    ap (λ (f : Family). object_named (directory_kept f t).bindings c.asked.inside.name.now) family
    ∙ ap (object_named (directory_kept asked.family t).bindings) name
    ∙ found_is h asked.family (directory_kept asked.family t) asked.name (directory_agrees c.args.config.now h t asked.family c.requires.core.agrees)
    ∙ unbound (goal.at.open_created-requires-clause-unbound c).In-Some-cred
