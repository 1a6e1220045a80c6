use Rattle.std.proofs.Common.{◌≡◌, ℕ, Bool, true, false, Some, None, refl, sym, ◌∙◌}
use Rattle.std.specs.Option.{option_map}
use Rattle.ipc_terms.specs.declared.ids.Sid.{Sid}
use Rattle.ipc_terms.specs.declared.ids.Desc.{Desc}
use Rattle.ipc_terms.specs.declared.ids.Family.TheVariants.{Mq, Sem}
use Rattle.ipc_terms.specs.declared.call.Call.TheVariants.{MqNotify, SemPost, SemTryWait}
use Rattle.ipc_terms.specs.declared.record.Event.TheVariants.{Do}
use Rattle.ipc_policy.specs.declared.config.Config.{Config}
use Rattle.ipc_policy.specs.declared.config.Held.{Held}
use Rattle.ipc_policy.specs.Decides.History.{History, after_accepted}
use Rattle.ipc_policy.specs.Decides.Descriptions.{holds}
use Rattle.ipc_policy.specs.Decides.Verdict.{verdict}
use Rattle.ipc_policy.proofs.Histories.Unforbidden.{call_free}
use Rattle.ipc_tables.specs.TablesView.{TablesView}
use Rattle.ipc_tables.specs.Steps.{after_notify}
use Rattle.ipc_state.specs.Agrees.{Agrees, IsCore}
use Rattle.ipc_state.proofs.Lookups.{given_is}
use Rattle.ipc_state.proofs.Serving.{IsHereQueue, IsHereSemaphore, call_here, semaphore_here}
use Rattle.ipc_state.proofs.Posting.{post_room}
use Rattle.ipc_state.proofs.RegistrationTables.{free_to_register}
use Rattle.ipc_state.proofs.Accepting.{agrees_asked, agrees_listed, agrees_told, agrees_valued, agrees_audited, agrees_posted, agrees_tried, agrees_registered, agrees_unregistered}
use Rattle.ipc_state.proofs.Opens.{queue_closes, semaphore_closes, unlinks_of}
use Rattle.ipc_state.proofs.Opened.{agrees_closed, agrees_unlinked}
use Rattle.ipc_state.proofs.ChargeTables.{core_covered}
use Rattle.ipc_state.proofs.accept.accept_in_place.Goals as goal
use Rattle.ipc_state.proofs.accept.accept_in_place.Goals.{After-object_held-object, After-object_held}

pub returns-in-ListNames : goal.returns-in-ListNames
returns-in-ListNames c = rw (c.in-ListNames.is) (agrees_listed _ _ _ c.args.sid c.in-ListNames.family c.in-ListNames.start c.in-ListNames.count c.requires.core.agrees)

pub returns-in-StatName : goal.returns-in-StatName
returns-in-StatName c = rw (c.in-StatName.is) (agrees_told _ _ _ c.args.sid c.in-StatName.field-0 c.requires.core.agrees)

pub returns-in-MqGetattr : goal.returns-in-MqGetattr
returns-in-MqGetattr c = rw (c.in-MqGetattr.is) (agrees_asked _ _ _ c.args.sid c.in-MqGetattr.field-0 c.requires.core.agrees)

pub returns-in-SemGetvalue : goal.returns-in-SemGetvalue
returns-in-SemGetvalue c = rw (c.in-SemGetvalue.is) (agrees_valued _ _ _ c.args.sid c.in-SemGetvalue.field-0 c.requires.core.agrees)

pub returns-in-MqClose : goal.returns-in-MqClose
returns-in-MqClose c = rw (c.in-MqClose.is, c.close.ensures) (agrees_closed _ _ _ _ c.args.sid c.in-MqClose.desc (queue_closes c.args.sid c.in-MqClose.desc) c.requires.core)

pub returns-in-SemClose : goal.returns-in-SemClose
returns-in-SemClose c = rw (c.in-SemClose.is, c.close-in-SemClose.ensures) (agrees_closed _ _ _ _ c.args.sid c.in-SemClose.desc (semaphore_closes c.args.sid c.in-SemClose.desc) c.requires.core)

pub returns-in-MqUnlink : goal.returns-in-MqUnlink
returns-in-MqUnlink c = rw (c.in-MqUnlink.is, c.unlink.ensures) (agrees_unlinked _ _ _ _ (record { session = c.args.sid; family = Mq; name = c.in-MqUnlink.name }) (unlinks_of _ _ refl) c.requires.core)

pub returns-in-SemUnlink : goal.returns-in-SemUnlink
returns-in-SemUnlink c = rw (c.in-SemUnlink.is, c.unlink-in-SemUnlink.ensures) (agrees_unlinked _ _ _ _ (record { session = c.args.sid; family = Sem; name = c.in-SemUnlink.name }) (unlinks_of _ _ refl) c.requires.core)

pub close-requires : goal.close-requires
close-requires c = core_covered _ _ _ c.requires.core

pub close-requires-in-SemClose : goal.close-requires-in-SemClose
close-requires-in-SemClose c = core_covered _ _ _ c.requires.core

pub unlink-requires : goal.unlink-requires
unlink-requires c = core_covered _ _ _ c.requires.core

pub unlink-requires-in-SemUnlink : goal.unlink-requires-in-SemUnlink
unlink-requires-in-SemUnlink c = core_covered _ _ _ c.requires.core

pub returns-in-Audit : goal.returns-in-Audit
returns-in-Audit c = rw (c.in-Audit.is) (agrees_audited _ _ _ c.args.sid c.in-Audit.start c.in-Audit.count c.requires.core.agrees)

-- the object that the description of an accepted notify gives
notifies : (c : After-object_held-object) → option_map (λ (x : Held). x.object) (holds c.args.past.now.history c.args.sid.0 c.in-MqNotify.desc.0) ≡ Some c.object_held-object.result
notifies c = sym (rw c.in-MqNotify.is at c.requires.held) ∙ c.object_held-object.ensures

-- an accepted notify of a queue that is held: on, none is registered there
notified : (c : Config) (h : History) (t : TablesView) (sid : Sid) (desc : Desc) (o : ℕ) (on : Bool) → IsCore c h t → verdict c h (Do sid (MqNotify desc on)) ≡ None → option_map (λ (x : Held). x.object) (holds h sid.0 desc.0) ≡ Some o → IsHereQueue c h t sid.0 desc.0 o → Agrees c (after_accepted h (Do sid (MqNotify desc on))) (after_notify t o desc on)
notified c h t sid desc o true core accepted number here = agrees_registered c h t sid desc o core here (free_to_register c h sid desc o accepted number)
notified c h t sid desc o false core accepted number here = agrees_unregistered c h t sid desc o core here

pub set_registered-requires : goal.set_registered-requires
set_registered-requires c on = given_is c.args.past.now.history c.args.tables.now.descriptions c.args.sid.0 c.in-MqNotify.desc.0 c.object_held-object.result c.requires.core.agrees.descriptions (notifies (goal.at.set_registered-requires c).After-object_held-object)

pub returns-in-MqNotify : goal.returns-in-MqNotify
returns-in-MqNotify c =
    let number = notifies (goal.at.returns-in-MqNotify c).After-object_held-object in
    let accepted = rw c.in-MqNotify.is at c.requires.accepted in
    let here = call_here _ _ _ c.args.sid.0 c.in-MqNotify.desc.0 _ c.requires.core.agrees (call_free _ _ c.args.sid (MqNotify c.in-MqNotify.desc c.in-MqNotify.on) Mq c.in-MqNotify.desc refl refl accepted) number in
    rw (c.in-MqNotify.is, c.set_registered.ensures) (notified _ _ _ c.args.sid c.in-MqNotify.desc _ c.in-MqNotify.on c.requires.core accepted number here)

-- the semaphore that an accepted post meets
posts : (c : After-object_held) → IsHereSemaphore c.args.config.now c.args.past.now.history c.args.tables.now c.args.sid.0 c.in-SemPost.field-0.0 c.object_held.result
posts c = semaphore_here _ _ _ c.args.sid.0 c.in-SemPost.field-0.0 _ c.requires.core.agrees (call_free _ _ c.args.sid (SemPost c.in-SemPost.field-0) Sem c.in-SemPost.field-0 refl refl (rw c.in-SemPost.is at c.requires.accepted)) (sym (rw c.in-SemPost.is at c.requires.held) ∙ c.object_held.ensures)

pub post-requires : goal.post-requires
post-requires c = post_room _ _ _ c.args.sid c.in-SemPost.field-0 _ c.requires.core.legal c.requires.core.agrees (rw c.in-SemPost.is at c.requires.accepted) (posts (goal.at.post-requires c).After-object_held)

pub returns-in-SemPost : goal.returns-in-SemPost
returns-in-SemPost c = rw (c.in-SemPost.is, c.post.ensures) (agrees_posted _ _ _ c.args.sid c.in-SemPost.field-0 _ c.requires.core (posts (goal.at.returns-in-SemPost c).After-object_held))

pub returns-in-SemTryWait : goal.returns-in-SemTryWait
returns-in-SemTryWait c =
    let here = semaphore_here _ _ _ c.args.sid.0 c.in-SemTryWait.field-0.0 _ c.requires.core.agrees (call_free _ _ c.args.sid (SemTryWait c.in-SemTryWait.field-0) Sem c.in-SemTryWait.field-0 refl refl (rw c.in-SemTryWait.is at c.requires.accepted)) (sym (rw c.in-SemTryWait.is at c.requires.held) ∙ c.object_held-in-SemTryWait.ensures) in
    rw (c.in-SemTryWait.is, c.try_wait.ensures) (agrees_tried _ _ _ c.args.sid c.in-SemTryWait.field-0 _ c.requires.core here)
