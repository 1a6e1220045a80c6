-- Accepted events that end descriptions: the objects that nothing keeps are gone, and a hang-up ends what is its session's.
use Rattle.std.proofs.Common.{◌≡◌, ℕ, find, filter, ◌<◌, Bool, true, false, eqb, cond, List, length, Option, Some, None, is_some, refl, sym, ap, subst, ◌∙◌}
use Rattle.std.specs.Option.{option_map}
use Rattle.ipc_terms.specs.declared.ids.Uid.{Uid}
use Rattle.ipc_terms.specs.declared.ids.Sid.{Sid}
use Rattle.ipc_terms.specs.declared.ids.Family.TheVariants.{Mq, Sem}
use Rattle.ipc_terms.specs.declared.record.Event.{Event}
use Rattle.ipc_terms.specs.declared.record.Event.TheVariants.{Hangup}
use Rattle.ipc_names.specs.Directory.{Directory}
use Rattle.ipc_policy.specs.declared.config.Config.{Config}
use Rattle.ipc_policy.specs.declared.config.Held.{Held}
use Rattle.ipc_policy.specs.declared.config.Registration.{Registration}
use Rattle.ipc_policy.specs.Decides.Registrations.{registered}
use Rattle.ipc_policy.proofs.Queues.Registering.{IsHeldFor, registered_held}
use Rattle.ipc_policy.proofs.Queues.RegisteredSteps.{registered_hangup}
use Rattle.ipc_policy.proofs.Directories.Creating.{holds_is_held}
use Rattle.ipc_policy.specs.Decides.History.{History, after_accepted, unless, gathered_below}
use Rattle.ipc_policy.specs.Decides.Names.{Opening, creations}
use Rattle.ipc_policy.specs.Decides.Objects.{object, facts}
use Rattle.ipc_policy.specs.Decides.Descriptions.{opens, held, is_nonblock}
use Rattle.ipc_policy.specs.Decides.Life.{named}
use Rattle.ipc_policy.specs.Decides.Charges.{limit}
use Rattle.ipc_policy.proofs.Directories.Bindings.{object_with_facts}
use Rattle.ipc_policy.specs.Decides.Parking.{parked}
use Rattle.ipc_policy.specs.Follows.Grow.{Grows}
use Rattle.ipc_policy.specs.Decides.Verdict.{Legal}
use Rattle.ipc_policy.proofs.Histories.Grown.{grows}
use Rattle.ipc_policy.proofs.Blocked.ParkedSessions.{if_of_is, session_is}
use Rattle.ipc_policy.proofs.Blocked.WaitSteps.{semaphore_by_hangup}
use Rattle.ipc_policy.proofs.Blocked.ParkedSteps.{queue_by_hangup}
use Rattle.ipc_tables.specs.declared.rows.ObjectRow.{ObjectRow}
use Rattle.ipc_tables.specs.declared.rows.Session.{Session}
use Rattle.ipc_terms.specs.Lists.{changed}
use Rattle.ipc_descr.specs.Descriptions.{Descriptions, is_of, is_desc}
use Rattle.ipc_tables.specs.TablesView.{TablesView, is_kept}
use Rattle.ipc_tables.specs.Charging.{settled}
use Rattle.ipc_tables.specs.Steps.{hung_up, living, ended, after_withdrawal, after_hangup}
use Rattle.ipc_state.specs.Agrees.{Agrees, IsCore, SessionsAgree, DirectoryAgrees, DescriptionsAgree, row_held, row_with, Inside, inside}
use Rattle.ipc_tables.proofs.CoveredCharges.{taken_held}
use Rattle.ipc_state.proofs.Lookups.{row_is}
use Rattle.ipc_state.proofs.ChargeTables.{HaveFacts, taken_is, limit_left, charges_settled}
use Rattle.ipc_state.proofs.SessionTables.{sessions_ended}
use Rattle.ipc_state.proofs.ParkedColumn.{parked_object, column_by_hangup}
use Rattle.ipc_policy.proofs.Directories.Facts.{facts_made, directory_left}
use Rattle.ipc_state.proofs.ObjectTables.{directory_kept, alive_less, objects_left, descriptions_dropped, released, left_in}
use Rattle.ipc_state.proofs.Withdrawals.{IsWithdrawn, withdrawn_at, without_calls}

-- a registration is left exactly if its description is held
released_at : (c : Config) (h k : History) (d : Descriptions) (w : ℕ → Held → Bool) (v : ℕ → ℕ → Bool) (o : ℕ) (x : Registration) → DescriptionsAgree k d → ((i : ℕ) → held k i ≡ unless (w i) (held h i)) → ((i : ℕ) (y : Held) → w i y ≡ v y.session.0 i) → IsHeldFor h o x → cond (is_some (find (is_desc x.desc.0) d.rows)) (Some x) None ≡ cond (v x.session.0 x.desc.0) None (Some x)
released_at c h k d w v o x a h' by_session known = ap (λ b. cond b (Some x) None) there ∙ at (v x.session.0 x.desc.0) where
  mine : known.x'.session.0 ≡ x.session.0
  mine = session_is x.session.0 known.x' (if_of_is x.session.0 x.desc.0 h known.x' known.held)

  now : held k x.desc.0 ≡ cond (v x.session.0 x.desc.0) None (Some known.x')
  now = h' x.desc.0 ∙ ap (unless (w x.desc.0)) (holds_is_held h x.session.0 x.desc.0 known.x' known.held) ∙ ap (λ b. cond b None (Some known.x')) (by_session x.desc.0 known.x' ∙ ap (λ s. v s x.desc.0) mine)

  counts : (u : Option Held) → is_some (option_map (row_held (is_nonblock k) x.desc.0) u) ≡ is_some u
  counts None = refl
  counts (Some y) = refl

  there : is_some (find (is_desc x.desc.0) d.rows) ≡ is_some (cond (v x.session.0 x.desc.0) None (Some known.x'))
  there = ap is_some (row_is k d x.desc.0 a) ∙ counts (held k x.desc.0) ∙ ap is_some now

  at : (b : Bool) → cond (is_some (cond b None (Some known.x'))) (Some x) None ≡ cond b None (Some x)
  at true = refl
  at false = refl

released_is : (c : Config) (h k : History) (d : Descriptions) (w : ℕ → Held → Bool) (v : ℕ → ℕ → Bool) (o : ℕ) → DescriptionsAgree k d → ((i : ℕ) → held k i ≡ unless (w i) (held h i)) → ((i : ℕ) (y : Held) → w i y ≡ v y.session.0 i) → registered c k o ≡ unless (λ x. v x.session.0 x.desc.0) (registered c h o) → registered c k o ≡ released d.rows (registered c h o)
released_is c h k d w v o a h' by_session ends = ends ∙ at (registered c h o) refl where
  at : (g : Option Registration) → registered c h o ≡ g → unless (λ x. v x.session.0 x.desc.0) g ≡ released d.rows g
  at None e = refl
  at (Some x) e = sym (released_at c h k d w v o x a h' by_session (registered_held c h o x e))

left_is_so : (c : Config) (h k : History) (d : Descriptions) (w : ℕ → Held → Bool) (v : ℕ → ℕ → Bool) (q : Inside) (o : ℕ) → q.registered ≡ registered c h o → DescriptionsAgree k d → ((i : ℕ) → held k i ≡ unless (w i) (held h i)) → ((i : ℕ) (y : Held) → w i y ≡ v y.session.0 i) → registered c k o ≡ unless (λ x. v x.session.0 x.desc.0) (registered c h o) → record q { registered = registered c k o } ≡ left_in d.rows q
left_is_so c h k d w v q o was a h' by_session ends = ap (λ (g : Option Registration). record q { registered = g }) (released_is c h k d w v o a h' by_session ends ∙ ap (released d.rows) (sym was))

-- an event that creates nothing, after which objects may be gone
pub gone : (c : Config) (h k : History) (e : Event) (t : TablesView) (ss : List Session) (xs : List ObjectRow) (queues' semaphores' : Directory) (d : Descriptions) (q : ℕ → Inside) (p : Opening → Bool) (w : ℕ → Held → Bool) → Grows c h k e → ((o : ℕ) → named k o ≡ unless p (named h o)) → ((i : ℕ) → held k i ≡ unless (w i) (held h i)) → opens k ≡ opens h → creations k ≡ creations h → ((o : ℕ) → object c k o ≡ object c h o) → ((o : ℕ) → facts c k o ≡ facts c h o) → ((o : ℕ) → inside c k o ≡ record (q o) { registered = registered c k o }) → ((o : ℕ) → (q o).registered ≡ registered c h o) → (v : ℕ → ℕ → Bool) → ((o : ℕ) → registered c k o ≡ unless (λ x. v x.session.0 x.desc.0) (registered c h o)) → ((i : ℕ) (y : Held) → w i y ≡ v y.session.0 i) → xs ≡ gathered_below (row_with c h q) (creations h) → Legal c h → ((u : Uid) → limit c k u ≡ limit c h u) → SessionsAgree c k ss → DirectoryAgrees k Mq queues' → DirectoryAgrees k Sem semaphores' → DescriptionsAgree k d → Agrees c h t → Agrees c k (record t { sessions = ss; queues = queues'; semaphores = semaphores'; objects = living queues' semaphores' d.rows xs; descriptions = d; charges = settled (is_kept queues' semaphores' d.rows) xs t.charges })
gone c h k e t ss xs queues' semaphores' d q p w g n h' i m o f same was v ends by_session rows' legal limits sessions' mq sem descriptions' a =
    let left = objects_left c h k q queues' semaphores' d xs t.created mq sem descriptions' (λ j. alive_less h k j p w (n j) h' i) o f (λ j. same j ∙ left_is_so c h k d w v (q j) j (was j) descriptions' h' by_session (ends j)) m rows' a.objects.count in
    let made : HaveFacts c h = object_with_facts c h legal in
    let made' : HaveFacts c k = λ j. ap is_some (o j) ∙ made j ∙ ap is_some (sym (f j)) in
    record {
      sessions = sessions';
      queues = mq;
      semaphores = sem;
      objects = left;
      descriptions = descriptions';
      charges = charges_settled c h k (is_kept queues' semaphores' d.rows) xs t.charges limits (λ u. taken_is c h q xs u made rows') (λ u. sym (taken_held d.rows u.0 (filter (is_kept queues' semaphores' d.rows) xs)) ∙ taken_is c k (inside c k) _ u made' left.rows) a.charges;
    }

-- a hang-up leaves no call of its session and ends its registrations
hangup_inside : (c : Config) (h : History) (sid : Sid) (o : ℕ) → inside c (after_accepted h (Hangup sid)) o ≡ record (without_calls c h sid o) { registered = registered c (after_accepted h (Hangup sid)) o }
hangup_inside c h sid o = rw (queue_by_hangup c h sid o, semaphore_by_hangup c h sid o) refl

-- an accepted hang-up
hung : (c : Config) (h : History) (t u : TablesView) (sid : Sid) → IsCore c h t → IsWithdrawn c h t u sid (without_calls c h sid) → Agrees c (after_accepted h (Hangup sid)) (ended (record t { sessions = u.sessions; objects = u.objects }) sid.0)
hung c h t u sid core w =
    let a = core.agrees in
    let e = Hangup sid in
    let g = grows c h e in
    gone c h (after_accepted h e) e t (changed hung_up u.sessions sid.0) u.objects t.queues t.semaphores _ (without_calls c h sid) (λ x. false) (λ i x. eqb sid.0 x.session.0) g g.named_by g.held_by g.open_count g.creation_count g.object_of (λ o. facts_made c h e (record { owner = λ m. refl; group = λ m. refl; mode = λ m. refl }) o) (hangup_inside c h sid) (λ o. refl) (λ s i. eqb sid.0 s) (registered_hangup c h sid) (λ i y. refl) w.rows core.legal (λ v. limit_left c h e v refl)
    (sessions_ended c h u.sessions sid (λ s. cond (eqb sid.0 s) None (parked_object c h s)) g (column_by_hangup c h sid) w.sessions)
    (directory_kept h (after_accepted h e) Mq t.queues (g.bindings_of Mq) (directory_left h e (record { owner = λ m. refl; group = λ m. refl; mode = λ m. refl }) Mq) a.queues)
    (directory_kept h (after_accepted h e) Sem t.semaphores (g.bindings_of Sem) (directory_left h e (record { owner = λ m. refl; group = λ m. refl; mode = λ m. refl }) Sem) a.semaphores)
    (descriptions_dropped h (after_accepted h e) t.descriptions (is_of sid.0) (λ i x. eqb sid.0 x.session.0) (λ i x. refl) g.held_by g.nonblock_of g.open_count a.descriptions)
    a

pub agrees_ended : (c : Config) (h : History) (t : TablesView) (sid : Sid) → IsCore c h t → sid.0 < length t.sessions → Agrees c (after_accepted h (Hangup sid)) (after_hangup t sid)
agrees_ended c h t sid k lt =
    let w = withdrawn_at c h t sid (without_calls c h sid) k (λ o. refl) lt (parked c h sid.0) refl in
    subst (λ v. Agrees c (after_accepted h (Hangup sid)) (ended v sid.0)) (sym w.others) (hung c h t (after_withdrawal t sid) sid k w)
