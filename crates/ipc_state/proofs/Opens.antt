-- What an open of either family, an unlink and a close do to names, objects and descriptions.
use Rattle.std.proofs.Common.{◌≡◌, ℕ, ◌+◌, ◌<◌, Bool, true, false, not, ◌&&◌, ◌||◌, eqb, cond, List, [], ◌∷◌, ◌++◌, filter, Option, Some, None, is_some, refl, sym, ap, subst, ◌∙◌, arith, add-one}
use Rattle.std.specs.Option.{option_or, option_map, option_to_list}
use Rattle.std.proofs.lemmas.Bool.{eq-eqb, ne_eqb}
use Rattle.ipc_terms.specs.Names.{same_family, same_name}
use Rattle.ipc_terms.specs.Objects.{family_of, value_asked}
use Rattle.ipc_terms.specs.declared.binding.Binding.{Binding}
use Rattle.ipc_terms.specs.declared.ids.Uid.{Uid}
use Rattle.ipc_terms.specs.declared.ids.Sid.{Sid}
use Rattle.ipc_terms.specs.declared.ids.Desc.{Desc}
use Rattle.ipc_terms.specs.declared.ids.Family.{Family}
use Rattle.ipc_terms.specs.declared.ids.Family.TheVariants.{Mq, Sem}
use Rattle.ipc_terms.specs.declared.call.Call.TheVariants.{MqOpen, MqClose, MqUnlink, SemOpen, SemClose, SemUnlink}
use Rattle.ipc_terms.specs.declared.object.Asked.{Asked}
use Rattle.ipc_terms.specs.declared.object.Asked.TheVariants.{Queue as AskedQueue, Semaphore as AskedSemaphore}
use Rattle.ipc_terms.specs.declared.record.Event.{Event}
use Rattle.ipc_terms.specs.declared.record.Event.TheVariants.{Hello, Do, Hangup, Tick}
use Rattle.ipc_policy.specs.declared.config.Config.{Config}
use Rattle.ipc_policy.specs.declared.config.Held.{Held}
use Rattle.ipc_policy.specs.declared.config.Registration.{Registration}
use Rattle.ipc_policy.specs.Decides.Registrations.{registered}
use Rattle.ipc_policy.proofs.Queues.RegisteredSteps.{registered_stays, registered_kept}
use Rattle.ipc_policy.specs.Decides.History.{History, after_accepted, unless, gathered_below, any_below}
use Rattle.ipc_policy.specs.Decides.Names.{Opening, Naming, opening, unlinking, unlinks, queue_opening, semaphore_opening, nonblock_asked, is_bound, creations, bound}
use Rattle.ipc_policy.specs.Decides.Objects.{kind_of}
use Rattle.ipc_policy.specs.Decides.Descriptions.{opens, opened, opened_by, held_as, held, is_nonblock}
use Rattle.ipc_policy.specs.Decides.Life.{named, gives_object, alive}
use Rattle.ipc_policy.specs.Decides.Charges.{sets_limit}
use Rattle.ipc_policy.specs.Decides.Queues.{Queue, empty_queue}
use Rattle.ipc_policy.specs.Decides.Semaphores.{Semaphore, no_semaphore, with_first}
use Rattle.ipc_policy.specs.Follows.Grow.{Grows, is_new, hellos_after, user_after, live_after, mask_after, nonblock_after, named_after, held_after, opens_after, bindings_after, creations_after, made_after}
use Rattle.ipc_policy.proofs.Lists.Gathering.{gathered_more, any_below_same}
use Rattle.ipc_policy.proofs.Blocked.ParkedSteps.{moves}
use Rattle.ipc_descr.specs.Descriptions.{Descriptions, with_open}
use Rattle.ipc_tables.specs.Objects.{new_body}
use Rattle.ipc_state.specs.Agrees.{DescriptionsAgree, row_held, body_of}
use Rattle.ipc_state.specs.Meetings.{by_name, object_bound}
use Rattle.ipc_policy.proofs.Directories.Facts.{GivesNothing}

-- an event that says nothing of sessions, of what is parked, and of limits
pub record Apart (e : Event) : Type 0 where
  pub still : moves e ≡ false
  pub hellos' : (n : ℕ) → hellos_after e n ≡ n
  pub user' : (s n : ℕ) (w : Option Uid) → user_after s e n w ≡ w
  pub live' : (s n : ℕ) (b : Bool) → live_after s e n b ≡ b
  pub mask' : (s m : ℕ) → mask_after s e m ≡ m
  pub limit' : (u : Uid) (before : History) → sets_limit u e before ≡ None

-- an open: what it says of each value
pub record Opens (e : Event) (asked : Opening) : Type 0 where
  pub is : opening e ≡ Some asked
  pub apart : Apart e
  pub calm' : (c : Config) (h : History) (o : ℕ) → registered c (after_accepted h e) o ≡ registered c h o
  pub gives : GivesNothing e
  pub family' : (c : Config) → family_of (kind_of c asked.kind) ≡ asked.family
  pub named' : (o n : ℕ) (b : Family → List ℕ → Bool) (w : Option Opening) → named_after o e b n w ≡ cond (is_new asked b && eqb n o) (Some asked) w
  pub held' : (d i n : ℕ) (b : Family → List ℕ → Option ℕ) (w : Option Held) → held_after d e i b n w ≡ option_or (cond (eqb i d) (option_map (held_as asked) (opened_by b n asked)) None) w
  pub opens' : (n : ℕ) → opens_after e n ≡ n + 1
  pub nonblock' : (d n : ℕ) (was : Bool) → nonblock_after d e n was ≡ cond (eqb n d) (nonblock_asked asked.kind asked.flags) was
  pub bindings' : (f : Family) (n : ℕ) (b : Family → List ℕ → Bool) (w : List Binding) → bindings_after f e b n w ≡ cond (is_new asked b && same_family asked.family f) (w ++ record { name = asked.name; object = n } ∷ []) w
  pub creations' : (n : ℕ) (b : Family → List ℕ → Bool) → creations_after e b n ≡ cond (is_new asked b) (n + 1) n

pub opens_of : (e : Event) (asked : Opening) → opening e ≡ Some asked → Opens e asked
opens_of (Do sid (MqOpen given)) asked k =
    let same : queue_opening sid given ≡ asked = cc in
    subst (Opens (Do sid (MqOpen given))) same (record { is = refl; calm' = λ c h o. registered_stays c h _ o refl (λ x k. refl); gives = record { owner = λ m. refl; group = λ m. refl; mode = λ m. refl }; apart = record { still = refl; hellos' = λ n. refl; user' = λ s n w. refl; live' = λ s n b. refl; mask' = λ s m. refl; limit' = λ u before. refl }; family' = λ c. refl; named' = λ o n b w. refl; held' = λ d i n b w. refl; opens' = λ n. refl; nonblock' = λ d n was. refl; bindings' = λ f n b w. refl; creations' = λ n b. refl })
opens_of (Do sid (SemOpen given)) asked k =
    let same : semaphore_opening sid given ≡ asked = cc in
    subst (Opens (Do sid (SemOpen given))) same (record { is = refl; calm' = λ c h o. registered_stays c h _ o refl (λ x k. refl); gives = record { owner = λ m. refl; group = λ m. refl; mode = λ m. refl }; apart = record { still = refl; hellos' = λ n. refl; user' = λ s n w. refl; live' = λ s n b. refl; mask' = λ s m. refl; limit' = λ u before. refl }; family' = λ c. refl; named' = λ o n b w. refl; held' = λ d i n b w. refl; opens' = λ n. refl; nonblock' = λ d n was. refl; bindings' = λ f n b w. refl; creations' = λ n b. refl })
opens_of (Do sid call) asked k = absurd cc
opens_of (Hello found) asked k = absurd cc
opens_of (Hangup sid) asked k = absurd cc
opens_of (Tick moment) asked k = absurd cc

-- an event that opens nothing says nothing of what objects are, and what it ends
pub record Ends (e : Event) : Type 0 where
  pub none : opening e ≡ None
  pub apart : Apart e
  pub named' : (o n : ℕ) (b : Family → List ℕ → Bool) (w : Option Opening) → named_after o e b n w ≡ unless (λ asked. unlinks asked.family asked.name e) w
  pub opens' : (n : ℕ) → opens_after e n ≡ n
  pub nonblock' : (d n : ℕ) (was : Bool) → nonblock_after d e n was ≡ was
  pub creations' : (n : ℕ) (b : Family → List ℕ → Bool) → creations_after e b n ≡ n

-- an unlink
pub record Unlinks (e : Event) (what : Naming) : Type 0 where
  pub ends : Ends e
  pub gives : GivesNothing e
  pub held' : (d i n : ℕ) (b : Family → List ℕ → Option ℕ) (w : Option Held) → held_after d e i b n w ≡ unless (λ x. false) w
  pub bindings' : (f : Family) (n : ℕ) (b : Family → List ℕ → Bool) (w : List Binding) → bindings_after f e b n w ≡ filter (λ x. not (same_family what.family f && same_name x.name what.name)) w
  pub registered' : (c : Config) (h : History) (o : ℕ) → registered c (after_accepted h e) o ≡ unless (λ x. false) (registered c h o)

pub unlinks_of : (e : Event) (what : Naming) → unlinking e ≡ Some what → Unlinks e what
unlinks_of (Do sid (MqUnlink name)) what k =
    let same : record { session = sid; family = Mq; name = name } ≡ what = cc in
    subst (Unlinks (Do sid (MqUnlink name))) same (record { registered' = λ c h o. registered_kept c h _ o (λ x. false) refl (λ x k. refl); gives = record { owner = λ m. refl; group = λ m. refl; mode = λ m. refl }; ends = record { none = refl; apart = record { still = refl; hellos' = λ n. refl; user' = λ s n w. refl; live' = λ s n b. refl; mask' = λ s m. refl; limit' = λ u before. refl }; named' = λ o n b w. refl; opens' = λ n. refl; nonblock' = λ d n was. refl; creations' = λ n b. refl }; held' = λ d i n b w. refl; bindings' = λ f n b w. refl })
unlinks_of (Do sid (SemUnlink name)) what k =
    let same : record { session = sid; family = Sem; name = name } ≡ what = cc in
    subst (Unlinks (Do sid (SemUnlink name))) same (record { registered' = λ c h o. registered_kept c h _ o (λ x. false) refl (λ x k. refl); gives = record { owner = λ m. refl; group = λ m. refl; mode = λ m. refl }; ends = record { none = refl; apart = record { still = refl; hellos' = λ n. refl; user' = λ s n w. refl; live' = λ s n b. refl; mask' = λ s m. refl; limit' = λ u before. refl }; named' = λ o n b w. refl; opens' = λ n. refl; nonblock' = λ d n was. refl; creations' = λ n b. refl }; held' = λ d i n b w. refl; bindings' = λ f n b w. refl })
unlinks_of (Do sid call) what k = absurd cc
unlinks_of (Hello found) what k = absurd cc
unlinks_of (Hangup sid) what k = absurd cc
unlinks_of (Tick moment) what k = absurd cc

-- a close
pub record Closes (e : Event) (sid : Sid) (desc : Desc) : Type 0 where
  pub ends : Ends e
  pub gives : GivesNothing e
  pub held' : (d i n : ℕ) (b : Family → List ℕ → Option ℕ) (w : Option Held) → held_after d e i b n w ≡ unless (λ x. eqb sid.0 x.session.0 && eqb desc.0 d) w
  pub bindings' : (f : Family) (n : ℕ) (b : Family → List ℕ → Bool) (w : List Binding) → bindings_after f e b n w ≡ w
  pub unlinks' : (f : Family) (name : List ℕ) → unlinks f name e ≡ false
  pub registered' : (c : Config) (h : History) (o : ℕ) → registered c (after_accepted h e) o ≡ unless (λ x. eqb sid.0 x.session.0 && eqb desc.0 x.desc.0) (registered c h o)

or_off : (b : Bool) → (b || false) ≡ b
or_off true = refl
or_off false = refl

pub queue_closes : (sid : Sid) (desc : Desc) → Closes (Do sid (MqClose desc)) sid desc
queue_closes sid desc = record { registered' = λ c h o. registered_kept c h _ o (λ x. eqb sid.0 x.session.0 && eqb desc.0 x.desc.0) refl (λ x k. or_off (eqb sid.0 x.session.0 && eqb desc.0 x.desc.0)); gives = record { owner = λ m. refl; group = λ m. refl; mode = λ m. refl }; ends = record { none = refl; apart = record { still = refl; hellos' = λ n. refl; user' = λ s n w. refl; live' = λ s n b. refl; mask' = λ s m. refl; limit' = λ u before. refl }; named' = λ o n b w. refl; opens' = λ n. refl; nonblock' = λ d n was. refl; creations' = λ n b. refl }; held' = λ d i n b w. refl; bindings' = λ f n b w. refl; unlinks' = λ f name. refl }

pub semaphore_closes : (sid : Sid) (desc : Desc) → Closes (Do sid (SemClose desc)) sid desc
semaphore_closes sid desc = record { registered' = λ c h o. registered_kept c h _ o (λ x. eqb sid.0 x.session.0 && eqb desc.0 x.desc.0) refl (λ x k. or_off (eqb sid.0 x.session.0 && eqb desc.0 x.desc.0)); gives = record { owner = λ m. refl; group = λ m. refl; mode = λ m. refl }; ends = record { none = refl; apart = record { still = refl; hellos' = λ n. refl; user' = λ s n w. refl; live' = λ s n b. refl; mask' = λ s m. refl; limit' = λ u before. refl }; named' = λ o n b w. refl; opens' = λ n. refl; nonblock' = λ d n was. refl; creations' = λ n b. refl }; held' = λ d i n b w. refl; bindings' = λ f n b w. refl; unlinks' = λ f name. refl }

-- what an open makes, and what an event that opens nothing leaves
pub made_open : {A : Type 0} (e : Event) (asked : Opening) → opening e ≡ Some asked → (o n : ℕ) (b : Family → List ℕ → Bool) (make : Opening → Option A) (w : Option A) → made_after o e b n make w ≡ cond (is_new asked b && eqb n o) (option_or (make asked) w) w
made_open (Do sid (MqOpen given)) asked k o n b make w =
    let same : queue_opening sid given ≡ asked = cc in
    subst (λ (a : Opening). made_after o (Do sid (MqOpen given)) b n make w ≡ cond (is_new a b && eqb n o) (option_or (make a) w) w) same refl
made_open (Do sid (SemOpen given)) asked k o n b make w =
    let same : semaphore_opening sid given ≡ asked = cc in
    subst (λ (a : Opening). made_after o (Do sid (SemOpen given)) b n make w ≡ cond (is_new a b && eqb n o) (option_or (make a) w) w) same refl
made_open (Do sid call) asked k o n b make w = absurd cc
made_open (Hello found) asked k o n b make w = absurd cc
made_open (Hangup sid) asked k o n b make w = absurd cc
made_open (Tick moment) asked k o n b make w = absurd cc

pub made_left : {A : Type 0} (e : Event) → opening e ≡ None → (o n : ℕ) (b : Family → List ℕ → Bool) (make : Opening → Option A) (w : Option A) → made_after o e b n make w ≡ w
made_left (Do sid (MqOpen given)) k o n b make w = absurd cc
made_left (Do sid (SemOpen given)) k o n b make w = absurd cc
made_left (Do sid call) k o n b make w = refl
made_left (Hello found) k o n b make w = refl
made_left (Hangup sid) k o n b make w = refl
made_left (Tick moment) k o n b make w = refl

-- what stands in a new object
pub body_made : (c : Config) (asked : Asked) (q : Queue) (g : Option Registration) (u : Semaphore) → q ≡ empty_queue → g ≡ None → u ≡ with_first (option_or (value_asked asked) None) no_semaphore → body_of (kind_of c asked) (record { queue = q; registered = g; semaphore = u }) ≡ new_body (kind_of c asked)
body_made c (AskedQueue given) q g u e n f = rw (e, n) refl
body_made c (AskedSemaphore first) q g u e n f = rw f refl

-- one more description
held_new : (c : Config) (h k : History) (e : Event) (asked : Opening) (o : ℕ) → Grows c h k e → Opens e asked → opened h asked ≡ Some o → held k (opens h) ≡ Some (held_as asked o)
held_new c h k e asked o g p is = g.held_by (opens h) ∙ p.held' (opens h) (opens h) (creations h) (bound h) (held h (opens h)) ∙ rw (eq-eqb (opens h) (opens h) refl) (ap (λ w. option_or (option_map (held_as asked) w) (held h (opens h))) is)

held_other : (c : Config) (h k : History) (e : Event) (asked : Opening) (d : ℕ) → Grows c h k e → Opens e asked → d < opens h → held k d ≡ held h d
held_other c h k e asked d g p lt = g.held_by d ∙ p.held' d (opens h) (creations h) (bound h) (held h d) ∙ rw (ne_eqb (opens h) d (λ (q : opens h ≡ d). absurd (omega arith))) refl

nonblock_new : (c : Config) (h k : History) (e : Event) (asked : Opening) → Grows c h k e → Opens e asked → is_nonblock k (opens h) ≡ nonblock_asked asked.kind asked.flags
nonblock_new c h k e asked g p = g.nonblock_of (opens h) ∙ p.nonblock' (opens h) (opens h) (is_nonblock h (opens h)) ∙ rw (eq-eqb (opens h) (opens h) refl) refl

nonblock_other : (c : Config) (h k : History) (e : Event) (asked : Opening) (d : ℕ) → Grows c h k e → Opens e asked → d < opens h → is_nonblock k d ≡ is_nonblock h d
nonblock_other c h k e asked d g p lt = g.nonblock_of d ∙ p.nonblock' d (opens h) (is_nonblock h d) ∙ rw (ne_eqb (opens h) d (λ (q : opens h ≡ d). absurd (omega arith))) refl

other_row : (c : Config) (h k : History) (e : Event) (asked : Opening) (d : ℕ) → Grows c h k e → Opens e asked → d < opens h → option_map (row_held (is_nonblock k) d) (held k d) ≡ option_map (row_held (is_nonblock h) d) (held h d)
other_row c h k e asked d g p lt = ap (option_map (row_held (is_nonblock k) d)) (held_other c h k e asked d g p lt) ∙ same_row (held h d) where
  same_row : (w : Option Held) → option_map (row_held (is_nonblock k) d) w ≡ option_map (row_held (is_nonblock h) d) w
  same_row None = refl
  same_row (Some x) = ap (λ nonblock. Some (record { desc = record { 0 = d }; session = x.session; object = x.object; access = x.access; nonblock = nonblock })) (nonblock_other c h k e asked d g p lt)

pub descriptions_opened : (c : Config) (h k : History) (t : Descriptions) (e : Event) (asked : Opening) (o : ℕ) → Grows c h k e → Opens e asked → DescriptionsAgree h t → opened h asked ≡ Some o → DescriptionsAgree k (with_open t asked.session o asked.access (nonblock_asked asked.kind asked.flags))
descriptions_opened c h k t e asked o g p a is = record {
  rows = sym (
      gathered_more (λ d. option_map (row_held (is_nonblock k) d) (held k d)) (λ d. option_map (row_held (is_nonblock h) d) (held h d)) (opens k) (opens h) (g.open_count ∙ p.opens' (opens h)) (λ d lt. other_row c h k e asked d g p lt)
      ∙ ap (λ w. gathered_below (λ d. option_map (row_held (is_nonblock h) d) (held h d)) (opens h) ++ option_to_list (option_map (row_held (is_nonblock k) (opens h)) w)) (held_new c h k e asked o g p is)
      ∙ ap (λ b. gathered_below (λ d. option_map (row_held (is_nonblock h) d) (held h d)) (opens h) ++ record { desc = record { 0 = opens h }; session = asked.session; object = o; access = asked.access; nonblock = b } ∷ []) (nonblock_new c h k e asked g p)
      ∙ ap (λ n. gathered_below (λ d. option_map (row_held (is_nonblock h) d) (held h d)) (opens h) ++ record { desc = record { 0 = n }; session = asked.session; object = o; access = asked.access; nonblock = nonblock_asked asked.kind asked.flags } ∷ []) (sym a.opened)
      ∙ ap (λ xs. xs ++ record { desc = record { 0 = t.opened }; session = asked.session; object = o; access = asked.access; nonblock = nonblock_asked asked.kind asked.flags } ∷ []) (sym a.rows));
  opened = ap (λ n. n + 1) a.opened ∙ sym (g.open_count ∙ p.opens' (opens h));
}

-- which objects are alive after an open: those that were, and the one that it opens
any_opened : (c : Config) (h k : History) (e : Event) (asked : Opening) (b o : ℕ) → Grows c h k e → Opens e asked → opened h asked ≡ Some b → any_below (λ d. gives_object o (held k d)) (opens k) ≡ (eqb b o || any_below (λ d. gives_object o (held h d)) (opens h))
any_opened c h k e asked b o g p is =
    ap (any_below (λ d. gives_object o (held k d))) (g.open_count ∙ p.opens' (opens h) ∙ add-one (opens h))
    ∙ ap (λ w. gives_object o w || any_below (λ d. gives_object o (held k d)) (opens h)) (held_new c h k e asked b g p is)
    ∙ ap (λ i. eqb b o || i) (any_below_same _ _ (opens h) (λ d lt. ap (gives_object o) (held_other c h k e asked d g p lt)))

pub alive_opened : (c : Config) (h k : History) (e : Event) (asked : Opening) (b o : ℕ) → Grows c h k e → Opens e asked → opened h asked ≡ Some b → alive k o ≡ (is_some (cond (is_new asked (is_bound h) && eqb (creations h) o) (Some asked) (named h o)) || (eqb b o || any_below (λ d. gives_object o (held h d)) (opens h)))
unfolding alive
alive_opened c h k e asked b o g p is =
    ap (λ w. is_some w || any_below (λ d. gives_object o (held k d)) (opens k)) (g.named_by o ∙ p.named' o (creations h) (is_bound h) (named h o))
    ∙ ap (λ i. is_some (cond (is_new asked (is_bound h) && eqb (creations h) o) (Some asked) (named h o)) || i) (any_opened c h k e asked b o g p is)

-- the name that an open names
pub named_by_open : (h : History) (e : Event) (asked : Opening) → opening e ≡ Some asked → by_name (object_bound h) e ≡ bound h asked.family asked.name
named_by_open h (Do sid (MqOpen given)) asked k =
    let same : queue_opening sid given ≡ asked = cc in
    subst (λ (a : Opening). by_name (object_bound h) (Do sid (MqOpen given)) ≡ bound h a.family a.name) same refl
named_by_open h (Do sid (SemOpen given)) asked k =
    let same : semaphore_opening sid given ≡ asked = cc in
    subst (λ (a : Opening). by_name (object_bound h) (Do sid (SemOpen given)) ≡ bound h a.family a.name) same refl
named_by_open h (Do sid call) asked k = absurd cc
named_by_open h (Hello found) asked k = absurd cc
named_by_open h (Hangup sid) asked k = absurd cc
named_by_open h (Tick moment) asked k = absurd cc
