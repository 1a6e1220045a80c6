-- In a legal history each description that is held was given by an open that was granted, and accepted gives led from the
-- session of the open to the one that holds it.
use Rattle.std.proofs.Common.{◌≡◌, ℕ, suc, ◌<◌, ◌⊎◌, inl, inr, Bool, true, false, not, ◌&&◌, ◌||◌, eqb, List, [], ◌∷◌, length, cond, Option, Some, None, is_some, refl, sym, ap, subst, ◌∙◌, arith}
use Rattle.std.specs.Prelude.{option_and_then}
use Rattle.std.specs.Option.{option_or, option_map}
use Rattle.std.proofs.lemmas.Bool.{cases_eq, eqb-true, eq-eqb, and_parts}
use Rattle.ipc_terms.specs.Flags.{has_create}
use Rattle.ipc_terms.specs.declared.ids.Sid.{Sid}
use Rattle.ipc_terms.specs.declared.ids.Desc.{Desc}
use Rattle.ipc_terms.specs.declared.rule.Rule.{Rule}
use Rattle.ipc_terms.specs.declared.rule.Rule.TheVariants.{ModeDenied}
use Rattle.ipc_terms.specs.declared.facts.Facts.{Facts}
use Rattle.ipc_terms.specs.declared.record.Record.{Record}
use Rattle.ipc_terms.specs.declared.record.Event.{Event}
use Rattle.ipc_terms.specs.declared.record.Event.TheVariants.{Hello, Do, Hangup, Tick}
use Rattle.ipc_terms.specs.declared.call.Call.TheVariants.{MqOpen, MqGive, SemOpen}
use Rattle.ipc_access.specs.declared.class.Cred.{Cred}
use Rattle.ipc_access.specs.Class.{granted}
use Rattle.ipc_policy.specs.declared.config.Config.{Config}
use Rattle.ipc_policy.specs.declared.config.Held.{Held}
use Rattle.ipc_policy.specs.Decides.History.{History, unless, is_some_and, record_at, before_at}
use Rattle.ipc_policy.specs.Decides.Sessions.{cred}
use Rattle.ipc_policy.specs.Decides.Names.{Opening, opening, queue_opening, semaphore_opening, is_bound, creating, creations, bound}
use Rattle.ipc_policy.specs.Decides.Objects.{facts}
use Rattle.ipc_policy.specs.Decides.Descriptions.{opens, opened, held_as, hands_over, ends_held, held, if_of, holds}
use Rattle.ipc_policy.specs.Decides.Rules.{forbids, mode_denied, denied_at, bits_wanted}
use Rattle.ipc_policy.specs.Decides.Verdict.{Legal, verdict}
use Rattle.ipc_policy.specs.Follows.Confined.{Give, HeldThroughout, Lead, IsGranted, grants_to}
use Rattle.ipc_policy.proofs.Histories.Moments.{place_below, record_stays, before_stays, record_now, before_now}
use Rattle.ipc_policy.proofs.Histories.Unforbidden.{unforbidden}
use Rattle.ipc_policy.proofs.Holdings.Holding.{kept_is, nothing_handed}
use Rattle.ipc_policy.proofs.Directories.OpenAccepted.{open_there}
use Rattle.ipc_policy.proofs.Directories.Bindings.{caller_known, bound_made}
use Rattle.ipc_policy.proofs.Histories.Known.{bound_iff}

-- a longer history keeps it
throughout_on : (h : History) (q : Record) (d : ℕ) (x : Held) (from until : ℕ) → until < length h → HeldThroughout h d x from until → HeldThroughout (q ∷ h) d x from until
throughout_on h q d x from until lt known place after le = ap (λ b. holds b x.session.0 d) (before_stays h q place (omega arith)) ∙ known place after le

lead_on : (h : History) (q : Record) (d : ℕ) (gs : List Give) (first : Held) (from : ℕ) (last : Held) (until : ℕ) → until < length h → Lead h d gs first from last until → Lead (q ∷ h) d gs first from last until
lead_on h q d [] first from last until lt known = (known.0, known.1, throughout_on h q d last from until lt known.2)
lead_on h q d (g ∷ gs) first from last until lt known =
    let below = place_below h g.place _ known.0 in (
      record_stays h q g.place below ∙ known.0,
      known.1,
      known.2,
      throughout_on h q d last g.place until lt known.3,
      lead_on h q d gs first from (record last { session = g.giver }) g.place below known.4,
    )

pub granted_on : (c : Config) (h : History) (q : Record) (d : ℕ) (x : Held) (act : ℕ) → act < length h → IsGranted c h d x act → IsGranted c (q ∷ h) d x act
granted_on c h q d x act below known =
    let lt = place_below h known.place _ known.recorded in
    let same : before_at known.place (q ∷ h) ≡ before_at known.place h = before_stays h q known.place lt in
    record {
      place = known.place;
      event = known.event;
      asked = known.asked;
      first = known.first;
      recorded = record_stays h q known.place lt ∙ known.recorded;
      is_open = known.is_open;
      number = ap opens same ∙ known.number;
      gives = ap (λ b. option_map (held_as known.asked) (opened b known.asked)) same ∙ known.gives;
      grants = ap (λ b. creating b known.asked || grants_to (cred c b known.asked.session.0) (facts c b known.first.object) (bits_wanted known.asked.access)) same ∙ known.grants;
      given = known.given;
      lead = lead_on h q d known.given known.first known.place x act below known.lead;
    }

-- what is held goes on to be held by who holds it at the next place too
throughout_later : (h : History) (d : ℕ) (x : Held) (from until : ℕ) → holds (before_at (suc until) h) x.session.0 d ≡ Some x → HeldThroughout h d x from until → HeldThroughout h d x from (suc until)
throughout_later h d x from until now known place after le = at (cases_eq place (suc until)) where
  at : (place ≡ suc until) ⊎ (place ≡ suc until → ⊥) → holds (before_at place h) x.session.0 d ≡ Some x
  at (inl same) = subst (λ (n : ℕ). holds (before_at n h) x.session.0 d ≡ Some x) (sym same) now
  at (inr other) = known place after (omega arith)

lead_later : (h : History) (d : ℕ) (gs : List Give) (first : Held) (from : ℕ) (last : Held) (until : ℕ) → holds (before_at (suc until) h) last.session.0 d ≡ Some last → Lead h d gs first from last until → Lead h d gs first from last (suc until)
lead_later h d [] first from last until now known = (known.0, let lt = known.1 in omega arith, throughout_later h d last from until now known.2)
lead_later h d (g ∷ gs) first from last until now known = (known.0, let lt = known.1 in omega arith, known.2, throughout_later h d last g.place until now known.3, known.4)

mine_now : (y : Held) → if_of y.session.0 y ≡ Some y
mine_now y = rw (eq-eqb y.session.0 y.session.0 refl) refl

holds_own : (h : History) (d : ℕ) (y : Held) → held h d ≡ Some y → holds h y.session.0 d ≡ Some y
unfolding holds
holds_own h d y k = ap (option_and_then (if_of y.session.0)) k ∙ mine_now y

-- what is held before a record was granted, as of the place of the record
abbrev pub IsGrantedNow : Config → History → ℕ → Held → Type 0
IsGrantedNow c h d x = (r : Record) → IsGranted c (r ∷ h) d x (length h)

granted_later : (c : Config) (h : History) (q : Record) (d : ℕ) (x : Held) → held (q ∷ h) d ≡ Some x → IsGrantedNow c h d x → IsGrantedNow c (q ∷ h) d x
granted_later c h q d x now known r =
    let on = granted_on c (q ∷ h) r d x (length h) (omega arith) (known q) in
    let here : holds (before_at (length (q ∷ h)) (r ∷ q ∷ h)) x.session.0 d ≡ Some x = ap (λ b. holds b x.session.0 d) (before_now (q ∷ h) r) ∙ holds_own (q ∷ h) d x now in
    record {
      place = on.place;
      event = on.event;
      asked = on.asked;
      first = on.first;
      recorded = on.recorded;
      is_open = on.is_open;
      number = on.number;
      gives = on.gives;
      grants = on.grants;
      given = on.given;
      lead = lead_later (r ∷ q ∷ h) d on.given on.first on.place x (length h) here on.lead;
    }

not_denied : (c : Config) (h : History) (e : Event) (asked : Opening) → None ≡ verdict c h e → opening e ≡ Some asked → denied_at (cred c h asked.session.0) (option_and_then (facts c h) (bound h asked.family asked.name)) (bits_wanted asked.access) ≡ false
unfolding forbids mode_denied
not_denied c h e asked legal k = ap (is_some_and (λ a. denied_at (cred c h a.session.0) (option_and_then (facts c h) (bound h a.family a.name)) (bits_wanted a.access))) (sym k) ∙ unforbidden c h e (sym legal) ModeDenied

opener_known : (c : Config) (h : History) (e : Event) (asked : Opening) → Legal c h → None ≡ verdict c h e → opening e ≡ Some asked → is_some (cred c h asked.session.0) ≡ true
opener_known c h (Do sid (MqOpen given)) asked legal accepted k = let same : queue_opening sid given ≡ asked = cc in subst (λ (a : Opening). is_some (cred c h a.session.0) ≡ true) same (caller_known c h sid (MqOpen given) legal (sym accepted))
opener_known c h (Do sid (SemOpen given)) asked legal accepted k = let same : semaphore_opening sid given ≡ asked = cc in subst (λ (a : Opening). is_some (cred c h a.session.0) ≡ true) same (caller_known c h sid (SemOpen given) legal (sym accepted))
opener_known c h (Do sid call) asked legal accepted k = absurd cc
opener_known c h (Hello found) asked legal accepted k = absurd cc
opener_known c h (Hangup sid) asked legal accepted k = absurd cc
opener_known c h (Tick moment) asked legal accepted k = absurd cc

created_at : (b u : Bool) → (not b && not u) ≡ false → u ≡ false → (b && not u) ≡ true
created_at true true k e = absurd cc
created_at true false k e = refl
created_at false true k e = absurd cc
created_at false false k e = absurd cc

passes_at : (b : Bool) → not b ≡ false → b ≡ true
passes_at true e = refl
passes_at false e = absurd cc

granted_at : (who : Option Cred) (at : Option Facts) (wanted : ℕ) → is_some who ≡ true → is_some at ≡ true → denied_at who at wanted ≡ false → grants_to who at wanted ≡ true
granted_at None at wanted k j d = absurd cc
granted_at (Some who) None wanted k j d = absurd cc
granted_at (Some who) (Some at) wanted k j d = passes_at (granted who at.owner at.group at.mode wanted) d

or_second : (a b : Bool) → b ≡ true → (a || b) ≡ true
or_second true b e = refl
or_second false b e = e

or_first : (a b : Bool) → a ≡ true → (a || b) ≡ true
or_first true b e = refl
or_first false b e = absurd cc

-- what an accepted open gives is of an object that it created, or of one that granted the access
grants_now : (c : Config) (h : History) (e : Event) (asked : Opening) (o : ℕ) → Legal c h → None ≡ verdict c h e → opening e ≡ Some asked → opened h asked ≡ Some o → (creating h asked || grants_to (cred c h asked.session.0) (facts c h o) (bits_wanted asked.access)) ≡ true
unfolding creating
grants_now c h e asked o legal accepted k found = at (bound h asked.family asked.name) refl found where
  at : (w : Option ℕ) → bound h asked.family asked.name ≡ w → option_or w (cond (has_create asked.flags) (Some (creations h)) None) ≡ Some o → ((has_create asked.flags && not (is_bound h asked.family asked.name)) || grants_to (cred c h asked.session.0) (facts c h o) (bits_wanted asked.access)) ≡ true
  at None q j =
      let unbound : is_bound h asked.family asked.name ≡ false = bound_iff h asked.family asked.name ∙ ap is_some q in
      or_first _ _ (created_at (has_create asked.flags) (is_bound h asked.family asked.name) (open_there c h e asked k (sym accepted)) unbound)
  at (Some p) q j =
      let same : p ≡ o = cc in
      let there : bound h asked.family asked.name ≡ Some o = q ∙ ap Some same in
      let passes : denied_at (cred c h asked.session.0) (facts c h o) (bits_wanted asked.access) ≡ false = rw there at (not_denied c h e asked accepted k) in
      or_second _ _ (granted_at (cred c h asked.session.0) (facts c h o) (bits_wanted asked.access) (opener_known c h e asked legal accepted k) (bound_made c h asked.family asked.name o legal there).1 passes)

-- the record behind a history, where one more follows
record_then : (h : History) (q r : Record) → record_at (length h) (r ∷ q ∷ h) ≡ Some q
record_then h q r = record_stays (q ∷ h) r (length h) (omega arith) ∙ record_now h q

before_then : (h : History) (q r : Record) → before_at (length h) (r ∷ q ∷ h) ≡ h
before_then h q r = before_stays (q ∷ h) r (length h) (omega arith) ∙ before_now h q

-- from behind that record to the next place
throughout_next : (h : History) (q r : Record) (d : ℕ) (x : Held) → held (q ∷ h) d ≡ Some x → HeldThroughout (r ∷ q ∷ h) d x (length h) (length (q ∷ h))
throughout_next h q r d x now =
    let here : holds (before_at (length (q ∷ h)) (r ∷ q ∷ h)) x.session.0 d ≡ Some x = ap (λ b. holds b x.session.0 d) (before_now (q ∷ h) r) ∙ holds_own (q ∷ h) d x now in
    throughout_later (r ∷ q ∷ h) d x (length h) (length h) here (λ place after le. absurd (omega arith))

given_now : (c : Config) (h : History) (e : Event) (d : ℕ) (x : Held) (asked : Opening) → Legal c h → None ≡ verdict c h e → opening e ≡ Some asked → opens h ≡ d → option_map (held_as asked) (opened h asked) ≡ Some x → held (record { event = e; rule = None } ∷ h) d ≡ Some x → IsGrantedNow c (record { event = e; rule = None } ∷ h) d x
given_now c h e d x asked legal accepted is number given now r =
    let same : before_at (length h) (r ∷ record { event = e; rule = None } ∷ h) ≡ h = before_then h (record { event = e; rule = None }) r in
    record {
      place = length h;
      event = e;
      asked = asked;
      first = x;
      recorded = record_then h (record { event = e; rule = None }) r;
      is_open = is;
      number = ap opens same ∙ number;
      gives = ap (λ b. option_map (held_as asked) (opened b asked)) same ∙ given;
      grants = ap (λ b. creating b asked || grants_to (cred c b asked.session.0) (facts c b x.object) (bits_wanted asked.access)) same ∙ at (opened h asked) refl given;
      given = [];
      lead = (refl, omega arith, throughout_next h (record { event = e; rule = None }) r d x now);
    } where
      at : (w : Option ℕ) → opened h asked ≡ w → option_map (held_as asked) w ≡ Some x → (creating h asked || grants_to (cred c h asked.session.0) (facts c h x.object) (bits_wanted asked.access)) ≡ true
      at None q j = absurd cc
      at (Some o) q j = let same : held_as asked o ≡ x = cc in subst (λ (y : Held). (creating h asked || grants_to (cred c h asked.session.0) (facts c h y.object) (bits_wanted asked.access)) ≡ true) same (grants_now c h e asked o legal accepted is q)

-- what a give hands over its session had, and the taker has the same
record Handed (d : ℕ) (e : Event) (w : Option Held) (x : Held) : Type 0 where
  was : Held
  taker : Sid
  event : e ≡ Do was.session (MqGive (record { 0 = d }) taker)
  held : w ≡ Some was
  now : x ≡ record was { session = taker }

same_sid : (s t : Sid) → s.0 ≡ t.0 → s ≡ t
same_sid s t e = ap (λ (n : ℕ). record { 0 = n }) e

same_desc : (s t : Desc) → s.0 ≡ t.0 → s ≡ t
same_desc s t e = ap (λ (n : ℕ). record { 0 = n }) e

handed_is : (d : ℕ) (e : Event) (w : Option Held) (x : Held) → hands_over d e w ≡ Some x → Handed d e w x
handed_is d e None x k = absurd (let none : None ≡ Some x = sym (nothing_handed d e) ∙ k in cc)
handed_is d (Do sid (MqGive desc taker)) (Some y) x k = at (eqb sid.0 y.session.0 && eqb desc.0 d) refl k where
  at : (b : Bool) → (eqb sid.0 y.session.0 && eqb desc.0 d) ≡ b → cond b (Some (record y { session = taker })) None ≡ Some x → Handed d (Do sid (MqGive desc taker)) (Some y) x
  at true q j =
      let parts = and_parts (eqb sid.0 y.session.0) (eqb desc.0 d) q in
      let who : sid ≡ y.session = same_sid sid y.session (eqb-true _ _ parts.0) in
      let by : desc ≡ record { 0 = d } = same_desc desc (record { 0 = d }) (eqb-true _ _ parts.1) in
      let same : record y { session = taker } ≡ x = cc in
      record {
        was = y;
        taker = taker;
        event = ap (λ (t : Sid). Do t (MqGive desc taker)) who ∙ ap (λ (t : Desc). Do y.session (MqGive t taker)) by;
        held = refl;
        now = sym same;
      }
  at false q j = absurd cc
handed_is d e (Some y) x k = absurd cc

-- a give that is accepted now
given_over : (c : Config) (h : History) (e : Event) (d : ℕ) (x : Held) (by : Handed d e (held h d) x) → IsGrantedNow c h d by.was → held (record { event = e; rule = None } ∷ h) d ≡ Some x → IsGrantedNow c (record { event = e; rule = None } ∷ h) d x
given_over c h e d x by known now r =
    let on = granted_on c (record { event = e; rule = None } ∷ h) r d by.was (length h) (omega arith) (known (record { event = e; rule = None })) in
    let back : by.was ≡ record x { session = by.was.session } = ap (λ (z : Held). record z { session = by.was.session }) (sym by.now) in
    record {
      place = on.place;
      event = on.event;
      asked = on.asked;
      first = on.first;
      recorded = on.recorded;
      is_open = on.is_open;
      number = on.number;
      gives = on.gives;
      grants = on.grants;
      given = record { place = length h; giver = by.was.session; taker = by.taker } ∷ on.given;
      lead = (
        record_then h (record { event = e; rule = None }) r ∙ ap (λ (f : Event). Some (record { event = f; rule = None })) by.event,
        omega arith,
        ap (λ (z : Held). z.session) by.now,
        throughout_next h (record { event = e; rule = None }) r d x now,
        subst (λ (z : Held). Lead (r ∷ record { event = e; rule = None } ∷ h) d on.given on.first on.place z (length h)) back on.lead,
      );
    }

granted_more : (c : Config) (h : History) (d : ℕ) → ((x : Held) → held h d ≡ Some x → IsGrantedNow c h d x) → (e : Event) (r : Option Rule) (x : Held) → Legal c h → r ≡ verdict c h e → held (record { event = e; rule = r } ∷ h) d ≡ Some x → IsGrantedNow c (record { event = e; rule = r } ∷ h) d x
unfolding held
granted_more c h d known e (Some rule) x legal accepted k = granted_later c h (record { event = e; rule = Some rule }) d x k (known x k)
granted_more c h d known e None x legal accepted k = at (opening e) refl k where
  old : unless (λ y. ends_held d y e) (held h d) ≡ Some x → IsGrantedNow c (record { event = e; rule = None } ∷ h) d x
  old j = granted_later c h (record { event = e; rule = None }) d x k (known x (kept_is (λ y. ends_held d y e) (held h d) x j))

  begun : Option Opening → Option Held
  begun None = hands_over d e (held h d)
  begun (Some asked) = cond (eqb (opens h) d) (option_map (held_as asked) (opened h asked)) None

  made : (w : Option Held) → w ≡ Some x → (asked : Opening) → opening e ≡ Some asked → opens h ≡ d → option_map (held_as asked) (opened h asked) ≡ w → IsGrantedNow c (record { event = e; rule = None } ∷ h) d x
  made w j asked is number given = given_now c h e d x asked legal accepted is number (given ∙ j) k

  handed : (w : Option Held) → hands_over d e (held h d) ≡ w → option_or w (unless (λ y. ends_held d y e) (held h d)) ≡ Some x → IsGrantedNow c (record { event = e; rule = None } ∷ h) d x
  handed None p i = old i
  handed (Some y) p i =
      let by = handed_is d e (held h d) x (p ∙ i) in
      given_over c h e d x by (known by.was by.held) k

  at : (w : Option Opening) → opening e ≡ w → option_or (begun w) (unless (λ y. ends_held d y e) (held h d)) ≡ Some x → IsGrantedNow c (record { event = e; rule = None } ∷ h) d x
  at None q j = handed (hands_over d e (held h d)) refl j
  at (Some asked) q j = mine (eqb (opens h) d) refl j where
    found : opens h ≡ d → (w : Option Held) → option_map (held_as asked) (opened h asked) ≡ w → option_or w (unless (λ y. ends_held d y e) (held h d)) ≡ Some x → IsGrantedNow c (record { event = e; rule = None } ∷ h) d x
    found number None p i = old i
    found number (Some y) p i = made (Some y) i asked q number p

    mine : (b : Bool) → eqb (opens h) d ≡ b → option_or (cond b (option_map (held_as asked) (opened h asked)) None) (unless (λ y. ends_held d y e) (held h d)) ≡ Some x → IsGrantedNow c (record { event = e; rule = None } ∷ h) d x
    mine true p i = found (eqb-true _ _ p) (option_map (held_as asked) (opened h asked)) refl i
    mine false p i = old i

-- in a legal history what is held was granted, as of the next place
pub held_granted : (c : Config) (h : History) (d : ℕ) (x : Held) → Legal c h → held h d ≡ Some x → IsGrantedNow c h d x
unfolding held
held_granted c [] d x legal k = absurd cc
held_granted c (r ∷ h) d x legal k = granted_more c h d (λ y j. held_granted c h d y legal.1 j) r.event r.rule x legal.1 legal.0 k
