-- Links that are open have something to do.
use Rattle.std.proofs.Common.{◌≡◌, inl, inr, ℕ, Bool, true, false, ◌&&◌, eqb, cond, List, [], ◌∷◌, ◌++◌, length, slice_get, Option, Some, None, refl, sym, ap, subst, ◌∙◌, arith}
use Rattle.std.specs.Prelude.{unwrap_or, Result, Ok, Err, IfOk, OnOk, OnErr}
use Rattle.std.specs.Option.{option_map, option_or}
use Rattle.std.proofs.lemmas.Bool.{eqb-true}
use Rattle.ipc_terms.specs.declared.call.Answer.{Answer}
use Rattle.ipc_terms.proofs.Lists.{slice_get_push, slice_past}
use Rattle.ipc_hub.specs.Marking.{is_set}
use Rattle.ipc_hub.specs.Hub.{Connection, new_connection, with_connection, Hub, Marks, ChangesOnly, Feeds, HangsUp, Takes, Names, is_marked, untaken_at, is_over_at}
use Rattle.ipc_hub.specs.declared.fed.Fed.{Fed}
use Rattle.ipc_hub.specs.declared.fed.HubFault.{HubFault}
use Rattle.ipc_hub.specs.Sessions.{EachHasItsOwn}
use Rattle.ipc_loop.specs.Moves.{Moved}
use Rattle.ipc_loop.specs.Ports.{Port, new_port, open_at}
use Rattle.ipc_loop.specs.Standing.{IsSettled}
use Rattle.ipc_loop.specs.Serving.{KeepsPortMarks, LetsGo, Answers, IsUndone, IsUpToDate, IsUpToDateByMark, KeepsUpToDate, OthersStayUndone, has_no_more, is_done}
use Rattle.ipc_loop.proofs.PortLemmas.{Slots, get_set, slot_now, slot_other}
use Rattle.ipc_loop.proofs.OwingLemmas.{unmarked_before, hub_keeps, pushed_keeps, opened_untaken, opened_marked}
use Rattle.ipc_loop.proofs.TakingLemmas.{takes_collects}
use Rattle.ipc_loop.proofs.TurnLemmas.{settled_keeps, open_there, sent_answered, none_answered, marked_elsewhere}

abbrev pub Ports : Type 0
Ports = ℕ → Option Port

abbrev pub Moves : Type 0
Moves = Option (List Moved)

-- ---- what the hub does for one connection, and the others

over_elsewhere : (h h' : Hub) (k : ℕ) (x y : Connection) → ChangesOnly h h' k x y → (i : ℕ) → eqb k i ≡ false → is_over_at h' i ≡ is_over_at h i
over_elsewhere h h' k x y c i other =
    ap (λ (s : Option Connection). unwrap_or (option_map (λ (z : Connection). z.is_over) s) false)
    (ap (λ (xs : List Connection). slice_get xs i) c.others ∙ get_set h.connections k x y i c.was ∙ ap (λ (b : Bool). cond b (Some y) (slice_get h.connections i)) other)

undone_same : (h h' : Hub) (i : ℕ) (port : Port) → is_over_at h' i ≡ is_over_at h i → untaken_at h' i ≡ untaken_at h i → is_done h i port ≡ false → is_done h' i port ≡ false
undone_same h h' i port over untaken e =
    ap (λ (b : Bool). b && has_no_more (untaken_at h' i) port.left) over ∙ ap (λ (xs : List Answer). is_over_at h i && has_no_more xs port.left) untaken ∙ e

pub same_undone : (k : ℕ) (h : Hub) → OthersStayUndone k h h
same_undone k h i port other before now = before now

pub both_undone : (k : ℕ) (a b c : Hub) → OthersStayUndone k a b → OthersStayUndone k b c → OthersStayUndone k a c
both_undone k a b c x y i port other before = y i port other (x i port other before)

marks_undone : (k : ℕ) (h h' : Hub) (x y : Connection) → Marks h h' → ChangesOnly h h' k x y → OthersStayUndone k h h'
marks_undone k h h' x y marks c i port other before now = undone_same h h' i port (over_elsewhere h h' k x y c i other) (marks.silent i now) (before (unmarked_before h h' i marks now))

pub fed_undone : (k : ℕ) (h h' : Hub) (piece : List ℕ) (r : Result Fed HubFault) → IfOk r (λ fed. Feeds h k piece fed h') → OnErr r (h' ≡ h) → OthersStayUndone k h h'
fed_undone k h h' piece (Ok fed) ok err = marks_undone k h h' ok.before ok.later ok.marks ok.changes
fed_undone k h h' piece (Err fault) ok err = subst (λ (x : Hub). OthersStayUndone k h x) (sym err) (same_undone k h)

pub hung_undone : (k : ℕ) (h h' : Hub) (r : Result Unit HubFault) → OnOk r (HangsUp h k h') → OnErr r (h' ≡ h) → OthersStayUndone k h h'
hung_undone k h h' (Ok u) ok err = marks_undone k h h' ok.before _ ok.marks ok.changes
hung_undone k h h' (Err fault) ok err = subst (λ (x : Hub). OthersStayUndone k h x) (sym err) (same_undone k h)

unmarked_as : (h h' : Hub) (i : ℕ) → h'.marked ≡ h.marked → is_marked h' i ≡ false → is_marked h i ≡ false
unmarked_as h h' i same now = ap (λ (flags : List Bool). is_set flags i) (sym same) ∙ now

pub takes_undone : (k : ℕ) (h h' : Hub) (bytes : List ℕ) (port : Port) → EachHasItsOwn h.core h.connections → Takes h k bytes h' → OthersStayUndone k h h'
takes_undone k h h' bytes port sound takes i p other before now =
    undone_same h h' i p (over_elsewhere h h' k takes.before _ takes.changes i other) ((takes_collects h h' k bytes port sound takes).others i other) (before (unmarked_as h h' i takes.marked now))

lets_go_undone : (k : ℕ) (h h' : Hub) (p : Port) → LetsGo h k p h' → OthersStayUndone k h h'
lets_go_undone k h h' p lets i port other before now =
    undone_same h h' i port (over_elsewhere h h' k lets.dropped.before _ lets.dropped.changes i other) (lets.others i other) (before (unmarked_as h h' i lets.dropped.marked now))

-- ---- ports that are settled

-- link k's port stays, if it isn't done
settled_here : (k : ℕ) (h' h'' : Hub) (m' m'' : Moves) (p p' : Port) (xs ys : Slots) → slice_get xs k ≡ Some (Some p) → IsSettled h' m' xs k p' h'' m'' ys → IsUndone h'' (open_at ys) k
settled_here k h' h'' m' m'' p p' xs ys there (inl put) port e =
    let now : Some p' ≡ Some port = sym (ap (λ (zs : Slots). open_at zs k) put.2 ∙ ap (λ (s : Option (Option Port)). unwrap_or s None) (slot_now xs k (Some p) (Some p') there)) ∙ e in
    let same : p' ≡ port = cc in
    subst (λ (x : Hub). is_done x k port ≡ false) (sym put.0) (subst (λ (q : Port). is_done h' k q ≡ false) same put.3)
settled_here k h' h'' m' m'' p p' xs ys there (inr gone) port e =
    let now : None ≡ Some port = sym (ap (λ (zs : Slots). open_at zs k) gone.2 ∙ ap (λ (s : Option (Option Port)). unwrap_or s None) (slot_now xs k (Some p) None there)) ∙ e in
    absurd cc

-- and another's stays as it was
settled_elsewhere : (k : ℕ) (h h' h'' : Hub) (m' m'' : Moves) (p p' : Port) (xs ys : Slots) → slice_get xs k ≡ Some (Some p) → OthersStayUndone k h h' → IsSettled h' m' xs k p' h'' m'' ys
    → (i : ℕ) → eqb k i ≡ false → (is_marked h i ≡ false → IsUndone h (open_at xs) i) → is_marked h'' i ≡ false → IsUndone h'' (open_at ys) i
settled_elsewhere k h h' h'' m' m'' p p' xs ys there others (inl put) i other before now port e =
    let still : open_at xs i ≡ Some port = sym (ap (λ (zs : Slots). open_at zs i) put.2 ∙ ap (λ (s : Option (Option Port)). unwrap_or s None) (slot_other xs k (Some p) (Some p') i there other)) ∙ e in
    subst (λ (x : Hub). is_done x i port ≡ false) (sym put.0)
    (others i port other (λ u. before u port still) (ap (λ (x : Hub). is_marked x i) (sym put.0) ∙ now))
settled_elsewhere k h h' h'' m' m'' p p' xs ys there others (inr gone) i other before now port e =
    let still : open_at xs i ≡ Some port = sym (ap (λ (zs : Slots). open_at zs i) gone.2 ∙ ap (λ (s : Option (Option Port)). unwrap_or s None) (slot_other xs k (Some p) None i there other)) ∙ e in
    lets_go_undone k h' h'' p' gone.0 i port other (others i port other (λ u. before u port still)) now

pub settled_up : (k : ℕ) (h h' h'' : Hub) (m' m'' : Moves) (p p' : Port) (xs ys : Slots) → slice_get xs k ≡ Some (Some p) → KeepsPortMarks k h p h' p' → OthersStayUndone k h h' → IsSettled h' m' xs k p' h'' m'' ys
    → KeepsUpToDate h (open_at xs) h'' (open_at ys)
settled_up k h h' h'' m' m'' p p' xs ys there keeps others settled i before now = (settled_keeps k h h' h'' m' m'' p p' xs ys there keeps settled i (λ u. (before u).0) now, at (eqb k i) refl) where
  at : (here : Bool) → eqb k i ≡ here → IsUndone h'' (open_at ys) i
  at true is = subst (λ (j : ℕ). IsUndone h'' (open_at ys) j) (eqb-true k i is) (settled_here k h' h'' m' m'' p p' xs ys there settled)
  at false is = settled_elsewhere k h h' h'' m' m'' p p' xs ys there others settled i is (λ u. (before u).1) now

-- port k, which was sent what it was answered, is settled
pub sent_up : (k : ℕ) (h h' h'' : Hub) (m' m'' : Moves) (p p' : Port) (xs ys : Slots) → slice_get xs k ≡ Some (Some p) → Answers k h h' p' → IsSettled h' m' xs k p' h'' m'' ys → IsUpToDate h'' (open_at ys) k
sent_up k h h' h'' m' m'' p p' xs ys there a settled = (sent_answered k h h' h'' m' m'' p p' xs ys there a settled, settled_here k h' h'' m' m'' p p' xs ys there settled)

-- a link that has no port has nothing to do
pub none_up : (k : ℕ) (h : Hub) (xs : Slots) → ((port : Port) → slice_get xs k ≡ Some (Some port) → ⊥) → IsUpToDate h (open_at xs) k
none_up k h xs none = (none_answered k h xs none, λ port e. absurd (none port (open_there xs k port e)))

-- who else isn't up to date is marked, once connection k was named and answered
pub named_up : (k : ℕ) (h n h' : Hub) (p p' : Slots) → Names h k n → ((i : ℕ) → eqb k i ≡ false → IsUpToDateByMark n (open_at p) i → IsUpToDateByMark h' (open_at p') i) → IsUpToDate h' (open_at p') k
    → ((i : ℕ) → IsUpToDateByMark h (open_at p) i) → (i : ℕ) → IsUpToDateByMark h' (open_at p') i
named_up k h n h' p p' names others here before i = at (eqb k i) refl where
  at : (same : Bool) → eqb k i ≡ same → IsUpToDateByMark h' (open_at p') i
  at true is = subst (λ (j : ℕ). IsUpToDateByMark h' (open_at p') j) (eqb-true k i is) (λ (u : is_marked h' k ≡ false). here)
  at false is = others i is (λ (u : is_marked n i ≡ false).
      subst (λ (x : Hub). IsUpToDate x (open_at p) i) (sym names.now)
      (before i (sym (marked_elsewhere h.marked k i names.was is) ∙ ap (λ (x : Hub). is_marked x i) (sym names.now) ∙ u)))

-- ---- the hub alone

-- the hub answers anybody, and hangs nobody up
pub hub_up : (h h' : Hub) (p : Ports) → Marks h h' → ((i : ℕ) → is_over_at h' i ≡ is_over_at h i) → KeepsUpToDate h p h' p
hub_up h h' p marks over i before now = (hub_keeps h h' p marks i (λ u. (before u).0) now, λ port e. undone_same h h' i port (over i) (marks.silent i now) ((before (unmarked_before h h' i marks now)).1 port e))

opened_over : (h : Hub) (i : ℕ) → is_over_at (with_connection h) i ≡ is_over_at h i
opened_over h i = ap (λ (s : Option Connection). unwrap_or (option_map (λ (x : Connection). x.is_over) s) false) (slice_get_push h.connections new_connection i) ∙ at (eqb (length h.connections) i) refl where
  at : (here : Bool) → eqb (length h.connections) i ≡ here → unwrap_or (option_map (λ (x : Connection). x.is_over) (option_or (cond here (Some new_connection) None) (slice_get h.connections i))) false ≡ is_over_at h i
  at true is = sym (ap (λ (s : Option Connection). unwrap_or (option_map (λ (x : Connection). x.is_over) s) false) (slice_past h.connections i (omega (arith, eqb-true (length h.connections) i is))))
  at false is = refl

-- a connection is opened
pub opened_up : (h h' : Hub) (p : Ports) → h' ≡ with_connection h → KeepsUpToDate h p h' p
opened_up h h' p e = subst (λ (x : Hub). KeepsUpToDate h p x p) (sym e) (hub_up h (with_connection h) p (record { kept = λ i m. opened_marked h i ∙ m; silent = λ i m. opened_untaken h i }) (opened_over h))

-- a new port, whose connection was answered nothing and isn't over
pushed_up : (h : Hub) (xs : Slots) → untaken_at h (length xs) ≡ [] → is_over_at h (length xs) ≡ false → KeepsUpToDate h (open_at xs) h (open_at (xs ++ Some new_port ∷ []))
pushed_up h xs none going i before now = (pushed_keeps h xs none i (λ u. (before u).0) now, undone) where
  undone : IsUndone h (open_at (xs ++ Some new_port ∷ [])) i
  undone port e = at (eqb (length xs) i) refl (slice_get xs i) (λ (q : Port). (before now).1 q) (sym (ap (λ (s : Option (Option Port)). unwrap_or s None) (slice_get_push xs (Some new_port) i)) ∙ e) where
    at : (here : Bool) → eqb (length xs) i ≡ here → (s : Option (Option Port)) → ((q : Port) → unwrap_or s None ≡ Some q → is_done h i q ≡ false) → unwrap_or (option_or (cond here (Some (Some new_port)) None) s) None ≡ Some port → is_done h i port ≡ false
    at true is s f g = ap (λ (b : Bool). b && has_no_more (untaken_at h i) port.left) (ap (λ (j : ℕ). is_over_at h j) (sym (eqb-true (length xs) i is)) ∙ going)
    at false is s f g = f port g

pub accepted_up : (h h' : Hub) (xs ys : Slots) → untaken_at h' (length xs) ≡ [] → is_over_at h' (length xs) ≡ false → ys ≡ xs ++ Some new_port ∷ [] → KeepsUpToDate h (open_at xs) h' (open_at xs) → KeepsUpToDate h (open_at xs) h' (open_at ys)
accepted_up h h' xs ys none going more keeps = subst (λ (zs : Slots). KeepsUpToDate h (open_at xs) h' (open_at zs)) (sym more) (λ i owed. pushed_up h' xs none going i (keeps i owed))
