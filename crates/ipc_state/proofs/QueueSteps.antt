-- What a send, a receive and a withdrawal make of a queue of the policy is what they make of the queue that is kept.
use Rattle.std.proofs.Common.{◌≡◌, ℕ, ◌+◌, ◌≤◌, Bool, true, false, not, ◌&&◌, ◌||◌, eqb, cond, List, [], ◌∷◌, ◌++◌, length, map, filter, Option, Some, None, refl, sym, ap, ◌∙◌, arith}
use Rattle.std.specs.Prelude.{nat_le}
use Rattle.std.specs.Option.{option_map, option_to_list}
use Rattle.std.proofs.lemmas.Bool.{eqb-true, eq-eqb, ne_eqb, leb-true}
use Rattle.std.proofs.lemmas.List.{length-map, map_push}
use Rattle.ipc_terms.specs.Lists.{first, Each}
use Rattle.ipc_terms.specs.declared.ids.Sid.{Sid}
use Rattle.ipc_queue.specs.declared.queue.Ticket.{Ticket}
use Rattle.ipc_terms.specs.Events.{is_session}
use Rattle.ipc_terms.specs.Lists.{without_first}
use Rattle.ipc_queue.specs.Tickets.{is_ticket, is_sender, is_full_of, next_ticket, without_next, sent_to, sent, received_by, received, withdrawn}
use Rattle.ipc_terms.specs.declared.call.Attributes.{Attributes}
use Rattle.ipc_policy.specs.Decides.Queues.{Send, Waiter, Sends, Receives, Withdraws, Queue, next, others, tail, has_none, is_filled, queue_after}
use Rattle.ipc_policy.proofs.Lists.Counting.{count_at}
use Rattle.ipc_policy.proofs.Lists.EntryOrder.{next_some}
use Rattle.ipc_policy.proofs.Directories.Living.{append_none}
use Rattle.ipc_policy.specs.Follows.Laws.{IsBounded}
use Rattle.ipc_policy.proofs.Blocked.ParkedSessions.{Different}
use Rattle.ipc_policy.specs.declared.config.Registration.{Registration}
use Rattle.ipc_policy.specs.Decides.Registrations.{is_idle}
use Rattle.ipc_state.specs.Agrees.{ticket_of, sender_of, receiver_of, tickets_of}
use Rattle.ipc_state.proofs.Mapped.{first_of_mapped}

-- whether it is full
pub full_same : (g : Option Registration) (y : Attributes) (q : Queue) → is_full_of (tickets_of g q y) ≡ is_filled y.maxmsg q.contents
full_same g y q = ap (nat_le y.maxmsg) (length-map q.contents ticket_of)

-- the registration after a send: none where it fires
abbrev pub left_registered : Option Registration → Queue → Option Registration
left_registered g q = cond (is_idle q) None g

-- a send
unfired_at : (g : Option Registration) (cs : List Send) → option_map (λ (x : Registration). x.desc) (cond (has_none cs && true) None g) ≡ cond (eqb (length (map ticket_of cs)) 0) None (option_map (λ (x : Registration). x.desc) g)
unfired_at g [] = refl
unfired_at g (m ∷ ms) = let some : eqb (length (map ticket_of (m ∷ ms))) 0 ≡ false = ne_eqb (length (map ticket_of (m ∷ ms))) 0 (λ (e : length (map ticket_of (m ∷ ms)) ≡ 0). omega arith) in rw some refl

unfired_while : (g : Option Registration) (b : Bool) → cond (b && false) None g ≡ g
unfired_while g true = refl
unfired_while g false = refl

some_message : (n : ℕ) (cs : List Send) → 1 ≤ n → nat_le n (length cs) ≡ true → has_none cs ≡ false
some_message n [] least full = absurd (let most = leb-true _ _ full in omega arith)
some_message n (m ∷ ms) least full = refl

unfired_full : (g : Option Registration) (b : Bool) → b ≡ false → cond (b && true) None g ≡ g
unfired_full g b e = rw e refl

sent_at : (g : Option Registration) (y : Attributes) (m : Send) (cs ss : List Send) (rs : List Waiter) (b : Bool) → 1 ≤ y.maxmsg → nat_le y.maxmsg (length cs) ≡ b → (has_none rs ≡ false → b ≡ false) → tickets_of (cond (has_none cs && has_none rs) None g) (record { contents = cond (b || not (has_none rs)) cs (cs ++ m ∷ []); senders = cond b (ss ++ m ∷ []) ss; receivers = tail rs }) y ≡ sent_to (ticket_of m) (record { 0 = m.session }) (tickets_of g (record { contents = cs; senders = ss; receivers = rs }) y) (map receiver_of rs)
sent_at g y m cs ss [] true least e excl =
    let full : nat_le y.maxmsg (length (map ticket_of cs)) ≡ true = ap (nat_le y.maxmsg) (length-map cs ticket_of) ∙ e in
    let stays = unfired_full g (has_none cs) (some_message y.maxmsg cs least e) in
    rw (full, stays) (ap (λ l. record { maxmsg = y.maxmsg; msgsize = y.msgsize; tickets = map ticket_of cs; senders = l; receivers = []; registered = option_map (λ (x : Registration). x.desc) g }) (map_push sender_of ss m))
sent_at g y m cs ss [] false least e excl =
    let full : nat_le y.maxmsg (length (map ticket_of cs)) ≡ false = ap (nat_le y.maxmsg) (length-map cs ticket_of) ∙ e in
    rw (full, ← unfired_at g cs) (ap (λ l. record { maxmsg = y.maxmsg; msgsize = y.msgsize; tickets = l; senders = map sender_of ss; receivers = []; registered = option_map (λ (x : Registration). x.desc) (cond (has_none cs && true) None g) }) (map_push ticket_of cs m))
sent_at g y m cs ss (w ∷ ws) true least e excl = absurd (let no' = excl refl in cc)
sent_at g y m cs ss (w ∷ ws) false least e excl = rw (unfired_while g (has_none cs)) refl

-- where a receive is parked, the queue is not full
not_full : (n : ℕ) (q : Queue) → 1 ≤ n → IsBounded n q → has_none q.receivers ≡ false → is_filled n q.contents ≡ false
not_full n q some known e = at (is_filled n q.contents) refl where
  at : (b : Bool) → is_filled n q.contents ≡ b → b ≡ false
  at true k = absurd (let least = leb-true _ _ k in let none : length q.contents ≡ 0 = ap length (known.receivers_wait e) in omega arith)
  at false k = refl

pub sent_is : (g : Option Registration) (y : Attributes) (m : Send) (q : Queue) → 1 ≤ y.maxmsg → IsBounded y.maxmsg q → tickets_of (left_registered g q) (queue_after y.maxmsg (Sends m) q) y ≡ sent (ticket_of m) (record { 0 = m.session }) (tickets_of g q y)
unfolding sent
sent_is g y m q some known = sent_at g y m q.contents q.senders q.receivers (is_filled y.maxmsg q.contents) some refl (not_full y.maxmsg q some known)

-- the next message is no more: by its place, and by its ticket where it stands first
none_of : (n : ℕ) (xs : List Send) → count_at n xs ≡ 0 → filter (λ m. not (eqb m.place n)) xs ≡ xs
none_of n [] e = refl
none_of n (x ∷ xs) e = at (eqb x.place n) e (λ k. none_of n xs k) where
  at : (b : Bool) → cond b (count_at n xs + 1) (count_at n xs) ≡ 0 → (count_at n xs ≡ 0 → filter (λ m. not (eqb m.place n)) xs ≡ xs) → cond (not b) (x ∷ filter (λ m. not (eqb m.place n)) xs) (filter (λ m. not (eqb m.place n)) xs) ≡ x ∷ xs
  at true k rest = absurd (omega arith)
  at false k rest = ap (λ l. x ∷ l) (rest k)

taken_at : (t : Send) (xs : List Send) → count_at t.place xs ≤ 1 → Each (λ x. x.place ≡ t.place → x.priority ≡ t.priority) xs → map ticket_of (filter (λ m. not (eqb m.place t.place)) xs) ≡ without_first (is_ticket (ticket_of t)) (map ticket_of xs)
taken_at t [] one all = refl
taken_at t (x ∷ xs) one all = at (eqb x.place t.place) refl one (λ k. taken_at t xs k all.1) where
  at : (b : Bool) → eqb x.place t.place ≡ b → cond b (count_at t.place xs + 1) (count_at t.place xs) ≤ 1 → (count_at t.place xs ≤ 1 → map ticket_of (filter (λ m. not (eqb m.place t.place)) xs) ≡ without_first (is_ticket (ticket_of t)) (map ticket_of xs)) → map ticket_of (cond (not b) (x ∷ filter (λ m. not (eqb m.place t.place)) xs) (filter (λ m. not (eqb m.place t.place)) xs)) ≡ cond (b && eqb x.priority t.priority) (map ticket_of xs) (ticket_of x ∷ without_first (is_ticket (ticket_of t)) (map ticket_of xs))
  at true e k rest = rw (eq-eqb _ _ (all.0 (eqb-true _ _ e))) (ap (map ticket_of) (none_of t.place xs (omega arith)))
  at false e k rest = ap (λ l. ticket_of x ∷ l) (rest k)

-- what is known of a queue whose messages were sent
pub record IsOnce (cs : List Send) : Type 0 where
  pub one : (i : ℕ) → count_at i cs ≤ 1
  pub same : (t : Send) → next cs ≡ Some t → Each (λ x. x.place ≡ t.place → x.priority ≡ t.priority) cs

pub next_same : (cs : List Send) → next_ticket (map ticket_of cs) ≡ option_map ticket_of (next cs)
next_same cs = first_of_mapped ticket_of (λ (t : Ticket). t.priority) cs

without_at : (cs : List Send) (t : Send) → IsOnce cs → next cs ≡ Some t → map ticket_of (others (Some t) cs) ≡ without_next (map ticket_of cs)
without_at cs t once e = rw (next_same cs, e) (taken_at t cs (once.one t.place) (once.same t e))

-- a receive
took_at : (g : Option Registration) (y : Attributes) (w : Waiter) (cs ss : List Send) (rs : List Waiter) (t : Send) → IsOnce cs → next cs ≡ Some t → has_none cs ≡ false → tickets_of g (record { contents = others (next cs) cs ++ option_to_list (first ss); senders = tail ss; receivers = cond (has_none cs) (rs ++ w ∷ []) rs }) y ≡ received_by (record { 0 = w.session }) (tickets_of g (record { contents = cs; senders = ss; receivers = rs }) y) (Some (ticket_of t))
took_at g y w cs [] rs t once e some =
    rw (some, e) (ap (λ l. record { maxmsg = y.maxmsg; msgsize = y.msgsize; tickets = l; senders = []; receivers = map receiver_of rs; registered = option_map (λ (x : Registration). x.desc) g }) (ap (map ticket_of) (append_none (others (Some t) cs)) ∙ without_at cs t once e))
took_at g y w cs (s ∷ ss) rs t once e some =
    rw (some, e) (ap (λ l. record { maxmsg = y.maxmsg; msgsize = y.msgsize; tickets = l; senders = map sender_of ss; receivers = map receiver_of rs; registered = option_map (λ (x : Registration). x.desc) g }) (map_push ticket_of (others (Some t) cs) s ∙ ap (λ l. l ++ ticket_of s ∷ []) (without_at cs t once e)))

waits_at : (g : Option Registration) (y : Attributes) (w : Waiter) (ss : List Send) (rs : List Waiter) → ss ≡ [] → tickets_of g (record { contents = option_to_list (first ss); senders = tail ss; receivers = rs ++ w ∷ [] }) y ≡ received_by (record { 0 = w.session }) (tickets_of g (record { contents = []; senders = ss; receivers = rs }) y) None
waits_at g y w ss rs none = rw none (ap (λ l. record { maxmsg = y.maxmsg; msgsize = y.msgsize; tickets = []; senders = []; receivers = l; registered = option_map (λ (x : Registration). x.desc) g }) (map_push receiver_of rs w))

-- where the queue is empty, no send is parked
no_senders : (n : ℕ) (q : Queue) → 1 ≤ n → IsBounded n q → q.contents ≡ [] → q.senders ≡ []
no_senders n q some known e = at q.senders refl where
  at : (ss : List Send) → q.senders ≡ ss → ss ≡ []
  at [] k = refl
  at (x ∷ xs) k = absurd (let full : length q.contents ≡ n = known.senders_wait (ap has_none k) in let none : length q.contents ≡ 0 = ap length e in omega arith)

next_there : (x : Send) (xs : List Send) → next (x ∷ xs) ≡ None → ⊥
next_there x xs e = let none = next_some (x ∷ xs) e in cc

received_at : (g : Option Registration) (y : Attributes) (w : Waiter) (cs ss : List Send) (rs : List Waiter) → IsOnce cs → (cs ≡ [] → ss ≡ []) → (v : Option Send) → next cs ≡ v → tickets_of g (record { contents = others (next cs) cs ++ option_to_list (first ss); senders = tail ss; receivers = cond (has_none cs) (rs ++ w ∷ []) rs }) y ≡ received_by (record { 0 = w.session }) (tickets_of g (record { contents = cs; senders = ss; receivers = rs }) y) (option_map ticket_of v)
received_at g y w [] ss rs once none None e = waits_at g y w ss rs (none refl)
received_at g y w [] ss rs once none (Some t) e = absurd cc
received_at g y w (x ∷ xs) ss rs once none None e = absurd (next_there x xs e)
received_at g y w (x ∷ xs) ss rs once none (Some t) e = took_at g y w (x ∷ xs) ss rs t once e refl

pub received_is : (g : Option Registration) (y : Attributes) (w : Waiter) (q : Queue) → 1 ≤ y.maxmsg → IsBounded y.maxmsg q → IsOnce q.contents → tickets_of g (queue_after y.maxmsg (Receives w) q) y ≡ received (record { 0 = w.session }) (tickets_of g q y)
unfolding received
received_is g y w q some known once =
    received_at g y w q.contents q.senders q.receivers once (no_senders y.maxmsg q some known) (next q.contents) refl
    ∙ ap (received_by (record { 0 = w.session }) (tickets_of g q y)) (sym (next_same q.contents))

-- a withdrawal
keeps_others : {A : Type 0} (number : A → ℕ) (s : ℕ) (xs : List A) → Each (λ y. eqb (number y) s ≡ false) xs → filter (λ y. not (eqb (number y) s)) xs ≡ xs
keeps_others number s [] all = refl
keeps_others number s (x ∷ xs) all = rw all.0 (ap (λ l. x ∷ l) (keeps_others number s xs all.1))

each_of : {A : Type 0} (number : A → ℕ) (a s : ℕ) (xs : List A) → a ≡ s → Each (λ y. eqb (number y) a ≡ false) xs → Each (λ y. eqb (number y) s ≡ false) xs
each_of number a s [] e all = tt
each_of number a s (x ∷ xs) e all = (ap (eqb (number x)) (sym e) ∙ all.0, each_of number a s xs e all.1)

pub left_is : {A B : Type 0} (f : A → B) (number : A → ℕ) (s : ℕ) (test : B → Bool) → ((x : A) → test (f x) ≡ eqb (number x) s) → (xs : List A) → Different number xs → map f (filter (λ x. not (eqb (number x) s)) xs) ≡ without_first test (map f xs)
left_is f number s test same [] d = refl
left_is {A = A} {B = B} f number s test same (x ∷ xs) d = at (eqb (number x) s) refl (left_is f number s test same xs d.1) where
  at : (b : Bool) → eqb (number x) s ≡ b → map f (filter (λ y. not (eqb (number y) s)) xs) ≡ without_first test (map f xs) → map f (cond (not b) (x ∷ filter (λ y. not (eqb (number y) s)) xs) (filter (λ y. not (eqb (number y) s)) xs)) ≡ cond (test (f x)) (map f xs) (f x ∷ without_first test (map f xs))
  at true e rest = rw (same x ∙ e) (ap (map f) (keeps_others number s xs (each_of number (number x) s xs (eqb-true _ _ e) d.0)))
  at false e rest = rw (same x ∙ e) (ap (λ l. f x ∷ l) rest)

pub withdrawn_is : (g : Option Registration) (y : Attributes) (sid : Sid) (q : Queue) → Different (λ m. m.session) q.senders → Different (λ w. w.session) q.receivers → tickets_of g (queue_after y.maxmsg (Withdraws sid.0) q) y ≡ withdrawn sid (tickets_of g q y)
unfolding withdrawn
withdrawn_is g y sid q one two =
    ap (λ l. record { maxmsg = y.maxmsg; msgsize = y.msgsize; tickets = map ticket_of q.contents; senders = l; receivers = map receiver_of (filter (λ (w : Waiter). not (eqb w.session sid.0)) q.receivers); registered = option_map (λ (x : Registration). x.desc) g }) (left_is sender_of (λ (m : Send). m.session) sid.0 (is_sender sid) (λ m. refl) q.senders one)
    ∙ ap (λ l. record { maxmsg = y.maxmsg; msgsize = y.msgsize; tickets = map ticket_of q.contents; senders = without_first (is_sender sid) (map sender_of q.senders); receivers = l; registered = option_map (λ (x : Registration). x.desc) g }) (left_is receiver_of (λ (w : Waiter). w.session) sid.0 (is_session sid) (λ w. refl) q.receivers two)
