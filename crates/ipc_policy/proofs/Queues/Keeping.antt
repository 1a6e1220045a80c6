-- Each accepted send is kept in one place.
use Rattle.std.proofs.Common.{◌≡◌, ℕ, ◌+◌, ◌≤◌, Bool, true, false, [], ◌∷◌, length, cond, Option, Some, None, refl, arith}
use Rattle.std.proofs.lemmas.Bool.{eqb-true}
use Rattle.ipc_terms.specs.Timed.{plain}
use Rattle.ipc_terms.specs.declared.rule.Rule.{Rule}
use Rattle.ipc_terms.specs.declared.record.Event.{Event}
use Rattle.ipc_terms.specs.declared.record.Event.TheVariants.{Hello, Do, Hangup, Tick}
use Rattle.ipc_terms.specs.declared.call.Call.TheVariants.{MqSend, MqReceive}
use Rattle.ipc_policy.specs.declared.config.Config.{Config}
use Rattle.ipc_policy.specs.Decides.History.{History, how_many}
use Rattle.ipc_policy.specs.Decides.Descriptions.{holds}
use Rattle.ipc_policy.specs.Decides.Life.{gives_object}
use Rattle.ipc_policy.specs.Decides.Queues.{Sends, Receives, NoAct, withdrawal, plain_act, maxmsg}
use Rattle.ipc_policy.specs.Decides.Bodies.{due, act, queue, contents, senders}
use Rattle.ipc_policy.proofs.Lists.Counting.{count_at, is_send_at, takes_at, withdraws_at, step_keeps}

-- how many accepted events send at place i, take what was sent there, withdraw it
unfoldable pub sent : Config → History → ℕ → ℕ → ℕ
sent c h o i = how_many (λ e before. is_send_at i (act c o e before)) h

unfoldable pub taken : Config → History → ℕ → ℕ → ℕ
taken c h o i = how_many (λ e before. takes_at (maxmsg c before o) i (act c o e before) (queue c before o)) h

unfoldable pub withdrawn : Config → History → ℕ → ℕ → ℕ
withdrawn c h o i = how_many (λ e before. withdraws_at i (act c o e before) (queue c before o)) h

-- a send is made at the place of its record
plain_send_place : (due : ℕ → Option ℕ) (o i : ℕ) (e : Event) (h : History) → is_send_at i (plain_act (length h) (holds h) due o e) ≡ true → length h ≡ i
plain_send_place due o i (Do sid (MqSend desc priority bytes)) h k = at (gives_object o (holds h sid.0 desc.0)) k where
  at : (b : Bool) → is_send_at i (cond b (Sends (record { place = length h; session = sid.0; desc = desc.0; priority = priority; bytes = bytes })) NoAct) ≡ true → length h ≡ i
  at true e = eqb-true _ _ e
  at false e = absurd cc
plain_send_place due o i (Do sid (MqReceive desc length')) h k = at (gives_object o (holds h sid.0 desc.0)) k where
  at : (b : Bool) → is_send_at i (cond b (Receives (record { place = length h; session = sid.0; desc = desc.0 })) NoAct) ≡ true → length h ≡ i
  at true e = absurd cc
  at false e = absurd cc
plain_send_place due o i (Do sid call) h k = absurd cc
plain_send_place due o i (Hello found) h k = absurd cc
plain_send_place due o i (Hangup sid) h k = absurd cc
plain_send_place due o i (Tick moment) h k = at (due moment) k where
  at : (s : Option ℕ) → is_send_at i (withdrawal s) ≡ true → length h ≡ i
  at None e = absurd cc
  at (Some s) e = absurd cc

pub send_place : (c : Config) (o i : ℕ) (e : Event) (h : History) → is_send_at i (act c o e h) ≡ true → length h ≡ i
send_place c o i e h k = plain_send_place (due c h) o i (plain e) h k

sent_more : (c : Config) (h : History) (o i : ℕ) → (length h ≤ i → sent c h o i ≡ 0) → (e : Event) (r : Option Rule) → length h + 1 ≤ i → sent c (record { event = e; rule = r } ∷ h) o i ≡ 0
unfolding sent
sent_more c h o i known e (Some rule) le = known (omega arith)
sent_more c h o i known e None le = at (is_send_at i (act c o e h)) refl where
  at : (b : Bool) → is_send_at i (act c o e h) ≡ b → cond b (how_many (λ e before. is_send_at i (act c o e before)) h + 1) (how_many (λ e before. is_send_at i (act c o e before)) h) ≡ 0
  at true k = let same : length h ≡ i = send_place c o i e h k in absurd (omega arith)
  at false k = known (omega arith)

pub sent_early : (c : Config) (h : History) (o i : ℕ) → length h ≤ i → sent c h o i ≡ 0
unfolding sent
sent_early c [] o i le = refl
sent_early c (r ∷ h) o i le = sent_more c h o i (sent_early c h o i) r.event r.rule (omega arith)

sent_le_more : (c : Config) (h : History) (o i : ℕ) → sent c h o i ≤ 1 → (e : Event) (r : Option Rule) → sent c (record { event = e; rule = r } ∷ h) o i ≤ 1
unfolding sent
sent_le_more c h o i known e (Some rule) = known
sent_le_more c h o i known e None = at (is_send_at i (act c o e h)) refl where
  at : (b : Bool) → is_send_at i (act c o e h) ≡ b → cond b (how_many (λ e before. is_send_at i (act c o e before)) h + 1) (how_many (λ e before. is_send_at i (act c o e before)) h) ≤ 1
  at true k = let same : length h ≡ i = send_place c o i e h k in let none : how_many (λ e before. is_send_at i (act c o e before)) h ≡ 0 = sent_early c h o i (omega arith) in omega arith
  at false k = known

pub sent_le : (c : Config) (h : History) (o i : ℕ) → sent c h o i ≤ 1
unfolding sent
sent_le c [] o i = omega arith
sent_le c (r ∷ h) o i = sent_le_more c h o i (sent_le c h o i) r.event r.rule

add_if : (b : Bool) (n : ℕ) → cond b (n + 1) n ≡ n + cond b 1 0
add_if true n = refl
add_if false n = omega arith

kept_more : (c : Config) (h : History) (o i : ℕ) → count_at i (senders c h o) + withdrawn c h o i + count_at i (contents c h o) + taken c h o i ≡ sent c h o i → (e : Event) (r : Option Rule) → count_at i (senders c (record { event = e; rule = r } ∷ h) o) + withdrawn c (record { event = e; rule = r } ∷ h) o i + count_at i (contents c (record { event = e; rule = r } ∷ h) o) + taken c (record { event = e; rule = r } ∷ h) o i ≡ sent c (record { event = e; rule = r } ∷ h) o i
unfolding sent taken withdrawn queue
kept_more c h o i known e (Some rule) = known
kept_more c h o i known e None =
    let small : sent c h o i ≤ 1 = sent_le c h o i in
    let one : count_at i (senders c h o) ≤ 1 = omega arith in
    let one' : count_at i (contents c h o) ≤ 1 = omega arith in
    let k = step_keeps (maxmsg c h o) i (act c o e h) (queue c h o) one one' in
    let w = add_if (withdraws_at i (act c o e h) (queue c h o)) (withdrawn c h o i) in
    let t = add_if (takes_at (maxmsg c h o) i (act c o e h) (queue c h o)) (taken c h o i) in
    let s = add_if (is_send_at i (act c o e h)) (sent c h o i) in
    omega (arith, known, k, w, t, s)

-- how often a send was made at place i, and how often it is found parked, was withdrawn, is found in the queue and was taken
pub kept : (c : Config) (h : History) (o i : ℕ) → count_at i (senders c h o) + withdrawn c h o i + count_at i (contents c h o) + taken c h o i ≡ sent c h o i
unfolding sent taken withdrawn queue
kept c [] o i = refl
kept c (r ∷ h) o i = kept_more c h o i (kept c h o i) r.event r.rule

-- so a send stands at most once in both lists together
pub sent_once : (c : Config) (h : History) (o i : ℕ) → count_at i (senders c h o) + count_at i (contents c h o) ≤ 1
sent_once c h o i = let sum = kept c h o i in let most = sent_le c h o i in omega arith

-- and none of a place that is still to come
pub sent_later : (c : Config) (h : History) (o i : ℕ) → length h ≤ i → count_at i (contents c h o) ≡ 0
sent_later c h o i le = let sum = kept c h o i in let early = sent_early c h o i le in omega arith
