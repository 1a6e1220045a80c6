-- Each message that stands in a queue or is parked on it was sent: its send stands at its place.
use Rattle.std.proofs.Common.{◌≡◌, ℕ, ◌<◌, Bool, true, false, cond, [], ◌∷◌, length, Option, Some, None, sym, ap, ◌∙◌, arith}
use Rattle.std.specs.Prelude.{option_and_then}
use Rattle.std.proofs.lemmas.Bool.{eq-eqb, ne_eqb}
use Rattle.ipc_terms.specs.Lists.{first, Each}
use Rattle.ipc_terms.specs.History.{Message, record_at, message_of, message_at}
use Rattle.ipc_terms.specs.Timed.{plain}
use Rattle.ipc_terms.specs.declared.rule.Rule.{Rule}
use Rattle.ipc_terms.specs.declared.call.Call.TheVariants.{MqSend, MqReceive}
use Rattle.ipc_terms.specs.declared.record.Event.{Event}
use Rattle.ipc_terms.specs.declared.record.Event.TheVariants.{Hello, Do, Hangup, Tick}
use Rattle.ipc_terms.specs.declared.record.Record.{Record}
use Rattle.ipc_policy.specs.declared.config.Config.{Config}
use Rattle.ipc_policy.specs.Decides.History.{History}
use Rattle.ipc_policy.specs.Decides.Descriptions.{holds}
use Rattle.ipc_policy.specs.Decides.Life.{gives_object}
use Rattle.ipc_policy.specs.Decides.Queues.{Send, Act, Sends, NoAct, withdrawal, plain_act, next, maxmsg}
use Rattle.ipc_policy.specs.Decides.Bodies.{due, act, queue, contents, senders}
use Rattle.ipc_policy.proofs.Histories.PlainForms.{message_plain}
use Rattle.ipc_policy.proofs.Lists.EachItem.{each_map, each_first, each_greatest, each_inside, each_sender}

-- its send stands at its place, with its priority and its bytes
pub record IsSent (h : History) (m : Send) : Type 0 where
  pub within : m.place < length h
  pub there : message_at m.place h ≡ Some (record { priority = m.priority; bytes = m.bytes })

-- it still stands there after one more record
later : (r : Record) (before : History) (m : Send) → IsSent before m → IsSent (r ∷ before) m
later r before m sent = record {
  within = let k = sent.within in omega arith;
  there = ap (λ b. option_and_then (λ (s : Record). message_of s.event) (cond b (Some r) (record_at m.place before))) (ne_eqb (length before) m.place (λ (q : length before ≡ m.place). let k = sent.within in omega arith)) ∙ sent.there;
}

-- the send that has just come
sent_now : (before : History) (r : Record) (m : Send) → m.place ≡ length before → message_of r.event ≡ Some (record { priority = m.priority; bytes = m.bytes }) → IsSent (r ∷ before) m
sent_now before r m at is = record {
  within = omega arith;
  there = ap (λ b. option_and_then (λ (s : Record). message_of s.event) (cond b (Some r) (record_at m.place before))) (eq-eqb (length before) m.place (sym at)) ∙ is;
}

pub not_sends : (b : Bool) (a : Act) (m : Send) → (a ≡ Sends m → ⊥) → cond b a NoAct ≡ Sends m → ⊥
not_sends true a m h e = h e
not_sends false a m h e = cc

-- a tick sends nothing
pub withdrawal_not_sends : (s : Option ℕ) (m : Send) → withdrawal s ≡ Sends m → ⊥
withdrawal_not_sends None m e = cc
withdrawal_not_sends (Some s) m e = cc

-- what an act sends was sent by its record
plain_sent : (due : ℕ → Option ℕ) (h : History) (o : ℕ) (e : Event) (m : Send) → plain_act (length h) (holds h) due o e ≡ Sends m → (m.place ≡ length h) × (message_of e ≡ Some (record { priority = m.priority; bytes = m.bytes }))
plain_sent due h o (Do sid (MqSend desc priority bytes)) m k = at (gives_object o (holds h sid.0 desc.0)) k where
  at : (b : Bool) → cond b (Sends (record { place = length h; session = sid.0; desc = desc.0; priority = priority; bytes = bytes })) NoAct ≡ Sends m → (m.place ≡ length h) × (◌≡◌ {A = Option Message} (Some (record { priority = priority; bytes = bytes })) (Some (record { priority = m.priority; bytes = m.bytes })))
  at true j =
      let is : record { place = length h; session = sid.0; desc = desc.0; priority = priority; bytes = bytes } ≡ m = cc in
      (ap (λ (n : Send). n.place) (sym is), ap (λ (n : Send). Some (record { priority = n.priority; bytes = n.bytes })) is)
  at false j = absurd cc
plain_sent due h o (Do sid (MqReceive desc length')) m k = absurd (not_sends (gives_object o (holds h sid.0 desc.0)) _ m (λ j. cc) k)
plain_sent due h o (Do sid call) m k = absurd cc
plain_sent due h o (Hello found) m k = absurd cc
plain_sent due h o (Hangup sid) m k = absurd cc
plain_sent due h o (Tick moment) m k = absurd (withdrawal_not_sends (due moment) m k)

pub act_sent : (c : Config) (h : History) (o : ℕ) (e : Event) (m : Send) → act c o e h ≡ Sends m → IsSent (record { event = e; rule = None } ∷ h) m
act_sent c h o e m k = let sent = plain_sent (due c h) h o (plain e) m k in sent_now h (record { event = e; rule = None }) m sent.0 (sym (message_plain e) ∙ sent.1)

-- what stands in a queue and what is parked on it
pub record EachIsSent (c : Config) (h : History) (o : ℕ) : Type 0 where
  pub inside : Each (IsSent h) (contents c h o)
  pub parked : Each (IsSent h) (senders c h o)

sent_more : (c : Config) (h : History) (o : ℕ) → EachIsSent c h o → (e : Event) (r : Option Rule) → EachIsSent c (record { event = e; rule = r } ∷ h) o
unfolding queue
sent_more c h o known e (Some rule) = record {
  inside = each_map (IsSent h) (IsSent (record { event = e; rule = Some rule } ∷ h)) (contents c h o) (later (record { event = e; rule = Some rule }) h) known.inside;
  parked = each_map (IsSent h) (IsSent (record { event = e; rule = Some rule } ∷ h)) (senders c h o) (later (record { event = e; rule = Some rule }) h) known.parked;
}
sent_more c h o known e None = record {
  inside = each_inside (IsSent (record { event = e; rule = None } ∷ h)) (maxmsg c h o) (act c o e h) (queue c h o) (act_sent c h o e) parked' inside';
  parked = each_sender (IsSent (record { event = e; rule = None } ∷ h)) (maxmsg c h o) (act c o e h) (queue c h o) (act_sent c h o e) parked';
} where
  inside' : Each (IsSent (record { event = e; rule = None } ∷ h)) (contents c h o)
  inside' = each_map (IsSent h) (IsSent (record { event = e; rule = None } ∷ h)) (contents c h o) (later (record { event = e; rule = None }) h) known.inside

  parked' : Each (IsSent (record { event = e; rule = None } ∷ h)) (senders c h o)
  parked' = each_map (IsSent h) (IsSent (record { event = e; rule = None } ∷ h)) (senders c h o) (later (record { event = e; rule = None }) h) known.parked

-- each message that stands in a queue, and each that is parked on it, was sent
pub all_sent : (c : Config) (h : History) (o : ℕ) → EachIsSent c h o
unfolding queue
all_sent c [] o = record { inside = tt; parked = tt }
all_sent c (r ∷ before) o = sent_more c before o (all_sent c before o) r.event r.rule

-- and so the one that is taken next
pub next_sent : (c : Config) (h : History) (o : ℕ) (m : Send) → next (contents c h o) ≡ Some m → IsSent h m
next_sent c h o m e = each_greatest (IsSent h) (λ n. n.priority) (contents c h o) m (all_sent c h o).inside e

-- and the one that is let in next
pub first_sent : (c : Config) (h : History) (o : ℕ) (m : Send) → first (senders c h o) ≡ Some m → IsSent h m
first_sent c h o m e = each_first (IsSent h) (senders c h o) (all_sent c h o).parked m e
