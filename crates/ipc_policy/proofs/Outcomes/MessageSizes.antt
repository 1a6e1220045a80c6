-- In a legal history a message has at most its queue's message size, and that is in range.
use Rattle.std.proofs.Common.{◌≡◌, ℕ, ◌≤◌, Bool, true, false, eqb, nat_lt, [], ◌∷◌, List, length, cond, Option, Some, None, is_some, refl, sym, ap, subst, ◌∙◌, arith}
use Rattle.std.proofs.lemmas.Bool.{ltb-false}
use Rattle.std.specs.Prelude.{option_and_then}
use Rattle.std.specs.Option.{option_map}
use Rattle.ipc_terms.specs.Timed.{plain}
use Rattle.ipc_terms.specs.Lists.{first, Each}
use Rattle.ipc_terms.specs.Objects.{as_queue}
use Rattle.ipc_terms.specs.declared.rule.Rule.{Rule}
use Rattle.ipc_terms.specs.declared.rule.Rule.TheVariants.{MessageLong}
use Rattle.ipc_terms.specs.declared.ids.Sid.{Sid}
use Rattle.ipc_terms.specs.declared.ids.Desc.{Desc}
use Rattle.ipc_terms.specs.declared.call.Attributes.{Attributes}
use Rattle.ipc_terms.specs.declared.call.Call.TheVariants.{MqSend}
use Rattle.ipc_terms.specs.declared.object.Object.{Object}
use Rattle.ipc_terms.specs.declared.record.Event.{Event}
use Rattle.ipc_terms.specs.declared.record.Event.TheVariants.{Do}
use Rattle.ipc_policy.specs.declared.config.Config.{Config}
use Rattle.ipc_policy.specs.declared.config.Held.{Held}
use Rattle.ipc_policy.specs.declared.config.TheConstants.{HARD_MSGSIZE_MAX}
use Rattle.ipc_policy.specs.Decides.History.{History, is_some_and}
use Rattle.ipc_policy.specs.Decides.Objects.{object}
use Rattle.ipc_policy.specs.Decides.Descriptions.{holds}
use Rattle.ipc_policy.specs.Decides.Queues.{Send, Waiter, Act, Sends, Receives, Withdraws, NoAct, Queue, is_filled, next, contents_after, senders_after, attributes, maxmsg}
use Rattle.ipc_policy.specs.Decides.Bodies.{act, queue}
use Rattle.ipc_policy.specs.Decides.Rules.{forbids, message_long, attributes_held}
use Rattle.ipc_policy.specs.Decides.Verdict.{verdict, Legal}
use Rattle.ipc_policy.specs.Follows.Deliveries.{Delivery, delivers, object_asked, delivery}
use Rattle.ipc_policy.specs.Follows.Sizes.{LimitsMessages, EachMessageFits, EachDeliveryFits, EachSizeIsInRange}
use Rattle.ipc_policy.proofs.Lists.EachItem.{each_map, each_inside, each_sender, each_greatest}
use Rattle.ipc_policy.proofs.Histories.Unforbidden.{unforbidden}
use Rattle.ipc_policy.proofs.Histories.PlainForms.{plain_accepted}
use Rattle.ipc_policy.proofs.Queues.ActsOf.{act_sends, held_queue, queue_is_object}
use Rattle.ipc_policy.proofs.Histories.Known.{object_below}
use Rattle.ipc_policy.proofs.Queues.Limiting.{object_before}
use Rattle.ipc_policy.proofs.Blocked.Waits.{or_right}
use Rattle.ipc_policy.proofs.Queues.QueueAttributes.{OfAttributes, OfMade, attributes_hold}
use Rattle.ipc_policy.proofs.Histories.Grown.{grows}

-- the message size that an open asks for is in range
under : (b : Bool) (hard soft n : ℕ) → soft ≤ hard → nat_lt (cond b hard soft) n ≡ false → n ≤ hard
under true hard soft n le e = let k = ltb-false _ _ e in omega arith
under false hard soft n le e = let k = ltb-false _ _ e in omega arith

made_size : (c : Config) → LimitsMessages c → OfMade c (λ x. x.msgsize ≤ HARD_MSGSIZE_MAX)
made_size c soft who None fits = omega arith
made_size c soft who (Some x) fits = under (eqb who.uid.0 0) HARD_MSGSIZE_MAX c.limits.msgsize_max x.msgsize soft (or_right _ _ fits)

pub size_in_range : EachSizeIsInRange
size_in_range c h o x soft legal e = subst (OfAttributes (λ (y : Attributes). y.msgsize ≤ HARD_MSGSIZE_MAX)) e (attributes_hold c (λ y. y.msgsize ≤ HARD_MSGSIZE_MAX) (made_size c soft) h legal o)

-- so many bytes are at most the message size of the queue, where it is one
abbrev pub Fits : Option Attributes → ℕ → Type 0
Fits None n = ⊥
Fits (Some x) n = n ≤ x.msgsize

fits_at : (n : ℕ) (w : Option Attributes) → is_some w ≡ true → is_some_and (λ x. nat_lt x.msgsize n) w ≡ false → Fits w n
fits_at n None some e = absurd cc
fits_at n (Some x) some e = let k = ltb-false _ _ e in omega arith

-- a longer message is refused
pub send_fits : (c : Config) (h : History) (sid : Sid) (desc : Desc) (priority : ℕ) (bytes : List ℕ) (x : Held) → verdict c h (Do sid (MqSend desc priority bytes)) ≡ None → holds h sid.0 desc.0 ≡ Some x → Fits (attributes c h x.object) (length bytes)
unfolding forbids message_long
send_fits c h sid desc priority bytes x accepted held =
    let passes : is_some_and (λ (y : Attributes). nat_lt y.msgsize (length bytes)) (attributes_held c h sid.0 desc.0) ≡ false = unforbidden c h (Do sid (MqSend desc priority bytes)) accepted MessageLong in
    let passes' : is_some_and (λ (y : Attributes). nat_lt y.msgsize (length bytes)) (attributes c h x.object) ≡ false = rw held at passes in
    fits_at (length bytes) (attributes c h x.object) (held_queue c h sid (MqSend desc priority bytes) desc x (sym accepted) refl held) passes'

act_fits : (c : Config) (h : History) (o : ℕ) (e : Event) → None ≡ verdict c h e → (m : Send) → act c o e h ≡ Sends m → Fits (attributes c h o) (length m.bytes)
act_fits c h o e legal m k =
    let a = act_sends c o e h m k in
    subst (λ (n : ℕ). Fits (attributes c h n) (length m.bytes)) a.object (send_fits c h a.sid a.desc m.priority m.bytes a.x (sym (plain_accepted c h e legal ∙ ap (verdict c h) a.event)) a.held)

-- what is a queue keeps its message size
fits_some : (w : Option Attributes) (n : ℕ) → Fits w n → is_some w ≡ true
fits_some None n fits = absurd fits
fits_some (Some x) n fits = refl

still_fits : (c : Config) (h : History) (o n : ℕ) (e : Event) → Fits (attributes c h o) n → Fits (attributes c (record { event = e; rule = None } ∷ h) o) n
still_fits c h o n e fits = subst (λ (x : Option Object). Fits (as_queue x) n) (sym same) fits where
  same : object c (record { event = e; rule = None } ∷ h) o ≡ object c h o
  same = (grows c h e).object_of o ∙ object_before c h e o (object_below c h o (queue_is_object c h o (fits_some (attributes c h o) n fits)))

-- the messages of a queue fit
record AllFit (w : Option Attributes) (q : Queue) : Type 0 where
  inside : Each (λ m. Fits w (length m.bytes)) q.contents
  parked : Each (λ m. Fits w (length m.bytes)) q.senders

fits_more : (c : Config) (h : History) (o : ℕ) → AllFit (attributes c h o) (queue c h o) → (e : Event) (r : Option Rule) → r ≡ verdict c h e → AllFit (attributes c (record { event = e; rule = r } ∷ h) o) (queue c (record { event = e; rule = r } ∷ h) o)
unfolding queue object
fits_more c h o known e (Some rule) legal = record { inside = known.inside; parked = known.parked }
fits_more c h o known e None legal = record {
  inside = each_map Before After (contents_after (maxmsg c h o) (act c o e h) (queue c h o)) (λ m fits. still_fits c h o (length m.bytes) e fits) (each_inside Before (maxmsg c h o) (act c o e h) (queue c h o) (act_fits c h o e legal) known.parked known.inside);
  parked = each_map Before After (senders_after (maxmsg c h o) (act c o e h) (queue c h o)) (λ m fits. still_fits c h o (length m.bytes) e fits) (each_sender Before (maxmsg c h o) (act c o e h) (queue c h o) (act_fits c h o e legal) known.parked);
} where
  Before : Send → Type 0
  Before m = Fits (attributes c h o) (length m.bytes)

  After : Send → Type 0
  After m = Fits (attributes c (record { event = e; rule = None } ∷ h) o) (length m.bytes)

all_fit : (c : Config) (h : History) (o : ℕ) → Legal c h → AllFit (attributes c h o) (queue c h o)
unfolding queue
all_fit c [] o legal = record { inside = tt; parked = tt }
all_fit c (r ∷ h) o legal = fits_more c h o (all_fit c h o legal.1) r.event r.rule legal.0

pub messages_fit : EachMessageFits
messages_fit c h o x legal e =
    let all : AllFit (Some x) (queue c h o) = subst (λ (w : Option Attributes). AllFit w (queue c h o)) e (all_fit c h o legal) in
    record { inside = all.inside; parked = all.parked }

pub inside_fits : (c : Config) (h : History) (o : ℕ) → Legal c h → Each (λ m. Fits (attributes c h o) (length m.bytes)) (queue c h o).contents
inside_fits c h o legal = (all_fit c h o legal).inside

-- and so does each that is handed to a receive
handed_on : (c : Config) (h : History) (o : ℕ) (e : Event) → Legal c h → None ≡ verdict c h e → (d : Delivery) (a : Act) → act c o e h ≡ a → delivers (maxmsg c h o) o a (queue c h o) ≡ Some d → Fits (attributes c h d.object) (length d.message.bytes)
handed_on c h o e legal accepted d (Sends m) k j = sent (is_filled (maxmsg c h o) (queue c h o).contents) (first (queue c h o).receivers) j where
  sent : (b : Bool) (w : Option Waiter) → cond b None (option_map (λ v. record { object = o; message = m; receive = v }) w) ≡ Some d → Fits (attributes c h d.object) (length d.message.bytes)
  sent true w i = absurd cc
  sent false None i = absurd cc
  sent false (Some v) i = let same : record { object = o; message = m; receive = v } ≡ d = cc in subst (λ (x : Delivery). Fits (attributes c h x.object) (length x.message.bytes)) same (act_fits c h o e accepted m k)
handed_on c h o e legal accepted d (Receives w) k j = taken (next (queue c h o).contents) refl j where
  taken : (n : Option Send) → next (queue c h o).contents ≡ n → option_map (λ m. record { object = o; message = m; receive = w }) n ≡ Some d → Fits (attributes c h d.object) (length d.message.bytes)
  taken None q i = absurd cc
  taken (Some m) q i = let same : record { object = o; message = m; receive = w } ≡ d = cc in subst (λ (x : Delivery). Fits (attributes c h x.object) (length x.message.bytes)) same (each_greatest (λ (n : Send). Fits (attributes c h o) (length n.bytes)) (λ n. n.priority) (queue c h o).contents m (inside_fits c h o legal) q)
handed_on c h o e legal accepted d (Withdraws s) k j = absurd cc
handed_on c h o e legal accepted d NoAct k j = absurd cc

delivered_by : (c : Config) (h : History) (e : Event) → Legal c h → None ≡ verdict c h e → (d : Delivery) (w : Option ℕ) → option_and_then (λ o. delivers (maxmsg c h o) o (act c o e h) (queue c h o)) w ≡ Some d → Fits (attributes c h d.object) (length d.message.bytes)
delivered_by c h e legal accepted d None k = absurd cc
delivered_by c h e legal accepted d (Some o) k = handed_on c h o e legal accepted d (act c o e h) refl k

pub deliveries_fit : EachDeliveryFits
unfolding delivery
deliveries_fit c h e d x legal accepted k j = subst (λ (w : Option Attributes). Fits w (length d.message.bytes)) j (delivered_by c h e legal (sym accepted) d (object_asked h (plain e)) k)

-- what fits has at most 16,777,216 bytes
fits_most : (n : ℕ) (w : Option Attributes) → OfAttributes (λ x. x.msgsize ≤ HARD_MSGSIZE_MAX) w → Fits w n → n ≤ HARD_MSGSIZE_MAX
fits_most n None size fits = absurd fits
fits_most n (Some x) size fits = let le : x.msgsize ≤ HARD_MSGSIZE_MAX = size in let le' : n ≤ x.msgsize = fits in omega arith

pub fits_range : (c : Config) (h : History) (o n : ℕ) → LimitsMessages c → Legal c h → Fits (attributes c h o) n → n ≤ HARD_MSGSIZE_MAX
fits_range c h o n soft legal fits = fits_most n (attributes c h o) (attributes_hold c (λ y. y.msgsize ≤ HARD_MSGSIZE_MAX) (made_size c soft) h legal o) fits
