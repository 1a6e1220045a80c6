-- What a seat learns through the lock.
use Rattle.std.proofs.Common.{◌≡◌, ℕ, List, [], ◌++◌, Option, Some, None, refl, is_some, sym, ap, subst, ◌∙◌, inl, inr, append-nil}
use Rattle.std.specs.Prelude.{Result}
use Rattle.ipc_terms.specs.declared.ids.Sid.{Sid}
use Rattle.ipc_terms.specs.declared.call.Answer.{Answer}
use Rattle.ipc_terms.specs.declared.rule.Rule.{Rule}
use Rattle.ipc_terms.specs.declared.record.Event.TheVariants.{Tick}
use Rattle.ipc_trail.specs.declared.audit.Receipt.{Receipt}
use Rattle.ipc_policy.specs.Decides.Bodies.{due}
use Rattle.ipc_policy.specs.Decides.Sessions.{hellos}
use Rattle.ipc_policy.specs.Decides.Verdict.{Legal, verdict, outbox}
use Rattle.ipc_state.specs.Ranges.{first_bad}
use Rattle.ipc_core.specs.CoreView.{CoreView}
use Rattle.ipc_core.specs.Outboxes.{BoxesAgree}
use Rattle.ipc_book.specs.declared.entry.Entry.{Entry}
use Rattle.ipc_book.specs.declared.entry.StepFault.{StepFault}
use Rattle.ipc_book.specs.Seats.{SeatView, Stepped, StaleExactly, session_of, session_ruled}
use Rattle.ipc_book.specs.Locked.{Collects, AnswersSay, ReceiptSays, EndedCall, StaleSays}

-- nothing was collected
nothing : (a : CoreView) (sid : Option Sid) (list : List Entry) (out : List Answer) → Legal a.config a.history → first_bad a.config.limits ≡ None → out ≡ [] → AnswersSay a.config sid list out
nothing a sid list out legal in_range none =
    let box = outbox a.config a.history (session_of sid).0 in
    record {
      history = a.history;
      legal = legal;
      in_range = in_range;
      last = record { front = box; whole = sym (append-nil box) ∙ ap (λ v. box ++ v) (sym none) };
      current = inl none;
    }

pub collected : (a a' : CoreView) (sid : Option Sid) (list : List Entry) (out : List Answer) → Legal a.config a.history → first_bad a.config.limits ≡ None → BoxesAgree a.config a.history a.untaken → Collects sid a a' list out → AnswersSay a.config sid list out
collected a a' None list out legal in_range boxes h = nothing a None list out legal in_range h.0
collected a a' (Some s) list out legal in_range boxes h =
    elim h [
      | inl g ↦ (
          let old = boxes.suffix s.0 in
          record {
            history = a.history;
            legal = legal;
            in_range = in_range;
            last = record { front = old.front; whole = old.whole ∙ ap (λ v. old.front ++ v) (sym g.1) };
            current = inr g.0;
          }
          )
      | inr g ↦ nothing a (Some s) list out legal in_range g.1
    ]

-- a seat without a session collects nothing
pub collected_by_nobody : (a a' : CoreView) (sid : Option Sid) (list : List Entry) (out : List Answer) → Collects sid a a' list out → sid ≡ None → out ≡ []
collected_by_nobody a a' None list out h e = h.0
collected_by_nobody a a' (Some s) list out h e = absurd cc

-- what a stale seat is told, after room was made in it
pub stale_says : (a : CoreView) (list list' : List Entry) (r : Result Receipt StepFault) → list ≡ list' → StaleExactly a list r → StaleSays list' r
stale_says a list list' r same h = subst (λ l. StaleSays l r) same told where
  told : StaleSays list r
  told seen found is =
      let t = (h seen found).0 is in (t.0, t.2)

tick_leaves : (v : Option Rule) (next moment : ℕ) (sid : Option Sid) → session_ruled v next (Tick moment) sid ≡ sid
tick_leaves None next moment sid = refl
tick_leaves (Some rule) next moment sid = refl

-- the receipt of a tick that was made where a call was due, after room was made in the seat
pub ended_call : (a a' : CoreView) (seat ready seat' : SeatView) (moment session : ℕ) (r : Receipt) → ready ≡ seat → ready.sid ≡ None → seat'.sid ≡ None → Stepped a a' ready.list seat'.list (Tick moment) r → due a.config a.history moment ≡ Some session → EndedCall a.config seat seat' moment r
ended_call a a' seat ready seat' moment session r same none none' st is =
    subst (λ (s : SeatView). EndedCall a.config s seat' moment r) same (made, ap is_some is)
  where
    made : ReceiptSays a.config ready seat' (Tick moment) r
    made =
        record {
          history = a.history;
          legal = st.legal;
          in_range = st.in_range;
          current = st.current;
          place = ap (λ (v : Receipt). v.place) (sym st.receipt);
          ruled = ap (λ (v : Receipt). v.rule) (sym st.receipt);
          op = ap (λ (v : Receipt). v.op) st.receipt;
          by = ap (λ (v : Receipt). v.sid) st.receipt;
          kept = st.kept;
          session = none' ∙ sym none ∙ sym (tick_leaves (verdict a.config a.history (Tick moment)) (hellos a.history) moment ready.sid);
        }
