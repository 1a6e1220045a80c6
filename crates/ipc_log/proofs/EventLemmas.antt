-- Calls and events are spelled and read alike, but for the flags that mean nothing.
use Rattle.std.proofs.Common.{◌≡◌, ℕ, Bool, true, false, cond, eqb, List, [], ◌∷◌, ◌++◌, length, drop, Option, Some, None, Result, Ok, Err, refl, sym, ap, subst, ◌∙◌, append_assoc}
use Rattle.std.proofs.lemmas.Bool.{eqb-true, and_parts}
use Rattle.std.proofs.lemmas.List.{drop_at}
use Rattle.ipc_terms.specs.declared.call.Call.{Call}
use Rattle.ipc_terms.specs.declared.record.Event.{Event}
use Rattle.ipc_terms.specs.declared.record.Event.TheVariants as event
use Rattle.ipc_fields.specs.declared.fault.WireFault.{WireFault}
use Rattle.ipc_fields.specs.declared.fault.WireFault.TheVariants.{BadField}
use Rattle.ipc_fields.specs.Field.{◌>>=◌, ◌⊕◌, Field, u64, optional, ◌⊗◌}
use Rattle.ipc_fields.specs.Terms.{sid_field, uid_field}
use Rattle.ipc_fields.proofs.FieldLemmas.{IsBytes, IsBytes-rest, IsBytes-drop, Takes, IsExact, bind_ok, ok_is, some_is, join_some, u64_exact, pair_exact, optional_exact}
use Rattle.ipc_fields.proofs.FormatLemmas.{front_again}
use Rattle.ipc_fields.proofs.TermLemmas.{sid_exact, uid_exact}
use Rattle.ipc_wire.specs.declared.request.Request.{Request}
use Rattle.ipc_wire.specs.declared.request.Request.TheVariants as request
use Rattle.ipc_wire.specs.Requests.{requests, request_body, is_plain, plain, fits, may_stand, request_at}
use Rattle.ipc_wire.specs.Streams.{spell, front}
use Rattle.ipc_wire.proofs.RequestLemmas.{requests_exact, was_spelled, is_read}
use Rattle.ipc_wire.proofs.OrderLemmas.{front_stands}
use Rattle.ipc_log.specs.Fields.{call_read, call_field, call_of, event_spelled, event_plain, event_of, event_field, plain_event, event_fits}

-- ---- what a value spells is read again as another, whatever follows

abbrev pub ReadsAs : {A : Type 0} → Field A → A → A → Type 0
ReadsAs f x y = (s r : List ℕ) → f.spell x ≡ Some s → f.read (s ++ r) ≡ Ok (y, r)

pub exact_reads : {A : Type 0} (f : Field A) → IsExact f → (x : A) → f.is_plain x ≡ true → ReadsAs f x x
exact_reads f exact x plain s r e = exact.again x s r plain e

pub pair_reads : {A B : Type 0} (f : Field A) (g : Field B) (x a : A) (y b : B) → ReadsAs f x a → ReadsAs g y b → ReadsAs (f ⊗ g) (x, y) (a, b)
pair_reads f g x a y b p q s r e =
    let j = join_some (f.spell x) (g.spell y) s e in
    let regrouped : s ++ r ≡ j.0 ++ (j.1 ++ r) = ap (λ (z : List ℕ). z ++ r) j.4 ∙ append_assoc j.0 j.1 r in
    ap (f ⊗ g).read regrouped ∙ rw (p j.0 (j.1 ++ r) j.2, q j.1 r j.3) refl

-- ---- a call

called : (asked : Call) (q : Request) (w r : List ℕ) → front false w ≡ Ok (Some (q, r)) → (front false w >>= call_read) ≡ Ok (call_of asked q, r)
called asked (request.Do other) w r e = rw e refl
called asked (request.Hello key) w r e =
    let first = front_stands false w (request.Hello key) r e in
    absurd cc

call_reads : (asked : Call) → fits (request.Do asked) ≡ true → ReadsAs call_field asked (call_of asked (plain (request.Do asked)))
unfolding call_field
call_reads asked fit s r e = called asked (plain (request.Do asked)) (s ++ r) r (is_read (request.Do asked) s r fit e)

call_again : (asked : Call) (s r : List ℕ) → call_field.is_plain asked ≡ true → call_field.spell asked ≡ Some s → call_field.read (s ++ r) ≡ Ok (asked, r)
unfolding call_field request_at request_body
call_again asked s r plain e = called asked (request.Do asked) (s ++ r) r (front_again requests requests_exact (may_stand false) (request.Do asked) s r plain refl e)

-- the request whose call was read
requested : (found : Option (Request × List ℕ)) (asked : Call) (r : List ℕ) → call_read found ≡ Ok (asked, r) → found ≡ Some (request.Do asked, r)
requested None asked r e = absurd cc
requested (Some (request.Hello key, w)) asked r e = absurd cc
requested (Some (request.Do other, w)) asked r e =
    let same : ◌≡◌ {A = Call × List ℕ} (other, w) (asked, r) = ok_is _ _ e in
    ap (λ (x : Call × List ℕ). Some (request.Do x.0, x.1)) same

call_takes : (w : List ℕ) (asked : Call) (r : List ℕ) → IsBytes w → call_field.read w ≡ Ok (asked, r) → Takes call_field w asked r
unfolding call_field
call_takes w asked r bytes e =
    let b = bind_ok (front false w) call_read (asked, r) e in
    let found : front false w ≡ Ok (Some (request.Do asked, r)) = b.1 ∙ ap (λ (x : Option (Request × List ℕ)). Ok x) (requested b.0 asked r b.2) in
    let i = was_spelled false w (request.Do asked) r bytes found in
    let left : drop (length i.text) w ≡ r = ap (drop (length i.text)) i.parts ∙ drop_at i.text r (length i.text) refl in
    record { text = i.text; spelled = i.spelled; parts = i.parts; plain = i.plain; rest_fits = subst IsBytes left (IsBytes-drop (length i.text) w bytes) }

call_exact : IsExact call_field
call_exact = record { takes = call_takes; again = call_again }

-- ---- an event, behind the byte that tells its kind

headed : (kind : ℕ) (fields : Option (List ℕ)) (s : List ℕ) → (Some (kind ∷ []) ⊕ fields) ≡ Some s → (t : List ℕ) × (fields ≡ Some t) × (s ≡ kind ∷ t)
headed kind None s e = absurd cc
headed kind (Some t) s e = (t, refl, sym (some_is (kind ∷ t) s e))

kind_reads : {A : Type 0} (kind : ℕ) (f : Field A) (make : A → Event) → ((w : List ℕ) → event_of kind w ≡ (f.read w >>= λ x. Ok (make x.0, x.1))) → (x y : A) → ReadsAs f x y
    → (s r : List ℕ) → (Some (kind ∷ []) ⊕ f.spell x) ≡ Some s → event_field.read (s ++ r) ≡ Ok (make y, r)
unfolding event_field
kind_reads kind f make is x y reads s r e =
    let h = headed kind (f.spell x) s e in
    ap (λ (z : List ℕ). event_field.read (z ++ r)) h.2 ∙ is (h.0 ++ r) ∙ rw (reads h.0 r h.1) refl

pub event_reads : (v : Event) → event_fits v ≡ true → ReadsAs event_field v (plain_event v)
unfolding event_field
event_reads (event.Hello found) fit = kind_reads 1 (optional uid_field) (λ x. event.Hello x) (λ w. refl) found found (exact_reads (optional uid_field) (optional_exact uid_field uid_exact) found fit)
event_reads (event.Do sid asked) fit =
    let p = and_parts (sid_field.is_plain sid) (fits (request.Do asked)) fit in
    let kept : Call = call_of asked (plain (request.Do asked)) in
    kind_reads 2 (sid_field ⊗ call_field) (λ x. event.Do x.0 x.1) (λ w. refl) (sid, asked) (sid, kept) (pair_reads sid_field call_field sid sid asked kept (exact_reads sid_field sid_exact sid p.0) (call_reads asked p.1))
event_reads (event.Hangup sid) fit = kind_reads 3 sid_field (λ x. event.Hangup x) (λ w. refl) sid sid (exact_reads sid_field sid_exact sid fit)
event_reads (event.Tick moment) fit = kind_reads 4 u64 (λ x. event.Tick x) (λ w. refl) moment moment (exact_reads u64 u64_exact moment fit)

called_exact : IsExact (sid_field ⊗ call_field)
called_exact = pair_exact sid_field call_field sid_exact call_exact

event_again : (v : Event) (s r : List ℕ) → event_field.is_plain v ≡ true → event_field.spell v ≡ Some s → event_field.read (s ++ r) ≡ Ok (v, r)
unfolding event_field
event_again (event.Hello found) s r fit = kind_reads 1 (optional uid_field) (λ x. event.Hello x) (λ w. refl) found found (exact_reads (optional uid_field) (optional_exact uid_field uid_exact) found fit) s r
event_again (event.Do sid asked) s r fit = kind_reads 2 (sid_field ⊗ call_field) (λ x. event.Do x.0 x.1) (λ w. refl) (sid, asked) (sid, asked) (exact_reads (sid_field ⊗ call_field) called_exact (sid, asked) fit) s r
event_again (event.Hangup sid) s r fit = kind_reads 3 sid_field (λ x. event.Hangup x) (λ w. refl) sid sid (exact_reads sid_field sid_exact sid fit) s r
event_again (event.Tick moment) s r fit = kind_reads 4 u64 (λ x. event.Tick x) (λ w. refl) moment moment (exact_reads u64 u64_exact moment fit) s r

abbrev made_of : {A : Type 0} → (A → Event) → A × List ℕ → Result (Event × List ℕ) WireFault
made_of make x = Ok (make x.0, x.1)

-- what was read of a kind was spelled so
kind_takes : {A : Type 0} (kind : ℕ) (f : Field A) → IsExact f → (make : A → Event) → ((x : A) → event_spelled (make x) ≡ (Some (kind ∷ []) ⊕ f.spell x)) → ((x : A) → event_plain (make x) ≡ f.is_plain x)
    → (b : ℕ) (w : List ℕ) (v : Event) (r : List ℕ) → IsBytes w → b ≡ kind → (f.read w >>= made_of make) ≡ Ok (v, r) → Takes event_field (b ∷ w) v r
unfolding event_field
kind_takes {A} kind f exact make spells plains b w v r bytes is e =
    let s = bind_ok (f.read w) (made_of make) (v, r) e in
    let t = exact.takes w s.0.0 s.0.1 bytes s.1 in
    let made : Event × List ℕ = (make s.0.0, s.0.1) in
    subst (λ (p : Event × List ℕ). Takes event_field (b ∷ w) p.0 p.1) (ok_is made (v, r) s.2) (record {
      text = kind ∷ t.text;
      spelled = spells s.0.0 ∙ ap (λ (o : Option (List ℕ)). Some (kind ∷ []) ⊕ o) t.spelled;
      parts = ap (λ (k : ℕ). k ∷ w) is ∙ ap (λ (z : List ℕ). kind ∷ z) t.parts;
      plain = plains s.0.0 ∙ t.plain;
      rest_fits = t.rest_fits;
    })

-- one test of the kind
kind_is : (kind b : ℕ) (here others : Result (Event × List ℕ) WireFault) (v : Event) (r : List ℕ) (P : Type 0) → cond (eqb b kind) here others ≡ Ok (v, r) → (b ≡ kind → here ≡ Ok (v, r) → P) → (others ≡ Ok (v, r) → P) → P
kind_is kind b here others v r P e hit miss = decided (eqb b kind) refl e
  where
    decided : (t : Bool) → eqb b kind ≡ t → cond t here others ≡ Ok (v, r) → P
    decided true is f = hit (eqb-true b kind is) f
    decided false is f = miss f

event_takes : (w : List ℕ) (v : Event) (r : List ℕ) → IsBytes w → event_field.read w ≡ Ok (v, r) → Takes event_field w v r
unfolding event_field
event_takes [] v r bytes e = absurd cc
event_takes (b ∷ w) v r bytes e =
    let Goal : Type 0 = Takes event_field (b ∷ w) v r in
    let rest = IsBytes-rest b w bytes in
    kind_is 1 b _ _ v r Goal e (kind_takes 1 (optional uid_field) (optional_exact uid_field uid_exact) (λ x. event.Hello x) (λ x. refl) (λ x. refl) b w v r rest) (λ e2.
    kind_is 2 b _ _ v r Goal e2 (kind_takes 2 (sid_field ⊗ call_field) called_exact (λ x. event.Do x.0 x.1) (λ x. refl) (λ x. refl) b w v r rest) (λ e3.
    kind_is 3 b _ _ v r Goal e3 (kind_takes 3 sid_field sid_exact (λ x. event.Hangup x) (λ x. refl) (λ x. refl) b w v r rest) (λ e4.
    kind_is 4 b _ (Err BadField) v r Goal e4 (kind_takes 4 u64 u64_exact (λ x. event.Tick x) (λ x. refl) (λ x. refl) b w v r rest) (λ e5. absurd cc))))

pub event_exact : IsExact event_field
event_exact = record { takes = event_takes; again = event_again }
