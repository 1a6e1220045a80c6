-- A hub's marks, and whose its sessions are.
use Rattle.std.proofs.Common.{◌≡◌, ℕ, zero, suc, Bool, true, false, not, eqb, cond, List, [], ◌∷◌, ◌++◌, length, set, slice_get, Option, Some, None, option_map, refl, sym, ap, subst, ◌∙◌, arith}
use Rattle.std.specs.Prelude.{is_none, unwrap_or}
use Rattle.std.proofs.lemmas.Bool.{eqb-true, eq-eqb, ne_eqb}
use Rattle.ipc_terms.specs.declared.ids.Sid.{Sid}
use Rattle.ipc_terms.specs.declared.rule.Rule.TheVariants.{BadKey as Refusal}
use Rattle.ipc_terms.specs.declared.call.Answer.{Answer}
use Rattle.ipc_terms.specs.declared.call.Answer.TheVariants.{Refused}
use Rattle.ipc_terms.specs.declared.record.Event.TheVariants.{Tick}
use Rattle.ipc_core.specs.Outboxes.{after_step, after_steps}
use Rattle.ipc_core.specs.CoreView.{CoreView}
use Rattle.ipc_wire.specs.Streams.{Cut, cut}
use Rattle.ipc_hub.specs.declared.fed.Fed.{Fed}
use Rattle.ipc_hub.specs.declared.fed.Fed.TheVariants.{Done, Short, Full, Over}
use Rattle.ipc_hub.specs.declared.fed.End.TheVariants.{Wire, BadKey}
use Rattle.ipc_hub.specs.Hub.{Connection, Hub, Marks, new_connection, untaken_of, untaken, untaken_at, hang_up_of, IsOutcome, core_after_take}
use Rattle.ipc_hub.specs.Marking.{is_set, owner_of}
use Rattle.ipc_hub.specs.MarkedCore.{MarkedView, IsOwned, Owned, NoMore, Follows}
use Rattle.ipc_hub.specs.Sessions.{EachHasItsOwn, Stands}
use Rattle.ipc_hub.specs.Stepping.{Starts, Ends, IsWithin, is_full, count_of}
use Rattle.ipc_hub.proofs.SessionLemmas.{Which, Own, Other, AfterOpening, Fresh, Stood, which, get_set, after_opening, fresh_has_none, fed_changes, none_at_all}
use Rattle.ipc_hub.proofs.MarkLemmas.{set_count}
use Rattle.ipc_hub.proofs.HubLemmas.{open_at, opened_sessions, fed_sessions, hung_up_sessions, taken_sessions, forgot_sessions}
use Rattle.ipc_hub.proofs.Ticking.{ticked_sessions}

-- the parts of a hub as it is seen
abbrev pub hub_view : MarkedView → List Connection → Hub
hub_view m xs = record { core = m.core; connections = xs; marked = m.marked }

some_sid : (s t : Sid) → Some s ≡ Some t → s ≡ t
some_sid s t e = cc

count_set : (xs : List Connection) (i : ℕ) (y : Connection) → length xs ≡ length (set xs i y)
count_set [] i y = refl
count_set (x ∷ xs) zero y = refl
count_set (x ∷ xs) (suc i) y = ap suc (count_set xs i y)

-- ---- who has no mark has the untaken answers that it had

each_silent : (m n : MarkedView) (xs : List Connection) (j : ℕ) (z : Connection) → Stands m xs → Follows m n → slice_get xs j ≡ Some z → is_set n.marked j ≡ false → untaken n.core z ≡ untaken m.core z
each_silent m n xs j z w f there off = at z.has_refusal where
  own : (sid : Sid) → z.session ≡ Some sid → (over : Bool) → z.is_over ≡ over → untaken_of n.core (Some sid) ≡ untaken_of m.core (Some sid)
  own sid e false open' = f.silent sid.0 j (w.owned j z sid there e open') (w.flagged j z there open') off
  own sid e true over = let is = w.sessions.own j z sid there e in f.ended.silent sid (record { started = is.started; ended = is.live_is ∙ ap not over })

  box : (s : Option Sid) → z.session ≡ s → untaken_of n.core s ≡ untaken_of m.core s
  box None e = refl
  box (Some sid) e = own sid e z.is_over refl

  at : (b : Bool) → cond b (Refused Refusal ∷ []) (untaken_of n.core z.session) ≡ cond b (Refused Refusal ∷ []) (untaken_of m.core z.session)
  at true = refl
  at false = box z.session refl

abbrev left_there : CoreView → Option Connection → List Answer
left_there a o = unwrap_or (option_map (untaken a) o) []

pub changed_marks : (m n : MarkedView) (xs : List Connection) (i : ℕ) (x y : Connection) → Stands m xs → slice_get xs i ≡ Some x → Follows m n → (is_set n.marked i ≡ false → untaken n.core y ≡ untaken m.core x) → Marks (hub_view m xs) (hub_view n (set xs i y))
changed_marks m n xs i x y w was f own = record {
  kept = f.kept;
  silent = λ j off. ap (left_there n.core) (get_set xs i x y j was) ∙ at j off (eqb i j) refl (slice_get xs j) refl;
} where
  at : (j : ℕ) → is_set n.marked j ≡ false → (b : Bool) → eqb i j ≡ b → (o : Option Connection) → slice_get xs j ≡ o → left_there n.core (cond b (Some y) o) ≡ left_there m.core o
  at j off true e o there =
      let same : i ≡ j = eqb-true i j e in
      let found : o ≡ Some x = sym there ∙ ap (slice_get xs) (sym same) ∙ was in
      own (ap (is_set n.marked) same ∙ off) ∙ sym (ap (left_there m.core) found)
  at j off false e None there = refl
  at j off false e (Some z) there = each_silent m n xs j z w f there off

pub stays_marks : (m n : MarkedView) (xs : List Connection) → Stands m xs → Follows m n → Marks (hub_view m xs) (hub_view n xs)
stays_marks m n xs w f = record { kept = f.kept; silent = λ j off. at j off (slice_get xs j) refl } where
  at : (j : ℕ) → is_set n.marked j ≡ false → (o : Option Connection) → slice_get xs j ≡ o → left_there n.core o ≡ left_there m.core o
  at j off None there = refl
  at j off (Some z) there = each_silent m n xs j z w f there off

-- ---- the connection that is fed

pub has_none_refused : (m : MarkedView) (xs : List Connection) (i : ℕ) (x : Connection) → Stands m xs → slice_get xs i ≡ Some x → x.is_over ≡ false → x.has_refusal ≡ false
has_none_refused m xs i x w there open' = at x.has_refusal refl where
  at : (b : Bool) → x.has_refusal ≡ b → b ≡ false
  at true e = absurd (let wrong : true ≡ false = sym (w.sessions.refused i x there e).1 ∙ open' in cc)
  at false e = refl

plain_untaken : (a : CoreView) (x : Connection) → x.has_refusal ≡ false → untaken a x ≡ untaken_of a x.session
plain_untaken a x e = ap (λ b. cond b (Refused Refusal ∷ []) (untaken_of a x.session)) e

-- it has a refusal only where its hello was refused
refusal_kept : (fed : Fed) (i : ℕ) (most : Option ℕ) (m n : MarkedView) (x y : Connection) (c : Cut) → IsOutcome fed m.core x c n.core y → Ends fed i most m x.session n y.session → is_set n.marked i ≡ false → y.has_refusal ≡ x.has_refusal
refusal_kept Done i most m n x y c h e off = ap (λ (z : Connection). z.has_refusal) h.connection
refusal_kept Short i most m n x y c h e off = ap (λ (z : Connection). z.has_refusal) h.connection
refusal_kept Full i most m n x y c h e off = ap (λ (z : Connection). z.has_refusal) h.connection
refusal_kept (Over (Wire fault)) i most m n x y c h e off = ap (λ (z : Connection). z.has_refusal) h.connection
refusal_kept (Over BadKey) i most m n x y c h e off = absurd (let wrong : true ≡ false = sym (e.refused refl) ∙ off in cc)

session_silent : (m n : MarkedView) (xs : List Connection) (i : ℕ) (x y : Connection) → Stands m xs → slice_get xs i ≡ Some x → x.is_over ≡ false → Follows m n → Starts n i x.session y.session → ((sid : Sid) → x.session ≡ Some sid → y.session ≡ Some sid) → is_set n.marked i ≡ false → untaken_of n.core y.session ≡ untaken_of m.core x.session
session_silent m n xs i x y w there open' f starts stays off = at x.session refl y.session refl where
  at : (s : Option Sid) → x.session ≡ s → (t : Option Sid) → y.session ≡ t → untaken_of n.core y.session ≡ untaken_of m.core x.session
  at None none None still = ap (untaken_of n.core) still ∙ sym (ap (untaken_of m.core) none)
  at None none (Some sid) e = absurd (let wrong : true ≡ false = sym (starts.marked none sid e) ∙ off in cc)
  at (Some sid) is t e = ap (untaken_of n.core) (stays sid is) ∙ f.silent sid.0 i (w.owned i x sid there is open') (w.flagged i x there open') off ∙ sym (ap (untaken_of m.core) is)

pub fed_silent : (fed : Fed) (most : Option ℕ) (m n : MarkedView) (xs : List Connection) (i : ℕ) (x y : Connection) (c : Cut) → Stands m xs → slice_get xs i ≡ Some x → x.is_over ≡ false → IsOutcome fed m.core x c n.core y → Ends fed i most m x.session n y.session → ((sid : Sid) → x.session ≡ Some sid → y.session ≡ Some sid) → is_set n.marked i ≡ false → untaken n.core y ≡ untaken m.core x
fed_silent fed most m n xs i x y c w there open' h e stays off =
    let none = has_none_refused m xs i x w there open' in
    plain_untaken n.core y (refusal_kept fed i most m n x y c h e off ∙ none) ∙ session_silent m n xs i x y w there open' e.goes.follows e.goes.starts stays off ∙ sym (plain_untaken m.core x none)

-- ---- how many answers are untaken then

pub fed_full : (fed : Fed) (i : ℕ) (most : Option ℕ) (m n : MarkedView) (x y : Connection) (c : Cut) → x.has_refusal ≡ false → IsOutcome fed m.core x c n.core y → Ends fed i most m x.session n y.session → fed ≡ Full → is_full most (length (untaken n.core y)) ≡ true
fed_full Done i most m n x y c none h e is = absurd cc
fed_full Short i most m n x y c none h e is = absurd cc
fed_full Full i most m n x y c none h e is = ap (λ (left : List Answer). is_full most (length left)) (plain_untaken n.core y (ap (λ (z : Connection). z.has_refusal) h.connection ∙ none)) ∙ e.full is
fed_full (Over end) i most m n x y c none h e is = absurd cc

one_left : (most : Option ℕ) (before : ℕ) → IsWithin most before 1
one_left None before = tt
one_left (Some most) before = omega arith

pub fed_within : (fed : Fed) (i : ℕ) (most : Option ℕ) (m n : MarkedView) (x y : Connection) (c : Cut) → x.has_refusal ≡ false → IsOutcome fed m.core x c n.core y → Ends fed i most m x.session n y.session → IsWithin most (length (untaken m.core x)) (length (untaken n.core y))
fed_within fed i most m n x y c none h e = subst (λ (left : List Answer). IsWithin most (length left) (length (untaken n.core y))) (sym (plain_untaken m.core x none)) (at fed h) where
  plain : y.has_refusal ≡ x.has_refusal → IsWithin most (count_of m x.session) (length (untaken n.core y))
  plain same = subst (λ (left : List Answer). IsWithin most (count_of m x.session) (length left)) (sym (plain_untaken n.core y (same ∙ none))) e.goes.within

  at : (fed : Fed) → IsOutcome fed m.core x c n.core y → IsWithin most (count_of m x.session) (length (untaken n.core y))
  at Done k = plain (ap (λ (z : Connection). z.has_refusal) k.connection)
  at Short k = plain (ap (λ (z : Connection). z.has_refusal) k.connection)
  at Full k = plain (ap (λ (z : Connection). z.has_refusal) k.connection)
  at (Over (Wire fault)) k = plain (ap (λ (z : Connection). z.has_refusal) k.connection)
  at (Over BadKey) k = subst (λ (left : List Answer). IsWithin most (count_of m x.session) (length left)) (sym (ap (λ (z : Connection). untaken n.core z) k.connection)) (one_left most (count_of m x.session))

-- in the hub
pub own_there : (n : MarkedView) (xs : List Connection) (i : ℕ) (x y : Connection) → slice_get xs i ≡ Some x → untaken_at (hub_view n (set xs i y)) i ≡ untaken n.core y
own_there n xs i x y was = ap (left_there n.core) (get_set xs i x y i was) ∙ at (eqb i i) (eq-eqb i i refl) where
  at : (b : Bool) → b ≡ true → left_there n.core (cond b (Some y) (slice_get xs i)) ≡ untaken n.core y
  at true e = refl
  at false e = absurd cc

pub was_there : (m : MarkedView) (xs : List Connection) (i : ℕ) (x : Connection) → slice_get xs i ≡ Some x → untaken_at (hub_view m xs) i ≡ untaken m.core x
was_there m xs i x was = ap (left_there m.core) was

-- ---- whose sessions are whose

-- the session of a connection that is not over is live
still_owned : (n : MarkedView) (xs : List Connection) (j : ℕ) (z : Connection) (sid : Sid) → EachHasItsOwn n.core xs → slice_get xs j ≡ Some z → z.session ≡ Some sid → z.is_over ≡ false → IsOwned n sid.0 j → owner_of n.owners sid.0 ≡ Some j
still_owned n xs j z sid all there k open' (Owned e) = e
still_owned n xs j z sid all there k open' (NoMore h) = absurd (let wrong : true ≡ false = sym ((all.own j z sid there k).live_is ∙ ap not open') ∙ h.ended in cc)

changed_owned : (m n : MarkedView) (xs : List Connection) (i : ℕ) (x y : Connection) → Stands m xs → slice_get xs i ≡ Some x → ((s j : ℕ) → owner_of m.owners s ≡ Some j → IsOwned n s j) → Starts n i x.session y.session → ((sid : Sid) → x.session ≡ Some sid → y.session ≡ Some sid) → (y.is_over ≡ false → x.is_over ≡ false) → EachHasItsOwn n.core (set xs i y) → (j : ℕ) (z : Connection) (sid : Sid) → slice_get (set xs i y) j ≡ Some z → z.session ≡ Some sid → z.is_over ≡ false → owner_of n.owners sid.0 ≡ Some j
changed_owned m n xs i x y w there keeps starts stays was_open all j z sid e k open' = still_owned n (set xs i y) j z sid all e k open' (at (which xs i x y j z there e)) where
  own : y.session ≡ Some sid → y.is_over ≡ false → (s : Option Sid) → x.session ≡ s → IsOwned n sid.0 i
  own now still None none = starts.owner none sid now
  own now still (Some was) is = keeps sid.0 i (w.owned i x sid there (is ∙ ap Some (some_sid was sid (sym (stays was is) ∙ now))) (was_open still))

  at : Which xs i y j z → IsOwned n sid.0 j
  at (Own same is) = subst (λ (l : ℕ). IsOwned n sid.0 l) same (own (ap (λ (v : Connection). v.session) is ∙ k) (ap (λ (v : Connection). v.is_over) is ∙ open') x.session refl)
  at (Other ne stood) = keeps sid.0 j (w.owned j z sid stood k open')

-- who is not over keeps its flag
changed_flagged : (m n : MarkedView) (xs : List Connection) (i : ℕ) (x y : Connection) → Stands m xs → slice_get xs i ≡ Some x → n.flagged ≡ m.flagged → (y.is_over ≡ false → x.is_over ≡ false) → (j : ℕ) (z : Connection) → slice_get (set xs i y) j ≡ Some z → z.is_over ≡ false → is_set n.flagged j ≡ true
changed_flagged m n xs i x y w there same was_open j z e open' = ap (λ bs. is_set bs j) same ∙ at (which xs i x y j z there e) where
  at : Which xs i y j z → is_set m.flagged j ≡ true
  at (Own i_is is) = ap (is_set m.flagged) (sym i_is) ∙ w.flagged i x there (was_open (ap (λ (v : Connection). v.is_over) is ∙ open'))
  at (Other ne stood) = w.flagged j z stood open'

pub fed_stays : (fed : Fed) (m n : MarkedView) (xs : List Connection) (i : ℕ) (x y : Connection) (bytes : List ℕ) → Stands m xs → slice_get xs i ≡ Some x → x.is_over ≡ false → IsOutcome fed m.core x (cut (is_none x.session) bytes) n.core y → (sid : Sid) → x.session ≡ Some sid → y.session ≡ Some sid
fed_stays fed m n xs i x y bytes w there open' h = (fed_changes fed m.core n.core x y bytes (open_at m.core xs i x w.sessions there open') h).stays

pub fed_stands : (fed : Fed) (most : Option ℕ) (m n : MarkedView) (xs : List Connection) (i : ℕ) (x y : Connection) (bytes : List ℕ) → Stands m xs → slice_get xs i ≡ Some x → x.is_over ≡ false → IsOutcome fed m.core x (cut (is_none x.session) bytes) n.core y → Ends fed i most m x.session n y.session → Stands n (set xs i y)
fed_stands fed most m n xs i x y bytes w there open' h e =
    let all = fed_sessions fed m.core n.core xs i x y bytes w.sessions there open' h in
    record {
      sessions = all;
      count = e.goes.follows.count ∙ w.count ∙ count_set xs i y;
      many = ap (λ (bs : List Bool). length bs) e.goes.follows.flagged ∙ w.many ∙ count_set xs i y;
      flagged = changed_flagged m n xs i x y w there e.goes.follows.flagged (λ still. open');
      owned = changed_owned m n xs i x y w there e.goes.follows.owners e.goes.starts (fed_stays fed m n xs i x y bytes w there open' h) (λ still. open') all;
    }

no_start : (n : MarkedView) (i : ℕ) (x y : Connection) → y.session ≡ x.session → Starts n i x.session y.session
no_start n i x y same = record {
  marked = λ none sid e. absurd (let wrong : ◌≡◌ {A = Option Sid} None (Some sid) = sym none ∙ sym same ∙ e in cc);
  owner = λ none sid e. absurd (let wrong : ◌≡◌ {A = Option Sid} None (Some sid) = sym none ∙ sym same ∙ e in cc);
}

pub hung_up_stands : (m n : MarkedView) (xs : List Connection) (i : ℕ) (x y : Connection) → Stands m xs → slice_get xs i ≡ Some x → x.is_over ≡ false → n.core ≡ after_steps (hang_up_of x.session) m.core → Follows m n → y ≡ record x { kept = []; is_over = true } → Stands n (set xs i y)
hung_up_stands m n xs i x y w there open' now f is =
    let same : y.session ≡ x.session = ap (λ (z : Connection). z.session) is in
    let all = hung_up_sessions m.core n.core xs i x y w.sessions there open' now is in
    record {
      sessions = all;
      count = f.count ∙ w.count ∙ count_set xs i y;
      many = ap (λ (bs : List Bool). length bs) f.flagged ∙ w.many ∙ count_set xs i y;
      flagged = changed_flagged m n xs i x y w there f.flagged (λ still. open');
      owned = changed_owned m n xs i x y w there f.owners (no_start n i x y same) (λ sid e. same ∙ e) (λ still. open') all;
    }

pub hung_up_silent : (m n : MarkedView) (xs : List Connection) (i : ℕ) (x y : Connection) → Stands m xs → slice_get xs i ≡ Some x → Follows m n → y ≡ record x { kept = []; is_over = true } → is_set n.marked i ≡ false → untaken n.core y ≡ untaken m.core x
hung_up_silent m n xs i x y w there f is off = ap (untaken n.core) is ∙ each_silent m n xs i x w f there off

pub taken_stands : (m n : MarkedView) (xs : List Connection) (i : ℕ) (x y : Connection) → Stands m xs → slice_get xs i ≡ Some x → n ≡ record m { core = core_after_take m.core x.session } → y ≡ record x { has_refusal = false } → Stands n (set xs i y)
taken_stands m n xs i x y w there now is =
    let same : y.session ≡ x.session = ap (λ (z : Connection). z.session) is in
    let all = taken_sessions m.core n.core xs i x y w.sessions there (ap (λ (z : MarkedView). z.core) now) is in
    record {
      sessions = all;
      count = ap (λ (z : MarkedView). length z.marked) now ∙ w.count ∙ count_set xs i y;
      many = ap (λ (z : MarkedView). length z.flagged) now ∙ w.many ∙ count_set xs i y;
      flagged = changed_flagged m n xs i x y w there (ap (λ (z : MarkedView). z.flagged) now) (λ still. sym (ap (λ (z : Connection). z.is_over) is) ∙ still);
      owned = changed_owned m n xs i x y w there (λ s j e. Owned (ap (λ (z : MarkedView). owner_of z.owners s) now ∙ e)) (no_start n i x y same) (λ sid e. same ∙ e) (λ still. sym (ap (λ (z : Connection). z.is_over) is) ∙ still) all;
    }

pub opened_stands : (m n : MarkedView) (xs ys : List Connection) (x : Connection) → Stands m xs → x ≡ new_connection → ys ≡ xs ++ x ∷ [] → n ≡ record m { marked = m.marked ++ false ∷ []; flagged = m.flagged ++ true ∷ [] } → Stands n ys
opened_stands m n xs ys x w new all now = subst (λ (k : MarkedView). Stands k ys) (sym now) (subst (λ (zs : List Connection). Stands (record m { marked = m.marked ++ false ∷ []; flagged = m.flagged ++ true ∷ [] }) zs) (sym (all ∙ ap (λ (z : Connection). xs ++ z ∷ []) new)) (record {
  sessions = opened_sessions m.core xs (xs ++ new_connection ∷ []) new_connection w.sessions refl refl;
  count = one_more false m.marked xs w.count;
  many = one_more true m.flagged xs w.many;
  flagged = λ i z e open'. flagged m.flagged xs i z w.many w.flagged e open';
  owned = λ i z sid e k open'. at i z sid k open' (after_opening xs i z e);
})) where
  one_more : (own : Bool) (bs : List Bool) (zs : List Connection) → length bs ≡ length zs → length (bs ++ own ∷ []) ≡ length (zs ++ new_connection ∷ [])
  one_more own [] [] e = refl
  one_more own [] (z ∷ zs) e = absurd (omega arith)
  one_more own (b ∷ bs) [] e = absurd (omega arith)
  one_more own (b ∷ bs) (z ∷ zs) e = ap suc (one_more own bs zs (omega arith))

  flagged : (bs : List Bool) (zs : List Connection) (i : ℕ) (z : Connection) → length bs ≡ length zs → ((j : ℕ) (u : Connection) → slice_get zs j ≡ Some u → u.is_over ≡ false → is_set bs j ≡ true) → slice_get (zs ++ new_connection ∷ []) i ≡ Some z → z.is_over ≡ false → is_set (bs ++ true ∷ []) i ≡ true
  flagged [] [] zero z many all e open' = refl
  flagged [] [] (suc i) z many all e open' = absurd cc
  flagged [] (u ∷ us) i z many all e open' = absurd (omega arith)
  flagged (b ∷ bs) [] i z many all e open' = absurd (omega arith)
  flagged (b ∷ bs) (u ∷ us) zero z many all e open' = all 0 z e open'
  flagged (b ∷ bs) (u ∷ us) (suc i) z many all e open' = flagged bs us i z (omega arith) (λ j. all (suc j)) e open'

  at : (i : ℕ) (z : Connection) (sid : Sid) → z.session ≡ Some sid → z.is_over ≡ false → AfterOpening xs i z → owner_of m.owners sid.0 ≡ Some i
  at i z sid k open' (Fresh past is) = absurd (fresh_has_none z sid is k)
  at i z sid k open' (Stood e) = w.owned i z sid e k open'

pub ticked_stands : (m n : MarkedView) (xs : List Connection) (moment : ℕ) → Stands m xs → n.core ≡ after_step (Tick moment) m.core → Follows m n → Stands n xs
ticked_stands m n xs moment w now f =
    let all = ticked_sessions m.core n.core xs moment now w.sessions in
    record {
      sessions = all;
      count = f.count ∙ w.count;
      many = ap (λ (bs : List Bool). length bs) f.flagged ∙ w.many;
      flagged = λ i z e open'. ap (λ bs. is_set bs i) f.flagged ∙ w.flagged i z e open';
      owned = λ i z sid e k open'. still_owned n xs i z sid all e k open' (f.owners sid.0 i (w.owned i z sid e k open'));
    }

-- the connection that is named loses its mark
pub named_stands : (m n : MarkedView) (xs : List Connection) (i : ℕ) → Stands m xs → n ≡ record m { marked = set m.marked i false } → Stands n xs
named_stands m n xs i w now = subst (λ (k : MarkedView). Stands k xs) (sym now) (record { sessions = w.sessions; count = set_count m.marked i false ∙ w.count; many = w.many; flagged = w.flagged; owned = w.owned })

-- who is over keeps no flag
pub let_go_stands : (m n : MarkedView) (xs : List Connection) (i : ℕ) (x : Connection) → Stands m xs → slice_get xs i ≡ Some x → x.is_over ≡ true → n ≡ record m { flagged = n.flagged } → length n.flagged ≡ length m.flagged → ((j : ℕ) → eqb j i ≡ false → is_set n.flagged j ≡ is_set m.flagged j) → Stands n xs
let_go_stands m n xs i x w there over now many others = subst (λ (k : MarkedView). Stands k xs) (sym now) (record { sessions = w.sessions; count = w.count; many = many ∙ w.many; flagged = λ j z e open'. others j (ne_eqb j i (λ (q : j ≡ i). other j z e open' q)) ∙ w.flagged j z e open'; owned = w.owned }) where
  other : (j : ℕ) (z : Connection) → slice_get xs j ≡ Some z → z.is_over ≡ false → j ≡ i → ⊥
  other j z e open' q =
      let same : Some x ≡ Some z = sym there ∙ ap (slice_get xs) (sym q) ∙ e in
      let is : x ≡ z = cc in
      let wrong : true ≡ false = sym over ∙ ap (λ (v : Connection). v.is_over) is ∙ open' in
      absurd cc

-- records are forgotten
pub forgot_stands : (m n : MarkedView) (first : ℕ) (xs : List Connection) → Stands m xs → n ≡ record m { core = record m.core { first = first } } → Stands n xs
forgot_stands m n first xs w now = subst (λ (k : MarkedView). Stands k xs) (sym now) (record { sessions = forgot_sessions m.core first xs w.sessions; count = w.count; many = w.many; flagged = w.flagged; owned = w.owned })

pub no_connections : (m : MarkedView) → m.marked ≡ [] → m.flagged ≡ [] → Stands m []
no_connections m e none = record { sessions = none_at_all m.core; count = ap (λ (bs : List Bool). length bs) e; many = ap (λ (bs : List Bool). length bs) none; flagged = λ i x there open'. absurd cc; owned = λ i x sid there k open'. absurd cc }
