-- What comes of what a host tells.
use Rattle.std.proofs.Common.{◌≡◌, ◌⊎◌, inl, inr, ℕ, Bool, true, false, not, ◌||◌, ◌&&◌, eqb, cond, List, [], ◌∷◌, ◌++◌, set, slice_get, Option, Some, None, refl, sym, ap, subst, ◌∙◌, append_assoc}
use Rattle.std.specs.Prelude.{is_none, unwrap_or}
use Rattle.std.proofs.lemmas.Bool.{eqb-true}
use Rattle.std.proofs.lemmas.List.{append-nil}
use Rattle.ipc_hub.specs.Hub.{Hub}
use Rattle.ipc_loop.specs.declared.ending.Ending.{Ending}
use Rattle.ipc_loop.specs.declared.links.Ready.{Ready}
use Rattle.ipc_loop.specs.declared.links.Ready.TheVariants as ready
use Rattle.std.specs.declared.io.ErrorKind.{ErrorKind}
use Rattle.ipc_loop.specs.declared.accepting.Bounds.{Bounds}
use Rattle.ipc_loop.specs.Moves.{Moved, GoOn, is_offered}
use Rattle.ipc_loop.specs.Ports.{Port, new_port, port_at, unfed_of, is_all, has_work, has_work_left, stands_in, OnlyCloses}
use Rattle.ipc_loop.specs.Serving.{is_done}
use Rattle.ipc_loop.specs.Standing.{IsSettled, EachIsQueued}
use Rattle.ipc_loop.specs.Asking.{has_left, how_many_left, may_be_read, may_be_written, IsServed, IsOffered, IsStillRead, IsStillWritten, Asks, Refuses}
use Rattle.ipc_loop.specs.Listening.{Listens}
use Rattle.ipc_loop.specs.Hearing.{is_listener, can_be_read, can_be_written, tells, TellsAlso, noted, noted_all, NotesAll, Hears, HearsAll}
use Rattle.ipc_loop.proofs.MoveLemmas.{go_both, or_or}
use Rattle.ipc_loop.proofs.PortLemmas.{Slots, slot_now, slot_other}
use Rattle.ipc_loop.proofs.AskingLemmas.{done_unwritten, served_first, served_second, offered_first, offered_second}

abbrev pub Told : Type 0
Told = Option (List Ready)

abbrev pub Moves : Type 0
Moves = Option (List Moved)

-- ---- what is told, one after another

pub tells_both : (u v w : Told) (a b : List Ready) → TellsAlso u v a → TellsAlso v w b → TellsAlso u w (a ++ b)
tells_both None v w a b x y = tt
tells_both (Some told) None w a b x y = absurd x
tells_both (Some told) (Some later) None a b x y = absurd y
tells_both (Some told) (Some later) (Some last) a b x y = y ∙ ap (λ (t : List Ready). t ++ b) x ∙ append_assoc told a b

pub tells_nothing : (u : Told) → TellsAlso u u []
tells_nothing None = tt
tells_nothing (Some told) = sym (append-nil told)

told_both : (test : Ready → Bool) (xs ys : List Ready) → tells test (xs ++ ys) ≡ (tells test xs || tells test ys)
told_both test [] ys = refl
told_both test (x ∷ xs) ys = or_or (test x) (tells test xs) (tells test ys) (tells test (xs ++ ys)) (told_both test xs ys)

pub or_false : (b : Bool) → (b || false) ≡ b
or_false true = refl
or_false false = refl

pub told_one : (test : Ready → Bool) (xs : List Ready) (x : Ready) (b : Bool) → tells test xs ≡ b → tells test (xs ++ x ∷ []) ≡ (b || test x)
told_one test xs x b e = told_both test xs (x ∷ []) ∙ ap (λ (c : Bool). c || (test x || false)) e ∙ ap (λ (c : Bool). b || c) (or_false (test x))

noted_both : (i : ℕ) (xs ys : List Ready) (port : Port) → noted_all i (xs ++ ys) port ≡ noted_all i ys (noted_all i xs port)
noted_both i [] ys port = refl
noted_both i (x ∷ xs) ys port = noted_both i xs ys (noted i x port)

-- what is told of others changes nothing
noted_same : (i : ℕ) (r : Ready) (port : Port) → can_be_read i r ≡ false → can_be_written i r ≡ false → noted i r port ≡ port
noted_same i r port e f =
    ap (λ (b : Bool). record port { may_read = port.may_read || b; may_write = port.may_write || can_be_written i r }) e
    ∙ ap (λ (b : Bool). record port { may_read = port.may_read || false; may_write = port.may_write || b }) f
    ∙ ap (λ (b : Bool). record port { may_read = b; may_write = port.may_write || false }) (or_false port.may_read)
    ∙ ap (λ (b : Bool). record port { may_write = b }) (or_false port.may_write)

left_noted : (i : ℕ) (rs : List Ready) (port : Port) → (noted_all i rs port).left ≡ port.left
left_noted i [] port = refl
left_noted i (r ∷ rs) port = left_noted i rs (noted i r port)

or_assoc : (a b c : Bool) → ((a || b) || c) ≡ (a || (b || c))
or_assoc true b c = refl
or_assoc false b c = refl

read_noted : (i : ℕ) (rs : List Ready) (port : Port) → noted_all i rs port ≡ record (noted_all i rs port) { may_read = port.may_read || tells (can_be_read i) rs }
read_noted i [] port = ap (λ (b : Bool). record port { may_read = b }) (sym (or_false port.may_read))
read_noted i (r ∷ rs) port = read_noted i rs (noted i r port) ∙ ap (λ (b : Bool). record (noted_all i rs (noted i r port)) { may_read = b }) (or_assoc port.may_read (can_be_read i r) (tells (can_be_read i) rs))

write_noted : (i : ℕ) (rs : List Ready) (port : Port) → (noted_all i rs port).may_write ≡ (port.may_write || tells (can_be_written i) rs)
write_noted i [] port = sym (or_false port.may_write)
write_noted i (r ∷ rs) port = write_noted i rs (noted i r port) ∙ or_assoc port.may_write (can_be_written i r) (tells (can_be_written i) rs)

pub or_true : (b : Bool) → (b || true) ≡ true
or_true true = refl
or_true false = refl

-- a port but for whether it may be read
abbrev readable : Port → Bool
readable port = may_be_read (record port { may_read = true })

readable_noted : (i : ℕ) (rs : List Ready) (port : Port) → readable (noted_all i rs port) ≡ readable port
readable_noted i [] port = refl
readable_noted i (r ∷ rs) port = readable_noted i rs (noted i r port)

-- who is told to be readable may be read
pub told_read : (i : ℕ) (rs : List Ready) (port : Port) → tells (can_be_read i) rs ≡ true → readable port ≡ true → may_be_read (noted_all i rs port) ≡ true
told_read i rs port told may =
    ap may_be_read (read_noted i rs port)
    ∙ ap (λ (b : Bool). may_be_read (record (noted_all i rs port) { may_read = b })) (ap (λ (b : Bool). port.may_read || b) told ∙ or_true port.may_read)
    ∙ readable_noted i rs port ∙ may

pub told_written : (i : ℕ) (rs : List Ready) (port : Port) → tells (can_be_written i) rs ≡ true → has_left port.left ≡ true → may_be_written (noted_all i rs port) ≡ true
told_written i rs port told left =
    ap (λ (b : Bool). b && has_left (noted_all i rs port).left) (write_noted i rs port ∙ ap (λ (b : Bool). port.may_write || b) told ∙ or_true port.may_write)
    ∙ ap has_left (left_noted i rs port) ∙ left

-- ---- ports that take notice

pub notes_nothing : (xs : Slots) → NotesAll [] xs xs
notes_nothing xs i port e = inl e

pub notes_both : (a b : List Ready) (xs ys zs : Slots) → ((i : ℕ) → slice_get ys i ≡ Some None → slice_get zs i ≡ Some None) → NotesAll a xs ys → NotesAll b ys zs → NotesAll (a ++ b) xs zs
notes_both a b xs ys zs closed x y i port e = at (x i port e) where
  at : (slice_get ys i ≡ Some (Some (noted_all i a port))) ⊎ ((slice_get ys i ≡ Some None) × (has_left port.left ≡ false)) → (slice_get zs i ≡ Some (Some (noted_all i (a ++ b) port))) ⊎ ((slice_get zs i ≡ Some None) × (has_left port.left ≡ false))
  at (inr gone) = inr (closed i gone.0, gone.1)
  at (inl there) = then (y i (noted_all i a port) there) where
    then : (slice_get zs i ≡ Some (Some (noted_all i b (noted_all i a port)))) ⊎ ((slice_get zs i ≡ Some None) × (has_left (noted_all i a port).left ≡ false)) → (slice_get zs i ≡ Some (Some (noted_all i (a ++ b) port))) ⊎ ((slice_get zs i ≡ Some None) × (has_left port.left ≡ false))
    then (inl now) = inl (now ∙ ap (λ (p : Port). Some (Some p)) (sym (noted_both i a b port)))
    then (inr gone) = inr (gone.0, ap has_left (sym (left_noted i a port)) ∙ gone.1)

-- nothing of links is told
pub notes_listener : (xs ys : Slots) → ys ≡ xs → NotesAll (ready.Listener ∷ []) xs ys
notes_listener xs ys same i port e = inl (ap (λ (zs : Slots). slice_get zs i) same ∙ e ∙ ap (λ (p : Port). Some (Some p)) (sym (noted_same i ready.Listener port refl refl)))

-- a link is told of that has no port
pub notes_none : (k : ℕ) (r w d : Bool) (xs : Slots) → ((port : Port) → slice_get xs k ≡ Some (Some port) → ⊥) → NotesAll (ready.Link k r w d ∷ []) xs xs
notes_none k r w d xs none i port e = at (eqb k i) refl where
  at : (here : Bool) → eqb k i ≡ here → (slice_get xs i ≡ Some (Some (noted_all i (ready.Link k r w d ∷ []) port))) ⊎ ((slice_get xs i ≡ Some None) × (has_left port.left ≡ false))
  at true is = absurd (none port (ap (λ (j : ℕ). slice_get xs j) (eqb-true k i is) ∙ e))
  at false is = inl (e ∙ ap (λ (p : Port). Some (Some p)) (sym (noted_same i (ready.Link k r w d) port (ap (λ (b : Bool). cond b (r || d) false) is) (ap (λ (b : Bool). cond b w false) is))))

same_port : (p q : Port) → Some (Some p) ≡ Some (Some q) → p ≡ q
same_port p q e = let inner : Some p ≡ Some q = cc in cc

unleft : (h : Hub) (k : ℕ) (p : Port) → is_done h k p ≡ true → has_left p.left ≡ false
unleft h k p done = at (has_left p.left) refl where
  at : (b : Bool) → has_left p.left ≡ b → b ≡ false
  at true e = absurd (done_unwritten h k (record p { may_write = true }) done e)
  at false e = refl

-- its port is there, takes notice, and is settled
pub notes_settled : (k : ℕ) (r w d : Bool) (h h' : Hub) (m m' : Moves) (p p' : Port) (xs zs : Slots) → slice_get xs k ≡ Some (Some p) → p' ≡ record p { may_read = p.may_read || r || d; may_write = p.may_write || w } → IsSettled h m xs k p' h' m' zs → NotesAll (ready.Link k r w d ∷ []) xs zs
notes_settled k r w d h h' m m' p p' xs zs there is settled i port e = at (eqb k i) refl where
  unnoted : eqb k i ≡ false → noted i (ready.Link k r w d) port ≡ port
  unnoted other = noted_same i (ready.Link k r w d) port (ap (λ (b : Bool). cond b (r || d) false) other) (ap (λ (b : Bool). cond b w false) other)

  mine : eqb k i ≡ true → p ≡ port
  mine here = same_port p port (sym there ∙ ap (λ (j : ℕ). slice_get xs j) (eqb-true k i here) ∙ e)

  made : eqb k i ≡ true → p' ≡ noted i (ready.Link k r w d) port
  made here =
      is ∙ ap (λ (q : Port). record q { may_read = q.may_read || r || d; may_write = q.may_write || w }) (mine here)
      ∙ ap (λ (b : Bool). record port { may_read = b; may_write = port.may_write || w }) (spread port.may_read)
      ∙ ap (λ (b : Bool). record port { may_read = port.may_read || cond b (r || d) false; may_write = port.may_write || cond b w false }) (sym here) where
        spread : (a : Bool) → (a || r || d) ≡ (a || (r || d))
        spread true = refl
        spread false = refl

  at : (here : Bool) → eqb k i ≡ here → (slice_get zs i ≡ Some (Some (noted i (ready.Link k r w d) port))) ⊎ ((slice_get zs i ≡ Some None) × (has_left port.left ≡ false))
  at here e' = by here e' settled where
    by : (here : Bool) → eqb k i ≡ here → IsSettled h m xs k p' h' m' zs → (slice_get zs i ≡ Some (Some (noted i (ready.Link k r w d) port))) ⊎ ((slice_get zs i ≡ Some None) × (has_left port.left ≡ false))
    by true on (inl put) = inl (ap (λ (ws : Slots). slice_get ws i) put.2 ∙ ap (λ (j : ℕ). slice_get (set xs k (Some p')) j) (sym (eqb-true k i on)) ∙ slot_now xs k (Some p) (Some p') there ∙ ap (λ (q : Port). Some (Some q)) (made on))
    by false on (inl put) = inl (ap (λ (ws : Slots). slice_get ws i) put.2 ∙ slot_other xs k (Some p) (Some p') i there on ∙ e ∙ ap (λ (q : Port). Some (Some q)) (sym (unnoted on)))
    by true on (inr gone) = inr (ap (λ (ws : Slots). slice_get ws i) gone.2 ∙ ap (λ (j : ℕ). slice_get (set xs k None) j) (sym (eqb-true k i on)) ∙ slot_now xs k (Some p) None there, ap (λ (q : Port). has_left q.left) (sym (mine on)) ∙ ap (λ (q : Port). has_left q.left) (sym is) ∙ unleft h k p' gone.0.done)
    by false on (inr gone) = inl (ap (λ (ws : Slots). slice_get ws i) gone.2 ∙ slot_other xs k (Some p) None i there on ∙ e ∙ ap (λ (q : Port). Some (Some q)) (sym (unnoted on)))

-- ---- one thing after another is told

pub hears_nothing : (t : Told) (xs : Slots) → Hears t t xs xs false
hears_nothing t xs = record { heard = []; more = tells_nothing t; noted = notes_nothing xs; listener = refl }

pub hears_more : (t₀ t₁ t₂ : Told) (xs ys zs : Slots) (told told' : Bool) (r : Ready) → OnlyCloses ys zs → Hears t₀ t₁ xs ys told → TellsAlso t₁ t₂ (r ∷ []) → NotesAll (r ∷ []) ys zs → told' ≡ (told || is_listener r) → Hears t₀ t₂ xs zs told'
hears_more t₀ t₁ t₂ xs ys zs told told' r closes h more notes is = record {
  heard = h.heard ++ r ∷ [];
  more = tells_both t₀ t₁ t₂ h.heard (r ∷ []) h.more more;
  noted = notes_both h.heard (r ∷ []) xs ys zs closes.closed h.noted notes;
  listener = told_one is_listener h.heard r told h.listener ∙ sym is;
}

-- ---- a round

-- who may be read, or written, has its place among the ports, and work
placed : (zs : Slots) (i : ℕ) (q : Port) (test : Port → Bool) → test new_port ≡ false → port_at zs i ≡ Some q → test q ≡ true → slice_get zs i ≡ Some (Some q)
placed zs i q test quiet e on = at (slice_get zs i) e where
  at : (s : Option (Option Port)) → unwrap_or s (Some new_port) ≡ Some q → s ≡ Some (Some q)
  at None f = let same : new_port ≡ q = cc in let wrong : false ≡ true = sym quiet ∙ ap test same ∙ on in absurd cc
  at (Some None) f = absurd cc
  at (Some (Some p)) f = ap (λ (x : Option Port). Some x) f

read_works : (p : Port) → may_be_read p ≡ true → has_work p ≡ true
read_works p may = at p.ending p.may_read p.is_full p.left may where
  at : (ending : Option Ending) (may_read full : Bool) (left : Option (List ℕ)) → (is_none ending && (may_read && (not full && is_all left))) ≡ true → has_work_left (record p { ending = ending; may_read = may_read; is_full = full }) left ≡ true
  at None true false (Some []) e = refl
  at None true false (Some (b ∷ bytes)) e = absurd cc
  at None true false None e = absurd cc
  at None true true left e = absurd cc
  at None false full left e = absurd cc
  at (Some x) may_read full left e = absurd cc

written_works : (p : Port) → may_be_written p ≡ true → has_work p ≡ true
written_works p may = at p.may_write p.left may where
  at : (may_write : Bool) (left : Option (List ℕ)) → (may_write && has_left left) ≡ true → has_work_left (record p { may_write = may_write }) left ≡ true
  at true (Some (b ∷ bytes)) e = refl
  at true (Some []) e = absurd cc
  at true None e = absurd cc
  at false left e = absurd cc

-- who has work gets a turn
has_turn : (zs : Slots) (queued : List Bool) (turns next : List ℕ) (i : ℕ) (q : Port) → EachIsQueued zs queued turns next → turns ≡ [] → slice_get zs i ≡ Some (Some q) → has_work q ≡ true → stands_in i next ≡ true
has_turn zs queued turns next i q each none there works = ap (λ (ns : List ℕ). stands_in i ns || stands_in i next) (sym none) ∙ each.listed i (each.working i q there works)

out_of_turn : {A : Type 0} (i : ℕ) (ns : List ℕ) → stands_in i ns ≡ true → stands_in i ns ≡ false → A
out_of_turn i ns e f = let wrong : true ≡ false = sym e ∙ f in absurd cc

record Round (m₀ m₁ m₂ m₃ m₄ : Moves) (ys zs ws vs : Slots) (queued : List Bool) (turns next : List ℕ) : Type 0 where
  before : List Moved
  begun : GoOn m₀ m₁ before
  accepted : Asks [] m₁ m₂ (port_at ys) (port_at zs)
  each : EachIsQueued zs queued turns next
  none : turns ≡ []
  turned : Asks next m₂ m₃ (port_at zs) (port_at ws)
  answered : Refuses m₃ m₄ (port_at ws) (port_at vs)
  ended : (i : ℕ) → unfed_of (port_at ws i) ≡ None → unfed_of (port_at vs i) ≡ None

all_moved : (m₀ m₁ m₂ m₃ m₄ : Moves) (ys zs ws vs : Slots) (queued : List Bool) (turns next : List ℕ) → Round m₀ m₁ m₂ m₃ m₄ ys zs ws vs queued turns next → List Moved
all_moved m₀ m₁ m₂ m₃ m₄ ys zs ws vs queued turns next r = r.before ++ (r.accepted.moved ++ (r.turned.moved ++ r.answered.moved))

round_reads : (m₀ m₁ m₂ m₃ m₄ : Moves) (ys zs ws vs : Slots) (queued : List Bool) (turns next : List ℕ) (r : Round m₀ m₁ m₂ m₃ m₄ ys zs ws vs queued turns next) (i : ℕ) (q : Port) → slice_get ys i ≡ Some (Some q) → may_be_read q ≡ true → IsServed i (all_moved m₀ m₁ m₂ m₃ m₄ ys zs ws vs queued turns next r) (port_at vs i)
unfolding all_moved
round_reads m₀ m₁ m₂ m₃ m₄ ys zs ws vs queued turns next r i q there may = served_second i r.before (r.accepted.moved ++ (r.turned.moved ++ r.answered.moved)) (port_at vs i) (first (r.accepted.asked i q (ap (λ (s : Option (Option Port)). unwrap_or s (Some new_port)) there) may)) where
  last : IsServed i r.turned.moved (port_at ws i) → IsServed i (r.accepted.moved ++ (r.turned.moved ++ r.answered.moved)) (port_at vs i)
  last served = served_second i r.accepted.moved (r.turned.moved ++ r.answered.moved) (port_at vs i) (served_first i r.turned.moved r.answered.moved (port_at ws i) (port_at vs i) (r.ended i) served)

  first : IsServed i r.accepted.moved (port_at zs i) ⊎ (IsStillRead (port_at zs i) × (stands_in i [] ≡ false)) → IsServed i (r.accepted.moved ++ (r.turned.moved ++ r.answered.moved)) (port_at vs i)
  first (inl served) = served_first i r.accepted.moved (r.turned.moved ++ r.answered.moved) (port_at zs i) (port_at vs i) (λ over. r.ended i (r.turned.ended i over)) served
  first (inr still) = then (r.turned.asked i still.0.0 still.0.1.0 still.0.1.1) where
    then : IsServed i r.turned.moved (port_at ws i) ⊎ (IsStillRead (port_at ws i) × (stands_in i next ≡ false)) → IsServed i (r.accepted.moved ++ (r.turned.moved ++ r.answered.moved)) (port_at vs i)
    then (inl served) = last served
    then (inr idle) = out_of_turn i next (has_turn zs queued turns next i still.0.0 r.each r.none (placed zs i still.0.0 may_be_read refl still.0.1.0 still.0.1.1) (read_works still.0.0 still.0.1.1)) idle.1

round_writes : (m₀ m₁ m₂ m₃ m₄ : Moves) (ys zs ws vs : Slots) (queued : List Bool) (turns next : List ℕ) (r : Round m₀ m₁ m₂ m₃ m₄ ys zs ws vs queued turns next) (i : ℕ) (q : Port) → slice_get ys i ≡ Some (Some q) → may_be_written q ≡ true → IsOffered i (all_moved m₀ m₁ m₂ m₃ m₄ ys zs ws vs queued turns next r) q
unfolding all_moved
round_writes m₀ m₁ m₂ m₃ m₄ ys zs ws vs queued turns next r i q there may = offered_second i r.before (r.accepted.moved ++ (r.turned.moved ++ r.answered.moved)) q q refl (first (r.accepted.offered i q (ap (λ (s : Option (Option Port)). unwrap_or s (Some new_port)) there) may)) where
  first : IsOffered i r.accepted.moved q ⊎ (IsStillWritten q (port_at zs i) × (stands_in i [] ≡ false)) → IsOffered i (r.accepted.moved ++ (r.turned.moved ++ r.answered.moved)) q
  first (inl on) = offered_first i r.accepted.moved (r.turned.moved ++ r.answered.moved) q on
  first (inr still) = then (r.turned.offered i still.0.0 still.0.1.0 still.0.1.1.0) where
    then : IsOffered i r.turned.moved still.0.0 ⊎ (IsStillWritten still.0.0 (port_at ws i) × (stands_in i next ≡ false)) → IsOffered i (r.accepted.moved ++ (r.turned.moved ++ r.answered.moved)) q
    then (inl on) = offered_second i r.accepted.moved (r.turned.moved ++ r.answered.moved) q still.0.0 still.0.1.1.1 (offered_first i r.turned.moved r.answered.moved still.0.0 on)
    then (inr idle) = out_of_turn i next (has_turn zs queued turns next i still.0.0 r.each r.none (placed zs i still.0.0 may_be_written refl still.0.1.0 still.0.1.1.0) (written_works still.0.0 still.0.1.1.0)) idle.1

pub hears_all : (t₀ t₁ t₄ : Told) (m₀ m₁ m₂ m₃ m₄ : Moves) (xs ys zs ws vs : Slots) (queued : List Bool) (turns next : List ℕ) (is_told may' : Bool) (b : Bounds) (pausing : Option ErrorKind) (before : List Moved)
    → Hears t₀ t₁ xs ys is_told → t₄ ≡ t₁ → GoOn m₀ m₁ before → Asks [] m₁ m₂ (port_at ys) (port_at zs) → EachIsQueued zs queued turns next → turns ≡ [] → Asks next m₂ m₃ (port_at zs) (port_at ws) → Refuses m₃ m₄ (port_at ws) (port_at vs)
    → ((i : ℕ) → unfed_of (port_at ws i) ≡ None → unfed_of (port_at vs i) ≡ None) → Listens b is_told m₀ m₄ xs vs may' pausing → HearsAll t₀ t₄ m₀ m₄ xs vs may'
unfolding all_moved
hears_all t₀ t₁ t₄ m₀ m₁ m₂ m₃ m₄ xs ys zs ws vs queued turns next is_told may' b pausing before h same begun accepted each none turned answered ended l =
    let r : Round m₀ m₁ m₂ m₃ m₄ ys zs ws vs queued turns next = record { before = before; begun = begun; accepted = accepted; each = each; none = none; turned = turned; answered = answered; ended = ended } in
    record {
      heard = h.heard;
      more = subst (λ (t : Told). TellsAlso t₀ t h.heard) (sym same) h.more;
      moved = before ++ (accepted.moved ++ (turned.moved ++ answered.moved));
      went = go_both m₀ m₁ m₄ before (accepted.moved ++ (turned.moved ++ answered.moved)) begun (go_both m₁ m₂ m₄ accepted.moved (turned.moved ++ answered.moved) accepted.went (go_both m₂ m₃ m₄ turned.moved answered.moved turned.went answered.went));
      listener = λ told off. (l.moved, (l.went, l.stops (sym h.listener ∙ told) off));
      readable = λ i port told there may. reads r i port told may (h.noted i port there);
      writable = λ i port told there left. writes r i port told left (h.noted i port there);
    } where
      reads : (r : Round m₀ m₁ m₂ m₃ m₄ ys zs ws vs queued turns next) (i : ℕ) (port : Port) → tells (can_be_read i) h.heard ≡ true → readable port ≡ true → (slice_get ys i ≡ Some (Some (noted_all i h.heard port))) ⊎ ((slice_get ys i ≡ Some None) × (has_left port.left ≡ false)) → IsServed i (all_moved m₀ m₁ m₂ m₃ m₄ ys zs ws vs queued turns next r) (port_at vs i)
      reads r i port told may (inl there) = round_reads m₀ m₁ m₂ m₃ m₄ ys zs ws vs queued turns next r i (noted_all i h.heard port) there (told_read i h.heard port told may)
      reads r i port told may (inr gone) = inr (inr (r.ended i (r.turned.ended i (r.accepted.ended i (ap (λ (s : Option (Option Port)). unfed_of (unwrap_or s (Some new_port))) gone.0)))))

      writes : (r : Round m₀ m₁ m₂ m₃ m₄ ys zs ws vs queued turns next) (i : ℕ) (port : Port) → tells (can_be_written i) h.heard ≡ true → has_left port.left ≡ true → (slice_get ys i ≡ Some (Some (noted_all i h.heard port))) ⊎ ((slice_get ys i ≡ Some None) × (has_left port.left ≡ false)) → IsOffered i (all_moved m₀ m₁ m₂ m₃ m₄ ys zs ws vs queued turns next r) port
      writes r i port told left (inl there) = ap (λ (x : Option (List ℕ)). is_offered i (how_many_left x) (all_moved m₀ m₁ m₂ m₃ m₄ ys zs ws vs queued turns next r)) (sym (left_noted i h.heard port)) ∙ round_writes m₀ m₁ m₂ m₃ m₄ ys zs ws vs queued turns next r i (noted_all i h.heard port) there (told_written i h.heard port told left)
      writes r i port told left (inr gone) = let wrong : true ≡ false = sym left ∙ gone.1 in absurd cc
