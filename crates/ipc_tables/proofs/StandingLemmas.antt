-- What holds of the tables between calls, after each kind of change.
use Rattle.std.proofs.Common.{◌≡◌, Bool, true, false, cond, ℕ, ◌+◌, ◌==◌, ◌||◌, List, [], ◌∷◌, ◌++◌, Option, Some, None, refl, sym, ap, ◌∙◌, arith, find, filter, map, is_some, length, count_by, if◌then◌else◌}
use Rattle.std.specs.List.{AllByRecursion, list_any}
use Rattle.std.specs.Option.{option_map, option_and_then}
use Rattle.std.proofs.lemmas.Bool.{or_left, or_right, eq-eqb}
use Rattle.std.proofs.lemmas.Bool.Decides.{nat_tests}
use Rattle.std.proofs.lemmas.List.Sums.{sum_by_push}
use Rattle.ipc_terms.specs.Lists.{changed, changed_first}
use Rattle.ipc_terms.specs.declared.binding.Binding.{Binding}
use Rattle.ipc_terms.specs.declared.facts.Facts.{Facts}
use Rattle.ipc_terms.specs.declared.ids.Desc.{Desc}
use Rattle.ipc_terms.specs.declared.ids.Sid.{Sid}
use Rattle.ipc_terms.specs.Names.{same_name}
use Rattle.ipc_names.specs.Directory.{Directory, object_named, names_object}
use Rattle.ipc_queue.specs.declared.queue.Ticket.{Ticket}
use Rattle.ipc_queue.specs.declared.queue.ParkedSend.{ParkedSend}
use Rattle.ipc_queue.specs.Tickets.{Tickets, is_full_of, with_sender, with_ticket, sent, sent_to, received, received_by, admitted, withdrawn, without_registration, with_registration, next_ticket, without_next}
use Rattle.ipc_sem.specs.Counters.{Counter}
use Rattle.ipc_descr.specs.declared.row.Row.{Row}
use Rattle.ipc_descr.specs.Descriptions.{is_desc, is_to, is_open, with_nonblock, with_session}
use Rattle.ipc_containers.specs.Slots.{at as slot_at}
use Rattle.ipc_tables.specs.declared.objects.Objects.{Objects}
use Rattle.ipc_tables.specs.declared.rows.Body.{Body}
use Rattle.ipc_tables.specs.declared.rows.Body.TheVariants.{Queue as QueueBody, Semaphore as SemaphoreBody}
use Rattle.ipc_tables.specs.declared.rows.ObjectRow.{ObjectRow}
use Rattle.ipc_tables.specs.declared.tables.Tables.TheInside.{Inside}
use Rattle.ipc_tables.specs.Objects.{is_number, is_queue, queue_in, registered_in, with_body, with_counter, with_queue, with_semaphore, with_facts, with_withdrawal, without_call, held_by, with_held}
use Rattle.ipc_tables.specs.TablesView.{is_alive, is_kept}
use Rattle.ipc_tables.specs.Lending.{HasRows}
use Rattle.ipc_tables.specs.Standing.{rows_in, rows_of, IsCounted, BoundOnce, IsOwn, IsStanding}
use Rattle.ipc_tables.proofs.Numbering.{set_numbered, sum_changed, numbered_last, rows_last}
use Rattle.ipc_tables.proofs.Touching.{all_mapped, all_filtered, names_equal}
use Rattle.ipc_tables.proofs.Narrowing.{released_none, released}

-- ---- a row changes

-- what the row of a slot is set to
pub record Sets (o : ℕ) (row next : ObjectRow) (slots after : List (Option ObjectRow)) : Type 0 where
  pub there : slot_at slots o ≡ Some row
  pub sets : after ≡ changed (λ slot. Some next) slots o

set_count : (o : ℕ) (row next : ObjectRow) (slots : List (Option ObjectRow)) → slot_at slots o ≡ Some row → is_queue next ≡ is_queue row → count_by is_queue (rows_of (changed (λ slot. Some next) slots o)) ≡ count_by is_queue (rows_of slots)
set_count o row next slots there same =
    let weight : ObjectRow → ℕ = λ r. cond (is_queue r) 1 0 in
    let sums = sum_changed weight (Some next) row slots o there in
    let alike : weight next ≡ weight row = ap (λ b. cond b 1 0) same in
    omega arith

pub counted_still : (o : ℕ) (row next : ObjectRow) (objects after : Objects) → next.number ≡ row.number → is_queue next ≡ is_queue row → Sets o row next objects.rows after.rows → after.queue_count ≡ objects.queue_count → IsCounted objects → IsCounted after
counted_still o row next objects after number kind set count is = record {
  numbered = rw set.sets (set_numbered 0 o row next objects.rows set.there number is.numbered);
  counted = rw set.sets (count ∙ is.counted ∙ sym (set_count o row next objects.rows set.there kind));
}

-- the object keeps its number, and what is registered there is its own still
pub record Keeps (rows : List Row) (o : ℕ) (change : ObjectRow → ObjectRow) : Type 0 where
  pub number : (row : ObjectRow) → (change row).number ≡ row.number
  pub own : (row : ObjectRow) → row.number ≡ o → IsOwn rows row → IsOwn rows (change row)

changed_by_test : (P : ObjectRow → Type 0) (o : ℕ) (change : ObjectRow → ObjectRow) (row : ObjectRow) (rows : List ObjectRow) (b : Bool) → (row.number == o) ≡ b → (row.number ≡ o → P row → P (change row)) → AllByRecursion P (row ∷ rows) → AllByRecursion P (changed_first (is_number o) change rows) → AllByRecursion P (cond b (change row ∷ rows) (row ∷ changed_first (is_number o) change rows))
changed_by_test P o change row rows true is keeps all rest = let same : row.number ≡ o = grind (arith, nat_tests) in (keeps same all.0, all.1)
changed_by_test P o change row rows false is keeps all rest = (all.0, rest)

all_changed : (P : ObjectRow → Type 0) (o : ℕ) (change : ObjectRow → ObjectRow) (rows : List ObjectRow) → ((row : ObjectRow) → row.number ≡ o → P row → P (change row)) → AllByRecursion P rows → AllByRecursion P (changed_first (is_number o) change rows)
all_changed P o change [] keeps all = all
all_changed P o change (row ∷ rows) keeps all = changed_by_test P o change row rows (is_number o row) refl (keeps row) all (all_changed P o change rows keeps all.1)

-- so all stands as it did
pub changed_stands : (inside : Inside) (o : ℕ) (change : ObjectRow → ObjectRow) (after : Objects) → Keeps inside.descriptions.rows o change → HasRows (changed_first (is_number o) change (rows_in inside.objects)) inside.objects after → IsStanding inside.queues inside.semaphores inside.descriptions.rows inside.objects → IsStanding inside.queues inside.semaphores inside.descriptions.rows after
changed_stands inside o change after keeps has is = record {
  counted = has.counted;
  queue_names = is.queue_names;
  semaphore_names = is.semaphore_names;
  kept = rw (has.rows_are) (all_changed (λ r. is_kept inside.queues inside.semaphores inside.descriptions.rows r ≡ true) o change (rows_in inside.objects) (λ row same k. ap (is_alive inside.queues inside.semaphores inside.descriptions.rows) (keeps.number row) ∙ k) is.kept);
  own = rw (has.rows_are) (all_changed (IsOwn inside.descriptions.rows) o change (rows_in inside.objects) keeps.own is.own);
}

-- and where no row changed
pub unchanged_stands : (inside : Inside) (after : Objects) → HasRows (rows_in inside.objects) inside.objects after → IsStanding inside.queues inside.semaphores inside.descriptions.rows inside.objects → IsStanding inside.queues inside.semaphores inside.descriptions.rows after
unchanged_stands inside after has is = record {
  counted = has.counted;
  queue_names = is.queue_names;
  semaphore_names = is.semaphore_names;
  kept = rw (has.rows_are) is.kept;
  own = rw (has.rows_are) is.own;
}

-- a queue that changes: its registration stays, or is gone
tame_body : (change : Tickets → Tickets) (body : Body) → ((q : Tickets) (desc : Desc) → (change q).registered ≡ Some desc → q.registered ≡ Some desc) → (desc : Desc) → registered_in (with_body change body) ≡ Some desc → registered_in body ≡ Some desc
tame_body change (QueueBody q) stays desc e = stays q desc e
tame_body change (SemaphoreBody q) stays desc e = e

keeps_queue : (rows : List Row) (o : ℕ) (change : Tickets → Tickets) → ((q : Tickets) (desc : Desc) → (change q).registered ≡ Some desc → q.registered ≡ Some desc) → Keeps rows o (with_queue change)
keeps_queue rows o change stays = record { number = λ row. refl; own = λ row same own desc e. own desc (tame_body change row.body stays desc e) }

tame_counter : (change : Counter → Counter) (body : Body) (desc : Desc) → registered_in (with_counter change body) ≡ Some desc → registered_in body ≡ Some desc
tame_counter change (QueueBody q) desc e = e
tame_counter change (SemaphoreBody q) desc e = e

-- a semaphore that changes
pub keeps_semaphore : (rows : List Row) (o : ℕ) (change : Counter → Counter) → Keeps rows o (with_semaphore change)
keeps_semaphore rows o change = record { number = λ row. refl; own = λ row same own desc e. own desc (tame_counter change row.body desc e) }

pub keeps_facts : (rows : List Row) (o : ℕ) (facts : Facts) → Keeps rows o (with_facts facts)
keeps_facts rows o facts = record { number = λ row. refl; own = λ row same own. own }

-- a send
sent_by_tests : (ticket : Ticket) (who : Sid) (q : Tickets) (desc : Desc) (full none : Bool) → (if full then with_sender (record { ticket = ticket; session = who }) q else with_ticket ticket (record q { registered = if none then None else q.registered })).registered ≡ Some desc → q.registered ≡ Some desc
sent_by_tests ticket who q desc true none e = e
sent_by_tests ticket who q desc false true e = cc
sent_by_tests ticket who q desc false false e = e

sent_by : (ticket : Ticket) (who : Sid) (q : Tickets) (desc : Desc) (receivers : List Sid) → (sent_to ticket who q receivers).registered ≡ Some desc → q.registered ≡ Some desc
sent_by ticket who q desc [] e = sent_by_tests ticket who q desc (is_full_of q) (length q.tickets == 0) e
sent_by ticket who q desc (receiver ∷ others) e = e

sent_registered : (ticket : Ticket) (who : Sid) (q : Tickets) (desc : Desc) → (sent ticket who q).registered ≡ Some desc → q.registered ≡ Some desc
unfolding sent
sent_registered ticket who q desc e = sent_by ticket who q desc q.receivers e

pub keeps_send : (rows : List Row) (o : ℕ) (ticket : Ticket) (who : Sid) → Keeps rows o (with_queue (sent ticket who))
keeps_send rows o ticket who = keeps_queue rows o (sent ticket who) (sent_registered ticket who)

-- a receive
admitted_registered : (q : Tickets) (senders : List ParkedSend) → (admitted q senders).registered ≡ q.registered
admitted_registered q [] = refl
admitted_registered q (sender ∷ others) = refl

received_by_next : (who : Sid) (q : Tickets) (next : Option Ticket) → (received_by who q next).registered ≡ q.registered
received_by_next who q None = refl
received_by_next who q (Some next) = admitted_registered (record q { tickets = without_next q.tickets }) q.senders

received_registered : (who : Sid) (q : Tickets) (desc : Desc) → (received who q).registered ≡ Some desc → q.registered ≡ Some desc
unfolding received
received_registered who q desc e = sym (received_by_next who q (next_ticket q.tickets)) ∙ e

pub keeps_receive : (rows : List Row) (o : ℕ) (who : Sid) → Keeps rows o (with_queue (received who))
keeps_receive rows o who = keeps_queue rows o (received who) (received_registered who)

-- a withdrawal
withdrawn_registered : (who : Sid) (q : Tickets) (desc : Desc) → (withdrawn who q).registered ≡ Some desc → q.registered ≡ Some desc
unfolding withdrawn
withdrawn_registered who q desc e = e

withdrawn_body : (who : Sid) (body : Body) (desc : Desc) → registered_in (without_call who body) ≡ Some desc → registered_in body ≡ Some desc
withdrawn_body who (QueueBody q) desc e = withdrawn_registered who q desc e
withdrawn_body who (SemaphoreBody q) desc e = e

pub withdrawn_kind : (who : Sid) (body : Body) → is_some (queue_in (without_call who body)) ≡ is_some (queue_in body)
withdrawn_kind who (QueueBody q) = refl
withdrawn_kind who (SemaphoreBody q) = refl

pub keeps_withdrawal : (rows : List Row) (o : ℕ) (who : Sid) → Keeps rows o (with_withdrawal who)
keeps_withdrawal rows o who = record { number = λ row. refl; own = λ row same own desc e. own desc (withdrawn_body who row.body desc e) }

-- a registration less
abbrev left_of : Bool → Desc → Option Desc
left_of true other = None
left_of false other = Some other

taken_back : (q : Tickets) (other : Desc) (b : Bool) → (if b then record q { registered = None } else record q { registered = Some other }).registered ≡ left_of b other
taken_back q other true = refl
taken_back q other false = refl

unregistered_is : (gone : Desc) (q : Tickets) (w : Option Desc) → q.registered ≡ w → (without_registration gone q).registered ≡ option_and_then (λ other. left_of (other.0 == gone.0) other) w
unfolding without_registration
unregistered_is gone q None is = rw is refl
unregistered_is gone q (Some other) is = rw is (taken_back q other (other.0 == gone.0))

left_by_test : (b : Bool) (other desc : Desc) → left_of b other ≡ Some desc → Some other ≡ Some desc
left_by_test true other desc e = cc
left_by_test false other desc e = e

left_some : (gone : Desc) (w : Option Desc) (desc : Desc) → option_and_then (λ other. left_of (other.0 == gone.0) other) w ≡ Some desc → w ≡ Some desc
left_some gone None desc e = cc
left_some gone (Some other) desc e = left_by_test (other.0 == gone.0) other desc e

unregistered_registered : (gone : Desc) (q : Tickets) (desc : Desc) → (without_registration gone q).registered ≡ Some desc → q.registered ≡ Some desc
unregistered_registered gone q desc e = left_some gone q.registered desc (sym (unregistered_is gone q q.registered refl) ∙ e)

keeps_unregistered : (rows : List Row) (o : ℕ) (gone : Desc) → Keeps rows o (with_queue (without_registration gone))
keeps_unregistered rows o gone = keeps_queue rows o (without_registration gone) (unregistered_registered gone)

-- ---- a registration more

abbrev first_of : Option Desc → Desc → Desc
first_of None desc = desc
first_of (Some other) desc = other

registered_is : (desc : Desc) (q : Tickets) (w : Option Desc) → q.registered ≡ w → (with_registration desc q).registered ≡ Some (first_of w desc)
unfolding with_registration
registered_is desc q None is = rw is refl
registered_is desc q (Some other) is = rw is refl

-- what holds of the registration that was there, and of the new one, holds of the one that is there
own_first : (Own : Desc → Type 0) (desc d : Desc) (w : Option Desc) → ((other : Desc) → w ≡ Some other → Own other) → Own desc → Some (first_of w desc) ≡ Some d → Own d
own_first Own desc d None own new e = let same : desc ≡ d = cc in rw (← same) new
own_first Own desc d (Some other) own new e = let same : other ≡ d = cc in rw (← same) (own other refl)

own_body : (Own : Desc → Type 0) (desc : Desc) (body : Body) → ((other : Desc) → registered_in body ≡ Some other → Own other) → Own desc → (d : Desc) → registered_in (with_body (with_registration desc) body) ≡ Some d → Own d
own_body Own desc (QueueBody q) own new d e = own_first Own desc d q.registered own new (sym (registered_is desc q q.registered refl) ∙ e)
own_body Own desc (SemaphoreBody q) own new d e = cc

keeps_registration : (rows : List Row) (o : ℕ) (desc : Desc) → option_map (λ r. r.object) (find (is_desc desc.0) rows) ≡ Some o → Keeps rows o (with_queue (with_registration desc))
keeps_registration rows o desc gives = record {
  number = λ row. refl;
  own = λ row same own d e. own_body (λ x. option_map (λ r. r.object) (find (is_desc x.0) rows) ≡ Some row.number) desc row.body own (gives ∙ ap Some (sym same)) d e;
}

-- registered, or taken back
abbrev pub registered_by : Desc → Bool → Tickets → Tickets
registered_by desc true = with_registration desc
registered_by desc false = without_registration desc

pub keeps_registered : (rows : List Row) (o : ℕ) (desc : Desc) (on : Bool) → (on ≡ true → option_map (λ r. r.object) (find (is_desc desc.0) rows) ≡ Some o) → Keeps rows o (with_queue (registered_by desc on))
keeps_registered rows o desc true gives = keeps_registration rows o desc (gives refl)
keeps_registered rows o desc false gives = keeps_unregistered rows o desc

-- ---- a description or a name more

any_by : (a b c : Bool) → (a || b) ≡ true → (b ≡ true → c ≡ true) → (a || c) ≡ true
any_by true b c e f = refl
any_by false b c e f = f e

any_more : {X : Type 0} (q : X → Bool) (xs : List X) (x : X) → list_any q xs ≡ true → list_any q (xs ++ x ∷ []) ≡ true
any_more q [] x e = cc
any_more q (y ∷ ys) x e = any_by (q y) (list_any q ys) (list_any q (ys ++ x ∷ [])) e (any_more q ys x)

pub any_last : {X : Type 0} (q : X → Bool) (xs : List X) (x : X) → q x ≡ true → list_any q (xs ++ x ∷ []) ≡ true
any_last q [] x e = or_left (q x) false e
any_last q (y ∷ ys) x e = or_right (q y) (list_any q (ys ++ x ∷ [])) (any_last q ys x e)

more_by_test : {X Y : Type 0} (f : X → Y) (y : Y) (b : Bool) (first : X) (found found' : Option X) → option_map f (cond b (Some first) found) ≡ Some y → (option_map f found ≡ Some y → option_map f found' ≡ Some y) → option_map f (cond b (Some first) found') ≡ Some y
more_by_test f y true first found found' e rest = e
more_by_test f y false first found found' e rest = rest e

found_more : {X Y : Type 0} (f : X → Y) (q : X → Bool) (xs : List X) (x : X) (y : Y) → option_map f (find q xs) ≡ Some y → option_map f (find q (xs ++ x ∷ [])) ≡ Some y
found_more f q [] x y e = cc
found_more f q (first ∷ xs) x y e = more_by_test f y (q first) first (find q xs) (find q (xs ++ x ∷ [])) e (found_more f q xs x y)

-- the descriptions that there are now give what was given
pub record Wider (rows more : List Row) : Type 0 where
  pub opens : (o : ℕ) → is_open rows o ≡ true → is_open more o ≡ true
  pub gives : (d o : ℕ) → option_map (λ r. r.object) (find (is_desc d) rows) ≡ Some o → option_map (λ r. r.object) (find (is_desc d) more) ≡ Some o

pub wider_opened : (rows : List Row) (row : Row) → Wider rows (rows ++ row ∷ [])
wider_opened rows row = record { opens = λ o e. any_more (is_to o) rows row e; gives = λ d o e. found_more (λ r. r.object) (is_desc d) rows row o e }

-- a change that leaves a row its description and its object
pub record Same (change : Row → Row) : Type 0 where
  pub desc : (row : Row) → (change row).desc ≡ row.desc
  pub object : (row : Row) → (change row).object ≡ row.object

-- a description that changes so gives what it gave
open_by_test : (d o : ℕ) (change : Row → Row) → Same change → (row : Row) (rows : List Row) (b : Bool) → is_open (changed_first (is_desc d) change rows) o ≡ is_open rows o → list_any (is_to o) (cond b (change row ∷ rows) (row ∷ changed_first (is_desc d) change rows)) ≡ is_open (row ∷ rows) o
open_by_test d o change same row rows true rest = ap (λ n. (n == o) || is_open rows o) (same.object row)
open_by_test d o change same row rows false rest = ap (λ c. is_to o row || c) rest

open_set : (d o : ℕ) (change : Row → Row) → Same change → (rows : List Row) → is_open (changed_first (is_desc d) change rows) o ≡ is_open rows o
open_set d o change same [] = refl
open_set d o change same (row ∷ rows) = open_by_test d o change same row rows (is_desc d row) (open_set d o change same rows)

gives_same : (change : Row → Row) → Same change → (e : ℕ) (row : Row) (found : Option Row) → option_map (λ r. r.object) (cond (is_desc e (change row)) (Some (change row)) found) ≡ option_map (λ r. r.object) (cond (is_desc e row) (Some row) found)
gives_same change same e row found = ap (λ (n : Desc). option_map (λ (r : Row). r.object) (cond (e == n.0) (Some (change row)) found)) (same.desc row) ∙ at (is_desc e row) where
  at : (c : Bool) → option_map (λ (r : Row). r.object) (cond c (Some (change row)) found) ≡ option_map (λ (r : Row). r.object) (cond c (Some row) found)
  at true = ap Some (same.object row)
  at false = refl

gives_other : (c : Bool) (row : Row) (found found' : Option Row) → option_map (λ r. r.object) found' ≡ option_map (λ r. r.object) found → option_map (λ r. r.object) (cond c (Some row) found') ≡ option_map (λ r. r.object) (cond c (Some row) found)
gives_other true row found found' e = refl
gives_other false row found found' e = e

gives_by_test : (d e : ℕ) (change : Row → Row) → Same change → (row : Row) (rows : List Row) (b : Bool) → option_map (λ r. r.object) (find (is_desc e) (changed_first (is_desc d) change rows)) ≡ option_map (λ r. r.object) (find (is_desc e) rows) → option_map (λ r. r.object) (find (is_desc e) (cond b (change row ∷ rows) (row ∷ changed_first (is_desc d) change rows))) ≡ option_map (λ r. r.object) (find (is_desc e) (row ∷ rows))
gives_by_test d e change same row rows true rest = gives_same change same e row (find (is_desc e) rows)
gives_by_test d e change same row rows false rest = gives_other (is_desc e row) row (find (is_desc e) rows) (find (is_desc e) (changed_first (is_desc d) change rows)) rest

gives_set : (d e : ℕ) (change : Row → Row) → Same change → (rows : List Row) → option_map (λ r. r.object) (find (is_desc e) (changed_first (is_desc d) change rows)) ≡ option_map (λ r. r.object) (find (is_desc e) rows)
gives_set d e change same [] = refl
gives_set d e change same (row ∷ rows) = gives_by_test d e change same row rows (is_desc d row) (gives_set d e change same rows)

wider_changed : (d : ℕ) (change : Row → Row) → Same change → (rows : List Row) → Wider rows (changed_first (is_desc d) change rows)
wider_changed d change same rows = record { opens = λ o e. open_set d o change same rows ∙ e; gives = λ e o k. gives_set d e change same rows ∙ k }

pub wider_set : (d : ℕ) (to : Bool) (rows : List Row) → Wider rows (changed_first (is_desc d) (with_nonblock to) rows)
wider_set d to rows = wider_changed d (with_nonblock to) (record { desc = λ row. refl; object = λ row. refl }) rows

pub wider_passed : (d : ℕ) (taker : Sid) (rows : List Row) → Wider rows (changed_first (is_desc d) (with_session taker) rows)
wider_passed d taker rows = wider_changed d (with_session taker) (record { desc = λ row. refl; object = λ row. refl }) rows

alive_by : (a b c d : Bool) → (c ≡ true → d ≡ true) → (a || b || c) ≡ true → (a || b || d) ≡ true
alive_by true b c d f e = refl
alive_by false true c d f e = refl
alive_by false false c d f e = f e

named_by : (a b c d e : Bool) → (a ≡ true → d ≡ true) → (b ≡ true → e ≡ true) → (a || b || c) ≡ true → (d || e || c) ≡ true
named_by true b c d e f g k = let is : d ≡ true = f refl in rw is refl
named_by false true c d e f g k = let is : e ≡ true = g refl in rw is (either d)
  where
    either : (d : Bool) → (d || true || c) ≡ true
    either true = refl
    either false = refl
named_by false false c d e f g k = let is : c ≡ true = k in rw is (either d e)
  where
    either : (d e : Bool) → (d || e || true) ≡ true
    either true e = refl
    either false true = refl
    either false false = refl

pub wider_stands : (queues semaphores : Directory) (rows more : List Row) (objects : Objects) → Wider rows more → IsStanding queues semaphores rows objects → IsStanding queues semaphores more objects
wider_stands queues semaphores rows more objects wider is = record {
  counted = is.counted;
  queue_names = is.queue_names;
  semaphore_names = is.semaphore_names;
  kept = all_mapped (λ row. is_kept queues semaphores rows row ≡ true) (λ row. is_kept queues semaphores more row ≡ true) (rows_in objects) (λ row e. alive_by (names_object queues.bindings row.number) (names_object semaphores.bindings row.number) (is_open rows row.number) (is_open more row.number) (wider.opens row.number) e) is.kept;
  own = all_mapped (IsOwn rows) (IsOwn more) (rows_in objects) (λ row own desc e. wider.gives desc.0 row.number (own desc e)) is.own;
}

-- one name more
names_apart : (a b : List ℕ) → same_name a b ≡ false → same_name b a ≡ false
names_apart a b e = at (same_name b a) refl where
  at : (c : Bool) → same_name b a ≡ c → c ≡ false
  at true k = let same : b ≡ a = names_equal b a k in sym (rw same at k) ∙ (rw same at e)
  at false k = refl

none_by_test : (name : List ℕ) (o : ℕ) (b : Bool) (first : Binding) (found found' : Option Binding) → option_map (λ (x : Binding). x.object) (cond b (Some first) found) ≡ None → (option_map (λ (x : Binding). x.object) found ≡ None → option_map (λ (x : Binding). x.object) found' ≡ None) → option_map (λ (x : Binding). x.object) (cond b (Some first) found') ≡ None
none_by_test name o true first found found' e rest = cc
none_by_test name o false first found found' e rest = rest e

unbound_last : (name other : List ℕ) (o : ℕ) (bindings : List Binding) → same_name name other ≡ false → object_named bindings other ≡ None → object_named (bindings ++ record { name = name; object = o } ∷ []) other ≡ None
unbound_last name other o [] apart e = rw apart refl
unbound_last name other o (first ∷ bindings) apart e = none_by_test other o (same_name first.name other) first (find (λ x. same_name x.name other) bindings) (find (λ x. same_name x.name other) (bindings ++ record { name = name; object = o } ∷ [])) e (unbound_last name other o bindings apart)

head_apart : (b : Bool) (first : Binding) (found : Option Binding) → option_map (λ (x : Binding). x.object) (cond b (Some first) found) ≡ None → b ≡ false
head_apart true first found e = cc
head_apart false first found e = refl

tail_unbound : (b : Bool) (first : Binding) (found : Option Binding) → option_map (λ (x : Binding). x.object) (cond b (Some first) found) ≡ None → option_map (λ (x : Binding). x.object) found ≡ None
tail_unbound true first found e = cc
tail_unbound false first found e = e

pub once_bound : (name : List ℕ) (o : ℕ) (bindings : List Binding) → BoundOnce bindings → object_named bindings name ≡ None → BoundOnce (bindings ++ record { name = name; object = o } ∷ [])
once_bound name o [] once e = (refl, tt)
once_bound name o (first ∷ bindings) once e =
    let apart = head_apart (same_name first.name name) first (find (λ x. same_name x.name name) bindings) e in
    let later = tail_unbound (same_name first.name name) first (find (λ x. same_name x.name name) bindings) e in
    (unbound_last name first.name o bindings (names_apart first.name name apart) once.0, once_bound name o bindings once.1 later)

-- the directories that there are now name what was named
pub record Names (directory more : Directory) : Type 0 where
  pub once : BoundOnce more.bindings
  pub names : (o : ℕ) → names_object directory.bindings o ≡ true → names_object more.bindings o ≡ true

pub names_bound : (name : List ℕ) (o : ℕ) (directory : Directory) → BoundOnce directory.bindings → object_named directory.bindings name ≡ None → Names directory (record directory { bindings = directory.bindings ++ record { name = name; object = o } ∷ [] })
names_bound name o directory once e = record { once = once_bound name o directory.bindings once e; names = λ n k. any_more (λ b. b.object == n) directory.bindings (record { name = name; object = o }) k }

pub names_same : (directory : Directory) → BoundOnce directory.bindings → Names directory directory
names_same directory once = record { once = once; names = λ n k. k }

pub named_stands : (queues semaphores queues' semaphores' : Directory) (rows : List Row) (objects : Objects) → Names queues queues' → Names semaphores semaphores' → IsStanding queues semaphores rows objects → IsStanding queues' semaphores' rows objects
named_stands queues semaphores queues' semaphores' rows objects one two is = record {
  counted = is.counted;
  queue_names = one.once;
  semaphore_names = two.once;
  kept = all_mapped (λ row. is_kept queues semaphores rows row ≡ true) (λ row. is_kept queues' semaphores' rows row ≡ true) (rows_in objects) (λ row e. named_by (names_object queues.bindings row.number) (names_object semaphores.bindings row.number) (is_open rows row.number) (names_object queues'.bindings row.number) (names_object semaphores'.bindings row.number) (one.names row.number) (two.names row.number) e) is.kept;
  own = is.own;
}

-- ---- an object more

-- the same rows, in other slots
pub same_stands : (queues semaphores : Directory) (rows : List Row) (objects after : Objects) → after.rows ≡ objects.rows → after.queue_count ≡ objects.queue_count → IsStanding queues semaphores rows objects → IsStanding queues semaphores rows after
same_stands queues semaphores rows objects after same count is = record {
  counted = record { numbered = rw same is.counted.numbered; counted = rw same (count ∙ is.counted.counted) };
  queue_names = is.queue_names;
  semaphore_names = is.semaphore_names;
  kept = rw same is.kept;
  own = rw same is.own;
}

all_last : {X : Type 0} (P : X → Type 0) (xs : List X) (x : X) → AllByRecursion P xs → P x → AllByRecursion P (xs ++ x ∷ [])
all_last P [] x all here = (here, tt)
all_last P (y ∷ ys) x all here = (all.0, all_last P ys x all.1 here)

-- what is added
pub record Adds (new : ObjectRow) (row : Row) (objects after : Objects) : Type 0 where
  pub number : new.number ≡ length objects.rows
  pub unregistered : registered_in new.body ≡ None
  pub gives : row.object ≡ length objects.rows
  pub slots : after.rows ≡ objects.rows ++ Some new ∷ []
  pub count : after.queue_count ≡ objects.queue_count + cond (is_queue new) 1 0

pub added_rows : (new : ObjectRow) (row : Row) (objects after : Objects) → Adds new row objects after → rows_in after ≡ rows_in objects ++ new ∷ []
added_rows new row objects after adds = ap rows_of adds.slots ∙ rows_last new objects.rows

added_counted : (new : ObjectRow) (row : Row) (objects after : Objects) → Adds new row objects after → IsCounted objects → IsCounted after
added_counted new row objects after adds is = record {
  numbered = rw adds.slots (numbered_last 0 new objects.rows is.numbered (let here : new.number ≡ length objects.rows = adds.number in omega arith));
  counted = adds.count ∙ ap (λ n. n + cond (is_queue new) 1 0) is.counted ∙ sym (sum_by_push (λ r. cond (is_queue r) 1 0) (rows_in objects) new) ∙ ap (count_by is_queue) (sym (added_rows new row objects after adds));
}

pub added_stands : (queues semaphores : Directory) (rows : List Row) (new : ObjectRow) (row : Row) (objects after : Objects) → Adds new row objects after → IsStanding queues semaphores rows objects → IsStanding queues semaphores (rows ++ row ∷ []) after
added_stands queues semaphores rows new row objects after adds is =
    let wider = wider_stands queues semaphores rows (rows ++ row ∷ []) objects (wider_opened rows row) is in
    let more = added_rows new row objects after adds in
    let opened : is_open (rows ++ row ∷ []) new.number ≡ true = any_last (is_to new.number) rows row (eq-eqb row.object new.number (adds.gives ∙ sym adds.number)) in
    record {
      counted = added_counted new row objects after adds is.counted;
      queue_names = is.queue_names;
      semaphore_names = is.semaphore_names;
      kept = rw more (all_last (λ r. is_kept queues semaphores (rows ++ row ∷ []) r ≡ true) (rows_in objects) new wider.kept (or_right (names_object queues.bindings new.number || names_object semaphores.bindings new.number) (is_open (rows ++ row ∷ []) new.number) opened));
      own = rw more (all_last (IsOwn (rows ++ row ∷ [])) (rows_in objects) new wider.own (λ desc e. let no : ◌≡◌ {A = Option Desc} None (Some desc) = sym adds.unregistered ∙ e in cc));
    }

-- the tables are as they were, in other fields
pub back_stands : (queues semaphores queues' semaphores' : Directory) (rows rows' : List Row) (objects objects' : Objects) → queues' ≡ queues → semaphores' ≡ semaphores → rows' ≡ rows → rows_in objects' ≡ rows_in objects → IsStanding queues semaphores rows objects → IsCounted objects' → IsStanding queues' semaphores' rows' objects'
back_stands queues semaphores queues' semaphores' rows rows' objects objects' one two three four is counted = record {
  counted = counted;
  queue_names = rw one is.queue_names;
  semaphore_names = rw two is.semaphore_names;
  kept = rw (one, two, three, four) is.kept;
  own = rw (three, four) is.own;
}

-- ---- what a call ends is gone

filter_passes_by_test : (keep : ObjectRow → Bool) (row : ObjectRow) (rest : List ObjectRow) (b : Bool) → keep row ≡ b → AllByRecursion (λ r. keep r ≡ true) rest → AllByRecursion (λ r. keep r ≡ true) (cond b (row ∷ rest) rest)
filter_passes_by_test keep row rest true is all = (is, all)
filter_passes_by_test keep row rest false is all = all

filter_passes : (keep : ObjectRow → Bool) (rows : List ObjectRow) → AllByRecursion (λ r. keep r ≡ true) (filter keep rows)
filter_passes keep [] = tt
filter_passes keep (row ∷ rows) = filter_passes_by_test keep row (filter keep rows) (keep row) refl (filter_passes keep rows)

all_of_map : {X Y : Type 0} (P : Y → Type 0) (f : X → Y) (xs : List X) → AllByRecursion (λ x. P (f x)) xs → AllByRecursion P (map f xs)
all_of_map P f [] all = tt
all_of_map P f (x ∷ xs) all = (all.0, all_of_map P f xs all.1)

-- what is registered once what is held no longer was released is held
pub held_registered : (rows : List Row) (row : ObjectRow) (desc : Desc) (w : Option Desc) → registered_in row.body ≡ w → registered_in (held_by rows row w).body ≡ Some desc → (registered_in row.body ≡ Some desc) × (is_some (find (is_desc desc.0) rows) ≡ true)
held_registered rows row desc None is e = absurd (let no : ◌≡◌ {A = Option Desc} None (Some desc) = sym is ∙ e in cc)
held_registered rows row desc (Some other) is e = at (is_some (find (is_desc other.0) rows)) refl e where
  at : (b : Bool) → is_some (find (is_desc other.0) rows) ≡ b → registered_in (cond b row (with_queue (without_registration other) row)).body ≡ Some desc → (registered_in row.body ≡ Some desc) × (is_some (find (is_desc desc.0) rows) ≡ true)
  at true there k = let same : other ≡ desc = let both : ◌≡◌ {A = Option Desc} (Some other) (Some desc) = sym is ∙ k in cc in (k, rw same at there)
  at false there k = absurd (let no : ◌≡◌ {A = Option Desc} None (Some desc) = sym (released_none other row.body is) ∙ k in cc)

found_object : (w v : Option Row) (n : ℕ) → is_some w ≡ true → ((r : Row) → w ≡ Some r → v ≡ Some r) → option_map (λ (r : Row). r.object) v ≡ Some n → option_map (λ (r : Row). r.object) w ≡ Some n
found_object None v n held same e = cc
found_object (Some r) v n held same e = ap (option_map (λ (x : Row). x.object)) (sym (same r refl)) ∙ e

-- of some descriptions these are left, each under its number
abbrev pub FoundBefore : List Row → List Row → Type 0
FoundBefore less more = (d : ℕ) (row : Row) → find (is_desc d) less ≡ Some row → find (is_desc d) more ≡ Some row

own_released : (less more : List Row) (row : ObjectRow) → FoundBefore less more → IsOwn more row → IsOwn less (with_held less row)
own_released less more row before own desc e =
    let is = held_registered less row desc (registered_in row.body) refl e in
    found_object (find (is_desc desc.0) less) (find (is_desc desc.0) more) row.number is.1 (before desc.0) (own desc is.0) ∙ ap Some (sym (released less row).number)

pub settled_stands : (queues semaphores : Directory) (less more : List Row) (objects after : Objects) → BoundOnce queues.bindings → BoundOnce semaphores.bindings → FoundBefore less more → IsCounted after → rows_in after ≡ map (with_held less) (filter (is_kept queues semaphores less) (rows_in objects)) → AllByRecursion (IsOwn more) (rows_in objects) → IsStanding queues semaphores less after
settled_stands queues semaphores less more objects after queue_names semaphore_names before counted same own = record {
  counted = counted;
  queue_names = queue_names;
  semaphore_names = semaphore_names;
  kept = rw same (all_of_map (λ row. is_kept queues semaphores less row ≡ true) (with_held less) (filter (is_kept queues semaphores less) (rows_in objects)) (all_mapped (λ row. is_kept queues semaphores less row ≡ true) (λ row. is_kept queues semaphores less (with_held less row) ≡ true) (filter (is_kept queues semaphores less) (rows_in objects)) (λ row e. ap (is_alive queues semaphores less) (released less row).number ∙ e) (filter_passes (is_kept queues semaphores less) (rows_in objects))));
  own = rw same (all_of_map (IsOwn less) (with_held less) (filter (is_kept queues semaphores less) (rows_in objects)) (all_mapped (IsOwn more) (λ row. IsOwn less (with_held less row)) (filter (is_kept queues semaphores less) (rows_in objects)) (λ row own. own_released less more row before own) (all_filtered (IsOwn more) (is_kept queues semaphores less) (rows_in objects) own)));
}
