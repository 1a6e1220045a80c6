-- The tables after one of their objects was changed: what is seen of them, and that all stands as it did.
use Rattle.std.proofs.Common.{◌≡◌, ℕ, List, Result, Ok, Err, refl, sym, ap, subst, ◌∙◌}
use Rattle.std.specs.Prelude.{OnErr}
use Rattle.ipc_terms.specs.Lists.{changed_first}
use Rattle.ipc_tables.specs.contracts.tables.Tables.{the_view}
use Rattle.ipc_tables.specs.declared.objects.Objects.{Objects}
use Rattle.ipc_tables.specs.declared.rows.ObjectRow.{ObjectRow}
use Rattle.ipc_tables.specs.declared.rows.Session.{Session}
use Rattle.ipc_tables.specs.declared.tables.Tables.TheInside.{Inside}
use Rattle.ipc_tables.specs.Lending.{HasRows}
use Rattle.ipc_tables.specs.Objects.{is_number}
use Rattle.ipc_tables.specs.Standing.{rows_in, IsStanding}
use Rattle.ipc_tables.proofs.StandingLemmas.{Keeps, changed_stands}

-- the tables with other sessions and with these rows of objects
pub seen : (inside : Inside) (ss : List Session) (rows : List ObjectRow) (after : Objects) → HasRows rows inside.objects after → the_view (record inside { sessions = ss; objects = after }) ≡ record (the_view inside) { sessions = ss; objects = rows }
seen inside ss rows after has = rw (has.rows_are, has.created, has.charges) refl

-- where two paths meet: the tables have other objects, with these rows
pub record IsWritten (inside next : Inside) (rows : List ObjectRow) : Type 0 where
  pub rest : next ≡ record inside { objects = next.objects }
  pub has : HasRows rows inside.objects next.objects

pub written : (inside next : Inside) (rows : List ObjectRow) (after : Objects) → next ≡ record inside { objects = after } → HasRows rows inside.objects after → IsWritten inside next rows
written inside next rows after is has =
    let same : next.objects ≡ after = ap (λ (x : Inside). x.objects) is in
    record { rest = is ∙ ap (λ (x : Objects). record inside { objects = x }) (sym same); has = subst (HasRows rows inside.objects) (sym same) has }

pub seen_written : (inside next : Inside) (rows : List ObjectRow) → IsWritten inside next rows → the_view next ≡ record (the_view inside) { objects = rows }
seen_written inside next rows is = ap the_view is.rest ∙ seen inside inside.sessions rows next.objects is.has

-- and then other sessions
pub seen_parked : (inside next : Inside) (ss : List Session) (rows : List ObjectRow) → IsWritten inside next rows → the_view (record next { sessions = ss }) ≡ record (the_view inside) { sessions = ss; objects = rows }
seen_parked inside next ss rows is = ap (λ (x : Inside). the_view (record x { sessions = ss })) is.rest ∙ seen inside ss rows next.objects is.has

pub written_stands : (inside next : Inside) (o : ℕ) (change : ObjectRow → ObjectRow) → Keeps inside.descriptions.rows o change → IsWritten inside next (changed_first (is_number o) change (rows_in inside.objects)) → IsStanding inside.queues inside.semaphores inside.descriptions.rows inside.objects → IsStanding next.queues next.semaphores next.descriptions.rows next.objects
written_stands inside next o change keeps is stood = subst (λ (x : Inside). IsStanding x.queues x.semaphores x.descriptions.rows x.objects) (sym is.rest) (changed_stands inside o change next.objects keeps is.has stood)

-- what holds in any case holds on an error
pub on_err : {X E : Type 0} {P : Type 0} (r : Result X E) → P → OnErr r P
on_err (Ok x) p = tt
on_err (Err e) p = p
