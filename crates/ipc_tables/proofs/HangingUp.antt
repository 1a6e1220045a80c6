-- A hang-up closes what the session holds, one description after another.
use Rattle.std.proofs.Common.{◌≡◌, ℕ, List, None, refl, sym, ap, subst, ◌∙◌, map, find}
use Rattle.std.specs.Option.{option_map}
use Rattle.ipc_terms.specs.Lists.{changed}
use Rattle.ipc_descr.specs.declared.row.Row.{Row}
use Rattle.ipc_descr.specs.Descriptions.{is_of, without_desc, without_session}
use Rattle.ipc_descr.proofs.RowsLemmas.{none_left}
use Rattle.ipc_tables.specs.declared.rows.Session.{Session}
use Rattle.ipc_tables.specs.Objects.{with_held}
use Rattle.ipc_tables.specs.TablesView.{TablesView, is_kept}
use Rattle.ipc_tables.specs.Charging.{Covered}
use Rattle.ipc_tables.specs.Steps.{with_rows, hung_up, ended, after_close}
use Rattle.ipc_tables.proofs.CoveredCharges.{settled_covered}
use Rattle.ipc_tables.proofs.Narrowing.{narrowed, narrower_filtered}
use Rattle.ipc_tables.proofs.Settling.{AllKept, filter_all, settled_all}

-- the session is live no more, and of the descriptions these are left
abbrev pub closed_to : TablesView → ℕ → List Row → TablesView
closed_to t s rows = record (with_rows t rows) { sessions = changed hung_up t.sessions s }

-- at first all are left
pub begun : (t : TablesView) (s : ℕ) (ss : List Session) → AllKept (is_kept t.queues t.semaphores t.descriptions.rows) t.objects → t.objects ≡ map (with_held t.descriptions.rows) t.objects → ss ≡ changed hung_up t.sessions s → record t { sessions = ss } ≡ closed_to t s t.descriptions.rows
begun t s ss kept held is = rw (is, filter_all (is_kept t.queues t.semaphores t.descriptions.rows) t.objects kept, settled_all (is_kept t.queues t.semaphores t.descriptions.rows) t.objects t.charges kept, ← held) refl

-- one is closed
pub closed_more : (t now : TablesView) (s d : ℕ) → now ≡ closed_to t s now.descriptions.rows → after_close now s d ≡ closed_to t s (without_desc now.descriptions.rows s d)
closed_more t now s d is =
    ap (λ (x : TablesView). with_rows x (without_desc now.descriptions.rows s d)) is
    ∙ ap (λ (x : TablesView). record x { sessions = changed hung_up t.sessions s }) (narrowed t (without_desc now.descriptions.rows s d) now.descriptions.rows (narrower_filtered _ now.descriptions.rows))

pub closed_covered : (t now : TablesView) (s : ℕ) → Covered t.charges t.objects → now ≡ closed_to t s now.descriptions.rows → Covered now.charges now.objects
closed_covered t now s covered is = subst (λ (x : TablesView). Covered x.charges x.objects) (sym is) (settled_covered (is_kept t.queues t.semaphores now.descriptions.rows) now.descriptions.rows t.objects t.charges covered)

-- none is left of the session
pub all_closed : (t now : TablesView) (s : ℕ) → now ≡ closed_to t s now.descriptions.rows → without_session now.descriptions.rows s ≡ without_session t.descriptions.rows s → None ≡ option_map (λ row. row.desc) (find (is_of s) now.descriptions.rows) → now ≡ ended t s
all_closed t now s is others none = is ∙ ap (closed_to t s) (sym (none_left now.descriptions.rows s none) ∙ others)
