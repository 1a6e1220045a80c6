use Rattle.std.proofs.Common.{◌≡◌, ap, sym, ◌∙◌, true, false, le-leb}
use Rattle.std.proofs.lemmas.Bool.{lt-leb}
use Rattle.std.specs.Option.{option_map}
use Rattle.std.specs.List.{list_any}
use Rattle.ipc_containers.specs.declared.timed.Timed.{Timed}
use Rattle.ipc_containers.specs.Calls.{is_over}
use Rattle.ipc_containers.proofs.CallsLemmas.{found_left, found_right}
use Rattle.ipc_containers.proofs.tree.Tree.+due.Goals as goal

pub returns-then-least-moment : goal.returns-then-least-moment
returns-then-least-moment t c =
    let over : list_any (is_over c.args.moment) c.in-Fork.left.value ≡ true = rw (← c.deref.ensures) (sym (c.least.ensures.least c.args.moment) ∙ le-leb _ _ c.if-least-moment.true) in
    c.due.ensures ∙ rw (c.deref-then-least-moment.ensures, ← c.self.view_is, c.in-Fork.is) (ap (option_map (λ (call : Timed). call.session)) (sym (found_left (is_over c.args.moment) c.in-Fork.left.value c.in-Fork.right.value over)))

pub returns-else-least-moment : goal.returns-else-least-moment
returns-else-least-moment t c =
    let none : list_any (is_over c.args.moment) c.in-Fork.left.value ≡ false = rw (← c.deref.ensures) (sym (c.least.ensures.least c.args.moment) ∙ lt-leb _ _ c.if-least-moment.false) in
    c.due-else-least-moment.ensures ∙ rw (c.deref-else-least-moment.ensures, ← c.self.view_is, c.in-Fork.is) (ap (option_map (λ (call : Timed). call.session)) (sym (found_right (is_over c.args.moment) c.in-Fork.left.value c.in-Fork.right.value none)))
