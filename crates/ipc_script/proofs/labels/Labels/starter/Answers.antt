use Rattle.std.proofs.Common.{rules, arith, ◌≡◌, ◌∙◌, sym, ap, Some, None, slice_get}
use Rattle.std.proofs.lemmas.Option.{gets}
use Rattle.std.proofs.lemmas.Grind.{common_steps}
use Rattle.std.specs.Option.{option_map}
use Rattle.ipc_script.proofs.LabelMapsLemmas.{starter_at}
use Rattle.ipc_script.proofs.labels.Labels.starter.Goals as goal

pub returns-in_err-place : goal.returns-in_err-place
returns-in_err-place c = rw (← c.self.view_is, starter_at c.self.inside.newest _ _ c.args.sid None c.self.invariant c.in_err-place.ensures.value) (search rules)

pub returns : goal.returns
returns c =
    let here : slice_get c.self.inside.started.items c.in_ok-place.field-0.now ≡ Some c.in_ok-started.started.now = grind (arith, common_steps, gets) in
    rw (← c.self.view_is) (ap Some c.as_str.ensures ∙ sym (starter_at c.self.inside.newest _ _ c.args.sid _ c.self.invariant c.in_ok-place.ensures.value ∙ ap (option_map (λ s. s.label)) here))
