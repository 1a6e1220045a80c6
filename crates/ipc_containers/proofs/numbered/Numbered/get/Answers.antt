use Rattle.std.proofs.Common.{◌∙◌, sym, arith}
use Rattle.ipc_containers.proofs.NumbersLemmas.{recent_at, value_at, under}
use Rattle.ipc_containers.proofs.numbered.Numbered.get.Goals as goal

pub returns-in-Some : goal.returns-in-Some
returns-in-Some g c =
    let inside = c.self.inside in
    let low = c.in-Some.ensures.0 in
    let slot = c.in-Some.ensures.1 in
    rw (← c.self.view_is) (c.get.ensures ∙ sym (recent_at inside.older inside.recent inside.base c.in-Some.slot c.args.number (omega arith)))

pub returns-in-None : goal.returns-in-None
returns-in-None g c =
    let inside = c.self.inside in
    rw (← c.self.view_is) (c.get-in-None.ensures.value ∙ sym (value_at inside.older inside.recent inside.base c.args.number (under c.args.number inside.base c.in-None.ensures)))
