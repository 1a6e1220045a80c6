use Rattle.std.proofs.Common.{sym, ◌∙◌}
use Rattle.ipc_access.proofs.PlaceLemmas.{text_among}
use Rattle.ipc_access.proofs.places.Texts.has.Goals as goal

pub returns : goal.returns
returns c = rw (← c.self.view_is) (c.contains.ensures ∙ sym (text_among c.args.text.now c.self.inside.texts.keys))
