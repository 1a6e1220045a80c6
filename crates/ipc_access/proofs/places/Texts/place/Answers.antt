use Rattle.std.proofs.Common.{sym, ◌∙◌}
use Rattle.ipc_access.proofs.PlaceLemmas.{text_place}
use Rattle.ipc_access.proofs.places.Texts.place.Goals as goal

pub returns : goal.returns
returns c = rw (← c.self.view_is) (c.get_index_of.ensures.index ∙ sym (text_place c.args.text.now c.self.inside.texts.keys))
