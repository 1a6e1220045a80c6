use Rattle.std.proofs.Common.{ap, ◌∙◌}
use Rattle.std.specs.List.{list_any}
use Rattle.std.specs.Str.{bytes_eq}
use Rattle.ipc_access.proofs.PlaceLemmas.{text_pushed}
use Rattle.ipc_access.proofs.places.Texts.push.Goals as goal

pub returns : goal.returns
returns c = rw (← c.self.view_is) (text_pushed c.args.text.now c.self.inside.texts.keys c.insert.new.self.keys c.in_ok-from_slice.field-0 c.in_ok-from_slice.ensures.items (ap (list_any (bytes_eq c.args.text.now)) c.self.view_is ∙ c.requires) c.in_ok-insert.ensures.keys)
