use Rattle.std.proofs.Common.{◌∙◌, refl}
use Rattle.ipc_sockets.proofs.ListenerLemmas.{same_greetings}
use Rattle.ipc_sockets.proofs.listeners.Listeners.set.Goals as goal

pub returns-clause-same : goal.returns-clause-same
returns-clause-same c = same_greetings c.self.inside.places.items c.args.index c.in-Some.place.now _ c.in-Some.ensures.value refl ∙ c.self.view_is
