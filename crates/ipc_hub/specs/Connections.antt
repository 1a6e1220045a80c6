-- What is seen of a connection as it is kept: one that is over keeps no bytes.
use Rattle.std.specs.Prelude.{true, false, [], Some, None}
use Rattle.ipc_hub.specs.declared.connection.Stage.{Stage}
use Rattle.ipc_hub.specs.declared.connection.Stage.TheVariants.{Open, Ended, Refused, Closed}
use Rattle.ipc_hub.specs.Hub.{Connection}

abbrev pub seen : Stage → Connection
seen (Open x) = record { kept = x.value.kept; session = x.value.session; has_refusal = false; is_over = false }
seen (Ended sid) = record { kept = []; session = Some sid; has_refusal = false; is_over = true }
seen Refused = record { kept = []; session = None; has_refusal = true; is_over = true }
seen Closed = record { kept = []; session = None; has_refusal = false; is_over = true }
