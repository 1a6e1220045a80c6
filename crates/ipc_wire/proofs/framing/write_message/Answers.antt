use Rattle.ipc_fields.proofs.FramingLemmas.{put_first}
use Rattle.ipc_wire.proofs.framing.write_message.Goals as goal

pub returns-clause-spelled : goal.returns-clause-spelled
returns-clause-spelled g c = put_first _ _ _ c.in_ok-frame.ensures.items c.in_ok-put_message.ensures.put
