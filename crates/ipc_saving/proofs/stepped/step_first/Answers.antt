use Rattle.ipc_saving.proofs.stepped.step_first.Goals as goal

pub step_noting-requires : goal.step_noting-requires
step_noting-requires c = c.new-senders.ensures c.in_ok-past.past.history
