use Rattle.ipc_saving.proofs.comparing.compare.Goals as goal

pub step_noting-requires : goal.step_noting-requires
step_noting-requires g c = c.new-senders.ensures c.in_ok-past.past.history
