use denote.Param.Send.{sendable}
use Rattle.rt_event.proofs.Crossing.{part_send, bells_sync}
use Rattle.rt_event.proofs.shifts.shift.Goals as goal

pub share-requires-send-W : goal.share-requires-send-W
share-requires-send-W g c κs within = search (part_send, sendable) depth 40

pub share-requires-sync-S : goal.share-requires-sync-S
share-requires-sync-S g c κs within = search (bells_sync, sendable) depth 60
