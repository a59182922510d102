use denote.Param.Send.{sendable}
use Rattle.std.proofs.Crossing.{sync as heap_sync, crosses}
use Rattle.rt_perflow.proofs.leaves.group.Goals as goal

pub share-requires-send-W : goal.share-requires-send-W
share-requires-send-W g c κs within = search (crosses, sendable) depth 40

pub share-requires-sync-S : goal.share-requires-sync-S
share-requires-sync-S g c κs within = search (heap_sync, crosses, sendable) depth 60
