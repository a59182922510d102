use denote.Param.Send.{sendable}
use Rattle.std.proofs.Crossing.{crosses}
use Rattle.rt_pool.proofs.Crossing.{office_sync}
use Rattle.rt_pool.proofs.pool.round.Goals as goal

pub share-requires-send-W : goal.share-requires-send-W
share-requires-send-W g c κs within = search (crosses, sendable) depth 60

pub share-requires-sync-S : goal.share-requires-sync-S
share-requires-sync-S g c κs within = search (office_sync, sendable) depth 60
