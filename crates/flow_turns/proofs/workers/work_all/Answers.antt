use denote.Param.Send.{sendable}
use Rattle.std.proofs.Crossing.{sync as heap_sync}
use Rattle.flow_turns.proofs.Crossing.{seat_send, hall_sync}
use Rattle.flow_turns.proofs.workers.work_all.Goals as goal

pub map_vec-ended-requires-send-J : goal.map_vec-ended-requires-send-J
map_vec-ended-requires-send-J g c κs within = search (seat_send, sendable) depth 60

pub map_vec-ended-requires-sync-F : goal.map_vec-ended-requires-sync-F
map_vec-ended-requires-sync-F g c κs within = search (hall_sync, heap_sync, sendable) depth 60
