-- What the workers share may be used by all of them.
use denote.Param.Send.{IsSend, IsSync, sendable}
use Rattle.std.proofs.Crossing.{send as heap_send, sync as heap_sync, crosses}
use Rattle.flow_queue.proofs.queues.FlowQueue.TheSendSync.{the_send as queue_send}
use Rattle.flow_queue.specs.contracts.passes.QueuePass as passes
use Rattle.atomic_table.proofs.shared.Seat.TheSendSync.{the_send as table_send}
use Rattle.rt_pool.specs.contracts.desks.Desk as desks
use Rattle.rt_pool.specs.contracts.workers.Office as offices

pass_send : IsSend passes.the_row
pass_send = search (table_send, sendable) depth 60

desk_send : IsSend desks.the_row
desk_send = search (queue_send, pass_send, heap_send, crosses, sendable) depth 80

pub office_sync : IsSync offices.the_row
office_sync = search (desk_send, heap_sync, crosses, sendable) depth 80
