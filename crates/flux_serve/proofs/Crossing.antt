-- A queue with its seat may cross threads, and what the seats are of is shared by them.
use denote.RattleType.{RattleType}
use denote.Param.Send.{IsSend, IsSync, sendable, view_sync}
use denote.Param.SendFields.{declared_send, declared_sync}
use Rattle.std.proofs.Crossing.{send as heap_send, sync as heap_sync, crosses}
use Rattle.flux_values.specs.declared.meanings.Meaning as meaning
use Rattle.flow_core.specs.contracts.cores.Core as core
use Rattle.flow_core.proofs.Crossing.{core_send}
use Rattle.flux_library.specs.declared.libraries.Library as library
use Rattle.flow_shared.specs.contracts.seats.SharedSeat as seats
use Rattle.std.specs.contracts.option.Option as option
use Rattle.flow_shared.specs.contracts.shared.Shared as shareds
use Rattle.flow_shared.specs.contracts.shared.Shared.TheInside as shared_fields
use Rattle.atomic_table.proofs.shared.Shared.TheSendSync.{the_sync as shared_sync}
use Rattle.atomic_table.proofs.send_lease.SendLease.TheSendSync.{the_sync as lease_sync}
use Rattle.atomic_table.proofs.shared.Seat.TheSendSync.{the_send as table_send}
use Rattle.flux_serve.specs.contracts.replies.PendingReply as replies
use Rattle.flux_serve.specs.contracts.queues.WorkerQueue as queues

pub seat_send : (L : RattleType) (l : library.Ghosts L.Denot) (m : meaning.Ghosts L.Denot) → IsSend L → IsSync L
    → IsSend (seats.the_row L l m)
seat_send L l m send sync = search (core_send, table_send, sendable) depth 80

pub all_sync : (L : RattleType) (l : library.Ghosts L.Denot) (m : meaning.Ghosts L.Denot) → IsSend L → IsSync L
    → IsSync (shareds.the_row L l m)
all_sync L l m send sync = by (search (core_send, sendable) depth 40)
  where
    by : IsSend (option.the_row (core.the_row L m)) → IsSync (shareds.the_row L l m)
    by slot = view_sync (shared_fields.the_row L l m) _ _ _ _ (declared_sync (shared_fields.the_type L l m) (
      search (shared_sync, lease_sync, heap_sync, heap_send, crosses, sendable) depth 80 fits 100000,
      tt,
    ))

reply_send : (K : RattleType) → IsSend K → IsSend (replies.the_row K)
reply_send K send = search (crosses, sendable) depth 80

pub queue_send : (S K : RattleType) → IsSend S → IsSend K → IsSend (queues.the_row S K)
queue_send S K seat link = declared_send (queues.the_type S K) (
  search sendable depth 40,
  (search (reply_send, crosses, sendable) depth 40, tt),
)
