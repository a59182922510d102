-- A seat may cross threads, and a hall is shared by them.
use denote.RattleType.{RattleType}
use denote.Param.Send.{IsSend, IsSync, sendable, view_sync}
use denote.Param.SendFields.{declared_sync}
use Rattle.std.proofs.Crossing.{send as heap_send, sync as heap_sync, crosses}
use Rattle.flux_values.specs.declared.meanings.Meaning as meaning
use Rattle.flow_core.specs.contracts.cores.Core as core
use Rattle.flow_core.proofs.Crossing.{core_send}
use Rattle.flux_library.specs.declared.libraries.Library as library
use Rattle.flow_hall.specs.contracts.seats.HallSeat as seats
use Rattle.std.specs.contracts.option.Option as option
use Rattle.flow_hall.specs.contracts.halls.Hall as halls
use Rattle.flow_hall.specs.contracts.halls.Hall.TheInside as hall_fields
use Rattle.atomic_table.proofs.shared.Shared.TheSendSync.{the_sync as shared_sync}
use Rattle.atomic_table.proofs.send_lease.SendLease.TheSendSync.{the_sync as lease_sync}
use Rattle.atomic_table.proofs.shared.Seat.TheSendSync.{the_send as table_send}

pub seat_send : (L : RattleType) (l : library.Ghosts L.Denot) (m : meaning.Ghosts L.Denot) → IsSend L → IsSync L
    → IsSend (seats.the_row L l m)
seat_send L l m send sync = search (core_send, table_send, sendable) depth 80

pub hall_sync : (L : RattleType) (l : library.Ghosts L.Denot) (m : meaning.Ghosts L.Denot) → IsSend L → IsSync L
    → IsSync (halls.the_row L l m)
hall_sync L l m send sync = by (search (core_send, sendable) depth 40)
  where
    by : IsSend (option.the_row (core.the_row L m)) → IsSync (halls.the_row L l m)
    by slot = view_sync (hall_fields.the_row L l m) _ _ _ _ (declared_sync (hall_fields.the_type L l m) (
      search (shared_sync, lease_sync, heap_sync, heap_send, crosses, sendable) depth 80 fits 100000,
      tt,
    ))
