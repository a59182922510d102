-- A part may cross threads, and what the parts share may be used by all of them.
use denote.Param.Send.{IsSend, IsSync, sendable}
use Rattle.std.proofs.Crossing.{send as heap_send, sync as heap_sync, crosses}
use Rattle.rt_event.specs.contracts.bells.Board as boards
use Rattle.rt_event.specs.contracts.bells.Bells as bells
use Rattle.rt_event.specs.contracts.parts.Part as parts

pub part_send : IsSend parts.the_row
part_send = search (crosses, sendable) depth 80

board_sync : IsSync boards.the_row
board_sync = search (heap_send, heap_sync, crosses, sendable) depth 80

pub bells_sync : IsSync bells.the_row
bells_sync = search (board_sync, heap_sync, crosses, sendable) depth 80
