-- What links and doors in memory hold, and when their calls fail.
use Rattle.std.specs.Prelude.{◌≡◌, ℕ, ◌+◌, ◌-◌, ◌<◌, min, List, [], ◌∷◌, map, drop, length, Some}
use Rattle.std.specs.Prelude.{None}
use Rattle.std.specs.VecDeque.{deque_items}
use Rattle.flux_outside.specs.Calls.{no_calls, one_more, IsToFail}
use Rattle.flux_outside.specs.InMemory.{sink_bytes, SinkTakes, SinkWasCalled}
use Rattle.flux_outside.specs.declared.memory.MemorySink.{MemorySink}
use Rattle.flux_doors.specs.Seen.{SeenLink, SeenDoor}
use Rattle.flux_doors.specs.declared.memory_links.MemoryLink.{MemoryLink}
use Rattle.flux_doors.specs.declared.memory_doors.MemoryDoor.{MemoryDoor}

-- ---- the link

-- the bytes left to read
abbrev pub link_left : MemoryLink → List ℕ
link_left link = drop link.given link.input

-- all bytes that its sink took
abbrev pub link_written : MemoryLink → List ℕ
link_written link = sink_bytes link.written

-- all is reported; before the first read, those that are left were left before it
abbrev pub link_seen : MemoryLink → SeenLink
link_seen link = record {
  had = Some link.input;
  left = Some (link_left link);
  left_before = Some (drop link.given_before link.input);
  stream = record { written = Some (link_written link); faults = link.faults };
}

-- a new link has these pieces, this sink and these failing reads, and wasn't read yet
abbrev pub IsNewLink : MemoryLink → ℕ → MemorySink → List ℕ → Type 0
IsNewLink link piece written fails =
    (link.piece ≡ piece) × (link.written ≡ written) × (link.calls ≡ no_calls fails)

-- how many bytes it gives into so much room
abbrev pub piece_left : MemoryLink → ℕ → ℕ
piece_left link room = min (min (length (link_left link)) link.piece) room

-- its next read isn't to fail
abbrev pub LinkReads : MemoryLink → Type 0
LinkReads link = IsToFail link.calls → ⊥

-- one read on, with the same pieces and sink
abbrev pub LinkWasRead : MemoryLink → MemoryLink → Type 0
LinkWasRead before after =
    (after.piece ≡ before.piece) × (after.written ≡ before.written)
    × (after.calls ≡ one_more before.calls)

-- its sink takes a piece of so many bytes
abbrev pub LinkWrites : MemoryLink → ℕ → Type 0
LinkWrites link count = SinkTakes link.written count

-- one write on, with the same input and reads
abbrev pub LinkWasWritten : MemoryLink → MemoryLink → Type 0
LinkWasWritten before after =
    (after.input ≡ before.input) × (after.given ≡ before.given)
    × (after.given_before ≡ before.given_before) × (after.piece ≡ before.piece)
    × (after.calls ≡ before.calls) × SinkWasCalled before.written after.written

-- ---- the door

-- the links to come: what is left of the batch that has begun, and the batches after it
abbrev pub door_links : MemoryDoor → List (List MemoryLink)
door_links door = door.begun.items ∷ map deque_items door.later.items

-- the links taken back
abbrev pub door_back : MemoryDoor → List MemoryLink
door_back door = door.back.items

-- how many links are out
abbrev pub door_out : MemoryDoor → ℕ
door_out door = door.out

-- all is reported
abbrev pub door_seen : MemoryDoor → SeenDoor MemoryLink
door_seen door = record {
  to_come = Some (door_links door);
  taken_back = Some (door_back door);
  open_at = door.port;
  faults = door.faults;
  late = door.late;
}

-- a new door has none taken back and none out, isn't open, has these failing calls, and wasn't
-- called yet
abbrev pub IsNewDoor : MemoryDoor → List ℕ → Type 0
IsNewDoor door fails =
    (door_back door ≡ []) × (door.port ≡ None) × (door_out door ≡ 0)
    × (door.faults ≡ 0) × (door.late ≡ 0) × (door.calls ≡ no_calls fails)

-- its next call is to fail
abbrev pub DoorIsToFail : MemoryDoor → Type 0
DoorIsToFail door = IsToFail door.calls

-- one call on
abbrev pub DoorWasCalled : MemoryDoor → MemoryDoor → Type 0
DoorWasCalled before after = after.calls ≡ one_more before.calls
