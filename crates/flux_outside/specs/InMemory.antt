-- What a sink and a store in memory hold, and when their calls fail.
use Rattle.std.specs.Prelude.{◌≡◌, ℕ, ◌+◌, ◌≤◌, min, List, length, Option, Some}
use Rattle.flux_outside.specs.Streams.{Stream}
use Rattle.flux_outside.specs.Calls.{no_calls, one_more, IsToFail}
use Rattle.flux_outside.specs.declared.memory.MemorySink.{MemorySink}
use Rattle.flux_outside.specs.declared.memory.MemoryStore.{MemoryStore}
use Rattle.flux_outside.specs.Memory.{first_of}

-- ---- the sink

-- all bytes that it took
abbrev pub sink_bytes : MemorySink → List ℕ
sink_bytes sink = sink.written.items

-- these are reported, and so is its count of faults
abbrev pub sink_seen : MemorySink → Stream
sink_seen sink = record { written = Some (sink_bytes sink); faults = sink.faults }

-- a new sink has this room, these pieces and failing calls, and was not called yet
abbrev pub IsNewSink : MemorySink → ℕ → ℕ → List ℕ → Type 0
IsNewSink sink room piece fails =
    (sink.room ≡ room) × (sink.piece ≡ piece) × (sink.calls ≡ no_calls fails)

-- the same room and pieces, one call on
abbrev pub SinkWasCalled : MemorySink → MemorySink → Type 0
SinkWasCalled before after =
    (after.room ≡ before.room) × (after.piece ≡ before.piece) × (after.calls ≡ one_more before.calls)

-- how many bytes of so many it takes a call
abbrev pub piece_of : MemorySink → ℕ → ℕ
piece_of sink count = min count sink.piece

-- its next call takes a piece of so many bytes: it isn't to fail, and there is room for the piece
abbrev pub SinkTakes : MemorySink → ℕ → Type 0
SinkTakes sink count =
    (IsToFail sink.calls → ⊥) × (length sink.written.items + piece_of sink count ≤ sink.room)

-- ---- the store

-- its files, what it was asked for, and its count of faults
abbrev pub store_files : MemoryStore → List ℕ → Option (List ℕ)
store_files store = first_of store.files

abbrev pub store_asked : MemoryStore → List (List ℕ)
store_asked store = store.asked.names

abbrev pub store_faults : MemoryStore → ℕ
store_faults store = store.faults

-- a new store has these failing calls, and was not called yet
abbrev pub IsNewStore : MemoryStore → List ℕ → Type 0
IsNewStore store fails = store.calls ≡ no_calls fails

-- one call on
abbrev pub StoreWasCalled : MemoryStore → MemoryStore → Type 0
StoreWasCalled before after = after.calls ≡ one_more before.calls

-- its next call is to fail
abbrev pub StoreIsToFail : MemoryStore → Type 0
StoreIsToFail store = IsToFail store.calls
