-- Journals whose entries have ticks.
use Rattle.std.specs.Prelude.{ℕ, ◌-◌, ◌==◌, nat_le, Bool, if◌then◌else◌, List, [], ◌∷◌, length, unwrap_or}
use Rattle.std.specs.List.{slice_get}
use Rattle.flow_model.specs.declared.journals.Entry.{Entry}

-- entries, each with its tick
abbrev pub Timed : Type 0
Timed = List (ℕ × Entry)

-- a journal with a list of as many ticks
abbrev pub timed : List ℕ → List Entry → Timed
timed [] entries = []
timed (tick ∷ at) [] = []
timed (tick ∷ at) (entry ∷ entries) = (tick, entry) ∷ timed at entries

-- the entries whose ticks pass a test
abbrev pub chosen : (ℕ → Bool) → Timed → List Entry
chosen test [] = []
chosen test (one ∷ journal) =
    if test one.0 then one.1 ∷ chosen test journal else chosen test journal

-- what was done up to a tick, and that tick included; what was done at a tick
abbrev pub until : ℕ → Timed → List Entry
until tick journal = chosen (λ at. nat_le at tick) journal

abbrev pub at_tick : ℕ → Timed → List Entry
at_tick tick journal = chosen (λ at. at == tick) journal

-- the last of some ticks; where there are none, 0
abbrev pub last_tick : List ℕ → ℕ
last_tick at = unwrap_or (slice_get at (length at - 1)) 0
