-- Sizes as they are counted: past the limit, any size is one more than it.
use Rattle.std.specs.Prelude.{◌≡◌, ℕ, ◌+◌, min, List}
use Rattle.std.specs.List.{slice_get}
use Rattle.std.specs.Option.{unwrap_or}
use Rattle.flux_model.specs.declared.programs.Node.{Node}
use Rattle.flux_model.specs.declared.programs.SourceLine.{SourceLine}
use Rattle.flux_model.specs.Locks.{Holds}
use Rattle.flux_model.specs.Sizes.{size_of}

-- the most that the sizes of a program's sources sum to
abbrev pub size_limit : ℕ
size_limit = 65536

abbrev pub capped : ℕ → ℕ
capped size = min size (size_limit + 1)

-- the size at a node's number; what is no node has none
abbrev pub size_at : List ℕ → ℕ → ℕ
size_at sizes number = unwrap_or (slice_get sizes number) 0

-- the sizes of all nodes that hold these locks, as they are counted
abbrev pub AreCounted : List Node → Holds → List ℕ → Type 0
AreCounted nodes locks sizes =
    (number : ℕ) → size_at sizes number ≡ capped (size_of locks nodes number)

-- a source line's size by those of nodes
abbrev pub counted_source : List ℕ → SourceLine → ℕ
counted_source sizes line = capped (size_at sizes line.target.0 + 1)
