-- What is read of a file, where std says what the file has left.
use Rattle.std.specs.Prelude.{◌≡◌, ℕ, ◌≤◌, List, length, Option, Some, IfSome, Result, IfOk}
use Rattle.std.specs.Io.KnownBytes.{Consumes}
use Rattle.flux_outside.specs.Stores.{file_of}
use Rattle.flux_outside.specs.declared.stores.File.{File}

-- an answer is the one for all the bytes that were left
abbrev pub IsFileOf : {E : Type 0} → Option (List ℕ) → ℕ → Result File E → Type 0
IsFileOf left max result =
    IfSome left (λ bytes. IfOk result (λ file. file ≡ file_of (Some bytes) max))

-- at most so many of the bytes that were left are gone
abbrev pub TakesAtMost : ℕ → Option (List ℕ) → Option (List ℕ) → Type 0
TakesAtMost count before after =
    (taken : List ℕ) × Consumes before after taken × (length taken ≤ count)
