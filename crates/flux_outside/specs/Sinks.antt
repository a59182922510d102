-- What a write takes.
use Rattle.std.specs.Prelude.{ℕ, ◌<◌, ◌≤◌, List, [], length, take, Result, Ok, Err}
use Rattle.flux_outside.specs.declared.faults.Failed.{Failed}

-- a write that didn't fail took a front of the bytes, which isn't empty unless they are
abbrev pub TakesSome : Result ℕ Failed → List ℕ → Type 0
TakesSome (Ok count) bytes = (count ≤ length bytes) × (0 < length bytes → 0 < count)
TakesSome (Err e) bytes = Unit {0}

-- the bytes that a write took
abbrev pub taken : Result ℕ Failed → List ℕ → List ℕ
taken (Ok count) bytes = take count bytes
taken (Err e) bytes = []
