-- Calls of the forms in memory: how many were made, and which fail.
use Rattle.std.specs.Prelude.{◌≡◌, ℕ, ◌+◌, ◌-◌, ◌^◌, ◌==◌, min, true, List}
use Rattle.std.specs.List.{list_any}
use Rattle.flux_outside.specs.declared.calls.Calls.{Calls}

-- no call was made yet
abbrev pub no_calls : List ℕ → Calls
no_calls fails = record { fails = fails; made = 0 }

-- the number of the next call, from 1; it stops at its type's end
abbrev pub next_call : Calls → ℕ
next_call calls = min (calls.made + 1) (2 ^ 64 - 1)

-- one call more was made
abbrev pub one_more : Calls → Calls
one_more calls = record { fails = calls.fails; made = next_call calls }

-- the number of the next call is among those that are to fail
abbrev pub IsToFail : Calls → Type 0
IsToFail calls = list_any (λ n. n == next_call calls) calls.fails ≡ true
