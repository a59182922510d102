-- Steps of the code: how the count of lines and columns moves on by one byte.
-- No public clause cites it.
use Rattle.std.specs.Prelude.{ℕ, ◌+◌, ◌==◌, if◌then◌else◌}
use Rattle.flux_faults.specs.declared.faults.Place.{Place}

-- an LF begins the next line
abbrev pub next_place : Place → ℕ → Place
next_place place byte =
    if byte == 10 then record { line = place.line + 1; column = 1 }
    else record { line = place.line; column = place.column + 1 }
