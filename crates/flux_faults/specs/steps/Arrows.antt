-- Steps of the code: what is written before a name of a path. No public clause cites it.
use Rattle.std.specs.Prelude.{ℕ, Bool, List, [], if◌then◌else◌, codes}

-- nothing before the first
abbrev pub arrow_before : Bool → List ℕ
arrow_before first = if first then [] else codes " -> "
