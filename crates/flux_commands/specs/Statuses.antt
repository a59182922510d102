-- The numbers of the statuses.
use Rattle.std.specs.Prelude.{ℕ}
use Rattle.flux_commands.specs.declared.statuses.Status.{Status}
use Rattle.flux_commands.specs.declared.statuses.Status.TheVariants.{Done, Usage, Static, Items, Read, Write, Door, No, Missing, NotServed, Memory}

-- the number that the process ends with
abbrev pub code_of : Status → ℕ
code_of Done = 0
code_of Usage = 2
code_of Static = 3
code_of Items = 4
code_of Read = 5
code_of Write = 6
code_of Door = 7
code_of No = 8
code_of Missing = 9
code_of NotServed = 10
code_of Memory = 12
