use Rattle.std.proofs.Common.{◌≡◌, ◌++◌, drop}
use Rattle.std.specs.List.{filter_map, enumerate_from}
use Rattle.flux_syntax.specs.ProgramOfText.{hold_on}
use Rattle.flux_names.specs.steps.Classes.{holds_of}
use Rattle.flux_names.proofs.modes.holds_of.Given as goal

abbrev pub invariant-loop-number : goal.invariant-loop-number
invariant-loop-number l =
    holds_of l.modes ≡ l.holds ++ filter_map (λ numbered. hold_on numbered.0 numbered.1) (enumerate_from l.number (drop l.number l.modes))
