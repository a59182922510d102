use Rattle.std.proofs.Common.{◌≡◌}
use Rattle.flux_journal.specs.steps.Named.{NoneBefore}
use Rattle.flux_journal.proofs.names.find_cell.Given as goal

abbrev pub invariant-loop-class : goal.invariant-loop-class
invariant-loop-class l = NoneBefore l.class-items (λ class. class.name ≡ l.name) l.class-index
