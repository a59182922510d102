use Rattle.std.proofs.Common.{◌≡◌}
use Rattle.flux_journal.specs.steps.Named.{NoneBefore}
use Rattle.flux_journal.proofs.names.find_class.Given as goal

abbrev pub invariant-loop-place : goal.invariant-loop-place
invariant-loop-place l = NoneBefore l.class-items (λ class. (class.session ≡ l.session) × (class.name ≡ l.name)) l.place
