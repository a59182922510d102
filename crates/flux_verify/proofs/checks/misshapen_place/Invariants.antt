use Rattle.std.proofs.Common.{◌≡◌, Some}
use Rattle.flux_plan.specs.Reading.{reading_at}
use Rattle.flux_verify.specs.steps.Shapes.{reading_of}
use Rattle.flux_verify.proofs.checks.misshapen_place.Given as goal

abbrev pub invariant-loop-instr : goal.invariant-loop-instr
invariant-loop-instr l = record {
  counted : l.place ≡ l.instr-index;
  read : reading_at l.segment l.place ≡ Some (reading_of l.reading);
}
