use Rattle.std.proofs.Common.{◌≡◌, ◌≤◌, ℕ}
use Rattle.flux_verify.specs.steps.Checks.{IsMisledAt}
use Rattle.flux_verify.proofs.checks.misled_place.Given as goal

abbrev pub invariant-loop-instr : goal.invariant-loop-instr
invariant-loop-instr l = record {
  counted : l.place ≡ l.instr-index;
  none : (at : ℕ) → IsMisledAt l.segments l.takes l.segment at → l.place ≤ at;
}
