use Rattle.std.proofs.Common.{◌≡◌, ◌++◌, take}
use Rattle.flux_faults.specs.Faults.{arrows}
use Rattle.flux_faults.proofs.lines.append_arrows.Given as goal

abbrev pub invariant-loop-place : goal.invariant-loop-place
invariant-loop-place l = l.line ≡ l.fn.line ++ arrows (take l.place l.names)
