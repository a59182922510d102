use Rattle.std.proofs.Common.{take}
use Rattle.flux_hoist.specs.Reports.{ArePieces, IsSaid}
use Rattle.flux_hoist.specs.steps.Appending.{HasGained}
use Rattle.flux_hoist.proofs.reports.append_all_said.Given as goal

abbrev pub invariant-loop-hold : goal.invariant-loop-hold
invariant-loop-hold l = HasGained (ArePieces (IsSaid l.p l.number) (take l.hold-index l.holds)) l.fn.out l.out
