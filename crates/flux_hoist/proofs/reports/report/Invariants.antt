use Rattle.std.specs.List.{range_with_len}
use Rattle.flux_hoist.specs.Sets.{held_by}
use Rattle.flux_hoist.specs.Reports.{ArePieces, AreSaid}
use Rattle.flux_hoist.proofs.reports.report.Given as goal

abbrev pub invariant-loop-number : goal.invariant-loop-number
invariant-loop-number l = ArePieces (AreSaid l.p (held_by l.fn.sets.nodes)) (range_with_len 0 l.number) l.out
