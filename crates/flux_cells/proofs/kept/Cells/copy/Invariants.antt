use Rattle.flux_cells.proofs.Copied.{IsCopied}
use Rattle.flux_cells.proofs.kept.Cells.copy.Given as goal

abbrev pub invariant-loop-key : goal.invariant-loop-key
invariant-loop-key l = IsCopied l.self l.key-iterator l.cells.entries
