use Rattle.std.proofs.Common.{◌≡◌, take}
use Rattle.flux_cells.specs.steps.Settling.{with_puts}
use Rattle.flux_cells.proofs.touched.put_all.Given as goal

abbrev pub invariant-loop-put : goal.invariant-loop-put
invariant-loop-put l = l.touched.items ≡ with_puts l.p l.fn.touched.items (take l.put-index l.puts)
