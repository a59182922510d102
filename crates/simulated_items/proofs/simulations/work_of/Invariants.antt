use Rattle.std.proofs.Common.{◌≡◌, take}
use Rattle.simulated_items.specs.steps.Work.{work_of}
use Rattle.simulated_items.proofs.simulations.work_of.Given as goal

abbrev pub invariant-loop-run : goal.invariant-loop-run
invariant-loop-run l = l.work ≡ work_of (take l.run-index l.runs)
