use Rattle.std.proofs.Common.{◌≡◌, take}
use Rattle.flux_plan.proofs.stacks.copy_frames.Given as goal

abbrev pub invariant-loop-frame : goal.invariant-loop-frame
invariant-loop-frame l = l.copied.items ≡ take l.frame-index l.frames
