use Rattle.std.specs.Prelude.{◌≡◌}
use Rattle.crossbeam_queue.specs.Passes.{view, IsSamePass}
use Rattle.flow_queue.specs.declared.views.View.TheVariants.{Opening}
use Rattle.flow_queue.proofs.queues.open.Given as goal

abbrev pub invariant-loop-number : goal.invariant-loop-number
invariant-loop-number g l = IsSamePass l.fn.pass l.pass × (view l.pass ≡ Opening l.number)
