use Rattle.flux_examples.proofs.Doors.{fit, misfit}
use Rattle.flux_examples.proofs.serving.doors_by_example.Goals as goal

pub returns : goal.returns
returns c = record { fit = fit; misfit = misfit }
