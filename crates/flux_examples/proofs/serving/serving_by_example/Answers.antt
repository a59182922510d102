use Rattle.flux_examples.proofs.Served.{fit, misfit}
use Rattle.flux_examples.proofs.serving.serving_by_example.Goals as goal

pub returns : goal.returns
returns c = record { fit = fit; misfit = misfit }
