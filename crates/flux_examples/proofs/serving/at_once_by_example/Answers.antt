use Rattle.flux_examples.proofs.RepliesAtOnce.{fit, misfit}
use Rattle.flux_examples.proofs.serving.at_once_by_example.Goals as goal

pub returns : goal.returns
returns c = record { fit = fit; misfit = misfit }
