use Rattle.flux_examples.proofs.Links.{fit, misfit}
use Rattle.flux_examples.proofs.serving.links_by_example.Goals as goal

pub returns : goal.returns
returns c = record { fit = fit; misfit = misfit }
