use Rattle.flux_examples.proofs.Replies.{fit, misfit}
use Rattle.flux_examples.proofs.serving.replies_by_example.Goals as goal

pub returns : goal.returns
returns c = record { fit = fit; misfit = misfit }
