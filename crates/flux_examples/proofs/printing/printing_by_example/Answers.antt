use Rattle.flux_examples.proofs.Fits.{fits, refuses}
use Rattle.flux_examples.proofs.printing.printing_by_example.Goals as goal

pub returns : goal.returns
returns c = record { fits = fits; refused = refuses }
