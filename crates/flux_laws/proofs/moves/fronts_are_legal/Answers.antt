use Rattle.flux_laws.proofs.Fronts.{fronts_are_legal}
use Rattle.flux_laws.proofs.moves.fronts_are_legal.Goals as goal

pub returns : goal.returns
returns c = fronts_are_legal
