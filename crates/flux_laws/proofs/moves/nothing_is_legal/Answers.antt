use Rattle.flux_laws.proofs.Added.{nothing_is_legal}
use Rattle.flux_laws.proofs.moves.nothing_is_legal.Goals as goal

pub returns : goal.returns
returns c = nothing_is_legal
