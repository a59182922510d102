use Rattle.flux_laws.proofs.Added.{moves_are_legal}
use Rattle.flux_laws.proofs.moves.moves_are_legal.Goals as goal

pub returns : goal.returns
returns c = moves_are_legal
