use Rattle.flux_laws.proofs.LastMoves.{entries_are_moves}
use Rattle.flux_laws.proofs.moves.entries_are_moves.Goals as goal

pub returns : goal.returns
returns c = entries_are_moves
