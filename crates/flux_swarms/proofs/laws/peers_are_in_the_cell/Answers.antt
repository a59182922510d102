use Rattle.flux_swarms.proofs.Cells.{peers_are_in_the_cell}
use Rattle.flux_swarms.proofs.laws.peers_are_in_the_cell.Goals as goal

pub returns : goal.returns
returns c = peers_are_in_the_cell
