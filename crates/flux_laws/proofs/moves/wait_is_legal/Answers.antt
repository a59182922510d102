use Rattle.flux_laws.proofs.Added.{wait_is_legal}
use Rattle.flux_laws.proofs.moves.wait_is_legal.Goals as goal

pub returns : goal.returns
returns c = wait_is_legal
