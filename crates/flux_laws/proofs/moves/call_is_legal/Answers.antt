use Rattle.flux_laws.proofs.Added.{call_is_legal}
use Rattle.flux_laws.proofs.moves.call_is_legal.Goals as goal

pub returns : goal.returns
returns c = call_is_legal
