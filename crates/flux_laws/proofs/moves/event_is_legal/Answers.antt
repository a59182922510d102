use Rattle.flux_laws.proofs.Added.{event_is_legal}
use Rattle.flux_laws.proofs.moves.event_is_legal.Goals as goal

pub returns : goal.returns
returns c = event_is_legal
