use Rattle.flux_laws.proofs.Locks.{locks_are_there}
use Rattle.flux_laws.proofs.hoisted.locks_are_there.Goals as goal

pub returns : goal.returns
returns c = locks_are_there
