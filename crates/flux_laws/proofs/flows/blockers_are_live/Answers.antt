use Rattle.flux_laws.proofs.Living.{blockers_are_live}
use Rattle.flux_laws.proofs.flows.blockers_are_live.Goals as goal

pub returns : goal.returns
returns c = blockers_are_live
