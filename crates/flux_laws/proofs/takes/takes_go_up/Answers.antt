use Rattle.flux_laws.proofs.Stacked.{takes_go_up}
use Rattle.flux_laws.proofs.takes.takes_go_up.Goals as goal

pub returns : goal.returns
returns c = takes_go_up
