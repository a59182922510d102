use Rattle.flow_shared.proofs.Examples.{rule-fits}
use Rattle.flow_shared.proofs.laws.rule_fits.Goals as goal

pub returns : goal.returns
returns g c = rule-fits g.row.L.Denot
