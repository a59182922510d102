use Rattle.flow_hall.proofs.Examples.{steps-fit}
use Rattle.flow_hall.proofs.laws.steps_fit.Goals as goal

pub returns : goal.returns
returns g c = steps-fit g.row.L.Denot
