use Rattle.flux_laws.proofs.Waiting.{waits_never_circle}
use Rattle.flux_laws.proofs.circles.waits_never_circle.Goals as goal

pub returns : goal.returns
returns c = waits_never_circle
