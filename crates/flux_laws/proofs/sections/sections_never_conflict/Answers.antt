use Rattle.flux_laws.proofs.Overlaps.{sections_never_conflict}
use Rattle.flux_laws.proofs.sections.sections_never_conflict.Goals as goal

pub returns : goal.returns
returns c = sections_never_conflict
