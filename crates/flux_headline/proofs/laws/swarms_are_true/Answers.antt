use Rattle.flux_headline.proofs.Swarms.{swarms_true, swarms_refuted}
use Rattle.flux_headline.proofs.laws.swarms_are_true.Goals as goal

pub returns-clause-yes : goal.returns-clause-yes
returns-clause-yes c = swarms_true

pub returns-clause-no : goal.returns-clause-no
returns-clause-no c = swarms_refuted
