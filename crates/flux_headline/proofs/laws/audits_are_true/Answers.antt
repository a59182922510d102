use Rattle.flux_headline.proofs.Audits.{yes_true, no_true}
use Rattle.flux_headline.proofs.laws.audits_are_true.Goals as goal

pub returns-clause-yes : goal.returns-clause-yes
returns-clause-yes c = yes_true

pub returns-clause-no : goal.returns-clause-no
returns-clause-no c = no_true
