use Rattle.flux_upheld.proofs.BuiltInPrints.{joined-prints, all-prints, own-prints}
use Rattle.flux_upheld.proofs.laws.answers_can_be_printed.Goals as goal

pub returns-clause-joined : goal.returns-clause-joined
returns-clause-joined c = joined-prints

pub returns-clause-all : goal.returns-clause-all
returns-clause-all c = all-prints

pub returns-clause-own : goal.returns-clause-own
returns-clause-own c = own-prints
