use Rattle.flux_driver.proofs.Told.{told_read}
use Rattle.flux_driver.proofs.telling.refuse.Goals as goal

pub returns-in-Read-clause-told : goal.returns-in-Read-clause-told
returns-in-Read-clause-told g c = told_read c.args.refusal _ _ c.in-Read.is c.say.ensures.said
