use Rattle.std.proofs.Common.{[]}
use Rattle.flow_waits.proofs.candidates.Candidates.update.Goals as goal

pub returns-clause-covers : goal.returns-clause-covers
returns-clause-covers g c = c.follow.ensures.covers [] c.requires

pub returns-clause-ready : goal.returns-clause-ready
returns-clause-ready g c = c.follow.ensures.ready [] c.requires
