use Rattle.flux_audit.proofs.Judging.{one_verdict}
use Rattle.flux_audit.proofs.laws.verdicts_are_one.Goals as goal

pub returns : goal.returns
returns c = one_verdict
