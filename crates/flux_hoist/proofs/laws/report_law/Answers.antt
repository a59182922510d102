use Rattle.flux_hoist.proofs.ReportOnce.{report_once}
use Rattle.flux_hoist.proofs.laws.report_law.Goals as goal

pub returns : goal.returns
returns c = report_once
