use Rattle.flux_examples.proofs.Rules.{kept, broken}
use Rattle.flux_examples.proofs.audits.rules_by_example.Goals as goal

pub returns : goal.returns
returns c = record { kept = kept; broken = broken }
