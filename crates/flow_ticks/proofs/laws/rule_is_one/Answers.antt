use Rattle.flow_ticks.proofs.Rules.{rule_is_one}
use Rattle.flow_ticks.proofs.laws.rule_is_one.Goals as goal

pub returns : goal.returns
returns c = rule_is_one
