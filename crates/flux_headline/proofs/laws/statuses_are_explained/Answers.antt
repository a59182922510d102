use Rattle.flux_headline.proofs.Explained.{statuses_have_causes, causes_are_answered, no_command_is_usage, usage_is_for_no_command}
use Rattle.flux_headline.proofs.laws.statuses_are_explained.Goals as goal

pub returns-clause-causes : goal.returns-clause-causes
returns-clause-causes c = statuses_have_causes

pub returns-clause-answered : goal.returns-clause-answered
returns-clause-answered c = causes_are_answered

pub returns-clause-none : goal.returns-clause-none
returns-clause-none c = no_command_is_usage

pub returns-clause-usage : goal.returns-clause-usage
returns-clause-usage c = usage_is_for_no_command
