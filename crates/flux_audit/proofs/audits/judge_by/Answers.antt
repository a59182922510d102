use Rattle.std.proofs.Common.{sym, subst, ◌∙◌}
use Rattle.flux_model.specs.Names.{IsNamed}
use Rattle.flux_audit.proofs.audits.judge_by.Goals as goal

pub judge_lines-requires-clause-same : goal.judge_lines-requires-clause-same
judge_lines-requires-clause-same g c = c.in_ok-reader.ensures ∙ c.requires.same

pub judge_lines-requires-clause-named : goal.judge_lines-requires-clause-named
judge_lines-requires-clause-named g c = subst IsNamed (sym c.in_ok-reader.ensures) c.requires.named
