use Rattle.std.proofs.Common.{length}
use Rattle.flux_audit.specs.steps.Checks.{IsJudging}
use Rattle.flux_audit.proofs.audits.judge_lines.Given as goal

abbrev pub invariant-lines : goal.invariant-lines
invariant-lines g l = IsJudging g.L.Meaning.meaning l.fn.state.setup l.journal l.lines l.state l.number

abbrev pub decreases-lines : goal.decreases-lines
decreases-lines g l = length l.lines
