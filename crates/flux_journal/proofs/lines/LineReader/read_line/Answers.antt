use Rattle.std.proofs.Common.{subst}
use Rattle.flux_model.specs.Names.{IsNamed}
use Rattle.flux_journal.specs.Journals.{HasLineCause}
use Rattle.flux_journal.proofs.Once.{answers_entry}
use Rattle.flux_journal.proofs.lines.LineReader.read_line.Goals as goal

pub returns-clause-entry : goal.returns-clause-entry
returns-clause-entry c =
    let cause = subst (λ p. HasLineCause p c.args.line.now c.entry.result) c.self.view_is c.entry.ensures in
    answers_entry c.args.self.now (subst IsNamed c.self.view_is c.self.invariant.named) c.args.line.now c.entry.result cause
