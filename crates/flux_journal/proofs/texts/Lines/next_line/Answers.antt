use Rattle.std.proofs.Common.{arith, ap, length}
use Rattle.flux_journal.proofs.Journaled.{lines_few}
use Rattle.flux_journal.proofs.texts.Lines.next_line.Goals as goal

pub returns-then-is_empty-clause-few : goal.returns-then-is_empty-clause-few
returns-then-is_empty-clause-few c = omega (arith, lines_few c.self.inside.rest.now, ap length c.self.view_is, c.self.told)

pub returns-clause-few : goal.returns-clause-few
returns-clause-few c = omega (arith, lines_few c.self.inside.rest.now, ap length c.self.view_is, c.self.told)
