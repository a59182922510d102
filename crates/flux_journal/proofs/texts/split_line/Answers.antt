use Rattle.flux_journal.proofs.Journaled.{line_first, line_last}
use Rattle.flux_journal.proofs.texts.split_line.Goals as goal

pub returns-in-Some : goal.returns-in-Some
returns-in-Some c = line_first c.args.text.now c.in-Some.parts.0.now c.in-Some.parts.1.now c.in-Some.ensures.found

pub returns-in-None : goal.returns-in-None
returns-in-None c = line_last c.args.text.now c.requires c.in-None.ensures.none
