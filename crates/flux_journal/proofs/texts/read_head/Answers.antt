use Rattle.flux_journal.proofs.Journaled.{no_line, none_so, head_told}
use Rattle.flux_journal.proofs.texts.read_head.Goals as goal

pub returns-clause-none : goal.returns-clause-none
returns-clause-none c = none_so c.read_numbers.result c.read_numbers.ensures.none (no_line c.args.line.now)

pub returns-clause-once : goal.returns-clause-once
returns-clause-once c = head_told c.args.line.now c.read_numbers.result c.read_numbers.ensures.found c.read_numbers.ensures.none
