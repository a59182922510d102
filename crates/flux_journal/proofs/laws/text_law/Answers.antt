use Rattle.flux_journal.proofs.Journaled.{journal_once}
use Rattle.flux_journal.proofs.Entered.{journal_entries}
use Rattle.flux_journal.proofs.Printed.{printed_reads, printed_reads_2}
use Rattle.flux_journal.proofs.laws.text_law.Goals as goal

pub returns-clause-printed : goal.returns-clause-printed
returns-clause-printed c = printed_reads

pub returns-clause-printed_2 : goal.returns-clause-printed_2
returns-clause-printed_2 c = printed_reads_2

pub returns-clause-once : goal.returns-clause-once
returns-clause-once c = λ p text first second named one two. journal_once p named text first second one two

pub returns-clause-entries : goal.returns-clause-entries
returns-clause-entries c = journal_entries
