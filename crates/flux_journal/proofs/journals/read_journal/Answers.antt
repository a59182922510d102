use Rattle.std.proofs.Common.{List, ℕ, sym, subst}
use Rattle.flux_journal.specs.Journals.{ReadsAs}
use Rattle.flux_journal.proofs.Printed.{printed_reads, printed_reads_2}
use Rattle.flux_journal.proofs.Journaled.{answers_journal, answers_bad}
use Rattle.flux_journal.proofs.journals.read_journal.Goals as goal

pub returns-clause-journal : goal.returns-clause-journal
returns-clause-journal c = answers_journal c.args.program.now c.requires.named c.args.bytes.now c.read_all.result c.read_all.ensures.cause

pub returns-clause-bad : goal.returns-clause-bad
returns-clause-bad c = answers_bad c.args.program.now c.args.bytes.now c.read_all.result c.read_all.ensures.cause

pub returns-clause-again : goal.returns-clause-again
returns-clause-again c journal all is =
    let p = c.args.program.now in
    answers_journal p c.requires.named c.args.bytes.now c.read_all.result c.read_all.ensures.cause journal (subst (λ (t : List ℕ). ReadsAs p t journal) (sym is) (printed_reads p journal c.requires.named all))

pub returns-clause-again_2 : goal.returns-clause-again_2
returns-clause-again_2 c journal flows all fits small is =
    let p = c.args.program.now in
    answers_journal p c.requires.named c.args.bytes.now c.read_all.result c.read_all.ensures.cause journal (subst (λ (t : List ℕ). ReadsAs p t journal) (sym is) (printed_reads_2 p journal flows c.requires.named all fits small))
