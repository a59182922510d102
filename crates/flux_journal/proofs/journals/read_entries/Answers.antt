use Rattle.std.proofs.Common.{Err, subst}
use Rattle.flux_journal.specs.Journals.{lines_of, AreEntryLines}
use Rattle.flux_journal.specs.steps.Lines.{AreEntriesRead}
use Rattle.flux_journal.proofs.Journaled.{entries_fail}
use Rattle.flux_journal.proofs.journals.read_entries.Goals as goal

pub returns-in_err-add_entries : goal.returns-in_err-add_entries
returns-in_err-add_entries c =
    let lines = lines_of c.args.text.now in
    let fault = c.in_err-add_entries.field-0.0 in
    entries_fail c.args.program.now lines c.args.first fault c.from_residual-in_err-add_entries.result c.from_residual-in_err-add_entries.ensures.1
    (subst (λ p. AreEntriesRead p lines c.args.first (Err fault)) c.in_ok-reader.ensures.same c.in_err-add_entries.ensures.bad)

pub returns : goal.returns
returns c =
    subst (λ p. AreEntryLines p (lines_of c.args.text.now) c.add_entries.new.entries) c.in_ok-reader.ensures.same c.in_ok-add_entries.ensures.read
