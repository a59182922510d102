use Rattle.std.proofs.Common.{sym, subst}
use Rattle.flux_model.specs.declared.programs.Program.{Program}
use Rattle.flux_journal.specs.Spelled.{IsEntryLine}
use Rattle.flux_journal.proofs.lines.read_line.Goals as goal

pub returns-clause-entry : goal.returns-clause-entry
returns-clause-entry c entry is =
    c.read_line.ensures.entry entry (subst (λ (p : Program). IsEntryLine p c.args.line.now entry) (sym c.in_ok-new.ensures) is)
