use Rattle.std.proofs.Common.{sym, subst}
use Rattle.flux_model.specs.declared.programs.Program.{Program}
use Rattle.flux_model.specs.Names.{IsNamed}
use Rattle.flux_journal.specs.Spelled.{IsEntryLine}
use Rattle.flow_state.specs.States.{setup_at}
use Rattle.flux_audit.specs.steps.Checks.{IsChecked, IsLineChecked}
use Rattle.flux_audit.proofs.Checking.{first_text, if_ok, checked_line}
use Rattle.flux_audit.proofs.entries.check_line.Goals as goal

pub returns-in-Ok : goal.returns-in-Ok
returns-in-Ok g c =
    let meaning = g.L.Meaning.meaning in
    let entry = c.in-Ok.entry in
    if_ok (IsChecked meaning c.args.state.now c.check_entry.new.state entry.flow entry.event)
    (IsLineChecked meaning c.args.state.now c.check_entry.new.state c.args.line.now) c.check_entry.result
    (checked_line meaning c.args.state.now c.check_entry.new.state c.args.line.now entry
    (subst IsNamed c.requires.same c.requires.named)
    (subst (λ (p : Program). IsEntryLine p c.args.line.now entry) c.requires.same c.in-Ok.ensures.cause)) c.check_entry.ensures

pub returns-in-Err-BadLine : goal.returns-in-Err-BadLine
returns-in-Err-BadLine g c =
    let none = rw c.in-Err-BadLine.field-0-is at c.in-Err-BadLine.ensures.cause in
    first_text (setup_at g.L.Meaning.meaning c.args.state.now) (subst IsNamed c.requires.same c.requires.named) c.args.state.now.entries c.args.line.now
    (λ entry spells. none entry (subst (λ (p : Program). IsEntryLine p c.args.line.now entry) (sym c.requires.same) spells))
