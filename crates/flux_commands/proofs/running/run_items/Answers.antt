use Rattle.std.specs.Arc.{arc_value}
use Rattle.std.proofs.Common.{◌≤◌, ◌∙◌, length, sym, subst}
use Rattle.flux_model.specs.declared.programs.Program.{Program}
use Rattle.flux_model.specs.declared.programs.TheConstants.{COUNT_LIMIT}
use Rattle.flow_core.specs.States.{setup_in}
use Rattle.flux_cells.specs.Kept.{cells_of}
use Rattle.flux_commands.specs.BuiltIn.{meaning_in}
use Rattle.flux_commands.proofs.Runs.{run_of}
use Rattle.flux_commands.proofs.running.run_items.Goals as goal

pub print-requires : goal.print-requires
print-requires g c =
    let opened = c.in_ok-opened.ensures in
    subst (λ (p : Program). length p.classes ≤ COUNT_LIMIT) (sym (c.deref.ensures ∙ opened.program_)) c.requires.can.sound.numbered.few_classes

pub returns : goal.returns
returns g c =
    let meaning = meaning_in in
    let opened = c.in_ok-opened.ensures in
    run_of (meaning (arc_value c.args.library)) c.args.checked.program c.deref.result.now c.args.items c.args.wanted _
    (setup_in meaning c.in_ok-opened.opened.core) c.in_ok-journal.journal (cells_of c.in_ok-journal.cells) c.print.result
    (c.deref.ensures ∙ opened.program_) c.len-flows.ensures opened.is c.in_ok-journal.ensures.driven c.in_ok-journal.ensures.cells c.print.ensures
