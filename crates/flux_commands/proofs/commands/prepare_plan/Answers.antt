use Rattle.std.proofs.Common.{refl}
use Rattle.flux_cli.specs.Commands.{plan}
use Rattle.flux_commands.specs.steps.Refusals.{IsRefused}
use Rattle.flux_commands.proofs.Passed.{passed}
use Rattle.flux_commands.proofs.Loading.{file_refused, is_planned}
use Rattle.flux_commands.proofs.commands.prepare_plan.Goals as goal

pub returns-in_err-checked-clause-refused : goal.returns-in_err-checked-clause-refused
returns-in_err-checked-clause-refused g c =
    let meaning = g.L.Meaning.meaning c.args.library.now in
    let told = g.S.Store.files c.args.store.now in
    passed (IsRefused meaning (plan c.args.file.now) told) c.in_err-checked.field-0.0 c.from_residual.result c.from_residual.ensures.1
    (file_refused meaning told c.args.file.now (plan c.args.file.now) refl (λ text fault stands. stands) c.in_err-checked.field-0.0 c.in_err-checked.ensures.refused)

pub returns-clause-done : goal.returns-clause-done
returns-clause-done g c =
    let own = c.in_ok-checked.ensures.checked in
    rw c.text.ensures (is_planned (g.L.Meaning.meaning c.args.library.now) own.text c.in_ok-checked.checked.program c.in_ok-checked.checked.sigs.nodes c.in_ok-checked.checked.order.nodes c.in_ok-checked.checked.sets.nodes c.in_ok-checked.checked.sizes own.is
    (g.S.Store.files c.args.store.now) c.args.file.now c.in_ok-print_plan.field-0 own.gives c.in_ok-print_plan.ensures)
