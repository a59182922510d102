use Rattle.std.proofs.Common.{refl}
use Rattle.flux_cli.specs.Commands.{check}
use Rattle.flux_commands.specs.steps.Refusals.{IsRefused}
use Rattle.flux_commands.proofs.Passed.{passed}
use Rattle.flux_commands.proofs.Loading.{file_refused, is_ordered, are_locks, is_reported}
use Rattle.flux_commands.proofs.commands.prepare_check.Goals as goal

pub returns-in_err-checked-clause-refused : goal.returns-in_err-checked-clause-refused
returns-in_err-checked-clause-refused g c =
    let meaning = g.L.Meaning.meaning c.args.library.now in
    let told = g.S.Store.files c.args.store.now in
    passed (IsRefused meaning (check c.args.file.now) told) c.in_err-checked.field-0.0 c.from_residual.result c.from_residual.ensures.1
    (file_refused meaning told c.args.file.now (check c.args.file.now) refl (λ text fault stands. stands) c.in_err-checked.field-0.0 c.in_err-checked.ensures.refused)

pub report-requires-clause-ordered : goal.report-requires-clause-ordered
report-requires-clause-ordered g c =
    let own = c.in_ok-checked.ensures.checked in
    is_ordered (g.L.Meaning.meaning c.args.library.now) own.text c.in_ok-checked.checked.program c.in_ok-checked.checked.sigs.nodes c.in_ok-checked.checked.order.nodes c.in_ok-checked.checked.sets.nodes c.in_ok-checked.checked.sizes own.is

pub report-requires-clause-locks : goal.report-requires-clause-locks
report-requires-clause-locks g c =
    let own = c.in_ok-checked.ensures.checked in
    are_locks (g.L.Meaning.meaning c.args.library.now) own.text c.in_ok-checked.checked.program c.in_ok-checked.checked.sigs.nodes c.in_ok-checked.checked.order.nodes c.in_ok-checked.checked.sets.nodes c.in_ok-checked.checked.sizes own.is

pub returns-clause-done : goal.returns-clause-done
returns-clause-done g c =
    let own = c.in_ok-checked.ensures.checked in
    rw c.text.ensures (is_reported (g.L.Meaning.meaning c.args.library.now) own.text c.in_ok-checked.checked.program c.in_ok-checked.checked.sigs.nodes c.in_ok-checked.checked.order.nodes c.in_ok-checked.checked.sets.nodes c.in_ok-checked.checked.sizes own.is
    (g.S.Store.files c.args.store.now) c.args.file.now c.in_ok-text.text own.gives c.in_ok-text.ensures)
