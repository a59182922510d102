use Rattle.std.specs.Arc.{arc_value}
use Rattle.std.proofs.Common.{refl}
use Rattle.flux_commands.specs.steps.Refusals.{IsRefused}
use Rattle.flux_commands.specs.Ready.{command_of}
use Rattle.flux_commands.proofs.Passed.{passed}
use Rattle.flux_commands.proofs.Loading.{file_refused}
use Rattle.flux_commands.proofs.Readied.{not_served, is_ready}
use Rattle.flux_commands.proofs.services.prepare.Goals as goal

pub returns-in_err-checked-clause-refused : goal.returns-in_err-checked-clause-refused
returns-in_err-checked-clause-refused g c =
    let meaning = g.L.Meaning.meaning (arc_value c.args.library) in
    let told = g.S.Store.files c.args.store.now in
    let command = command_of c.args.service.now in
    let refused = rw c.deref-nodes.ensures at c.in_err-checked.ensures.refused in
    passed (IsRefused meaning command told) c.in_err-checked.field-0.0 c.from_residual.result c.from_residual.ensures.1
    (file_refused meaning told c.args.service.now.file.now command refl (λ text fault stands. stands) c.in_err-checked.field-0.0 refused)

pub returns-clause-refused : goal.returns-clause-refused
returns-clause-refused g c =
    let meaning = g.L.Meaning.meaning (arc_value c.args.library) in
    let own = c.in_ok-checked.checked in
    let checked = rw c.deref-nodes.ensures at c.in_ok-checked.ensures.checked in
    not_served meaning checked.text own.program own.sigs.nodes own.order.nodes own.sets.nodes own.sizes checked.is (g.S.Store.files c.args.store.now) c.args.service.now.file.now checked.gives _ (rw (c.in-None.is, c.deref-nodes.ensures) at c.in_ok-framing.ensures.others)

pub returns-in-Some-clause-ready : goal.returns-in-Some-clause-ready
returns-in-Some-clause-ready g c =
    let meaning = g.L.Meaning.meaning (arc_value c.args.library) in
    let checked = rw c.deref-nodes.ensures at c.in_ok-checked.ensures.checked in
    is_ready meaning checked.text c.in_ok-checked.checked c.in-Some.framing (g.S.Store.files c.args.store.now) c.args.service.now.file.now checked.is checked.gives (rw (c.in-Some.is, c.deref-nodes.ensures) at c.in_ok-framing.ensures.served)
