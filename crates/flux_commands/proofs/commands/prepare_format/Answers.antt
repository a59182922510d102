use Rattle.flux_cli.specs.Commands.{format}
use Rattle.flux_commands.specs.steps.Refusals.{IsRefused}
use Rattle.flux_commands.proofs.Passed.{passed}
use Rattle.flux_commands.proofs.Loading.{format_refused}
use Rattle.flux_commands.proofs.commands.prepare_format.Goals as goal

pub returns-in_err-decls-clause-refused : goal.returns-in_err-decls-clause-refused
returns-in_err-decls-clause-refused g c meaning =
    let told = g.S.Store.files c.args.store.now in
    let refused = rw c.as_bytes.ensures at c.in_err-decls.ensures.refused in
    passed (IsRefused meaning (format c.args.file.now) told) c.in_err-decls.field-0.0 c.from_residual-in_err-decls.result c.from_residual-in_err-decls.ensures.1
    (format_refused meaning told c.args.file.now c.in_ok-text.text c.in_err-decls.field-0.0 c.in_ok-text.ensures.found refused)
