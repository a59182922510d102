use Rattle.flux_hoist.specs.declared.checked.Checked.{Checked}
use Rattle.flux_check.specs.Judgement.{IsTextFault}
use Rattle.flux_check.specs.Checked.{IsChecked}
use Rattle.flux_commands.specs.steps.Refusals.{IsFaultLine, IsCheckRefused}
use Rattle.flux_commands.specs.steps.Loading.{IsCheckedFile, IsUnchecked}
use Rattle.flux_commands.proofs.Steps.{if_ok, if_err}
use Rattle.flux_commands.proofs.Passed.{passed}
use Rattle.flux_commands.proofs.Loading.{counts_text, unread_file, faulty_file}
use Rattle.flux_commands.proofs.loaded.load_program.Goals as goal

pub returns-in_err-text-clause-refused : goal.returns-in_err-text-clause-refused
returns-in_err-text-clause-refused g c =
    let meaning = g.L.Meaning.meaning c.args.library.now in
    let told = g.S.Store.files c.args.store.now in
    passed (IsUnchecked meaning told c.args.file.now) c.in_err-text.field-0.0 c.from_residual.result c.from_residual.ensures.1
    (unread_file meaning told c.args.file.now c.in_err-text.field-0.0 c.in_err-text.ensures.unread)

pub returns-clause-checked : goal.returns-clause-checked
returns-clause-checked g c =
    let meaning = g.L.Meaning.meaning c.args.library.now in
    let told = g.S.Store.files c.args.store.now in
    let text = c.in_ok-text.text in
    if_ok (λ (own : Checked). IsChecked meaning text own.program own.sigs.nodes own.order.nodes own.sets.nodes own.sizes) (IsCheckedFile meaning told c.args.file.now) c.check_text.result
    (λ own is. record { text = text; gives = c.in_ok-text.ensures.found; is = is }) (rw c.as_bytes.ensures at c.check_text.ensures.checked)

pub returns-clause-refused : goal.returns-clause-refused
returns-clause-refused g c =
    let meaning = g.L.Meaning.meaning c.args.library.now in
    let told = g.S.Store.files c.args.store.now in
    let text = c.in_ok-text.text in
    if_err (IsCheckRefused meaning text) (IsUnchecked meaning told c.args.file.now) c.check_text.result
    (faulty_file meaning told c.args.file.now text c.in_ok-text.ensures.found) (rw c.as_bytes.ensures at c.check_text.ensures.refused)

pub returns-clause-counts : goal.returns-clause-counts
returns-clause-counts g c =
    let text = c.in_ok-text.text in
    counts_text (IsFaultLine (IsTextFault (g.L.Meaning.meaning c.args.library.now) text) text) c.check_text.result _ _
    (rw c.as_bytes.ensures at c.check_text.ensures.refused) c.in_ok-text.ensures.counts
