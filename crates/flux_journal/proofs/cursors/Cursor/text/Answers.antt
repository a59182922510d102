use Rattle.std.proofs.Common.{sym, ◌∙◌, subst}
use Rattle.flux_values.specs.declared.values.Value.TheVariants as values
use Rattle.flux_journal.specs.Spelled.{BeginsValue}
use Rattle.flux_journal.specs.steps.Reading.{BeginsName}
use Rattle.flux_journal.proofs.Failing.{on_bad, part_fails}
use Rattle.flux_journal.proofs.Missing.{other_no_name, the_text}
use Rattle.flux_journal.proofs.cursors.Cursor.text.Goals as goal

pub returns-in_err-value : goal.returns-in_err-value
returns-in_err-value c =
    part_fails BeginsName c.args.self.now.rest.now _ c.in_err-value.field-0.0 c.from_residual.result c.from_residual.ensures.1
    (on_bad c.in_err-value.field-0.0 c.in_err-value.ensures (λ none name tail begins. none (values.Text name) tail begins))

pub returns-in-None : goal.returns-in-None
returns-in-None c = other_no_name c.args.self.now.rest.now c.in_ok-value.field-0 c.value.new.self.rest.now (sym c.in-None.is ∙ c.into_text.ensures) c.in_ok-value.ensures

pub returns-in-Some : goal.returns-in-Some
returns-in-Some c = subst (λ v. BeginsValue c.args.self.now.rest.now v c.value.new.self.rest.now)
    (the_text c.in_ok-value.field-0 c.in-Some.text (sym c.in-Some.is ∙ c.into_text.ensures)) c.in_ok-value.ensures
