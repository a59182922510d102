use Rattle.std.proofs.Common.{List, ℕ, subst}
use Rattle.flux_journal.specs.Spelled.{BeginClosed, BeginsValue}
use Rattle.flux_journal.specs.steps.Reading.{BeginsNone}
use Rattle.flux_journal.proofs.Failing.{on_bad, bad, part_fails}
use Rattle.flux_journal.proofs.Missing.{closed_no_value, closed_no_more, closed_no_end}
use Rattle.flux_journal.proofs.cursors.Cursor.closed.Goals as goal

pub returns-in_err-value : goal.returns-in_err-value
returns-in_err-value c =
    part_fails BeginClosed c.args.self.now.rest.now _ c.in_err-value.field-0.0 c.from_residual.result c.from_residual.ensures.1
    (on_bad c.in_err-value.field-0.0 c.in_err-value.ensures (λ none. closed_no_value c.args.self.now.rest.now c.if-skip.ensures.none (subst (BeginsNone BeginsValue) c.if-skip.ensures.stays none)))

pub returns-in_err-more_values : goal.returns-in_err-more_values
returns-in_err-more_values c =
    let v = c.in_ok-value.value in
    let begins = subst (λ (t : List ℕ). BeginsValue t v c.value.new.self.rest.now) c.if-skip.ensures.stays c.in_ok-value.ensures in
    part_fails BeginClosed c.args.self.now.rest.now _ c.in_err-more_values.field-0.0 c.from_residual-in_err-more_values.result c.from_residual-in_err-more_values.ensures.1
    (on_bad c.in_err-more_values.field-0.0 c.in_err-more_values.ensures (closed_no_more c.args.self.now.rest.now c.value.new.self.rest.now v c.if-skip.ensures.none begins))

pub returns-in_err-expect : goal.returns-in_err-expect
returns-in_err-expect c =
    let v = c.in_ok-value.value in
    let begins = subst (λ (t : List ℕ). BeginsValue t v c.value.new.self.rest.now) c.if-skip.ensures.stays c.in_ok-value.ensures in
    let added = c.in_ok-more_values.ensures in
    part_fails BeginClosed c.args.self.now.rest.now _ c.in_err-expect.field-0.0 c.from_residual-in_err-expect.result c.from_residual-in_err-expect.ensures.1
    (bad c.in_err-expect.field-0.0 (closed_no_end c.args.self.now.rest.now c.value.new.self.rest.now c.more_values.new.self.rest.now v c.add.new.self c.more_values.new.values c.if-skip.ensures.none begins added.0 added.1 c.in_err-expect.ensures.1))
