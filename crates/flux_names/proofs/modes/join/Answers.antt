use Rattle.std.proofs.Common.{◌∙◌, Option, set, ap, sym}
use Rattle.flux_values.specs.declared.answers.Mode.{Mode}
use Rattle.flux_names.specs.steps.Classes.{with_mode}
use Rattle.flux_names.proofs.Canonical.{in_order_sorted}
use Rattle.flux_names.proofs.Joined.{untouched, joined_at}
use Rattle.flux_names.proofs.modes.join.Goals as goal

pub returns-in-Ok : goal.returns-in-Ok
returns-in-Ok c =
    let constraint = c.args.constraint.now in
    let modes = c.args.modes.now.items in
    let place = c.in-Ok.place in
    ap (set modes place) (c.with_mode.ensures ∙ ap (λ (m : Option Mode). with_mode m constraint.mode) c.index.ensures)
    ∙ sym (joined_at constraint c.args.classes.now modes place c.index.result.now (in_order_sorted c.args.classes.now c.requires.order) c.requires.each c.in-Ok.ensures.0 c.in-Ok.ensures.1)

pub returns-in-Err : goal.returns-in-Err
returns-in-Err c = sym (untouched c.args.constraint.now c.args.classes.now c.args.modes.now.items c.requires.each c.in-Err.ensures)
