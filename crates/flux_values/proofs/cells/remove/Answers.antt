use Rattle.std.proofs.Common.{◌∙◌}
use Rattle.flux_values.proofs.CellLemmas.{remove_there, stay_gap}
use Rattle.flux_values.proofs.cells.remove.Goals as goal

pub returns-in-Ok : goal.returns-in-Ok
returns-in-Ok c =
    let place = rw (c.deref.ensures.value, c.as_bytes.ensures.same) at c.in-Ok.ensures in
    c.remove.ensures.items ∙ remove_there c.args.entries.now.items c.args.name.now c.in-Ok.place c.requires place

pub returns-in_default : goal.returns-in_default
returns-in_default c =
    let place = rw (c.deref.ensures.value, c.as_bytes.ensures.same) at c.in_default.ensures in
    stay_gap c.args.entries.now.items c.args.name.now c.in_default.field-0 place
