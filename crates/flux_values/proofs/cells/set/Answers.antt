use Rattle.std.proofs.Common.{ap, ◌∙◌, set}
use Rattle.flux_values.proofs.CellLemmas.{set_there, insert_gap}
use Rattle.flux_values.proofs.cells.set.Goals as goal

pub returns-in-Ok-clause-ok : goal.returns-in-Ok-clause-ok
returns-in-Ok-clause-ok c =
    let place = rw (c.deref.ensures.value, c.as_bytes.ensures.same) at c.in-Ok.ensures in
    ap (λ e. set c.args.entries.now.items c.in-Ok.place (e.0, c.args.value)) c.index_mut.ensures.value
    ∙ set_there c.args.entries.now.items c.args.name c.args.value c.in-Ok.place c.index_mut.result.now c.requires place

pub returns-in_ok-insert-in-Err-clause-ok : goal.returns-in_ok-insert-in-Err-clause-ok
returns-in_ok-insert-in-Err-clause-ok c =
    let place = rw (c.deref.ensures.value, c.as_bytes.ensures.same) at c.in-Err.ensures in
    c.in_ok-insert-in-Err.ensures.items ∙ insert_gap c.args.entries.now.items c.args.name c.args.value c.in-Err.place place
