use Rattle.std.proofs.Common.{◌∙◌, ap, unwrap_or}
use Rattle.flux_values.specs.Cells.{no_cell}
use Rattle.flux_cells.specs.Kept.{cells_of}
use Rattle.flux_cells.proofs.Keys.{found_is}
use Rattle.flux_cells.proofs.Overlays.{copies_more}
use Rattle.flux_cells.proofs.touched.copies_under.Goals as goal

pub loop-key-preserved : goal.loop-key-preserved
loop-key-preserved c =
    copies_more (cells_of c.args.cells.now.entries) c.args.keys.now c.loop-key.key-index _ c.loop-key.touched.items c.push.new.self.items c.in_ok-copy_of.field-0 c.loop-key-test.true c.loop-key.invariant
    (c.in_ok-copy_of.ensures ∙ ap (λ o. unwrap_or o no_cell) (c.get.ensures.value ∙ found_is c.args.cells.now.entries _)) c.in_ok-push.ensures.items
