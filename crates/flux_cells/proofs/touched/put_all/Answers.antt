use Rattle.std.proofs.Common.{◌∙◌, ap}
use Rattle.flux_cells.specs.steps.Settling.{with_put}
use Rattle.flux_cells.proofs.Overlays.{with_puts_more}
use Rattle.flux_cells.proofs.touched.put_all.Goals as goal

pub loop-put-preserved : goal.loop-put-preserved
loop-put-preserved c =
    with_puts_more c.args.p.now c.args.touched.now.items c.loop-put.touched.items c.put_in.new.touched.items c.args.puts.now c.loop-put.put-index c.put-item.result c.loop-put.invariant c.loop-put-test.true
    (c.in_ok-put_in.ensures ∙ ap (with_put c.args.p.now c.loop-put.touched.items) c.put-item.is)
