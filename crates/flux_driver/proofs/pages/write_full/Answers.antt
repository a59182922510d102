use Rattle.std.proofs.Common.{◌∙◌}
use Rattle.flux_driver.proofs.Paged.{on_err, broke_at}
use Rattle.flux_driver.proofs.pages.write_full.Goals as goal

pub returns-in_err-write_all-clause-broke : goal.returns-in_err-write_all-clause-broke
returns-in_err-write_all-clause-broke g c =
    let before = g.O.Sink.seen c.args.out.now in
    let mid = g.O.Sink.seen c.loop-page.out in
    let after = g.O.Sink.seen c.write_all.new.out in
    on_err c.from_residual.result (broke_at before mid after c.args.pages.now c.loop-page.page-index c.as_bytes.result.now c.page-item.result c.loop-page-test.true (c.as_bytes.ensures ∙ c.page-item.is) c.loop-page.invariant c.in_err-write_all.ensures.broke)
