use Rattle.std.specs.List.{flat_map}
use Rattle.std.proofs.lemmas.Result.{on_err_weaker}
use Rattle.flux_driver.proofs.Paged.{on_err, broke_later, broke_sooner}
use Rattle.flux_driver.proofs.pages.write_pages.Goals as goal

pub returns-in_err-write_full-clause-broke : goal.returns-in_err-write_full-clause-broke
returns-in_err-write_full-clause-broke g c =
    let before = g.O.Sink.seen c.args.out.now in
    let after = g.O.Sink.seen c.write_full.new.out in
    on_err c.from_residual.result (rw c.parts.ensures (broke_sooner before after (flat_map (λ page. page) c.parts.result.0.now) c.parts.result.1.now c.in_err-write_full.ensures.broke))

pub returns-clause-broke : goal.returns-clause-broke
returns-clause-broke g c =
    let before = g.O.Sink.seen c.args.out.now in
    let mid = g.O.Sink.seen c.write_full.new.out in
    let after = g.O.Sink.seen c.write_all.new.out in
    rw c.parts.ensures (on_err_weaker c.write_all.result (broke_later before mid after (flat_map (λ page. page) c.parts.result.0.now) c.parts.result.1.now c.in_ok-write_full.ensures.wrote) c.write_all.ensures.broke)
