use Rattle.std.proofs.Common.{take}
use Rattle.std.specs.List.{flat_map}
use Rattle.flux_outside.specs.Streams.{Wrote}
use Rattle.flux_driver.proofs.pages.write_full.Given as goal

abbrev pub invariant-loop-page : goal.invariant-loop-page
invariant-loop-page g l = Wrote (g.O.Sink.seen l.fn.out) (g.O.Sink.seen l.out) (flat_map (λ page. page) (take l.page-index l.pages))
