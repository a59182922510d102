use Rattle.std.proofs.Common.{refl, ◌∙◌}
use Rattle.flux_batches.proofs.Spanning.{spans-none, spans-next}
use Rattle.flux_batches.proofs.spans.spans_of.Goals as goal

pub loop-place-init : goal.loop-place-init
loop-place-init c = (spans-none c.args.entries.now 64, refl)

pub loop-place-preserved : goal.loop-place-preserved
loop-place-preserved c = (
  spans-next c.args.entries.now c.loop-place.place _ c.loop-place.spans c.note.new.spans c.loop-place-test.true
      c.index-entries-place.is c.loop-place.invariant.0 c.note.ensures.spans,
  c.note.ensures.count ∙ c.loop-place.invariant.1,
)
