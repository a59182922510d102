use Rattle.std.proofs.Common.{◌≡◌, length, take}
use Rattle.flux_batches.specs.steps.Spans.{AreSpans}
use Rattle.flux_batches.proofs.spans.spans_of.Given as goal

-- the spans of the entries so far
abbrev pub invariant-loop-place : goal.invariant-loop-place
invariant-loop-place l = AreSpans (take l.place l.entries) l.spans × (length l.spans ≡ 64)
