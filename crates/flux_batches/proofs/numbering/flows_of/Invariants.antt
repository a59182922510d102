use Rattle.std.proofs.Common.{◌≡◌, ℕ, ◌<◌, ◌≤◌, All, length, slice_index_or}
use Rattle.flux_batches.specs.steps.Answering.{flow_at}
use Rattle.flux_batches.proofs.numbering.flows_of.Given as goal

-- each place so far has its flow
abbrev pub invariant-loop-place : goal.invariant-loop-place
invariant-loop-place g l =
    (l.flow ≡ flow_at 0 l.links l.place) × (l.flow ≤ l.place) × All (λ flow. flow < 64) l.flows × (length l.flows ≡ 64)
    × ((place none : ℕ) → place < l.place → slice_index_or l.flows place none ≡ flow_at 0 l.links place)
