use Rattle.std.proofs.Common.{ℕ, ◌<◌, length, refl, sym, ◌∙◌, arith}
use Rattle.std.proofs.lemmas.List.{length-set}
use Rattle.std.proofs.lemmas.List.Elements.{All-replicate, All-set}
use Rattle.flux_batches.specs.steps.Answering.{flow_at}
use Rattle.flux_batches.proofs.Numbered.{flow-first, flows-more}
use Rattle.flux_batches.proofs.numbering.flows_of.Goals as goal

pub loop-place-init : goal.loop-place-init
loop-place-init g c = (
  sym (flow-first 0 c.args.links.now),
  omega arith,
  All-replicate (λ (flow : ℕ). flow < 64) 64 0 (omega arith),
  refl,
  λ place none below. absurd (omega (arith, below)),
)

pub next_flow-flow-requires-clause-few : goal.next_flow-flow-requires-clause-few
next_flow-flow-requires-clause-few g c =
    omega (arith, c.requires, c.loop-place-test.true, c.loop-place.invariant.1)

pub loop-place-preserved : goal.loop-place-preserved
loop-place-preserved g c =
    let before = c.loop-place.invariant in
    let below : c.loop-place.place < length c.loop-place.flows =
    omega (arith, before.3, c.requires, c.loop-place-test.true) in (
      c.next_flow-flow.ensures.next,
      omega (arith, c.next_flow-flow.ensures.bound, before.1),
      All-set (λ (flow : ℕ). flow < 64) c.loop-place.flows c.loop-place.place c.loop-place.flow
          (omega (arith, below, before.1, before.3)) before.2,
      length-set c.loop-place.flows c.loop-place.place c.loop-place.flow ∙ before.3,
      flows-more c.loop-place.flows c.loop-place.place c.loop-place.flow (flow_at 0 c.args.links.now) below before.0 before.4,
    )
