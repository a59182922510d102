use Rattle.std.proofs.Common.{◌≡◌, sym, ap, subst, ◌∙◌, arith, ◌∷◌, length}
use Rattle.crossbeam_queue.specs.Fifo.{Pushes, Learns}
use Rattle.crossbeam_queue.specs.Passes.{ruled_capacity}
use Rattle.flow_queue.specs.Rule.{IsQueue, HasOpened, opening_after}
use Rattle.flow_queue.proofs.Counts.{length-numbers}
use Rattle.flow_queue.proofs.Kept.{opens, told}
use Rattle.flow_queue.proofs.queues.open.Goals as goal

pub push_as-requires-clause-queue : goal.push_as-requires-clause-queue
push_as-requires-clause-queue g c =
    let same = c.loop-number.invariant.0 in
    (same.0 ∙ c.requires.queue.0, same.2 ∙ c.requires.queue.1)

pub push_as-requires-clause-rule : goal.push_as-requires-clause-rule
push_as-requires-clause-rule g c =
    let number = c.loop-number.number in
    let cap = ruled_capacity c.args.queue.now in
    let is = sym c.loop-number.invariant.1 in (
      subst (λ v. Pushes IsQueue cap c.loop-number.pass.id v number (λ after. after ≡ opening_after v)) is
          (opens cap c.loop-number.pass.id number),
      subst (λ v. Learns IsQueue c.loop-number.pass.id v (HasOpened v)) is (told c.loop-number.pass.id number),
    )

pub unreachable-requires : goal.unreachable-requires
unreachable-requires g c =
    let number = c.loop-number.number in
    let told = c.in_default.ensures.rule.2 in
    let has = subst (λ v. HasOpened v told.0) c.loop-number.invariant.1 told.2 in
    let long = ap length has ∙ length-numbers number in
    let less = c.loop-number-test.true in
    let cap = c.requires.room in
    let full = told.1 in omega (arith, long, less, cap, full)
