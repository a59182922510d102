use Rattle.std.proofs.Common.{◌≤◌, ℕ, arith}
use Rattle.flux_hoist.specs.steps.Declaring.{AreFewer}
use Rattle.flux_hoist.proofs.Declared.{fewer_next, fewer_end, fewer_here}
use Rattle.flux_hoist.proofs.declarers.class_count.Goals as goal
use Rattle.flux_hoist.proofs.declarers.class_count.Goals.{then-count-past, else-count-past}

pub loop-set-preserved : goal.loop-set-preserved
loop-set-preserved c =
    let past = c.past_greatest-past.result in
    let higher : c.loop-set.count ≤ c.if-count-past.count = elim c.if-count-past.branch [ then-count-past w ↦ omega arith | else-count-past w ↦ omega arith ] in
    let reached : past ≤ c.if-count-past.count = elim c.if-count-past.branch [ then-count-past w ↦ omega arith | else-count-past w ↦ omega arith ] in
    record {
      below = fewer_next c.args.sets.now c.loop-set.set-index c.set-item.result c.loop-set.count c.if-count-past.count (omega arith) c.loop-set.invariant.below higher
          (λ hold is. let low = c.past_greatest-past.ensures.all hold (rw (← c.set-item.is) at is) in omega (arith, low, reached));
      least = λ other fewer.
          let own : past ≤ other = c.past_greatest-past.ensures.least other (rw c.set-item.is (fewer_here c.args.sets.now c.loop-set.set-index c.set-item.result other (omega arith) fewer)) in
          let before : c.loop-set.count ≤ other = c.loop-set.invariant.least other fewer in
          elim c.if-count-past.branch [ then-count-past w ↦ omega (arith, own) | else-count-past w ↦ omega (arith, before) ];
      few = elim c.if-count-past.branch [ then-count-past w ↦ omega arith | else-count-past w ↦ omega arith ];
    }

pub returns-clause-count : goal.returns-clause-count
returns-clause-count c = record {
  all = fewer_end c.args.sets.now c.loop-set.set-index c.loop-set.count c.loop-set-test.false c.loop-set.invariant.below;
  least = c.loop-set.invariant.least;
}
