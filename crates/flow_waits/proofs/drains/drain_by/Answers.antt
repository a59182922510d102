use Rattle.std.proofs.Common.{subst, arith, ℕ}
use Rattle.flow_model.specs.Events.{IsLive}
use Rattle.flow_core.specs.States.{setup_in}
use Rattle.flow_core.proofs.Sequels.{same-setup, same-then, same-itself}
use Rattle.flow_orders.specs.Drains.{IsLowestsTurn}
use Rattle.flow_waits.proofs.Schedules.{scheduling-none}
use Rattle.flow_waits.proofs.Driving.{draining-few, drained, turn-drains, turn-longer, turn-legal}
use Rattle.flow_waits.proofs.drains.drain_by.Goals as goal

pub loop-candidates-init : goal.loop-candidates-init
loop-candidates-init g c = (
  same-itself c.args.core.now,
  scheduling-none (IsLowestsTurn (setup_in g.L.Meaning.meaning c.args.core.now) c.args.core.now.entries)
      (setup_in g.L.Meaning.meaning c.args.core.now) c.args.core.now.entries
      (let kept = c.journal-journal.ensures.kept in kept.legal),
  c.in_ok-candidates.ensures 0,
)

pub loop-candidates-smaller : goal.loop-candidates-smaller
loop-candidates-smaller g c =
    let chosen = rw c.in-Some.is at c.in_ok-flow.ensures.first in
    let after = turn-drains g.L.Meaning.meaning c.args.core.now c.loop-candidates.core c.take_turn.new.core
    c.first.new.self c.in-Some.flow c.in_ok-take_turn.field-0
    c.loop-candidates.invariant.0 c.loop-candidates.invariant.1 chosen c.take_turn.ensures.others.setting
    c.in_ok-take_turn.ensures.ok in
    let longer = turn-longer g.L.Meaning.meaning c.args.core.now c.loop-candidates.core c.take_turn.new.core
    c.first.new.self c.in-Some.flow c.in_ok-take_turn.field-0
    c.loop-candidates.invariant.0 c.loop-candidates.invariant.1 chosen c.take_turn.ensures.others.setting
    c.in_ok-take_turn.ensures.ok in
    let few = draining-few (setup_in g.L.Meaning.meaning c.args.core.now) c.args.core.now.entries
    c.take_turn.new.core.entries after in
    omega (arith, longer, few)

pub loop-candidates-preserved : goal.loop-candidates-preserved
loop-candidates-preserved g c =
    let chosen = rw c.in-Some.is at c.in_ok-flow.ensures.first in (
      same-then c.args.core.now c.loop-candidates.core c.take_turn.new.core c.loop-candidates.invariant.0
          c.take_turn.ensures.others.setting,
      turn-drains g.L.Meaning.meaning c.args.core.now c.loop-candidates.core c.take_turn.new.core c.first.new.self
          c.in-Some.flow c.in_ok-take_turn.field-0
          c.loop-candidates.invariant.0 c.loop-candidates.invariant.1 chosen c.take_turn.ensures.others.setting
          c.in_ok-take_turn.ensures.ok,
      c.in_ok-update.ensures.covers,
    )

pub returns-in_err-update-clause-legal : goal.returns-in_err-update-clause-legal
returns-in_err-update-clause-legal g c =
    let chosen = rw c.in-Some.is at c.in_ok-flow.ensures.first in
    turn-legal g.L.Meaning.meaning c.args.core.now c.loop-candidates.core c.take_turn.new.core c.first.new.self
    c.in-Some.flow c.in_ok-take_turn.field-0
    c.loop-candidates.invariant.0 c.loop-candidates.invariant.1 chosen c.take_turn.ensures.others.setting
    c.in_ok-take_turn.ensures.ok

pub returns-clause-ok : goal.returns-clause-ok
returns-clause-ok g c =
    drained (setup_in g.L.Meaning.meaning c.args.core.now) c.args.core.now.entries c.loop-candidates.core.entries
    c.loop-candidates.invariant.1
    (subst (λ s. (flow : ℕ) → IsLive s c.loop-candidates.core.entries flow → ⊥)
    (same-setup g.L.Meaning.meaning c.args.core.now c.loop-candidates.core c.loop-candidates.invariant.0)
    (rw c.in_default.is at c.in_ok-flow.ensures.first))
