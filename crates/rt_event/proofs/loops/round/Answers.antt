use Rattle.std.proofs.Common.{◌∙◌, ◌+◌, ℕ, sym, subst, arith}
use Rattle.flow_model.specs.Events.{IsLive}
use Rattle.flow_core.specs.States.{setup_in}
use Rattle.flow_core.proofs.Sequels.{same-setup, same-then, same-itself}
use Rattle.rt_event.specs.steps.Owners.{Stays}
use Rattle.rt_event.proofs.Rounds.{IsRounding, rounding-none, rounding-few, rounded, turn_after, turn-some, core-rounds, core-lags, core-stays, core-legal, core-longer}
use Rattle.rt_event.proofs.loops.round.Goals as goal

pub loop-candidates-init : goal.loop-candidates-init
loop-candidates-init g c = (
  same-itself c.args.core.now,
  rounding-none (setup_in g.L.Meaning.meaning c.args.core.now) c.args.core.now.entries
      (let kept = c.journal-journal.ensures.kept in kept.legal),
  record { covers = c.in_ok-candidates.ensures 0; on = tt },
)

pub update-requires : goal.update-requires
update-requires g c =
    core-lags g.L.Meaning.meaning c.args.core.now c.loop-candidates.core c.own_turn.new.core c.next_owner.new.candidates
    c.loop-candidates.from c.loop-candidates.on_turn c.in-Some.owner c.in_ok-ends.ends
    c.loop-candidates.invariant.0 c.loop-candidates.invariant.1 (rw c.in-Some.is at c.in_ok-owner.ensures)
    c.own_turn.ensures.others.setting c.in_ok-ends.ensures.ok

pub returns-in_err-update-clause-legal : goal.returns-in_err-update-clause-legal
returns-in_err-update-clause-legal g c =
    core-legal g.L.Meaning.meaning c.args.core.now c.loop-candidates.core c.own_turn.new.core
    c.next_owner.new.candidates c.loop-candidates.from c.loop-candidates.on_turn c.in-Some.owner c.in_ok-ends.ends
    c.loop-candidates.invariant.0 c.loop-candidates.invariant.1 (rw c.in-Some.is at c.in_ok-owner.ensures)
    c.own_turn.ensures.others.setting c.in_ok-ends.ensures.ok

pub loop-candidates-smaller : goal.loop-candidates-smaller
loop-candidates-smaller g c =
    let rounds = core-rounds g.L.Meaning.meaning c.args.core.now c.loop-candidates.core c.own_turn.new.core
    c.next_owner.new.candidates c.loop-candidates.from c.loop-candidates.on_turn c.in-Some.owner c.in_ok-ends.ends
    c.loop-candidates.invariant.0 c.loop-candidates.invariant.1 (rw c.in-Some.is at c.in_ok-owner.ensures)
    c.own_turn.ensures.others.setting c.in_ok-ends.ensures.ok in
    let longer = core-longer g.L.Meaning.meaning c.args.core.now c.loop-candidates.core c.own_turn.new.core
    c.next_owner.new.candidates c.loop-candidates.from c.loop-candidates.on_turn c.in-Some.owner c.in_ok-ends.ends
    c.loop-candidates.invariant.0 c.loop-candidates.invariant.1 (rw c.in-Some.is at c.in_ok-owner.ensures)
    c.own_turn.ensures.others.setting c.in_ok-ends.ensures.ok in
    let few = rounding-few (setup_in g.L.Meaning.meaning c.args.core.now) c.args.core.now.entries
    c.own_turn.new.core.entries (c.in-Some.owner.0 + 1) (turn_after c.in_ok-ends.ends c.in-Some.owner) rounds in
    omega (arith, longer, few)

pub loop-candidates-preserved : goal.loop-candidates-preserved
loop-candidates-preserved g c =
    let turn = c.then_some-on_turn.ensures ∙ turn-some c.in_ok-ends.ends c.in-Some.owner in (
      same-then c.args.core.now c.loop-candidates.core c.own_turn.new.core c.loop-candidates.invariant.0
          c.own_turn.ensures.others.setting,
      subst (IsRounding (setup_in g.L.Meaning.meaning c.args.core.now) c.args.core.now.entries
          c.own_turn.new.core.entries (c.in-Some.owner.0 + 1)) (sym turn)
          (core-rounds g.L.Meaning.meaning c.args.core.now c.loop-candidates.core c.own_turn.new.core
          c.next_owner.new.candidates c.loop-candidates.from c.loop-candidates.on_turn c.in-Some.owner
          c.in_ok-ends.ends
          c.loop-candidates.invariant.0 c.loop-candidates.invariant.1 (rw c.in-Some.is at c.in_ok-owner.ensures)
          c.own_turn.ensures.others.setting c.in_ok-ends.ensures.ok),
      subst (Stays (setup_in g.L.Meaning.meaning c.own_turn.new.core) c.own_turn.new.core.entries c.update.new.self
          (c.in-Some.owner.0 + 1)) (sym turn)
          (core-stays g.L.Meaning.meaning c.args.core.now c.loop-candidates.core c.own_turn.new.core
          c.next_owner.new.candidates c.loop-candidates.from c.loop-candidates.on_turn c.in-Some.owner
          c.in_ok-ends.ends
          c.loop-candidates.invariant.0 c.loop-candidates.invariant.1 (rw c.in-Some.is at c.in_ok-owner.ensures)
          c.own_turn.ensures.others.setting c.in_ok-ends.ensures.ok
          c.update.new.self c.in_ok-update.ensures.ready c.in_ok-update.ensures.covers),
    )

pub returns-clause-ok : goal.returns-clause-ok
returns-clause-ok g c =
    rounded (setup_in g.L.Meaning.meaning c.args.core.now) c.args.core.now.entries c.loop-candidates.core.entries
    c.loop-candidates.from c.loop-candidates.on_turn c.loop-candidates.invariant.1
    (subst (λ s. (flow : ℕ) → IsLive s c.loop-candidates.core.entries flow → ⊥)
    (same-setup g.L.Meaning.meaning c.args.core.now c.loop-candidates.core c.loop-candidates.invariant.0)
    (let leads = rw c.in_default.is at c.in_ok-owner.ensures in leads.owner))
