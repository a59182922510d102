use Rattle.std.proofs.Common.{◌∙◌, sym, ap, subst}
use Rattle.flow_core.specs.States.{setup_in, begun_by}
use Rattle.flow_waits.specs.steps.Covers.{Pools}
use Rattle.flow_waits.specs.steps.Aside.{beside}
use Rattle.flow_waits.specs.steps.Waking.{IsEarliest, IsLess}
use Rattle.flow_waits.proofs.Aside.{aside-exist, aside-ended, aside-parked, aside-more, idle-chosen, all-blocked, idle-of}
use Rattle.flow_waits.proofs.Choosing.{parked}
use Rattle.flow_waits.proofs.Ending.{live-is}
use Rattle.flow_waits.proofs.Turning.{ended-over}
use Rattle.flow_waits.proofs.candidates.Candidates.first_beside.Goals as goal

pub is_ended-requires : goal.is_ended-requires
is_ended-requires g c =
    aside-exist g.L.Meaning.meaning c.args.core.now c.journal-journal.ensures.kept c.args.from c.loop-number.self
    c.loop-number.aside
    c.loop-number.invariant c.in-Some.number
    (let e = subst (λ pools. IsEarliest pools.ready c.args.from c.in-Some.number) c.self.view_is c.in-Some.ensures
    in e.is)

pub loop-number-preserved-then-is_ended : goal.loop-number-preserved-then-is_ended
loop-number-preserved-then-is_ended g c =
    let now : Pools = record {
      ready = c.remove.new.self;
      readers = c.self.inside.readers;
      writers = c.self.inside.writers;
    } in
    aside-ended g.L.Meaning.meaning c.args.core.now c.journal-journal.ensures.kept c.args.from c.loop-number.self
    c.loop-number.aside
    c.loop-number.invariant now c.in-Some.number
    (let e = subst (λ pools. IsEarliest pools.ready c.args.from c.in-Some.number) c.self.view_is c.in-Some.ensures
    in e.is)
    (subst (λ pools. IsLess pools.ready c.remove.new.self c.in-Some.number) c.self.view_is c.remove.ensures.less)
    (ap (λ pools. pools.readers) c.self.view_is) (ap (λ pools. pools.writers) c.self.view_is)
    (ended-over (setup_in g.L.Meaning.meaning c.args.core.now) c.args.core.now.entries c.in-Some.number
    (sym c.is_ended.ensures ∙ c.if-is_ended.true))

pub is_calling-requires : goal.is_calling-requires
is_calling-requires g c =
    aside-exist g.L.Meaning.meaning c.args.core.now c.journal-journal.ensures.kept c.args.from c.loop-number.self
    c.loop-number.aside
    c.loop-number.invariant c.in-Some.number
    (let e = subst (λ pools. IsEarliest pools.ready c.args.from c.in-Some.number) c.self.view_is c.in-Some.ensures
    in e.is)

pub loop-number-preserved-then-is_calling : goal.loop-number-preserved-then-is_calling
loop-number-preserved-then-is_calling g c =
    let now : Pools = record {
      ready = c.remove-then-is_calling.new.self;
      readers = c.self.inside.readers;
      writers = c.self.inside.writers;
    } in
    aside-more g.L.Meaning.meaning c.args.core.now c.journal-journal.ensures.kept c.args.from c.loop-number.self
    c.loop-number.aside
    c.loop-number.invariant now c.add.new.self c.in-Some.number
    (let e = subst (λ pools. IsEarliest pools.ready c.args.from c.in-Some.number) c.self.view_is c.in-Some.ensures
    in e.is)
    (subst (λ pools. IsLess pools.ready c.remove-then-is_calling.new.self c.in-Some.number) c.self.view_is
    c.remove-then-is_calling.ensures.less)
    (ap (λ pools. pools.readers) c.self.view_is) (ap (λ pools. pools.writers) c.self.view_is)
    c.in_ok-add.ensures.ok (c.is_calling.ensures.0 c.if-is_calling.true)

pub blocked_take-requires : goal.blocked_take-requires
blocked_take-requires g c =
    aside-exist g.L.Meaning.meaning c.args.core.now c.journal-journal.ensures.kept c.args.from c.loop-number.self
    c.loop-number.aside
    c.loop-number.invariant c.in-Some.number
    (let e = subst (λ pools. IsEarliest pools.ready c.args.from c.in-Some.number) c.self.view_is c.in-Some.ensures
    in e.is)

pub loop-number-preserved : goal.loop-number-preserved
loop-number-preserved g c =
    let setup = setup_in g.L.Meaning.meaning c.args.core.now in
    aside-parked g.L.Meaning.meaning c.args.core.now c.journal-journal.ensures.kept c.args.from c.loop-number.self
    c.loop-number.aside
    c.loop-number.invariant c.park.new.self c.in-Some.number c.in-Some-blocked_take.stop
    (let is_stop = c.in-Some-blocked_take.ensures in is_stop.blocked)
    c.in_ok-park-in-Some-blocked_take.ensures.ok
    (λ covers parks. parked setup c.args.core.now.entries (beside c.loop-number.self c.loop-number.aside)
    (beside c.park.new.self c.loop-number.aside) c.args.from c.in-Some.number c.in-Some-blocked_take.stop
    (let kept = c.journal-journal.ensures.kept in kept.legal) covers parks
    (live-is setup c.args.core.now.entries c.in-Some.number
    (aside-exist g.L.Meaning.meaning c.args.core.now c.journal-journal.ensures.kept c.args.from c.loop-number.self
    c.loop-number.aside
    c.loop-number.invariant c.in-Some.number
    (let e = subst (λ pools. IsEarliest pools.ready c.args.from c.in-Some.number) c.self.view_is c.in-Some.ensures
    in e.is))
    (sym c.is_ended.ensures ∙ c.if-is_ended.false)) c.in-Some-blocked_take.ensures)

pub returns-in-None-clause-first : goal.returns-in-None-clause-first
returns-in-None-clause-first g c =
    let setup = setup_in g.L.Meaning.meaning c.args.core.now in
    idle-chosen g.L.Meaning.meaning c.args.core.now c.journal-journal.ensures.kept c.args.from c.loop-number.self
    c.loop-number.aside
    c.loop-number.invariant (record { 0 = c.in-Some.number })
    (subst (λ pools. IsEarliest pools.ready c.args.from c.in-Some.number) c.self.view_is c.in-Some.ensures)
    (record {
      live = live-is setup c.args.core.now.entries c.in-Some.number
          (aside-exist g.L.Meaning.meaning c.args.core.now c.journal-journal.ensures.kept c.args.from
          c.loop-number.self c.loop-number.aside
          c.loop-number.invariant c.in-Some.number
          (let e = subst (λ pools. IsEarliest pools.ready c.args.from c.in-Some.number) c.self.view_is c.in-Some.ensures
          in e.is))
          (sym c.is_ended.ensures ∙ c.if-is_ended.false);
      free = c.in-None.ensures;
    })
    (idle-of (begun_by c.args.core.now c.in-Some.number) c.is_calling.result c.is_calling.ensures
    c.if-is_calling.false)

pub returns-clause-first : goal.returns-clause-first
returns-clause-first g c =
    all-blocked g.L.Meaning.meaning c.args.core.now c.journal-journal.ensures.kept c.args.from c.loop-number.self
    c.loop-number.aside
    c.loop-number.invariant
    (ap (λ pools. pools.ready) (sym c.self.view_is) ∙ c.in_default.ensures)
