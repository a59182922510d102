use Rattle.std.proofs.Common.{◌∙◌, sym, ap, subst}
use Rattle.flow_core.specs.States.{setup_in}
use Rattle.flow_waits.specs.steps.Waking.{IsEarliest, IsLess}
use Rattle.flow_waits.proofs.Choosing.{chosen, none_left, without_ended, parked}
use Rattle.flow_waits.proofs.Ending.{live-is}
use Rattle.flow_waits.proofs.Turning.{ended-over}
use Rattle.flow_waits.proofs.candidates.Candidates.first.Goals as goal

pub readiness-requires : goal.readiness-requires
readiness-requires g c = c.loop-number.invariant.exist c.in-Some.number
    (let e = subst (λ pools. IsEarliest pools.ready c.args.from c.in-Some.number) c.self.view_is c.in-Some.ensures
    in e.is)

pub loop-number-preserved-in-Ended : goal.loop-number-preserved-in-Ended
loop-number-preserved-in-Ended g c =
    without_ended (setup_in g.L.Meaning.meaning c.args.core.now) c.args.core.now.entries c.loop-number.self
    (record { ready = c.remove.new.self; readers = c.self.inside.readers; writers = c.self.inside.writers }) c.args.from
    c.in-Some.number
    c.loop-number.invariant (subst (λ pools. IsLess pools.ready c.remove.new.self c.in-Some.number) c.self.view_is
    c.remove.ensures.less)
    (ap (λ pools. pools.readers) c.self.view_is) (ap (λ pools. pools.writers) c.self.view_is)
    (ended-over (setup_in g.L.Meaning.meaning c.args.core.now) c.args.core.now.entries c.in-Some.number
    c.in-Ended.ensures)

pub loop-number-preserved : goal.loop-number-preserved
loop-number-preserved g c =
    parked (setup_in g.L.Meaning.meaning c.args.core.now) c.args.core.now.entries c.loop-number.self c.park.new.self
    c.args.from c.in-Some.number c.in-Blocked.stop
    (let kept = c.journal-journal.ensures.kept in kept.legal) c.loop-number.invariant
    c.in_ok-park-in-Blocked.ensures.ok
    (live-is (setup_in g.L.Meaning.meaning c.args.core.now) c.args.core.now.entries c.in-Some.number
    (c.loop-number.invariant.exist c.in-Some.number
    (let e = subst (λ pools. IsEarliest pools.ready c.args.from c.in-Some.number) c.self.view_is c.in-Some.ensures
    in e.is))
    c.in-Blocked.ensures.0) c.in-Blocked.ensures.1

pub returns-in-Free-clause-first : goal.returns-in-Free-clause-first
returns-in-Free-clause-first g c =
    chosen (setup_in g.L.Meaning.meaning c.args.core.now) c.args.core.now.entries c.loop-number.self c.args.from
    c.loop-number.invariant c.in-Some.number (subst (λ pools. IsEarliest pools.ready c.args.from c.in-Some.number)
    c.self.view_is c.in-Some.ensures)
    (record {
      live = live-is (setup_in g.L.Meaning.meaning c.args.core.now) c.args.core.now.entries c.in-Some.number
          (c.loop-number.invariant.exist c.in-Some.number
          (let e = subst (λ pools. IsEarliest pools.ready c.args.from c.in-Some.number) c.self.view_is c.in-Some.ensures
          in e.is))
          c.in-Free.ensures.0;
      free = c.in-Free.ensures.1;
    })

pub returns-clause-first : goal.returns-clause-first
returns-clause-first g c =
    none_left (setup_in g.L.Meaning.meaning c.args.core.now) c.args.core.now.entries c.loop-number.self c.args.from
    c.loop-number.invariant
    (let kept = c.journal-journal.ensures.kept in kept.legal)
    (ap (λ pools. pools.ready) (sym c.self.view_is) ∙ c.in_default.ensures)
