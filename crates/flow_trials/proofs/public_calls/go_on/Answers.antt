use Rattle.flow_model.specs.Matching.{patterns_match}
use Rattle.flow_trials.proofs.Reached.{event-unless, reached-behind, called-some}
use Rattle.flow_trials.proofs.public_calls.go_on.Goals as goal

pub answered-requires-clause-call : goal.answered-requires-clause-call
answered-requires-clause-call g c =
    called-some c.args.plan.now _ c.args.local.now _ (rw c.in-Call.is at c.next.ensures)

pub advance-requires-clause-event : goal.advance-requires-clause-event
advance-requires-clause-event g c =
    event-unless c.args.plan.now _ c.args.local.now c.next.result c.next.ensures c.in_default.not-Call
    c.in_default.not-Ended

pub returns-in_ok-advance-in_default : goal.returns-in_ok-advance-in_default
returns-in_ok-advance-in_default g c = λ more.
    reached-behind c.args.plan.now _ c.args.local.now c.advance.new.local c.next.result c.requires c.next.ensures
    c.in_ok-advance-in_default.ensures.ok

pub answered-requires-clause-reached : goal.answered-requires-clause-reached
answered-requires-clause-reached g c = record {
  matches = patterns_match (g.L.Meaning.meaning c.args.library.now) c.args.program.now.predicates;
  reached = c.requires;
}
