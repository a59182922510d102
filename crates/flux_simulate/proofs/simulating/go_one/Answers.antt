use Rattle.flux_simulate.specs.steps.Calls.{HasStarted}
use Rattle.flux_simulate.proofs.Watching.{went-kept, job-kept}
use Rattle.flux_simulate.proofs.Steps.{always, never-ended, never-calling, never-waits, went-noted, went-started, job-noted, job-started}
use Rattle.flux_simulate.proofs.simulating.go_one.Goals as goal
use Rattle.flux_simulate.proofs.simulating.go_one.Goals.{in-Job, in-Went, in-Ended, in-Calling, in-Waits}

pub returns-clause-goes : goal.returns-clause-goes
returns-clause-goes g c = elim c.match-branch-2.branch [
  | in-Job w ↦
      job-noted g.L.Meaning.meaning c.args.core.now c.step.new.self c.args.flow c.requires.first
      c.in_ok-step.field-0 c.in_ok-step.ensures.ok c.args.clock.now c.requires.kept c.requires.goes
      w.add.new.self c.match-branch-2.clock w.add.result c.match-branch-2.result _ w.in-Job.is w.result-is w.clock-is
      w.add.ensures.ok
  | in-Went w ↦
      went-noted g.L.Meaning.meaning c.args.core.now c.step.new.self c.args.flow c.requires.first
      c.in_ok-step.field-0 c.in_ok-step.ensures.ok c.args.clock.now c.requires.kept c.requires.goes
      w.note_event.new.clock c.match-branch-2.clock w.note_event.result c.match-branch-2.result w.in-Went.is w.result-is w.clock-is
      w.note_event.ensures.noted
  | in-Ended w ↦ absurd
      (never-ended g.L.Meaning.meaning c.args.core.now c.step.new.self c.args.flow c.requires.first
      c.in_ok-step.field-0 c.in_ok-step.ensures.ok w.in-Ended.is)
  | in-Calling w ↦ absurd
      (never-calling g.L.Meaning.meaning c.args.core.now c.step.new.self c.args.flow c.requires.first
      c.in_ok-step.field-0 c.in_ok-step.ensures.ok w.in-Calling.is)
  | in-Waits w ↦ absurd
      (never-waits g.L.Meaning.meaning c.args.core.now c.step.new.self c.args.flow c.requires.first
      c.in_ok-step.field-0 c.in_ok-step.ensures.ok _ _ w.in-Waits.is)
]

pub returns-clause-less : goal.returns-clause-less
returns-clause-less g c = elim c.match-branch-2.branch [
  | in-Job w ↦ always c.match-branch-2.result (HasStarted c.args.core.now c.step.new.self)
      (job-started g.L.Meaning.meaning c.args.core.now c.step.new.self c.args.flow c.requires.first
      c.in_ok-step.field-0 c.in_ok-step.ensures.ok c.args.clock.now c.requires.kept c.requires.goes _ w.in-Job.is)
  | in-Went w ↦ always c.match-branch-2.result (HasStarted c.args.core.now c.step.new.self)
      (went-started g.L.Meaning.meaning c.args.core.now c.step.new.self c.args.flow c.requires.first
      c.in_ok-step.field-0 c.in_ok-step.ensures.ok c.args.clock.now c.requires.kept c.requires.goes w.in-Went.is)
  | in-Ended w ↦ absurd
      (never-ended g.L.Meaning.meaning c.args.core.now c.step.new.self c.args.flow c.requires.first
      c.in_ok-step.field-0 c.in_ok-step.ensures.ok w.in-Ended.is)
  | in-Calling w ↦ absurd
      (never-calling g.L.Meaning.meaning c.args.core.now c.step.new.self c.args.flow c.requires.first
      c.in_ok-step.field-0 c.in_ok-step.ensures.ok w.in-Calling.is)
  | in-Waits w ↦ absurd
      (never-waits g.L.Meaning.meaning c.args.core.now c.step.new.self c.args.flow c.requires.first
      c.in_ok-step.field-0 c.in_ok-step.ensures.ok _ _ w.in-Waits.is)
]

pub returns-clause-watched : goal.returns-clause-watched
returns-clause-watched g c = elim c.match-branch-2.branch [
  | in-Job w ↦
      job-kept g.L.Meaning.meaning c.args.core.now c.step.new.self c.args.flow c.args.idlers.now c.requires.watched
      c.in_ok-step.field-0 c.in_ok-step.ensures.ok _ w.in-Job.is c.match-branch-2.idlers w.idlers-is
      c.match-branch-2.result
  | in-Went w ↦
      went-kept g.L.Meaning.meaning c.args.core.now c.step.new.self c.args.flow c.args.idlers.now c.requires.watched
      c.in_ok-step.field-0 c.in_ok-step.ensures.ok w.in-Went.is w.note_event.new.idlers c.match-branch-2.idlers
      w.note_event.result c.match-branch-2.result w.result-is w.idlers-is w.note_event.ensures.aside
      w.note_event.ensures.covers
  | in-Ended w ↦ absurd
      (never-ended g.L.Meaning.meaning c.args.core.now c.step.new.self c.args.flow c.requires.first
      c.in_ok-step.field-0 c.in_ok-step.ensures.ok w.in-Ended.is)
  | in-Calling w ↦ absurd
      (never-calling g.L.Meaning.meaning c.args.core.now c.step.new.self c.args.flow c.requires.first
      c.in_ok-step.field-0 c.in_ok-step.ensures.ok w.in-Calling.is)
  | in-Waits w ↦ absurd
      (never-waits g.L.Meaning.meaning c.args.core.now c.step.new.self c.args.flow c.requires.first
      c.in_ok-step.field-0 c.in_ok-step.ensures.ok _ _ w.in-Waits.is)
]
