use Rattle.std.proofs.Common.{subst, sym}
use Rattle.flux_simulate.specs.declared.clock.Clock.{Clock}
use Rattle.flux_simulate.specs.steps.Ticking.{AllLast, Finishes}
use Rattle.flux_simulate.proofs.Stopping.{flow-within, arrived-stopped, arrived-last}
use Rattle.flux_simulate.proofs.simulating.finish_next.Goals as goal

pub finish_run-requires-clause-flow : goal.finish_run-requires-clause-flow
finish_run-requires-clause-flow g c =
    let rests = c.requires.rests in
    let begins = rests.begins in
    let ticks = begins.ticks in
    flow-within g.L.Meaning.meaning c.args.core.now c.args.clock.now.running c.args.clock.now.waiting c.in-Some.run'
    c.take_next.new.self c.requires.kept ticks.calls c.in-Some.ensures

pub finish_due-requires-clause-finishes : goal.finish_due-requires-clause-finishes
finish_due-requires-clause-finishes g c =
    subst (λ (clock : Clock). Finishes g.L.Meaning.meaning c.finish_run.new.core clock)
    (sym c.in_ok-note_end.ensures.ok)
    (arrived-stopped g.L.Meaning.meaning c.args.core.now c.finish_run.new.core c.args.clock.now c.in-Some.run'
    c.take_next.new.self c.requires.kept c.requires.rests c.in-Some.ensures c.in_ok-finish_run.ensures.ends)

pub returns-clause-last : goal.returns-clause-last
returns-clause-last g c = λ costs last.
    c.in_ok-finish_due.ensures.last costs
    (subst (λ (clock : Clock). AllLast costs clock) (sym c.in_ok-note_end.ensures.ok)
    (arrived-last g.L.Meaning.meaning c.args.core.now c.finish_run.new.core c.args.clock.now c.in-Some.run'
    c.take_next.new.self c.requires.kept c.requires.rests c.in-Some.ensures c.in_ok-finish_run.ensures.ends
    costs last))
