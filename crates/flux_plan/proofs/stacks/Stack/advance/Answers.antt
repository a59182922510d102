use Rattle.flow_model.specs.Matching.{patterns_match}
use Rattle.flux_plan.specs.Machine.{State}
use Rattle.std.proofs.Common.{ap, List, reverse}
use Rattle.flux_plan.specs.declared.stacks.Frame.{Frame}
use Rattle.flux_plan.proofs.Acting.{behind_placed, moves_on, moves_out, on_ok}
use Rattle.flux_plan.proofs.stacks.Stack.advance.Goals as goal

pub land-landing-requires-clause-placed : goal.land-landing-requires-clause-placed
land-landing-requires-clause-placed g c =
    let own = c.args.self.now in
    let matches = patterns_match (g.L.Meaning.meaning c.args.machine.now.library.now) c.args.machine.now.program.now.predicates in
    rw c.deref.ensures.value (behind_placed c.args.machine.now.plan.now c.requires.verified matches own.frames.items own.values own.outcome c.in-Some.place c.requires.placed c.in-Some.ensures)

pub returns-in-Some-clause-ok : goal.returns-in-Some-clause-ok
returns-in-Some-clause-ok g c =
    let own = c.args.self.now in
    let matches = patterns_match (g.L.Meaning.meaning c.args.machine.now.library.now) c.args.machine.now.program.now.predicates in
    let lands = rw (c.deref.ensures.value, c.as_slice-values.ensures) at c.land-landing.ensures in
    on_ok c.settle.result c.settle.ensures.ok
    (λ is. moves_on c.args.machine.now.plan.now c.requires.verified matches own.frames.items own.values own.outcome c.in-Some.place c.land-landing.result _ c.in-Some.ensures lands is)

pub returns-in-None-clause-ok : goal.returns-in-None-clause-ok
returns-in-None-clause-ok g c =
    let own = c.args.self.now in
    let matches = patterns_match (g.L.Meaning.meaning c.args.machine.now.library.now) c.args.machine.now.program.now.predicates in
    moves_out c.args.machine.now.plan.now c.requires.verified matches own.frames.items own.values own.outcome _ c.in-None.ensures
    (ap (λ (fs : List Frame). let s : State = record { frames = reverse fs; values = own.values; outcome = own.outcome } in s) c.new.ensures.items)
