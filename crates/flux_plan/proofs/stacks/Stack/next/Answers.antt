use Rattle.flow_model.specs.Matching.{patterns_match}
use Rattle.flux_plan.proofs.Acting.{ends_next, chosen_next}
use Rattle.flux_plan.proofs.stacks.Stack.next.Goals as goal

pub returns-in-Return : goal.returns-in-Return
returns-in-Return g c =
    let own = c.args.self.now in
    let matches = patterns_match (g.L.Meaning.meaning c.args.machine.now.library.now) c.args.machine.now.program.now.predicates in
    let top = rw c.deref.ensures.value at c.in-Some.ensures.value in
    ends_next c.args.machine.now.plan.now matches own.frames.items own.values own.outcome c.in-Some.top.now top _ _ c.at.ensures c.in-Return.is c.requires.rests

pub returns-in-Some-first_arm : goal.returns-in-Some-first_arm
returns-in-Some-first_arm g c =
    let own = c.args.self.now in
    let top = rw c.deref.ensures.value at c.in-Some.ensures.value in
    let found = c.in-Some-first_arm.ensures in
    let arm = rw (c.as_slice.ensures, c.as_slice-in-Choose.ensures) at found in
    chosen_next c.args.machine.now.plan.now (g.L.Meaning.meaning c.args.machine.now.library.now) c.args.machine.now.program.now.predicates own.frames.items own.values own.outcome c.in-Some.top.now top _ c.in-Choose.arms _ c.in-Choose.is c.at.ensures _ _ arm
