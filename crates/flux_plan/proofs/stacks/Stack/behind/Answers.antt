use Rattle.flux_plan.proofs.Acting.{goes_on_behind, ends_behind, chosen_behind}
use Rattle.flux_plan.proofs.stacks.Stack.behind.Goals as goal

pub returns-in-Take : goal.returns-in-Take
returns-in-Take g c =
    let top = rw c.deref.ensures.value at c.in-Some.ensures.value in
    goes_on_behind c.args.machine.now.plan.now _ c.args.self.now.frames.items _ _ c.in-Some.top.now top _ _ c.at.ensures c.in-Take.is

pub returns-in-Return : goal.returns-in-Return
returns-in-Return g c =
    let top = rw c.deref.ensures.value at c.in-Some.ensures.value in
    ends_behind c.args.machine.now.plan.now _ c.args.self.now.frames.items _ _ c.in-Some.top.now top _ _ c.at.ensures c.in-Return.is c.requires.event

pub returns-in-Some-first_arm : goal.returns-in-Some-first_arm
returns-in-Some-first_arm g c =
    let top = rw c.deref.ensures.value at c.in-Some.ensures.value in
    let found = c.in-Some-first_arm.ensures in
    let arm = rw (c.as_slice.ensures, c.as_slice-in-Choose.ensures) at found in
    chosen_behind c.args.machine.now.plan.now (g.L.Meaning.meaning c.args.machine.now.library.now) c.args.machine.now.program.now.predicates c.args.self.now.frames.items c.args.self.now.values c.args.self.now.outcome c.in-Some.top.now top _ c.in-Choose.arms _ c.in-Choose.is c.at.ensures _ _ arm
