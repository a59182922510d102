use Rattle.std.proofs.Common.{◌≡◌, ◌+◌, ◌-◌, length, take, arith}
use Rattle.std.proofs.lemmas.List.{length-take-le}
use Rattle.flux_plan.proofs.Framing.{entered_last}
use Rattle.flux_plan.proofs.stacks.Stack.enter_over.Goals as goal

pub returns-clause-ok : goal.returns-clause-ok
returns-clause-ok c =
    let frames = take c.args.depth c.args.self.now.frames.items in
    let long : length frames ≡ c.args.depth - 1 + 1 = omega (arith, length-take-le c.args.depth c.args.self.now.frames.items c.requires.most) in
    rw (c.go_to.ensures, c.in_ok-enter.ensures.frames, c.in_ok-enter.ensures.values, c.in_ok-enter.ensures.outcome) (entered_last frames (c.args.depth - 1) c.args.place c.args.node c.args.inputs long)
