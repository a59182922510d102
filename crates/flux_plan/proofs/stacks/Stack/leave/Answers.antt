use Rattle.std.proofs.Common.{◌≡◌, ◌+◌, ◌-◌, length, take, arith}
use Rattle.std.proofs.lemmas.List.{length-take-le}
use Rattle.flux_plan.proofs.Framing.{moved_last}
use Rattle.flux_plan.proofs.stacks.Stack.leave.Goals as goal

pub returns : goal.returns
returns c =
    let frames = take c.args.depth c.args.self.now.frames.items in
    let long : length frames ≡ c.args.depth - 1 + 1 = omega (arith, length-take-le c.args.depth c.args.self.now.frames.items c.requires.most) in
    rw (c.go_to.ensures, c.truncate.ensures.items) (moved_last frames (c.args.depth - 1) c.args.place _ _ long)
