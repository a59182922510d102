use Rattle.std.proofs.Common.{sym, subst, ap, arith, ◌≡◌, ◌+◌, ◌-◌, length}
use Rattle.std.proofs.lemmas.Option.{slice_get_within}
use Rattle.flux_plan.specs.steps.Placed.{ArePlaced}
use Rattle.flux_plan.proofs.Acting.{top_first}
use Rattle.flux_plan.proofs.Answering.{calls_here, behind_call, answered_last}
use Rattle.flux_plan.proofs.stacks.Stack.answer.Goals as goal

pub returns : goal.returns
returns c =
    let own = c.args.self.now in
    let frames = own.frames.items in
    let top = rw c.deref.ensures.value at c.in-Some.ensures.value in
    let called = calls_here c.args.plan.now frames c.in-Some.top.now _ _ top c.at-exit.ensures c.requires.call in
    let placed = subst (ArePlaced c.args.plan.now) (top_first frames c.in-Some.top.now top) c.requires.placed in
    let next = behind_call c.args.plan.now c.requires.verified _ _ _ _ placed.0 c.at-exit.ensures called in
    let within = slice_get_within frames (length frames - 1) c.in-Some.top.now (sym top) in
    let same : length c.take_result.new.self.frames.items ≡ length frames = ap length c.take_result.ensures.frames in
    let long : length frames ≡ c.len-innermost.result - 1 + 1 = omega (arith, within, same, c.len-innermost.ensures) in
    rw (c.go_to.ensures, c.take_result.ensures.frames)
    (answered_last own c.take_result.new.self c.args.answer.now.result c.in-Some.top.now (c.len-innermost.result - 1) c.at-exit.result.0 top long next c.take_result.ensures.taken)
