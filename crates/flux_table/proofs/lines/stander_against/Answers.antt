use Rattle.std.proofs.Common.{◌≡◌, length, arith, subst, sym, refl}
use Rattle.flux_table.proofs.Standing.{IsSearched, searched_past, searched_more, searched_stop, searched_all}
use Rattle.flux_table.proofs.lines.stander_against.Goals as goal
use Rattle.flux_table.proofs.lines.stander_against.Goals.{then-conflict, else-conflict}

pub returns-then-eq : goal.returns-then-eq
returns-then-eq c =
    searched_stop c.args.line.now c.args.flow.0 c.args.mode c.loop-waiter.waiter-index c.loop-waiter.lowest _ _ c.loop-waiter.invariant c.loop-waiter-test.true refl (sym c.if-eq.ensures)

pub loop-waiter-preserved : goal.loop-waiter-preserved
loop-waiter-preserved c =
    let line = c.args.line.now in let flow = c.args.flow.0 in let mode = c.args.mode in let place = c.loop-waiter.waiter-index in let within = c.loop-waiter-test.true in
    elim c.if-conflict.branch [
      | then-conflict w ↦ searched_more line flow mode place c.loop-waiter.lowest c.if-conflict.lowest _ _ c.loop-waiter.invariant within refl (sym c.if-eq.ensures) (sym w.if-conflict.ensures) (rw w.lowest-is w.lower-lowest.ensures)
      | else-conflict w ↦ rw w.lowest-is (searched_past line flow mode place c.loop-waiter.lowest _ _ c.loop-waiter.invariant within refl (sym c.if-eq.ensures) (sym w.if-conflict.ensures))
    ]

pub returns : goal.returns
returns c =
    let all : c.loop-waiter.waiter-index ≡ length c.args.line.now = omega (arith, c.loop-waiter-test.false, c.loop-waiter.auto.waiter-index-end) in
    searched_all c.args.line.now c.args.flow.0 c.args.mode c.loop-waiter.lowest
    (subst (λ n. IsSearched c.args.line.now c.args.flow.0 c.args.mode n c.loop-waiter.lowest) all c.loop-waiter.invariant)
