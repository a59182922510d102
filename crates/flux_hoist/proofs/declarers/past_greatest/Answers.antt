use Rattle.std.proofs.Common.{arith}
use Rattle.flux_constraints.specs.ClassSets.{IsGreatestOf}
use Rattle.flux_hoist.proofs.declarers.past_greatest.Goals as goal

pub returns-in-Some-clause-least : goal.returns-in-Some-clause-least
returns-in-Some-clause-least c other fewer =
    let greatest : IsGreatestOf c.args.set.now c.in-Some.class = c.in-Some.ensures in
    let (mode, is) = greatest.has in
    let low = fewer (record { class = c.in-Some.class; mode = mode }) is in
    omega (arith, low)
