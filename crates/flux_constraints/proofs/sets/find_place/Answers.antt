use Rattle.std.proofs.Common.{rules}
use Rattle.std.specs.Ordering.{nat_cmp}
use Rattle.std.proofs.lemmas.Fn.{always_returns_same}
use Rattle.flux_constraints.proofs.Searches.{place_of}
use Rattle.flux_constraints.proofs.sets.find_place.Goals as goal

-- the closure compares a hold's class
pub returns : goal.returns
returns c =
    let facts = c.binary_search_by.ensures in
    let found = facts.position (λ h. nat_cmp h.class.0 c.args.class.0) (always_returns_same _ _ _ (λ a r g called. (search rules, search rules))) in
    place_of c.args.holds.now c.args.class _ c.requires facts.bound found
