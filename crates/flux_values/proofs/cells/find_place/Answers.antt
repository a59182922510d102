use Rattle.std.proofs.Common.{rules}
use Rattle.std.specs.Ordering.{nat_cmp}
use Rattle.std.specs.Cmp.Lexicographic.{slice_cmp}
use Rattle.std.proofs.lemmas.Fn.{always_returns_same}
use Rattle.flux_values.proofs.CellLemmas.{place_of}
use Rattle.flux_values.proofs.cells.find_place.Goals as goal

-- the closure compares an entry's name
pub returns : goal.returns
returns c =
    let facts = c.binary_search_by.ensures in
    let found = facts.position (λ e. slice_cmp nat_cmp e.0 c.args.name.now) (always_returns_same _ _ _ (λ a r g called. (search rules, search rules))) in
    place_of c.args.entries.now c.args.name.now _ c.requires facts.bound found
