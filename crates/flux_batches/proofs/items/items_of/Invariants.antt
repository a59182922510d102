use Rattle.std.proofs.Common.{◌≡◌, ◌+◌, ◌++◌, drop}
use Rattle.std.specs.List.{AllByRecursion}
use Rattle.flux_batches.specs.Links.{items_from, AreRead, IsLinkItem}
use Rattle.flux_batches.proofs.items.items_of.Given as goal

-- the items so far, and those of the links that are left
abbrev pub invariant-loop-place : goal.invariant-loop-place
invariant-loop-place g l =
    (l.items ++ items_from (l.fn.number + l.place) (drop l.place l.links.items) ≡ items_from l.fn.number l.links.items)
    × AllByRecursion IsLinkItem l.items × (AreRead (drop l.place l.links.items) → AreRead l.links.items)
