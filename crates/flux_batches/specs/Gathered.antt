-- The links of a batch, as they come at a door.
use Rattle.std.specs.Prelude.{◌≡◌, ℕ, ◌⊎◌, List, [], ◌∷◌, ◌++◌, length, Option, Some, None}
use Rattle.flux_outside.specs.Causes.{Rose}
use Rattle.flux_doors.specs.Doors.{waiting}

-- the links are the first ones of the door's next batch, in order; what is left of it is left
pub record AreFirst {L : Type 0} (before after : List (List L)) (links : List L) : Type 0 where
  pub left : List L
  pub others : List (List L)
  pub first : waiting before ≡ (links ++ left) ∷ others
  pub behind : after ≡ left ∷ others

-- all of its links, or as many as a batch may have
abbrev pub AreAll : {L : Type 0} → List (List L) → List L → Type 0
AreAll {L} after links = ((others : List (List L)) × (after ≡ [] ∷ others)) ⊎ (length links ≡ 64)

-- where links are reported: the first ones of the next batch, and all that it may have unless a
-- later accept failed
abbrev pub AreGathered : {L : Type 0} → Option (List (List L)) → Option (List (List L)) → ℕ → ℕ
    → List L → Type 0
AreGathered None after late_before late_after links = Unit {0}
AreGathered (Some before) None late_before late_after links = ⊥
AreGathered (Some before) (Some after) late_before late_after links =
    AreFirst before after links × ((Rose late_before late_after → ⊥) → AreAll after links)
