-- The least of places.
use Rattle.std.specs.Prelude.{ℕ, Bool, if◌then◌else◌, List, [], ◌∷◌, Option, Some, None}
use Rattle.flux_syntax.specs.Least.{sooner}

-- of a place so far and others
abbrev pub least_of : Option ℕ → List ℕ → Option ℕ
least_of place [] = place
least_of place (at ∷ places) = least_of (Some (sooner place at)) places

-- a place, where something doesn't hold
abbrev pub unless : Bool → ℕ → List ℕ
unless holds at = if holds then [] else at ∷ []

abbrev pub sooner_of : Bool → ℕ → Option ℕ → Option ℕ
sooner_of holds at place = if holds then place else Some (sooner place at)
