-- What places are.
use Rattle.std.specs.Prelude.{◌≡◌, ℕ, ◌+◌, ◌≤◌, List, ◌++◌, map, Some}
use Rattle.flow_model.specs.declared.journals.Entry.{Entry}
use Rattle.flow_shared.specs.Journals.{places_behind, ArePlacesOf, merged, times, entries_at}

pub record PlacesFit : Type 0 where
  -- after a front of a journal are the entries that were added to it
  pub added : (front more : List Entry)
      → entries_at (front ++ more) (places_behind front (front ++ more)) ≡ map Some more
  -- among the places of a journal each is there once
  pub once : (entries : List Entry) (places : List ℕ) → ArePlacesOf entries places
      → (place : ℕ) → times place places ≤ 1
  -- and the places of two lists are those of both
  pub both : (places others : List ℕ) (place : ℕ)
      → times place (merged places others) ≡ times place places + times place others
