-- Steps of a class set: a search among its holds, and a test of them.
use Rattle.std.specs.Prelude.{◌≡◌, ℕ, ◌<◌, ◌≤◌, List, length, slice_index_or, Result, Ok, Err, Bool, not, nat_lt}
use Rattle.flux_model.specs.declared.programs.ClassNo.{ClassNo}
use Rattle.flux_model.specs.declared.programs.Hold.{Hold}

-- a class has a place among holds
pub record IsThere (holds : List Hold) (class : ClassNo) (place : ℕ) : Type 0 where
  pub within : place < length holds
  pub same : (d : Hold) → (slice_index_or holds place d).class.0 ≡ class.0

-- a class would go at a place: smaller ones before it, greater ones from it on
pub record IsGap (holds : List Hold) (class : ClassNo) (place : ℕ) : Type 0 where
  pub within : place ≤ length holds
  pub before : (k : ℕ) (d : Hold) → k < place → (slice_index_or holds k d).class.0 < class.0
  pub after : (k : ℕ) (d : Hold) → place ≤ k → k < length holds
      → class.0 < (slice_index_or holds k d).class.0

-- where a class is among rising holds, or where it would go
abbrev pub IsPlaceOf : List Hold → ClassNo → Result ℕ ℕ → Type 0
IsPlaceOf holds class (Ok place) = IsThere holds class place
IsPlaceOf holds class (Err place) = IsGap holds class place

-- a hold is on a class that is at most this one
abbrev pub is_up_to : ClassNo → Hold → Bool
is_up_to class hold = not (nat_lt class.0 hold.class.0)
