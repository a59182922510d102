-- Sets of flows' numbers, and parked flows by the keys that they would take.
use Rattle.std.specs.Prelude.{◌≡◌, ◌≢◌, ℕ, ◌<◌, ◌==◌, ◌||◌, ◌&&◌, not, Bool, true, false, List, [], ◌∷◌, Option, Some, None}
use Rattle.std.specs.List.{list_any, AllByRecursion}
use Rattle.std.specs.Map.{lookup}
use Rattle.flow_model.specs.declared.journals.Key.{Key}
use Rattle.flow_model.specs.Keys.{same_key}
use Rattle.flow_orders.specs.Turns.{IsBefore}

-- ---- numbers

abbrev pub has : List ℕ → ℕ → Bool
has numbers flow = list_any (λ number. flow == number) numbers

-- one number more, or one less
abbrev pub IsMore : List ℕ → List ℕ → ℕ → Type 0
IsMore old new flow = (other : ℕ) → has new other ≡ (flow == other || has old other)

abbrev pub IsLess : List ℕ → List ℕ → ℕ → Type 0
IsLess old new flow = (other : ℕ) → has new other ≡ (not (flow == other) && has old other)

-- the one that is looked at first, from a number on
pub record IsEarliest (numbers : List ℕ) (from flow : ℕ) : Type 0 where
  pub is : has numbers flow ≡ true
  pub first : (other : ℕ) → has numbers other ≡ true → flow ≢ other → IsBefore from flow other

-- the lowest one is taken out
pub record TakesLowest (old new : List ℕ) (flow : ℕ) : Type 0 where
  pub was : old ≡ flow ∷ new
  pub lowest : AllByRecursion (λ other. flow < other) new

-- ---- parked flows

abbrev pub ParkedFlows : Type 0
ParkedFlows = List (Key × List ℕ)

abbrev pub flows_or_none : Option (List ℕ) → List ℕ
flows_or_none None = []
flows_or_none (Some flows) = flows

abbrev pub parked_at : ParkedFlows → Key → List ℕ
parked_at parks key = flows_or_none (lookup (same_key key) parks)

-- the numbers at one key are changed
abbrev pub OthersStay : ParkedFlows → ParkedFlows → Key → Type 0
OthersStay old new key = (other : Key) → same_key key other ≡ false → parked_at new other ≡ parked_at old other

pub record IsMoreAt (old new : ParkedFlows) (key : Key) (flow : ℕ) : Type 0 where
  pub at : IsMore (parked_at old key) (parked_at new key) flow
  pub others : OthersStay old new key

pub record IsLessAt (old new : ParkedFlows) (key : Key) (flow : ℕ) : Type 0 where
  pub at : IsLess (parked_at old key) (parked_at new key) flow
  pub others : OthersStay old new key
