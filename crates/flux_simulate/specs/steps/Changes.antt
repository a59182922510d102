-- What becomes of the calls that run and of those that wait. No promise cites it.
use Rattle.std.specs.Prelude.{◌≡◌, ℕ, ◌<◌, ◌≤◌, ◌⊎◌, List, ◌∷◌, ◌++◌, Option, Some, None}
use Rattle.std.specs.List.{slice_index_or, AllByRecursion}
use Rattle.flow_orders.specs.declared.runs.Run.{Run}

-- ---- which run stops first

-- a run stops before another, or with it and is of a lower flow
abbrev pub StopsBefore : Run → Run → Type 0
StopsBefore one other =
    (one.stop < other.stop) ⊎ ((one.stop ≡ other.stop) × (let low = one.flow in let high = other.flow in low.0 < high.0))

-- and no later
pub record StopsNoLater (one other : Run) : Type 0 where
  pub stop : one.stop ≤ other.stop
  pub flow : one.stop ≡ other.stop → (let low = one.flow in let high = other.flow in low.0 ≤ high.0)

-- of the first runs of a list, so many, that at a place stops first
pub record IsFirstOf (runs : List Run) (count place : ℕ) : Type 0 where
  pub within : place < count
  pub first : (other : ℕ) (default : Run) → other < count
      → StopsNoLater (slice_index_or runs place default) (slice_index_or runs other default)

-- ---- taken out

pub record IsOut (old : List Run) (run : Run) (new : List Run) : Type 0 where
  pub front : List Run
  pub back : List Run
  pub was : old ≡ front ++ run ∷ back
  pub is : new ≡ front ++ back

-- the run that stops first is taken out
pub record TakesNext (old new : List Run) (run : Run) : Type 0 where
  pub out : IsOut old run new
  pub first : AllByRecursion (StopsNoLater run) old

-- where it stops by a tick; where none does, nothing is
abbrev pub TakesDue : List Run → List Run → ℕ → Option Run → Type 0
TakesDue old new tick None = AllByRecursion (λ run. tick < run.stop) old × (new ≡ old)
TakesDue old new tick (Some run) = TakesNext old new run × (run.stop ≤ tick)
