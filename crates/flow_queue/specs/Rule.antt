-- The queue's rule: what it holds, and what its passes know.
use Rattle.std.specs.Prelude.{◌≡◌, ℕ, zero, suc, ◌+◌, ◌<◌, ◌≤◌, ◌==◌, ◌⊎◌, if◌then◌else◌, List, [], ◌∷◌, ◌++◌, length, Option, Some, None, ⊤}
use Rattle.std.specs.List.{slice_get, AllByRecursion, sum_by}
use mathlib.Core.Option.{some}
use lib.ListN.{get_elem?}
use Rattle.crossbeam_queue.specs.Passes.{Pass, view}
use Rattle.flow_queue.specs.States.{QueueState}
use Rattle.flow_queue.specs.declared.views.Placed.{Placed}
use Rattle.flow_queue.specs.declared.views.View.{View}
use Rattle.flow_queue.specs.declared.views.View.TheVariants.{Opening, Working}

-- ---- what a pass knows

-- the number that it holds, as a list
abbrev pub in_hand : Option ℕ → List ℕ
in_hand None = []
in_hand (Some number) = number ∷ []

abbrev pub held_of : View → List ℕ
held_of (Opening next) = []
held_of (Working flows held moves puts takes) = in_hand held

abbrev pub moves_of : View → ℕ
moves_of (Opening next) = 0
moves_of (Working flows held moves puts takes) = moves

abbrev pub puts_of : View → List Placed
puts_of (Opening next) = []
puts_of (Working flows held moves puts takes) = puts

abbrev pub takes_of : View → List Placed
takes_of (Opening next) = []
takes_of (Working flows held moves puts takes) = takes

-- ---- counting

-- the numbers below one, rising
abbrev pub numbers : ℕ → List ℕ
numbers zero = []
numbers (suc n) = numbers n ++ n ∷ []

-- how often a number is in a list
abbrev pub times : ℕ → List ℕ → ℕ
times number [] = 0
times number (x ∷ xs) = (if x == number then 1 else 0) + times number xs

-- how often a place does
abbrev pub marks : ℕ → List Placed → ℕ
marks place [] = 0
marks place (x ∷ xs) = (if x.place == place then 1 else 0) + marks place xs

-- a number is in a list at its place
abbrev pub StandsIn : List ℕ → Placed → Type 0
StandsIn all placed = slice_get all placed.place ≡ Some placed.number

-- ---- the rule

-- a number that was put later is at its place, which comes after the first ones
pub record IsPut (flows : ℕ) (all : List ℕ) (placed : Placed) : Type 0 where
  pub stands : StandsIn all placed
  pub later : flows ≤ placed.place

-- a pass of a queue that was opened with so many numbers
pub record IsSeat (flows : ℕ) (all gone : List ℕ) (view : View) : Type 0 where
  pub held : Option ℕ
  pub is : view ≡ Working flows held (moves_of view) (puts_of view) (takes_of view)
  pub below : AllByRecursion (λ number. number < flows) (in_hand held)
  pub puts : AllByRecursion (IsPut flows all) (puts_of view)
  pub takes : AllByRecursion (StandsIn gone) (takes_of view)

-- Of all numbers that were put, first those below the count and then the later ones, the first have gone, and the queue
-- holds the others, in order. No number is in two places: twice in the queue, in it and held, or held twice. Each later
-- place is in the puts of exactly one pass, and each place that has gone is in the takes of exactly one.
pub record IsWorking (flows : ℕ) (items : List ℕ) (views : List View) : Type 0 where
  pub later : List ℕ
  pub gone : List ℕ
  pub order : numbers flows ++ later ≡ gone ++ items
  pub below : AllByRecursion (λ number. number < flows) items
  pub once : (number : ℕ) → times number items + sum_by (λ view. times number (held_of view)) views ≤ 1
  pub seats : (seat : ℕ) (view : View) → get_elem? views seat ≡ some view
      → IsSeat flows (numbers flows ++ later) gone view
  pub put_once : (place : ℕ) → flows ≤ place → place < length (numbers flows ++ later)
      → sum_by (λ view. marks place (puts_of view)) views ≡ 1
  pub taken_once : (place : ℕ) → place < length gone → sum_by (λ view. marks place (takes_of view)) views ≡ 1

-- while it is opened, there is one pass, and the queue has the numbers below its next one
pub record IsOpening (next : ℕ) (items : List ℕ) (views : List View) : Type 0 where
  pub alone : views ≡ Opening next ∷ []
  pub has : items ≡ numbers next

abbrev pub IsQueue : List ℕ → List View → Type 0
IsQueue items views =
    ((next : ℕ) × IsOpening next items views) ⊎ ((flows : ℕ) × IsWorking flows items views)

-- ---- kinds of steps

-- opening: the next number is put
abbrev pub opening_after : View → View
opening_after (Opening next) = Opening (next + 1)
opening_after (Working flows held moves puts takes) = Working flows held moves puts takes

-- and what is known then
abbrev pub HasOpened : View → List ℕ → Type 0
HasOpened (Opening next) items = items ≡ numbers next
HasOpened (Working flows held moves puts takes) items = ⊤

-- the queue is open
abbrev pub opened : View → View
opened (Opening next) = Working next None 0 [] []
opened (Working flows held moves puts takes) = Working flows held moves puts takes

-- a place after all that a pass has
abbrev pub IsBehind : ℕ → List Placed → Type 0
IsBehind place = AllByRecursion (λ placed. placed.place < place)

-- putting back the number that is held
abbrev pub PutsNumber : View → ℕ → View → Type 0
PutsNumber (Opening next) number after = ⊥
PutsNumber (Working flows held moves puts takes) number after =
    (place : ℕ) × (flows ≤ place) × IsBehind place puts
    × (after ≡ Working flows None (moves + 1) (puts ++ record { place = place; number = number } ∷ []) takes)

-- with what is held, the queue has no more numbers than it was opened with
abbrev pub HasRoom : View → List ℕ → Type 0
HasRoom (Opening next) items = ⊤
HasRoom (Working flows held moves puts takes) items = length items + length (in_hand held) ≤ flows

-- taking a number
abbrev pub TakesNumber : View → ℕ → View → Type 0
TakesNumber (Opening next) number after = ⊥
TakesNumber (Working flows held moves puts takes) number after =
    (place : ℕ) × (number < flows) × IsBehind place takes
    × (after ≡ Working flows (Some number) (moves + 1) puts (takes ++ record { place = place; number = number } ∷ []))

-- a moment of the queue, as the rule lets it be, in which a pass has this view
abbrev pub HasMoment : View → List ℕ → Type 0
HasMoment view items = (seat : ℕ) × (views : List View) × IsQueue items views × (get_elem? views seat ≡ some view)

-- splitting: each has made one move more, and the new one holds no number and has put and taken none
abbrev pub split_left : View → View
split_left (Opening next) = Opening next
split_left (Working flows held moves puts takes) = Working flows held (moves + 1) puts takes

abbrev pub split_right : View → View
split_right (Opening next) = Opening next
split_right (Working flows held moves puts takes) = Working flows None (moves + 1) [] []

-- ---- what passes keep

-- what a pass knows
abbrev pub known_by : Pass ℕ View → View
known_by pass = view pass

-- a pass of the queue, which holds this number
pub record IsPassIn (queue : QueueState) (held : Option ℕ) (pass : Pass ℕ View) : Type 0 where
  pub table : pass.table_id ≡ queue.id
  pub none_out : pass.me.1 ≡ []
  pub is : let known = known_by pass in
      known ≡ Working queue.flows held (moves_of known) (puts_of known) (takes_of known)
