-- Tables and steps that fit the hall's rule, and some that don't.
use Rattle.std.specs.Prelude.{ℕ, Bool, true, false, List, [], ◌∷◌, Option, Some, None}
use mathlib.Core.Option as slots
use mathlib.Core.Option.{some, none}
use Rattle.atomic_table.specs.Table.{State, Me, step}
use Rattle.flow_core.specs.States.{CoreState}
use Rattle.flow_hall.specs.declared.views.View.{View}
use Rattle.flow_hall.specs.declared.views.View.TheVariants.{Spent, Seated}
use Rattle.flow_hall.specs.Rule.{IsHall, TriesTurn, GivesTurn}

module _ {L : Type 0} where
  -- a table with one word and one slot
  abbrev pub table : ℕ → slots.Option (Option (CoreState L)) → List (View L)
      → State (Option (CoreState L)) (View L)
  table word slot views = record { words = word ∷ []; homes = slot ∷ []; views = views }

-- over the core that a hall was made with
pub record RuleFits (L : Type 0) : Type 0 where
  -- nobody has the turn, and the slot holds the core
  pub free : (core : CoreState L)
      → IsHall core (table 0 (some (Some core)) (Seated core 4 false ∷ Seated core 2 false ∷ []))
  -- the first seat has the turn, and the slot with it; the last one was joined to another
  pub taken : (core : CoreState L)
      → IsHall core (table 1 none (Seated core 3 true ∷ Seated core 2 false ∷ Spent ∷ []))
  -- not: two seats have the turn
  pub two : (core : CoreState L)
      → IsHall core (table 2 none (Seated core 3 true ∷ Seated core 3 true ∷ [])) → ⊥
  -- not: the word says that the turn is taken, and nobody has it
  pub nobody : (core : CoreState L) → IsHall core (table 1 (some (Some core)) (Seated core 2 false ∷ [])) → ⊥
  -- not: nobody has the turn, and the slot holds nothing
  pub empty : (core : CoreState L) → IsHall core (table 0 (some None) (Seated core 2 false ∷ [])) → ⊥

-- which steps count as trying for the turn, and as giving it
pub record StepsFit (L : Type 0) : Type 0 where
  -- not: a seat that holds no slot gives the turn, so no seat without the turn does, and no new one
  pub give : (core : CoreState L) (moves : ℕ) (turn : Bool) (after : Me (Option (CoreState L)) (View L))
      → GivesTurn (Seated core moves turn, []) after → ⊥
  -- not: a load tries for the turn
  pub load : (slots found : ℕ) (before after : Me (Option (CoreState L)) (View L))
      → TriesTurn (step slots 0 0 0 none) before found after → ⊥
  -- not: a swap or a store does, as a new seat could make it
  pub swap : (slots new found : ℕ) (before after : Me (Option (CoreState L)) (View L))
      → TriesTurn (step slots 0 new 0 none) before found after → ⊥
