-- Tables that fit the shared core's rule, and some that don't.
use Rattle.std.specs.Prelude.{◌≡◌, ℕ, Bool, true, false, List, [], ◌∷◌, ◌++◌, length, Option, Some, None}
use mathlib.Core.Option as slots
use mathlib.Core.Option.{some, none}
use Rattle.atomic_table.specs.Table.{State}
use Rattle.flow_model.specs.declared.journals.Entry.{Entry}
use Rattle.flow_core.specs.States.{CoreState}
use Rattle.flow_core.specs.Runs.{SameSetup}
use Rattle.flow_shared.specs.declared.views.View.{View}
use Rattle.flow_shared.specs.declared.views.View.TheVariants.{Spent, Seated}
use Rattle.flow_shared.specs.Rule.{IsShared}

module _ {L : Type 0} where
  -- a table with one word and one slot
  abbrev pub table : ℕ → slots.Option (Option (CoreState L)) → List (View L)
      → State (Option (CoreState L)) (View L)
  table word slot views = record { words = word ∷ []; homes = slot ∷ []; views = views }

  -- a seat over a core, with the turn or without, that has seen this journal and has these places
  abbrev pub seat : CoreState L → Bool → List Entry → List ℕ → View L
  seat base has_turn seen places = Seated record {
    base = base;
    moves = 2;
    has_turn = has_turn;
    seen = seen;
    aside = [];
    places = places;
  }

  -- a core with the same setup and one entry more
  pub record IsNext (core later : CoreState L) (entry : Entry) : Type 0 where
    pub setup_ : SameSetup core later
    pub added : later.entries ≡ core.entries ++ entry ∷ []

-- over the core that all was made with, and one that has an entry more
pub record RuleFits (L : Type 0) : Type 0 where
  -- nobody has the turn; the first seat added the entry, and the second one hasn't seen it
  pub free : (core later : CoreState L) (entry : Entry) → IsNext core later entry
      → IsShared core (table 0 (some (Some later))
      (seat core false later.entries (length core.entries ∷ []) ∷ seat core false core.entries [] ∷ []))
  -- the first seat has the turn, and the slot with it; the last one was joined to another
  pub taken : (core later : CoreState L) (entry : Entry) → IsNext core later entry
      → IsShared core (table 1 none
      (seat core true later.entries [] ∷ seat core false core.entries [] ∷ Spent ∷ []))
  -- not: two seats have the turn
  pub two : (core : CoreState L)
      → IsShared core (table 2 none (seat core true core.entries [] ∷ seat core true core.entries [] ∷ [])) → ⊥
  -- not: the word says that the turn is taken, and nobody has it
  pub nobody : (core : CoreState L)
      → IsShared core (table 1 (some (Some core)) (seat core false core.entries [] ∷ [])) → ⊥
  -- not: nobody has the turn, and the slot holds nothing
  pub empty : (core : CoreState L) → IsShared core (table 0 (some None) (seat core false core.entries [] ∷ [])) → ⊥
  -- not: the slot holds a core without an entry that a seat has seen
  pub forgotten : (core later : CoreState L) (entry : Entry) → IsNext core later entry
      → IsShared core (table 0 (some (Some core)) (seat core false later.entries [] ∷ [])) → ⊥
  -- not: a seat has the turn and hasn't seen what another one saw
  pub behind : (core later : CoreState L) (entry : Entry) → IsNext core later entry
      → IsShared core (table 1 none (seat core true core.entries [] ∷ seat core false later.entries [] ∷ [])) → ⊥
  -- not: an entry's place is with two seats
  pub twice : (core later : CoreState L) (entry : Entry) → IsNext core later entry
      → IsShared core (table 0 (some (Some later)) (seat core false later.entries (length core.entries ∷ [])
      ∷ seat core false later.entries (length core.entries ∷ []) ∷ [])) → ⊥
  -- not: a place at which the journal has no entry
  pub nowhere : (core : CoreState L)
      → IsShared core (table 0 (some (Some core)) (seat core false core.entries (length core.entries ∷ []) ∷ [])) → ⊥
