-- What a table holds of a journal. No promise cites it.
use Rattle.std.specs.Prelude.{◌≡◌, ◌<◌, ◌⊎◌, ℕ, List, [], ◌∷◌, Option, Some, None, ⊤}
use Rattle.std.specs.List.{Contains}
use Rattle.flux_values.specs.declared.answers.Mode.{Mode}
use Rattle.flux_model.specs.declared.items.FlowNo.{FlowNo}
use Rattle.flow_model.specs.declared.journals.Key.{Key}
use Rattle.flow_model.specs.declared.journals.Entry.{Entry}
use Rattle.flow_model.specs.Exclusion.{modes_held}
use Rattle.flow_model.specs.Waits.{StandsAt}
use Rattle.flux_table.specs.declared.locks.Held.{Held}
use Rattle.flux_table.specs.declared.locks.Waiter.{Waiter}
use Rattle.flux_table.specs.Tables.{Locks, holders_of, lines_of}
use Rattle.flux_table.specs.Changes.{one_more, Takes, Releases}

-- how a key is held in these modes, the latest first
abbrev pub held_in : List Mode → Option Held
held_in [] = None
held_in (mode ∷ modes) = Some (one_more (held_in modes) mode)

-- a waiter waits at a key, and all of a line wait there after it
abbrev pub AreBehind : List Entry → Key → ℕ → List Waiter → Type 0
AreBehind entries key place line = (waiter : Waiter) (behind : ℕ) → Contains line waiter
    → StandsAt entries waiter.flow.0 key waiter.mode behind → place < behind

pub record IsFirst (entries : List Entry) (key : Key) (waiter : Waiter) (line : List Waiter) : Type 0 where
  pub place : ℕ
  pub stands : StandsAt entries waiter.flow.0 key waiter.mode place
  pub behind : AreBehind entries key place line

abbrev pub AreInOrder : List Entry → Key → List Waiter → Type 0
AreInOrder entries key [] = ⊤
AreInOrder entries key (waiter ∷ line) = IsFirst entries key waiter line × AreInOrder entries key line

-- a line has exactly the flows that wait at a key, by their places
pub record IsLine (entries : List Entry) (key : Key) (line : List Waiter) : Type 0 where
  pub all : (flow : FlowNo) (mode : Mode) (place : ℕ) → StandsAt entries flow.0 key mode place
      → Contains line (record { flow = flow; mode = mode })
  pub order : AreInOrder entries key line

-- the table holds what the journal says
pub record IsTable (entries : List Entry) (locks : Locks) : Type 0 where
  pub holders : (key : Key) (flow : ℕ) → holders_of locks key flow ≡ held_in (modes_held entries flow key)
  pub lines : (key : Key) → IsLine entries key (lines_of locks key)

-- a take was undone: the table is as it was, or the key was taken and given back
pub record IsGivenBack (old new : Locks) (flow : ℕ) (key : Key) (mode : Mode) : Type 0 where
  pub between : Locks
  pub takes : Takes old between flow key mode
  pub gives : Releases between new flow key

abbrev pub IsUndone : Locks → Locks → ℕ → Key → Mode → Type 0
IsUndone old new flow key mode = (new ≡ old) ⊎ IsGivenBack old new flow key mode
