-- The rule of the hall's table, and its kinds of steps.
use Rattle.std.specs.Prelude.{◌≡◌, ℕ, ◌+◌, ◌≤◌, ◌==◌, Bool, true, false, MatchBool, if◌then◌else◌, List, [], ◌∷◌, Option, Some, None, ⊤}
use mathlib.Core.Option as slots
use mathlib.Core.Option.{some}
use lib.ListN.{get_elem?}
use Rattle.atomic_table.specs.Seated.{TableId}
use Rattle.atomic_table.specs.Table.{State, Me, Step}
use Rattle.flow_core.specs.States.{CoreState}
use Rattle.flow_core.specs.Runs.{GoesOn}
use Rattle.flow_hall.specs.States.{HallState}
use Rattle.flow_hall.specs.declared.views.View.{View}
use Rattle.flow_hall.specs.declared.views.View.TheVariants.{Spent, Seated}

module _ {L : Type 0} where
  -- ---- what a seat knows

  -- before it has made a move
  abbrev pub first_view : CoreState L → View L
  first_view base = Seated base 0 false

  -- so many moves later, with the turn or without
  abbrev pub view_after : ℕ → Bool → View L → View L
  view_after more has_turn Spent = Spent
  view_after more has_turn (Seated base moves turn) = Seated base (moves + more) has_turn

  -- how many moves it has made
  abbrev pub moves_of : View L → ℕ
  moves_of Spent = 0
  moves_of (Seated base moves turn) = moves

  -- it knows that the hall was made with this core; nothing is said of a spent seat
  abbrev pub KnowsBase : CoreState L → View L → Type 0
  KnowsBase base Spent = ⊤
  KnowsBase base (Seated own moves turn) = own ≡ base

  -- 1 where it has the turn, and else 0
  abbrev pub turn_of : View L → ℕ
  turn_of Spent = 0
  turn_of (Seated base moves turn) = if turn then 1 else 0

  -- how many seats have the turn
  abbrev pub turns : List (View L) → ℕ
  turns [] = 0
  turns (view ∷ views) = turn_of view + turns views

  -- ---- the rule

  -- the slot holds a core that goes on from the one that the hall was made with
  pub record HoldsCore (base : CoreState L) (homes : List (slots.Option (Option (CoreState L)))) : Type 0 where
    pub core : CoreState L
    pub there : homes ≡ some (Some core) ∷ []
    pub on : GoesOn base core

  -- the word says how many seats have the turn, which is one or none; where it is none, the slot holds the core; and
  -- all seats know the core that the hall was made with
  pub record IsHall (base : CoreState L) (table : State (Option (CoreState L)) (View L)) : Type 0 where
    pub word : table.words ≡ turns table.views ∷ []
    pub one : turns table.views ≤ 1
    pub core : turns table.views ≡ 0 → HoldsCore base table.homes
    pub seats : (seat : ℕ) (view : View L) → get_elem? table.views seat ≡ some view → KnowsBase base view

  -- ---- kinds of steps

  -- the core goes on from the one that a seat knows
  abbrev pub GoesOnFrom : View L → CoreState L → Type 0
  GoesOnFrom Spent core = ⊤
  GoesOnFrom (Seated base moves turn) core = GoesOn base core

  -- winning the turn: the word was 0; the seat has the turn, and the slot with the core
  pub record WinsTurn (before after : Me (Option (CoreState L)) (View L)) : Type 0 where
    pub core : CoreState L
    pub on : GoesOnFrom before.0 core
    pub after_ : after ≡ (view_after 1 true before.0, (0, Some core) ∷ before.1)

  -- losing it: the word was 1, and the seat has made a move
  pub record LosesTurn (before : Me (Option (CoreState L)) (View L)) (found : ℕ)
      (after : Me (Option (CoreState L)) (View L)) : Type 0 where
    pub word : found ≡ 1
    pub after_ : after ≡ (view_after 1 false before.0, before.1)

  abbrev pub WinsOrLoses : Me (Option (CoreState L)) (View L) → ℕ → Me (Option (CoreState L)) (View L) → Type 0
  WinsOrLoses before found after = MatchBool (found == 0) (WinsTurn before after) (LosesTurn before found after)

  -- trying for the turn: a compare-exchange from 0 to 1, which wins or loses it
  pub record TriesTurn (step : Step (Option (CoreState L))) (before : Me (Option (CoreState L)) (View L)) (found : ℕ)
      (after : Me (Option (CoreState L)) (View L)) : Type 0 where
    pub from : step.first ≡ 0
    pub to : step.second ≡ 1
    pub comes : WinsOrLoses before found after

  -- giving the turn: the seat held the slot, with a core; the slot is at home again
  pub record GivesTurn (before after : Me (Option (CoreState L)) (View L)) : Type 0 where
    pub core : CoreState L
    pub slot : before.1 ≡ (0, Some core) ∷ []
    pub after_ : after ≡ (view_after 1 false before.0, [])

  -- ---- what seats and turns keep

  -- a seat of the hall, without the turn
  pub record IsSeated (hall : HallState L) (id : TableId) (me : Me (Option (CoreState L)) (View L)) : Type 0 where
    pub table : id ≡ hall.id
    pub me_ : me ≡ (Seated hall.base (moves_of me.0) false, [])

  -- a seat of the hall that has the turn: the slot is out with it and empty, and the core that it found went on from
  -- the one that the hall was made with
  pub record IsOnTurn (hall : HallState L) (id : TableId) (found : CoreState L)
      (me : Me (Option (CoreState L)) (View L)) : Type 0 where
    pub table : id ≡ hall.id
    pub me_ : me ≡ (Seated hall.base (moves_of me.0) true, (0, None) ∷ [])
    pub on : GoesOn hall.base found
