-- The rule of the shared core's table, and its kinds of steps.
use Rattle.std.specs.Prelude.{◌≡◌, ℕ, ◌+◌, ◌≤◌, ◌==◌, Bool, true, false, MatchBool, if◌then◌else◌, List, [], ◌∷◌, ◌++◌, sum_by, Option, Some, None, ⊤}
use mathlib.Core.Option as slots
use mathlib.Core.Option.{some}
use lib.ListN.{get_elem?}
use Rattle.atomic_table.specs.Seated.{TableId}
use Rattle.atomic_table.specs.Table.{State, Me}
use Rattle.flow_model.specs.declared.journals.Entry.{Entry}
use Rattle.flow_core.specs.States.{CoreState}
use Rattle.flow_core.specs.Runs.{GoesOn, SameSetup}
use Rattle.flow_shared.specs.States.{SharedState}
use Rattle.flow_shared.specs.Journals.{BeginsWith, longer, places_behind, ArePlacesOf, merged, times}
use Rattle.flow_shared.specs.declared.views.Known.{Known}
use Rattle.flow_shared.specs.declared.views.View.{View}
use Rattle.flow_shared.specs.declared.views.View.TheVariants.{Spent, Seated}

module _ {L : Type 0} where
  -- ---- what a seat knows

  abbrev pub moves_of : View L → ℕ
  moves_of Spent = 0
  moves_of (Seated known) = known.moves

  abbrev pub seen_of : View L → List Entry
  seen_of Spent = []
  seen_of (Seated known) = known.seen

  abbrev pub aside_of : View L → List Entry
  aside_of Spent = []
  aside_of (Seated known) = known.aside

  abbrev pub places_of : View L → List ℕ
  places_of Spent = []
  places_of (Seated known) = known.places

  -- 1 where it has the turn, and else 0
  abbrev pub turn_of : View L → ℕ
  turn_of Spent = 0
  turn_of (Seated known) = if known.has_turn then 1 else 0

  -- ---- the rule

  -- what holds of one seat where the journal has come so far: it knows the core that all was made with; the journal
  -- begins with what it saw, and with what was laid aside; the seat that has the turn saw just it; and its places are
  -- of the longer one of both
  pub record Fits (base : CoreState L) (latest : List Entry) (known : Known L) : Type 0 where
    pub base_ : known.base ≡ base
    pub seen_ : BeginsWith latest known.seen
    pub aside_ : BeginsWith latest known.aside
    pub turn_ : known.has_turn ≡ true → known.seen ≡ latest
    pub places_ : ArePlacesOf (longer known.seen known.aside) known.places

  -- nothing is said of a spent seat
  abbrev pub FitsView : CoreState L → List Entry → View L → Type 0
  FitsView base latest Spent = ⊤
  FitsView base latest (Seated known) = Fits base latest known

  -- the slot holds a core with the first one's setup and this journal
  pub record HoldsCore (base : CoreState L) (latest : List Entry)
      (homes : List (slots.Option (Option (CoreState L)))) : Type 0 where
    pub core : CoreState L
    pub there : homes ≡ some (Some core) ∷ []
    pub setup_ : SameSetup base core
    pub journal : core.entries ≡ latest

  -- The word says how many seats have the turn, which is one or none. Where it is none, the slot holds the core. The
  -- journal has come so far as the last turn brought it, for all seats, and no place is in two of them.
  pub record IsShared (base : CoreState L) (table : State (Option (CoreState L)) (View L)) : Type 0 where
    pub latest : List Entry
    pub word : table.words ≡ sum_by turn_of table.views ∷ []
    pub one : sum_by turn_of table.views ≤ 1
    pub core : sum_by turn_of table.views ≡ 0 → HoldsCore base latest table.homes
    pub seats : (seat : ℕ) (view : View L) → get_elem? table.views seat ≡ some view → FitsView base latest view
    pub once : (place : ℕ) → sum_by (λ view. times place (places_of view)) table.views ≤ 1

  -- ---- what a step makes of a view

  -- before it has made a move: it has seen the journal of the core that all was made with
  abbrev pub first_view : CoreState L → View L
  first_view base = Seated record {
    base = base;
    moves = 0;
    has_turn = false;
    seen = base.entries;
    aside = [];
    places = [];
  }

  -- so many moves later
  abbrev pub moved_view : ℕ → View L → View L
  moved_view more Spent = Spent
  moved_view more (Seated known) = Seated record known { moves = known.moves + more }

  -- the same, without places
  abbrev pub without_places : ℕ → View L → View L
  without_places more Spent = Spent
  without_places more (Seated known) = Seated record known { moves = known.moves + more; places = [] }

  -- with the turn, on which it has seen this core's journal
  abbrev pub view_on_turn : CoreState L → View L → View L
  view_on_turn core Spent = Spent
  view_on_turn core (Seated known) =
      Seated record known { moves = known.moves + 1; has_turn = true; seen = core.entries }

  -- after the turn, on which it brought the journal to this core's
  abbrev pub view_after_turn : CoreState L → View L → View L
  view_after_turn core Spent = Spent
  view_after_turn core (Seated known) = Seated record known {
    moves = known.moves + 1;
    has_turn = false;
    seen = core.entries;
    places = known.places ++ places_behind known.seen core.entries;
  }

  -- joined by another one: what that one saw is laid aside
  abbrev pub joined : View L → View L → View L
  joined Spent other = Spent
  joined (Seated known) Spent = Seated known
  joined (Seated known) (Seated other) = Seated record known {
    moves = known.moves + 1;
    aside = other.seen;
    places = merged known.places other.places;
  }

  -- the longer one of what it saw and what was laid aside, two moves later, so that nobody takes it for a lost turn
  abbrev pub settled : View L → View L
  settled Spent = Spent
  settled (Seated known) =
      Seated record known { moves = known.moves + 2; seen = longer known.seen known.aside; aside = [] }

  -- ---- kinds of steps

  -- the core has the setup that a seat knows
  abbrev pub HasSetup : View L → CoreState L → Type 0
  HasSetup Spent core = ⊤
  HasSetup (Seated known) core = SameSetup known.base core

  -- winning the turn: the word was 0; the seat has the turn, and the slot with the core, whose journal begins with all
  -- that the seat had seen
  pub record WinsTurn (before after : Me (Option (CoreState L)) (View L)) : Type 0 where
    pub core : CoreState L
    pub setup_ : HasSetup before.0 core
    pub seen_ : BeginsWith core.entries (seen_of before.0)
    pub after_ : after ≡ (view_on_turn core before.0, (0, Some core) ∷ before.1)

  -- losing it: the word was 1, and the seat has made a move
  pub record LosesTurn (before : Me (Option (CoreState L)) (View L)) (found : ℕ)
      (after : Me (Option (CoreState L)) (View L)) : Type 0 where
    pub word : found ≡ 1
    pub after_ : after ≡ (moved_view 1 before.0, before.1)

  abbrev pub WinsOrLoses : Me (Option (CoreState L)) (View L) → ℕ → Me (Option (CoreState L)) (View L) → Type 0
  WinsOrLoses before found after = MatchBool (found == 0) (WinsTurn before after) (LosesTurn before found after)

  -- giving the turn: the slot is at home again, with a core, whose journal the seat has seen
  pub record GivesTurn (before after : Me (Option (CoreState L)) (View L)) : Type 0 where
    pub core : CoreState L
    pub slot : before.1 ≡ (0, Some core) ∷ []
    pub after_ : after ≡ (view_after_turn core before.0, [])

  -- settling after a join: the longer journal begins with both, and the places are of it
  pub record Settles (before after : Me (Option (CoreState L)) (View L)) : Type 0 where
    pub after_ : after ≡ (settled before.0, before.1)
    pub first : BeginsWith (longer (seen_of before.0) (aside_of before.0)) (seen_of before.0)
    pub second : BeginsWith (longer (seen_of before.0) (aside_of before.0)) (aside_of before.0)
    pub rising : ArePlacesOf (longer (seen_of before.0) (aside_of before.0)) (places_of before.0)

  -- ---- what seats and turns keep

  -- a seat's view of what it shares, with the turn or without, and with nothing aside
  abbrev pub seat_view : SharedState L → Bool → View L → View L
  seat_view shared has_turn view = Seated record {
    base = shared.base;
    moves = moves_of view;
    has_turn = has_turn;
    seen = seen_of view;
    aside = [];
    places = places_of view;
  }

  -- a seat without the turn: what it saw begins with the first core's journal, and its places are of what it saw
  pub record IsSeated (shared : SharedState L) (id : TableId) (me : Me (Option (CoreState L)) (View L)) : Type 0 where
    pub table : id ≡ shared.id
    pub me_ : me ≡ (seat_view shared false me.0, [])
    pub from : let base = shared.base in BeginsWith (seen_of me.0) base.entries
    pub places_ : ArePlacesOf (seen_of me.0) (places_of me.0)

  -- a seat that has the turn: the slot is out with it and empty; it saw the journal of the core that it found, which
  -- went on from the first one; and its places are of that journal
  pub record IsOnTurn (shared : SharedState L) (id : TableId) (found : CoreState L)
      (me : Me (Option (CoreState L)) (View L)) : Type 0 where
    pub table : id ≡ shared.id
    pub me_ : me ≡ (seat_view shared true me.0, (0, None) ∷ [])
    pub on : let base = shared.base in GoesOn base found
    pub seen_ : seen_of me.0 ≡ found.entries
    pub places_ : ArePlacesOf found.entries (places_of me.0)
