-- What the calls of a shared core do.
use Rattle.std.specs.Prelude.{◌≡◌, ℕ, ◌+◌, [], ◌++◌}
use Rattle.flow_core.specs.States.{CoreState}
use Rattle.flow_core.specs.Runs.{GoesOn}
use Rattle.flow_shared.specs.States.{SharedState, SeatState, HeldState}
use Rattle.flow_shared.specs.Journals.{BeginsWith, longer, places_behind, ArePlacesOf, merged, entries_at}
use Rattle.flow_shared.specs.declared.seats.SharedTurn.{SharedTurn}

module _ {L : Type 0} where
  -- the first seat: it has seen the core's journal, and has no places
  pub record IsFirstSeat (core : CoreState L) (shared : SharedState L) (seat : SeatState L) : Type 0 where
    pub base : shared.base ≡ core
    pub seat_ : seat ≡ record { shared = shared; moves = 0; seen = core.entries; places = [] }

  -- the seat, so many moves later
  abbrev pub moved : ℕ → SeatState L → SeatState L
  moved more seat = record seat { moves = seat.moves + more }

  -- a seat's turn: it finds a core with the seat's setup, and a journal that begins with all that the seat had seen;
  -- the core goes on from the first one, too
  pub record IsTurnOf (seat : SeatState L) (turn : SharedTurn L) : Type 0 where
    pub shared : let held = turn.held in held.shared ≡ seat.shared
    pub core : let held = turn.held in turn.core ≡ held.found
    pub on : let shared = seat.shared in GoesOn shared.base turn.core
    pub seen : let core = turn.core in BeginsWith core.entries seat.seen
    pub places : let held = turn.held in held.places ≡ seat.places

  -- a turn that is won at once, by one step
  pub record Wins (seat : SeatState L) (turn : SharedTurn L) : Type 0 where
    pub turn_ : IsTurnOf seat turn
    pub moves : let held = turn.held in held.moves ≡ seat.moves + 1

  -- the seat of a turn that was given with a core, by one step: it has seen that core's journal, and its places grow by
  -- those of the entries that the turn added
  abbrev pub given : HeldState L → CoreState L → SeatState L
  given held core = record {
    shared = held.shared;
    moves = held.moves + 1;
    seen = core.entries;
    places = held.places ++ (let found = held.found in places_behind found.entries core.entries);
  }

  -- the second seat of a split has no places
  abbrev pub without_places : SeatState L → SeatState L
  without_places seat = record seat { places = [] }

  -- one seat of two: the longer one of the journals that they saw, which begins with both, and the places of both
  pub record Joins (into other result : SeatState L) : Type 0 where
    pub seat_ : result ≡ record {
      shared = into.shared;
      moves = into.moves + 3;
      seen = longer into.seen other.seen;
      places = merged into.places other.places;
    }
    pub first : BeginsWith result.seen into.seen
    pub second : BeginsWith result.seen other.seen
    pub rising : ArePlacesOf result.seen result.places

  -- the core at the end: the seat's setup, a journal that begins with all that the seat had seen, and the same entries
  -- at the seat's places
  pub record IsLast (seat : SeatState L) (core : CoreState L) : Type 0 where
    pub on : let shared = seat.shared in GoesOn shared.base core
    pub seen : BeginsWith core.entries seat.seen
    pub rising : ArePlacesOf seat.seen seat.places
    pub entries : entries_at core.entries seat.places ≡ entries_at seat.seen seat.places
