-- What the hall's calls do.
use Rattle.std.specs.Prelude.{◌≡◌, ℕ, ◌+◌}
use Rattle.flow_core.specs.States.{CoreState}
use Rattle.flow_core.specs.Runs.{GoesOn}
use Rattle.flow_hall.specs.States.{HallState, SeatState, HeldState}
use Rattle.flow_hall.specs.declared.seats.HallTurn.{HallTurn}

module _ {L : Type 0} where
  -- a hall with a core, and its first seat
  pub record IsFirstSeat (core : CoreState L) (hall : HallState L) (seat : SeatState L) : Type 0 where
    pub base : hall.base ≡ core
    pub seat_ : seat ≡ record { hall = hall; moves = 0 }

  -- the seat, so many moves later
  abbrev pub moved : ℕ → SeatState L → SeatState L
  moved more seat = record seat { moves = seat.moves + more }

  -- a seat's turn: it finds a core with the hall's setup, and a journal that begins with that of the core that the hall
  -- was made with
  pub record IsTurnOf (seat : SeatState L) (turn : HallTurn L) : Type 0 where
    pub hall : let held = turn.held in held.hall ≡ seat.hall
    pub core : let held = turn.held in turn.core ≡ held.found
    pub on : let hall = seat.hall in GoesOn hall.base turn.core

  -- a turn that is won at once, by one step
  pub record Wins (seat : SeatState L) (turn : HallTurn L) : Type 0 where
    pub turn_ : IsTurnOf seat turn
    pub moves : let held = turn.held in held.moves ≡ seat.moves + 1

  -- the seat of a turn that was given, by one step
  abbrev pub given : HeldState L → SeatState L
  given held = record { hall = held.hall; moves = held.moves + 1 }
