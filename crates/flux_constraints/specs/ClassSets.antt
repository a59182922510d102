-- What sets of holds have.
use Rattle.std.specs.Prelude.{◌≡◌, ◌≤◌, ◌⊎◌, List}
use Rattle.std.specs.List.{Contains}
use Rattle.flux_model.specs.declared.programs.ClassNo.{ClassNo}
use Rattle.flux_model.specs.declared.programs.Hold.{Hold}
use Rattle.flux_model.specs.Locks.{HasClass, HasAtLeast}

-- a set that a hold joined has what it had and the hold, each in at least its mode, and nothing else
pub record IsJoined (before : List Hold) (hold : Hold) (after : List Hold) : Type 0 where
  pub kept : (old : Hold) → Contains before old → HasAtLeast after old
  pub joined : HasAtLeast after hold
  pub only : (new : Hold) → Contains after new → Contains before new ⊎ (new ≡ hold)

-- the holds of a set on classes that are at most this one
pub record AreUpTo (holds : List Hold) (class : ClassNo) (lower : List Hold) : Type 0 where
  pub has : (hold : Hold) → Contains holds hold → hold.class.0 ≤ class.0 → Contains lower hold
  pub within : (hold : Hold) → Contains lower hold → Contains holds hold
  pub low : (hold : Hold) → Contains lower hold → hold.class.0 ≤ class.0

-- the greatest class of a set
pub record IsGreatestOf (holds : List Hold) (class : ClassNo) : Type 0 where
  pub has : HasClass holds class
  pub greatest : (hold : Hold) → Contains holds hold → hold.class.0 ≤ class.0
