-- Steps of hoisting: many holds that join a set.
use Rattle.std.specs.Prelude.{◌≤◌, ◌⊎◌, List}
use Rattle.std.specs.List.{Contains, flat_map}
use Rattle.flux_model.specs.declared.programs.NodeNo.{NodeNo}
use Rattle.flux_model.specs.declared.programs.Hold.{Hold}
use Rattle.flux_model.specs.declared.programs.Case.{Case}
use Rattle.flux_model.specs.Locks.{AreRising, HasAtLeast}
use Rattle.flux_hoist.specs.Sets.{held_by}

-- a set that holds joined has what it had and these, each in at least its mode, and nothing else
pub record AreJoined (before holds after : List Hold) : Type 0 where
  pub rising : AreRising before → AreRising after
  pub kept : (old : Hold) → Contains before old → HasAtLeast after old
  pub joined : (hold : Hold) → Contains holds hold → HasAtLeast after hold
  pub only : (new : Hold) → Contains after new → Contains before new ⊎ Contains holds new

-- the holds of nodes, one after the other
abbrev pub held_at : List (List Hold) → NodeNo → List Hold
held_at table node = held_by table node.0

abbrev pub held_by_all : List (List Hold) → List NodeNo → List Hold
held_by_all table nodes = flat_map (held_at table) nodes

abbrev pub held_by_cases : List (List Hold) → List Case → List Hold
held_by_cases table cases = flat_map (λ case. held_by_all table case.members) cases

-- a class is at most one of a node's own
pub record IsPassed (own : List Hold) (hold : Hold) : Type 0 where
  pub past : Hold
  pub among : Contains own past
  pub least : hold.class.0 ≤ past.class.0

-- what a node holds has its own holds, and those below on classes that are at most one of its own
pub record IsHoisted (own below after : List Hold) : Type 0 where
  pub rising : AreRising after
  pub has_own : (hold : Hold) → Contains own hold → HasAtLeast after hold
  pub lifted : (hold : Hold) → Contains below hold → IsPassed own hold → HasAtLeast after hold
  pub only : (hold : Hold) → Contains after hold
      → Contains own hold ⊎ (Contains below hold × IsPassed own hold)
