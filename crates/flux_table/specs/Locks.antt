-- What one key's lock holds.
use Rattle.std.specs.Prelude.{◌≢◌, ℕ, ◌==◌, false, ◌≡◌, ⊤, List, [], ◌∷◌, Option, Some, None}
use Rattle.std.specs.List.{Contains}
use Rattle.std.specs.Map.{lookup}
use Rattle.flux_model.specs.declared.items.FlowNo.{FlowNo}
use Rattle.flux_model.specs.Modes.{conflict}
use Rattle.flux_table.specs.declared.locks.Held.{Held}
use Rattle.flux_table.specs.declared.locks.Waiter.{Waiter}

-- the holders by their flows, and the line, first come first
pub record LockState : Type 0 where
  pub holders : List (FlowNo × Held)
  pub line : List Waiter

-- how each flow holds a key
abbrev pub Holding : Type 0
Holding = ℕ → Option Held

abbrev pub held_by : List (FlowNo × Held) → Holding
held_by holders flow = lookup (λ other. flow == other.0) holders

-- no two flows hold a key in conflict
abbrev pub IsPeaceful : Holding → Type 0
IsPeaceful held = (flow other : ℕ) (own their : Held) → flow ≢ other
    → held flow ≡ Some own → held other ≡ Some their → conflict own.mode their.mode ≡ false

-- a flow isn't in a line
abbrev pub StandsNowhere : List Waiter → ℕ → Type 0
StandsNowhere line flow = (waiter : Waiter) → Contains line waiter → waiter.flow.0 ≢ flow

-- each flow waits there once at most
abbrev pub StandOnce : List Waiter → Type 0
StandOnce [] = ⊤
StandOnce (waiter ∷ line) = StandsNowhere line waiter.flow.0 × StandOnce line

-- and no holder is in the line
pub record IsOrderly (held : Holding) (line : List Waiter) : Type 0 where
  pub peaceful : IsPeaceful held
  pub apart : (waiter : Waiter) → Contains line waiter → held waiter.flow.0 ≡ None
  pub once : StandOnce line
