-- Which begun call the loop runs itself.
use Rattle.std.specs.Prelude.{ℕ, ◌<◌, length, Option, Some, None, IsSome}
use Rattle.flux_model.specs.declared.items.FlowNo.{FlowNo}
use Rattle.flow_core.specs.States.{CoreState, begun_by}

-- that of the lowest flow whose call is begun, and none where no call is
abbrev pub IsLowestCall : {L : Type 0} → CoreState L → Option FlowNo → Type 0
IsLowestCall core None =
    (flow : ℕ) → flow < length core.setup.items → IsSome (begun_by core flow) → ⊥
IsLowestCall core (Some lowest) =
    IsSome (begun_by core lowest.0)
    × ((flow : ℕ) → flow < lowest.0 → IsSome (begun_by core flow) → ⊥)
