-- No processor is idle for nothing.
use Rattle.std.specs.Prelude.{ℕ, ◌<◌, ◌⊎◌, List}
use Rattle.flow_model.specs.Setup.{Setup}
use Rattle.flow_model.specs.Events.{IsLive}
use Rattle.flux_laws.specs.Going.{IsBlocked}
use Rattle.flow_orders.specs.declared.runs.Run.{Run}
use Rattle.flow_orders.specs.Ticks.{Timed, until}
use Rattle.flow_orders.specs.Runs.{running_at, running_of}

-- where a processor is free before the end, each live flow has a run at that tick, or is blocked
abbrev pub NeverIdleForNothing : Setup → ℕ → Timed → List Run → ℕ → Type 0
NeverIdleForNothing setup processors journal runs ticks = (tick : ℕ) → tick < ticks
    → running_at runs tick < processors → (flow : ℕ) → IsLive setup (until tick journal) flow
    → (0 < running_of runs flow tick) ⊎ IsBlocked setup (until tick journal) flow
