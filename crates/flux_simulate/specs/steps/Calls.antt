-- What becomes of one call, and what keeps numbers small. No promise cites it.
use Rattle.std.specs.Prelude.{◌≡◌, ℕ, ◌+◌, ◌<◌, ◌≤◌, List, length, Some}
use Rattle.std.specs.List.{count_by, sum_by}
use Rattle.std.specs.Option.{is_some}
use Rattle.flux_values.specs.declared.answers.Answer.{Answer}
use Rattle.flux_values.specs.Meanings.{LibraryMeaning}
use Rattle.flux_model.specs.declared.items.FlowNo.{FlowNo}
use Rattle.flux_laws.specs.Growth.{item_size}
use Rattle.flow_state.specs.declared.inputs.Inputs.{Inputs}
use Rattle.flow_core.specs.States.{CoreState, setup_in, begun_by}
use Rattle.flow_core.specs.Moves.{FinishesCall}
use Rattle.flow_orders.specs.declared.runs.Run.{Run}
use Rattle.flow_orders.specs.Costs.{cost_of, AreCosts}

-- a flow's begun call is finished
pub record EndsBegun {L : Type 0} (meaning : L → LibraryMeaning) (old new : CoreState L) (flow : FlowNo)
    : Type 0 where
  pub inputs : Inputs
  pub answer : Answer
  pub ends : FinishesCall meaning old new flow inputs answer

-- a run is that of a flow's begun call, from a tick on; its cost is from 1 to 1,000
pub record IsRunOf {L : Type 0} (core : CoreState L) (costs : List ℕ) (tick : ℕ) (flow : FlowNo) (run : Run)
    : Type 0 where
  pub inputs : Inputs
  pub begun : begun_by core flow.0 ≡ Some inputs
  pub is : run ≡ record { flow = flow; node = inputs.node; start = tick; stop = tick + cost_of costs inputs.node }
  pub low : 1 ≤ cost_of costs inputs.node

-- how many calls are begun
abbrev pub begun_count : {L : Type 0} → CoreState L → ℕ
begun_count core = count_by (λ call. is_some call) core.begun

-- one entry more, or one call more that is begun
abbrev pub HasStarted : {L : Type 0} → CoreState L → CoreState L → Type 0
HasStarted old new = length old.entries + begun_count old < length new.entries + begun_count new

-- what is given is small, so no tick is too great a number
pub record AreSmall {L : Type 0} (meaning : L → LibraryMeaning) (core : CoreState L) (costs : List ℕ) (processors : ℕ)
    : Type 0 where
  pub costs_ : AreCosts (let setup = core.setup in setup.program) costs
  pub sizes : sum_by (λ item. item_size (setup_in meaning core) (Some item)) (let setup = core.setup in setup.items)
      ≤ 4194304
  pub processors_ : processors ≤ 64
