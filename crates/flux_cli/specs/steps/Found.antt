-- Steps of the reader: a part, and what is read of values.
use Rattle.std.specs.Prelude.{◌≡◌, ℕ, ◌≤◌, List, length, Option, Some, None, take}
use Rattle.std.specs.List.{AllByRecursion, slice_split}
use Rattle.flux_model.specs.declared.items.FlowNo.{FlowNo}
use Rattle.flux_cli.specs.declared.parts.Part.{Part as Read}
use Rattle.flux_cli.specs.declared.parts.Part.TheVariants as reads
use Rattle.flux_cli.specs.declared.values.TheConstants.{WORKER_LIMIT}
use Rattle.flux_cli.specs.declared.values.Runtime.{Runtime}
use Rattle.flux_cli.specs.declared.workers.Workers.{Workers}
use Rattle.flux_cli.specs.declared.costs.TheConstants.{COSTS_LIMIT}
use Rattle.flux_cli.specs.declared.costs.Processors.{Processors}
use Rattle.flux_cli.specs.declared.costs.Costs.{Costs}
use Rattle.flux_cli.specs.declared.values.JournalFormat.{JournalFormat}
use Rattle.flux_cli.specs.Parts.{Part, word, option}
use Rattle.flux_cli.specs.Costs.{IsProcessors, SpellEachCost, SpellsCosts, AreCosts}
use Rattle.flux_cli.specs.Values.{is_comma, IsDigit, number_from, SpellsNumber, SpellEach, SpellsNumbers, SpellsRuntime, StartsThreads, IsRuntime, IsFormat, IsPort, IsBatches}

-- the part that was read
abbrev pub part_of : Read → Part
part_of (reads.Word name) = word name.now
part_of (reads.Option name value) = option name value.now

-- the number that digits spell, or that they are no digits of a number within its limit
abbrev pub IsValueRead : ℕ → List ℕ → Option ℕ → Type 0
IsValueRead most digits (Some number) =
    AllByRecursion IsDigit digits × (number ≡ number_from 0 digits) × (number ≤ most)
IsValueRead most digits None = AllByRecursion IsDigit digits → number_from 0 digits ≤ most → ⊥

-- the number in a range that digits spell, or that they spell none
abbrev pub IsNumberRead : ℕ → ℕ → List ℕ → Option ℕ → Type 0
IsNumberRead least most digits (Some number) = SpellsNumber least most digits number
IsNumberRead least most digits None = (number : ℕ) → SpellsNumber least most digits number → ⊥

abbrev pub AreNumbersRead : List ℕ → Option (List FlowNo) → Type 0
AreNumbersRead list (Some numbers) = SpellsNumbers list numbers
AreNumbersRead list None = (numbers : List FlowNo) → SpellsNumbers list numbers → ⊥

-- the number of workers that digits spell, or that they spell none
abbrev pub AreWorkersRead : List ℕ → Option Workers → Type 0
AreWorkersRead digits (Some workers) = SpellsNumber 1 WORKER_LIMIT digits workers.count
AreWorkersRead digits None = (number : ℕ) → SpellsNumber 1 WORKER_LIMIT digits number → ⊥

-- the runtime with threads that a value spells, or that it spells none
abbrev pub IsThreadedRead : List ℕ → Option Runtime → Type 0
IsThreadedRead value (Some runtime) = SpellsRuntime value runtime × StartsThreads runtime
IsThreadedRead value None = (runtime : Runtime) → SpellsRuntime value runtime → StartsThreads runtime → ⊥

-- a runtime with threads is given
pub record IsThreaded (values : List (List ℕ)) : Type 0 where
  pub runtime : Runtime
  pub is : IsRuntime values runtime
  pub starts : StartsThreads runtime

abbrev pub IsRuntimeRead : List (List ℕ) → Option Runtime → Type 0
IsRuntimeRead values (Some runtime) = IsRuntime values runtime
IsRuntimeRead values None = (runtime : Runtime) → IsRuntime values runtime → ⊥

abbrev pub IsFormatRead : List (List ℕ) → Option JournalFormat → Type 0
IsFormatRead values (Some format) = IsFormat values format
IsFormatRead values None = (format : JournalFormat) → IsFormat values format → ⊥

-- the numbers of the first pieces between commas
abbrev pub AreSoFar : List ℕ → ℕ → List FlowNo → Type 0
AreSoFar list n numbers = SpellEach (take n (slice_split is_comma list)) numbers

abbrev pub IsPortRead : List (List ℕ) → Option ℕ → Type 0
IsPortRead values (Some port) = IsPort values port
IsPortRead values None = (port : ℕ) → IsPort values port → ⊥

abbrev pub IsBatchesRead : List (List ℕ) → Option ℕ → Type 0
IsBatchesRead values (Some batches) = IsBatches values batches
IsBatchesRead values None = (batches : ℕ) → IsBatches values batches → ⊥

abbrev pub IsProcessorsRead : List (List ℕ) → Option Processors → Type 0
IsProcessorsRead values (Some processors) = IsProcessors values processors.count
IsProcessorsRead values None = (processors : ℕ) → IsProcessors values processors → ⊥

-- the costs that a list spells, or that it spells none
abbrev pub AreCostsSpelled : List ℕ → Option Costs → Type 0
AreCostsSpelled list (Some costs) = SpellsCosts list costs.list
AreCostsSpelled list None = (costs : List ℕ) → SpellsCosts list costs → ⊥

abbrev pub AreCostsRead : List (List ℕ) → Option Costs → Type 0
AreCostsRead values (Some costs) = AreCosts values costs.list
AreCostsRead values None = (costs : List ℕ) → AreCosts values costs → ⊥

-- the costs of the first pieces between commas
pub record AreCostsSoFar (list : List ℕ) (n : ℕ) (costs : List ℕ) : Type 0 where
  pub each : SpellEachCost (take n (slice_split is_comma list)) costs
  pub many : length costs ≡ n
  pub few : n ≤ COSTS_LIMIT
