-- Numbers, and the values of options: runtimes, formats of journals, ports and counts of batches.
use Rattle.std.specs.Prelude.{◌≡◌, ◌⊎◌, ℕ, ◌+◌, ◌-◌, ◌*◌, ◌==◌, ◌<◌, ◌≤◌, List, [], ◌∷◌, ◌++◌, length, codes, ⊤}
use Rattle.std.specs.List.{AllByRecursion, slice_split}
use Rattle.flux_model.specs.declared.items.FlowNo.{FlowNo}
use Rattle.flux_cli.specs.declared.values.TheConstants.{DIGIT_LIMIT, NUMBER_LIMIT, WORKER_LIMIT, PORT_LIMIT, BATCHES_LIMIT}
use Rattle.flux_cli.specs.declared.values.Runtime.{Runtime}
use Rattle.flux_cli.specs.declared.values.Runtime.TheVariants.{Event, EventWithHelpers, Script, PerFlow, Pool}
use Rattle.flux_cli.specs.declared.values.JournalFormat.{JournalFormat}
use Rattle.flux_cli.specs.declared.values.JournalFormat.TheVariants.{One, Two}

-- `,`
abbrev pub is_comma : ℕ → Rattle.std.specs.Prelude.Bool
is_comma b = b == 44

-- a decimal digit
abbrev pub IsDigit : ℕ → Type 0
IsDigit b = (48 ≤ b) × (b ≤ 57)

-- the number that digits spell after those of another number
abbrev pub number_from : ℕ → List ℕ → ℕ
number_from before [] = before
number_from before (b ∷ digits) = number_from (10 * before + (b - 48)) digits

-- a number in a range, in 1 to 10 decimal digits, leading zeros included
pub record SpellsNumber (least most : ℕ) (digits : List ℕ) (number : ℕ) : Type 0 where
  pub some : 0 < length digits
  pub few : length digits ≤ DIGIT_LIMIT
  pub decimal_ : AllByRecursion IsDigit digits
  pub value : number ≡ number_from 0 digits
  pub from : least ≤ number
  pub to : number ≤ most

-- pieces spell flows' numbers, one each, of at most 4,095
abbrev pub SpellEach : List (List ℕ) → List FlowNo → Type 0
SpellEach [] [] = ⊤
SpellEach [] (flow ∷ numbers) = ⊥
SpellEach (digits ∷ pieces) [] = ⊥
SpellEach (digits ∷ pieces) (flow ∷ numbers) =
    SpellsNumber 0 NUMBER_LIMIT digits flow.0 × SpellEach pieces numbers

-- numbers with commas between them, or nothing
pub record SpellsNumbers (list : List ℕ) (numbers : List FlowNo) : Type 0 where
  pub laid : ((list ≡ []) × (numbers ≡ [])) ⊎ SpellEach (slice_split is_comma list) numbers

-- `event`, `script=` and numbers, `perflow`, or `pool=` or `event=` and a number from 1 to 16
abbrev pub SpellsRuntime : List ℕ → Runtime → Type 0
SpellsRuntime value Event = value ≡ codes "event"
SpellsRuntime value (EventWithHelpers helpers) =
    (digits : List ℕ) × (value ≡ codes "event=" ++ digits) × SpellsNumber 1 WORKER_LIMIT digits helpers.count
SpellsRuntime value (Script numbers) =
    (list : List ℕ) × (value ≡ codes "script=" ++ list) × SpellsNumbers list numbers
SpellsRuntime value PerFlow = value ≡ codes "perflow"
SpellsRuntime value (Pool workers) =
    (digits : List ℕ) × (value ≡ codes "pool=" ++ digits) × SpellsNumber 1 WORKER_LIMIT digits workers.count

-- a runtime that starts threads
abbrev pub StartsThreads : Runtime → Type 0
StartsThreads Event = ⊥
StartsThreads (EventWithHelpers helpers) = ⊤
StartsThreads (Script numbers) = ⊥
StartsThreads PerFlow = ⊤
StartsThreads (Pool workers) = ⊤

-- `1` or `2`
abbrev pub SpellsFormat : List ℕ → JournalFormat → Type 0
SpellsFormat value One = value ≡ codes "1"
SpellsFormat value Two = value ≡ codes "2"

-- the runtime of `--runtime`, at most once; `event` where it isn't given
abbrev pub IsRuntime : List (List ℕ) → Runtime → Type 0
IsRuntime [] runtime = runtime ≡ Event
IsRuntime (value ∷ []) runtime = SpellsRuntime value runtime
IsRuntime (value ∷ other ∷ values) runtime = ⊥

-- the format of `--journal`, at most once; 1 where it isn't given
abbrev pub IsFormat : List (List ℕ) → JournalFormat → Type 0
IsFormat [] format = format ≡ One
IsFormat (value ∷ []) format = SpellsFormat value format
IsFormat (value ∷ other ∷ values) format = ⊥

-- the port of `--port`, once, from 1 to 65,535
abbrev pub IsPort : List (List ℕ) → ℕ → Type 0
IsPort [] port = ⊥
IsPort (value ∷ []) port = SpellsNumber 1 PORT_LIMIT value port
IsPort (value ∷ other ∷ values) port = ⊥

-- how many batches `--batches` wants, at most once, from 1 to 4,294,967,295; that many where it isn't given
abbrev pub IsBatches : List (List ℕ) → ℕ → Type 0
IsBatches [] batches = batches ≡ BATCHES_LIMIT
IsBatches (value ∷ []) batches = SpellsNumber 1 BATCHES_LIMIT value batches
IsBatches (value ∷ other ∷ values) batches = ⊥
