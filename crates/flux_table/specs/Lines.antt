-- What a line keeps beside its waiters: the flows that wait as readers, and those that wait as writers.
use Rattle.std.specs.Prelude.{ℕ, ◌==◌, ◌↔◌, IsTrue, Bool, List}
use Rattle.std.specs.List.{Contains, list_any}
use Rattle.std.specs.BTreeSet.{BTreeSet}
use Rattle.flux_values.specs.declared.answers.Mode.{Mode}
use Rattle.flux_values.specs.declared.answers.Mode.TheVariants.{Reader, Writer}
use Rattle.flux_model.specs.declared.items.FlowNo.{FlowNo}
use Rattle.flux_table.specs.declared.locks.Waiter.{Waiter}
use Rattle.flux_table.specs.Locks.{StandOnce}

-- a set has a flow
abbrev pub has : BTreeSet FlowNo → ℕ → Bool
has flows flow = list_any (λ other. flow == other.0) flows.keys

-- a set has the flows that are in a line in a mode, and no other
pub record HasThose (flows : BTreeSet FlowNo) (line : List Waiter) (mode : Mode) : Type 0 where
  pub each : (flow : ℕ) → IsTrue (has flows flow) ↔ Contains line (record { flow = record { 0 = flow }; mode = mode })

-- each flow waits once, the readers are in one set, and the writers in another
pub record IsKept (line : List Waiter) (reading writing : BTreeSet FlowNo) : Type 0 where
  pub once : StandOnce line
  pub readers : HasThose reading line Reader
  pub writers : HasThose writing line Writer
