-- Runs: which calls run on processors, and from when to when.
use Rattle.std.specs.Prelude.{◌≡◌, ℕ, ◌+◌, ◌≤◌, ◌==◌, nat_le, nat_lt, ◌&&◌, Bool, List, [], ◌∷◌, map}
use Rattle.std.specs.List.{count_by, sum_by, flat_map, AllByRecursion}
use Rattle.flux_model.specs.declared.programs.NodeNo.{NodeNo}
use Rattle.flux_model.specs.declared.items.FlowNo.{FlowNo}
use Rattle.flow_model.specs.declared.journals.Event.{Event}
use Rattle.flow_model.specs.declared.journals.Event.TheVariants.{Take, Wait, Enter, Choose, Call, Exit, Drop, End}
use Rattle.flow_model.specs.declared.journals.Entry.{Entry}
use Rattle.flow_orders.specs.declared.runs.Run.{Run}
use Rattle.flow_orders.specs.Costs.{cost_of}
use Rattle.flow_orders.specs.Ticks.{Timed}

-- ---- how many

-- a run covers a tick: it has started, and hasn't stopped
abbrev pub covers : ℕ → Run → Bool
covers tick run = nat_le run.start tick && nat_lt tick run.stop

-- how many runs cover a tick
abbrev pub running_at : List Run → ℕ → ℕ
running_at runs tick = count_by (covers tick) runs

-- how many runs of one flow do
abbrev pub running_of : List Run → ℕ → ℕ → ℕ
running_of runs flow tick = count_by (λ run. run.flow.0 == flow && covers tick run) runs

-- how many runs start at a tick, of flows from a number on upward
abbrev pub starting_from : List Run → ℕ → ℕ → ℕ
starting_from runs flow tick = count_by (λ run. run.start == tick && nat_le flow run.flow.0) runs

-- what runs cost together
abbrev pub sum_of_costs : List ℕ → List Run → ℕ
sum_of_costs costs runs = sum_by (λ run. cost_of costs run.node) runs

-- at no tick do more calls run than there are processors
abbrev pub NeverMoreRuns : ℕ → List Run → Type 0
NeverMoreRuns processors runs = (tick : ℕ) → running_at runs tick ≤ processors

-- ---- of which calls

-- the end of a call: whose it is, of which node, and when
pub record CallEnd : Type 0 where
  pub flow : FlowNo
  pub node : NodeNo
  pub tick : ℕ

abbrev pub end_of : Run → CallEnd
end_of run = record { flow = run.flow; node = run.node; tick = run.stop }

-- a call's entry is its end; no other entry is one
abbrev pub ends_by : ℕ → FlowNo → Event → List CallEnd
ends_by tick flow (Call made) = record { flow = flow; node = made.node; tick = tick } ∷ []
ends_by tick flow (Take key mode) = []
ends_by tick flow (Wait key mode) = []
ends_by tick flow (Enter node) = []
ends_by tick flow (Choose place) = []
ends_by tick flow (Exit node outcome) = []
ends_by tick flow (Drop key) = []
ends_by tick flow (End outcome) = []

abbrev pub ends_in : Timed → List CallEnd
ends_in journal = flat_map (λ one. let entry : Entry = one.1 in ends_by one.0 entry.flow entry.event) journal

-- exactly one run for each call of a journal, in order: it stops at the call's tick, and lasts as long as the node costs
pub record IsOneRunACall (costs : List ℕ) (journal : Timed) (runs : List Run) : Type 0 where
  pub calls : map end_of runs ≡ ends_in journal
  pub last : AllByRecursion (λ run. run.stop ≡ run.start + cost_of costs run.node) runs
