-- Runs on simulated processors, and what is printed of them.
use Rattle.std.specs.Prelude.{◌≡◌, ◌≤◌, ◌-◌, ◌*◌, ℕ, zero, suc, List, [], ◌∷◌, ◌++◌, length, codes}
use Rattle.std.specs.Fmt.{decimal}
use Rattle.flux_model.specs.declared.programs.Program.{Program}
use Rattle.flow_model.specs.declared.journals.Entry.{Entry}
use Rattle.flow_model.specs.Setup.{Setup}
use Rattle.flow_model.specs.Legal.{IsLegal, IsWhole}
use Rattle.flow_orders.specs.declared.runs.Run.{Run}
use Rattle.flow_orders.specs.Ticks.{timed}
use Rattle.flow_orders.specs.Runs.{IsOneRunACall, NeverMoreRuns, sum_of_costs}
use Rattle.flow_orders.specs.Rule.{IsByTheRule}
use Rattle.flow_orders.specs.Idle.{NeverIdleForNothing}

-- what the calls of so many nodes cost: what is given for them in order, and 1 for each node after that; what is given
-- for no node is passed over
abbrev pub costs_for : ℕ → List ℕ → List ℕ
costs_for zero given = []
costs_for (suc nodes) [] = 1 ∷ costs_for nodes []
costs_for (suc nodes) (cost ∷ given) = cost ∷ costs_for nodes given

-- what comes of it: the entries of a journal with their ticks, the runs of its calls, and the last tick
pub record Simulation : Type 0 where
  pub entries : List Entry
  pub at : List ℕ
  pub runs : List Run
  pub ticks : ℕ

-- A setup's flows have run on so many processors, where the calls of nodes cost so much:
--   legal, whole   the journal is legal, and each flow in it is one whole path;
--   rule           it, its ticks, the runs and the last tick are those of the rule of simulated processors;
--   calls          each of its calls has one run, which stops at the call's tick and lasts as long as the node costs;
--   few            at no tick do more calls run than there are processors;
--   busy           where a processor is free before the end, each live flow has a call that runs, or is blocked;
--   bound          the last tick is at most what all runs cost.
pub record IsSimulation (setup : Setup) (costs : List ℕ) (processors : ℕ) (done : Simulation) : Type 0 where
  pub legal : IsLegal setup done.entries
  pub whole : IsWhole setup done.entries
  pub rule : IsByTheRule setup costs processors done.entries done.at done.runs done.ticks
  pub calls : IsOneRunACall costs (timed done.at done.entries) done.runs
  pub few : NeverMoreRuns processors done.runs
  pub busy : NeverIdleForNothing setup processors (timed done.at done.entries) done.runs done.ticks
  pub bound : done.ticks ≤ sum_of_costs costs done.runs

-- the three lines: the last tick, how many calls there were, and how many ticks the processors were idle together
abbrev pub printed_simulation : ℕ → ℕ → ℕ → List ℕ
printed_simulation ticks calls idle = codes "ticks " ++ decimal ticks
    ++ codes "\ncalls " ++ decimal calls ++ codes "\nidle " ++ decimal idle ++ codes "\n"

-- The text is what is printed of such a run, where so much is given for the first nodes:
--   room      the runs cost no more than all processors have up to the last tick;
--   printed   what is left of that is what they were idle.
pub record IsSimulationText (setup : Setup) (given : List ℕ) (processors : ℕ) (text : List ℕ) : Type 0 where
  pub costs : List ℕ
  pub are_costs : costs ≡ costs_for (let p : Program = setup.program in length p.nodes) given
  pub done : Simulation
  pub is : IsSimulation setup costs processors done
  pub room : sum_of_costs costs done.runs ≤ processors * done.ticks
  pub printed : text ≡ printed_simulation done.ticks (length done.runs)
      (processors * done.ticks - sum_of_costs costs done.runs)
