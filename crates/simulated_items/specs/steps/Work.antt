-- Steps of what is printed of a simulation.
use Rattle.std.specs.Prelude.{◌≤◌, ◌<◌, ◌-◌, ◌*◌, ℕ, List}
use Rattle.std.specs.List.{sum_by, AllByRecursion}
use Rattle.flow_orders.specs.declared.runs.Run.{Run}

-- how many ticks runs last together
abbrev pub work_of : List Run → ℕ
work_of runs = sum_by (λ run. run.stop - run.start) runs

-- the runs fit on the processors up to a tick, and no number is too great
pub record HasRoom (processors ticks : ℕ) (runs : List Run) : Type 0 where
  pub lasting : AllByRecursion (λ run. run.start ≤ run.stop) runs
  pub room : work_of runs ≤ processors * ticks
  pub small : work_of runs < 9000000000
  pub bound : ticks < 9000000000
  pub few : processors ≤ 64
