-- What comes of a simulation is what is printed.
use Rattle.std.proofs.Common.{◌≡◌, ◌<◌, ◌≤◌, ◌-◌, ◌*◌, ℕ, List, length, Result, Ok, Err, IfOk, refl, sym, ap, subst, ◌∙◌, arith}
use Rattle.flux_values.specs.Meanings.{LibraryMeaning}
use Rattle.flux_model.specs.declared.programs.Program.{Program}
use Rattle.flow_model.specs.declared.journals.Entry.{Entry}
use Rattle.flow_model.specs.Legal.{IsLegal, IsWhole}
use Rattle.flow_model.specs.Setup.{Setup}
use Rattle.flow_state.specs.States.{SetupState, setup_by}
use Rattle.flow_core.specs.States.{CoreState, setup_in}
use Rattle.flow_core.specs.Runs.{GoesToEnd}
use Rattle.flow_orders.specs.declared.runs.Run.{Run}
use Rattle.flow_orders.specs.Ticks.{timed}
use Rattle.flow_orders.specs.Runs.{IsOneRunACall, NeverMoreRuns, sum_of_costs}
use Rattle.flow_orders.specs.Rule.{IsByTheRule}
use Rattle.flow_orders.specs.Idle.{NeverIdleForNothing}
use Rattle.flux_runs.specs.Simulations.{Simulation, IsSimulation, costs_for, printed_simulation, IsSimulationText}
use Rattle.simulated_items.specs.steps.Work.{work_of, HasRoom}
use Rattle.simulated_items.proofs.Areas.{work_fits, all_last, work_costs}
use Rattle.simulated_items.proofs.Ends.{stop_in_time}

-- ---- the runs fit

module _ (setup : Setup) (costs : List ℕ) (processors : ℕ) (entries : List Entry) (at : List ℕ) (runs : List Run)
    (ticks : ℕ) (rule : IsByTheRule setup costs processors entries at runs ticks) where
  fits : work_of runs ≤ processors * ticks
  fits = work_fits processors ticks runs rule.few
      (stop_in_time at entries runs ticks rule.rising rule.runs_.calls rule.last) (all_last costs runs rule.runs_.last)

  same : work_of runs ≡ sum_of_costs costs runs
  same = work_costs costs runs rule.runs_.last

  pub has_room : processors ≤ 64 → ticks ≤ sum_of_costs costs runs → sum_of_costs costs runs < 9000000000
      → HasRoom processors ticks runs
  has_room most bound small = record {
    lasting = all_last costs runs rule.runs_.last;
    room = fits;
    small = let e = same in omega (arith, e, small);
    bound = omega (arith, bound, small);
    few = most;
  }

-- ---- all of it

module _ {L : Type 0} (meaning : L
    → LibraryMeaning) (own : Setup) (old new : CoreState L) (is : setup_in meaning old ≡ own)
    (to : GoesToEnd meaning old new) (costs : List ℕ) (processors : ℕ) (at : List ℕ) (runs : List Run) (ticks : ℕ)
    (rule : IsByTheRule (setup_in meaning old) costs processors new.entries at runs ticks)
    (calls : IsOneRunACall costs (timed at new.entries) runs) (few : NeverMoreRuns processors runs)
    (busy : NeverIdleForNothing (setup_in meaning old) processors (timed at new.entries) runs ticks)
    (bound : ticks ≤ sum_of_costs costs runs) where
  there : setup_in meaning new ≡ own
  there = ap (λ (s : SetupState L). setup_by meaning s) to.legally.on.setup_ ∙ is

  done : Simulation
  done = record { entries = new.entries; at = at; runs = runs; ticks = ticks }

  is_simulation : IsSimulation own costs processors done
  unfolding done
  is_simulation = record {
    legal = subst (λ (s : Setup). IsLegal s new.entries) there to.legally.legal;
    whole = subst (λ (s : Setup). IsWhole s new.entries) there to.whole;
    rule = subst (λ (s : Setup). IsByTheRule s costs processors new.entries at runs ticks) is rule;
    calls = calls;
    few = few;
    busy = subst (λ (s : Setup). NeverIdleForNothing s processors (timed at new.entries) runs ticks) is busy;
    bound = bound;
  }

  -- and what is printed of it
  pub is_printed : {E : Type 0} (given : List ℕ) (result : Result (List ℕ) E)
      → costs ≡ costs_for (let p : Program = own.program in length p.nodes) given
      → IfOk result (λ text. text ≡ printed_simulation ticks (length runs) (processors * ticks - work_of runs))
      → IfOk result (IsSimulationText own given processors)
  unfolding done
  is_printed given (Ok text) are printed = record {
    costs = costs;
    are_costs = are;
    done = done;
    is = is_simulation;
    room = let fit = fits (setup_in meaning old) costs processors new.entries at runs ticks rule in
        let e = same (setup_in meaning old) costs processors new.entries at runs ticks rule in omega (arith, fit, e);
    printed = printed ∙ ap (λ (work : ℕ). printed_simulation ticks (length runs) (processors * ticks - work))
        (same (setup_in meaning old) costs processors new.entries at runs ticks rule);
  }
  is_printed given (Err e) are printed = tt
