-- A core that is opened can be simulated.
use Rattle.std.proofs.Common.{◌≡◌, ◌≤◌, ◌<◌, ℕ, List, length, Some, sym, ap, subst, ◌∙◌}
use Rattle.std.specs.List.{sum_by, slice_index}
use Rattle.flux_values.specs.Meanings.{LibraryMeaning}
use Rattle.flux_model.specs.declared.programs.Program.{Program}
use Rattle.flux_model.specs.declared.items.Item.{Item}
use Rattle.flow_model.specs.Setup.{Setup}
use Rattle.flux_laws.specs.Growth.{item_size}
use Rattle.flow_core.specs.States.{CoreState, setup_in}
use Rattle.flow_orders.specs.Costs.{AreCosts}
use Rattle.flux_runs.specs.declared.setups.Opened.{Opened}
use Rattle.flux_runs.specs.Opening.{AreSmall, IsOpened}
use Rattle.flux_runs.specs.Simulations.{costs_for}
use Rattle.simulated_items.proofs.GivenCosts.{many, all_within}

module _ {L : Type 0} (meaning : L → LibraryMeaning) (library : L) (p : Program) (items : List Item)
    (opened : Opened L) (is : IsOpened meaning library p items opened) where
  abbrev core : CoreState L
  core = opened.core

  program_is : core.setup.program ≡ p
  program_is = ap (λ (s : Setup). s.program) is.is

  pub are_costs : (costs given : List ℕ) → costs ≡ costs_for (length p.nodes) given
      → ((place : ℕ) → place < length given → (1 ≤ slice_index given place) × (slice_index given place ≤ 1000))
      → AreCosts core.setup.program costs
  are_costs costs given so within =
      subst (λ (q : Program). AreCosts q costs) (sym program_is)
      (subst (AreCosts p) (sym so) (record { each = many (length p.nodes) given; within = all_within (length p.nodes) given within }))

  pub are_sizes : AreSmall (meaning library) p items
      → sum_by (λ (item : Item). item_size (setup_in meaning core) (Some item)) core.setup.items ≤ 4194304
  are_sizes small =
      subst (λ (s : Setup). sum_by (λ (item : Item). item_size s (Some item)) s.items ≤ 4194304) (sym is.is) small.total
