-- The rule of simulated processors fixes what comes of them.
use Rattle.std.specs.Prelude.{◌≡◌, ◌≤◌, ◌<◌, ℕ, List, length}
use Rattle.flux_model.specs.declared.programs.Program.{Program}
use Rattle.flow_model.specs.declared.journals.Entry.{Entry}
use Rattle.flow_model.specs.Setup.{Setup}
use Rattle.flow_model.specs.Legal.{IsLegal, IsWhole}
use Rattle.flow_orders.specs.declared.runs.Run.{Run}
use Rattle.flow_orders.specs.Costs.{cost_of}
use Rattle.flow_orders.specs.Rule.{IsByTheRule}

-- each call of a node takes a tick at least
abbrev pub EachCosts : Program → List ℕ → Type 0
EachCosts program costs =
    (node : ℕ) → node < length program.nodes → 1 ≤ cost_of costs (record { 0 = node })

-- a legal and whole journal, the ticks of its entries, the runs of its calls and the last tick, by
-- the rule
pub record ComesByTheRule (setup : Setup) (costs : List ℕ) (processors : ℕ) (entries : List Entry)
    (at : List ℕ) (runs : List Run) (ticks : ℕ) : Type 0 where
  pub legal : IsLegal setup entries
  pub whole : IsWhole setup entries
  pub rule : IsByTheRule setup costs processors entries at runs ticks

-- two such have the same of each
pub record AreOne (entries others : List Entry) (at times : List ℕ) (runs their : List Run)
    (ticks last : ℕ) : Type 0 where
  pub entries_ : entries ≡ others
  pub at_ : at ≡ times
  pub runs_ : runs ≡ their
  pub ticks_ : ticks ≡ last

-- what comes by the rule, for one setup, costs and number of processors, is one
abbrev pub RuleIsOne : Type 0
RuleIsOne = (setup : Setup) (costs : List ℕ) (processors : ℕ) (entries others : List Entry)
    (at times : List ℕ) (runs their : List Run) (ticks last : ℕ) → EachCosts setup.program costs
    → ComesByTheRule setup costs processors entries at runs ticks
    → ComesByTheRule setup costs processors others times their last
    → AreOne entries others at times runs their ticks last
