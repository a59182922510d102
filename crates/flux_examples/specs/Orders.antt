-- Orders of journals: that of the event loop and that of a script, what fits them, and what they refuse.
use Rattle.std.specs.Prelude.{List, [], ◌∷◌, codes}
use Rattle.flow_model.specs.declared.journals.Entry.{Entry}
use Rattle.flow_model.specs.declared.journals.Event.TheVariants.{Enter}
use Rattle.flow_model.specs.Setup.{Setup}
use Rattle.flux_cli.specs.declared.values.Runtime.TheVariants.{Event, Script}
use Rattle.flux_runs.specs.Orders.{IsOrderOf}
use Rattle.flux_examples.specs.Small.{no, concrete, none_held, two, by}
use Rattle.flux_examples.specs.Legality.{failing, failed}

-- the journal of one flow is what the event loop makes of it
abbrev pub OneFlowGoesRound : Type 0
OneFlowGoesRound = IsOrderOf Event failing [] failed

-- two flows, neither of which keeps the other out
abbrev pub side_by_side : Setup
side_by_side = two (concrete (codes "A") [] [] ∷ concrete (codes "B") [] [] ∷ []) none_held

-- the event loop begins with the first flow that can go on
abbrev pub RoundBeginsWithTheFirst : Type 0
RoundBeginsWithTheFirst = (later : List Entry) → IsOrderOf Event side_by_side [] (by 1 (Enter (no 1)) ∷ later) → ⊥

-- the first flow's turn lasts up to its call, so the second one doesn't come between
abbrev pub TurnsLast : Type 0
TurnsLast = (later : List Entry)
    → IsOrderOf Event side_by_side [] (by 0 (Enter (no 0)) ∷ by 1 (Enter (no 1)) ∷ later) → ⊥

-- a script that lists the second flow begins with it
abbrev pub ListedComeFirst : Type 0
ListedComeFirst = (later : List Entry)
    → IsOrderOf (Script (record { 0 = 1 } ∷ [])) side_by_side [] (by 0 (Enter (no 0)) ∷ later) → ⊥

-- where none is listed, the lowest goes on
abbrev pub LowestComesFirst : Type 0
LowestComesFirst = (later : List Entry)
    → IsOrderOf (Script []) side_by_side [] (by 1 (Enter (no 1)) ∷ later) → ⊥
