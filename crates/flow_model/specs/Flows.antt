-- What a flow does: the walk of its source's target on its item's values, and its end.
use Rattle.std.specs.Prelude.{ℕ, List, [], ◌∷◌, ◌++◌, Option, Some, None, ⊤}
use Rattle.std.specs.List.{slice_get}
use Rattle.flux_values.specs.declared.answers.Answer.{Answer}
use Rattle.flux_model.specs.declared.programs.SourceLine.{SourceLine}
use Rattle.flux_model.specs.declared.items.Item.{Item}
use Rattle.flow_model.specs.declared.journals.Event.{Event}
use Rattle.flow_model.specs.declared.journals.Event.TheVariants.{End}
use Rattle.flow_model.specs.Setup.{Setup, item_of}
use Rattle.flow_model.specs.Keys.{flow_key}
use Rattle.flow_model.specs.Matching.{patterns_match}
use Rattle.flow_model.specs.Walk.{Given, Stop, finished, before_call, nowhere, Walked, lost, walk}

-- what the walk of an item's flow is given
abbrev pub given_for : Setup → Item → SourceLine → Given
given_for setup item line = record {
  key = flow_key setup.program setup.meaning line item.values;
  locks = setup.locks;
  matches = patterns_match setup.meaning setup.program.predicates;
}

-- the walk of the item's source's target on its values
abbrev pub target_walk : Setup → Item → Option SourceLine → List Answer → Walked
target_walk setup item None answers = lost
target_walk setup item (Some line) answers =
    walk (given_for setup item line) setup.program.nodes line.target.0 item.values answers

abbrev pub item_walk : Setup → Option Item → List Answer → Walked
item_walk setup None answers = lost
item_walk setup (Some item) answers =
    target_walk setup item (slice_get setup.program.sources item.source.0) answers

-- a flow's walk, given the answers of its calls
abbrev pub flow_walk : Setup → ℕ → List Answer → Walked
flow_walk setup flow answers = item_walk setup (item_of setup flow) answers

-- a finished walk is followed by `end` with its outcome
abbrev pub ending : Stop → List Event
ending (finished ended) = End ended.outcome ∷ []
ending (before_call node args) = []
ending nowhere = []

abbrev pub with_end : Walked → List Event
with_end walked = walked.events ++ ending walked.stop

-- a flow's events, given the answers of its calls
abbrev pub flow_events : Setup → ℕ → List Answer → List Event
flow_events setup flow answers = with_end (flow_walk setup flow answers)

abbrev pub HasEnded : Stop → Type 0
HasEnded (finished ended) = ⊤
HasEnded (before_call node args) = ⊥
HasEnded nowhere = ⊥

-- the flow's walk is finished on these answers
abbrev pub IsFinished : Setup → ℕ → List Answer → Type 0
IsFinished setup flow answers = let walked = flow_walk setup flow answers in HasEnded walked.stop
