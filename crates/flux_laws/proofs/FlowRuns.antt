-- The events of a flow run on a stack that holds nothing but its begin.
use Rattle.std.proofs.Common.{◌≡◌, ℕ, List, [], ◌∷◌, ◌++◌, length, Option, Some, None, refl}
use Rattle.std.specs.List.{slice_get}
use Rattle.flux_values.specs.declared.answers.Answer.{Answer}
use Rattle.flux_model.specs.declared.programs.Class.{Class}
use Rattle.flux_model.specs.declared.programs.ClassNo.{ClassNo}
use Rattle.flux_model.specs.declared.programs.SourceLine.{SourceLine}
use Rattle.flow_model.specs.declared.journals.Key.{Key}
use Rattle.flux_model.specs.declared.items.Item.{Item}
use Rattle.flow_model.specs.Setup.{Setup, item_of}
use Rattle.flow_model.specs.Keys.{class_key, flow_key, session_number}
use Rattle.flux_model.specs.Locks.{declared, AreLocks}
use Rattle.flow_model.specs.CellsAfter.{key_on, key_for}
use Rattle.flow_model.specs.Walk.{Stop, finished, before_call, nowhere, Walked, lost}
use Rattle.flow_model.specs.Flows.{given_for, target_walk, item_walk, flow_walk, ending, with_end}
use Rattle.flux_laws.proofs.Stacks.{Stack, begun, run, Runs, runs-append}
use Rattle.flux_laws.proofs.Readiness.{ready-begun}
use Rattle.flux_laws.proofs.Walking.{IsFine, Leaves}
use Rattle.flux_laws.proofs.Balanced.{laws, safe-nested}

-- ---- a flow has one key of each class

-- by its source line
abbrev pub line_keys : Setup → Item → Option SourceLine → ClassNo → Key
line_keys setup item None class = record { class = class; id = None }
line_keys setup item (Some line) class = flow_key setup.program setup.meaning line item.values class

-- by its item
abbrev pub item_keys : Setup → Option Item → ClassNo → Key
item_keys setup None class = record { class = class; id = None }
item_keys setup (Some item) class = line_keys setup item (slice_get setup.program.sources item.source.0) class

-- of a flow; where it has no item, any will do
abbrev pub keys_of : Setup → ℕ → ClassNo → Key
keys_of setup flow = item_keys setup (item_of setup flow)

class_key-class : (found : Option Class) (class : ClassNo) (session : ℕ) → (class_key found class session).class ≡ class
class_key-class None class session = refl
class_key-class (Some found) class session = refl

line_keys-class : (setup : Setup) (item : Item) (line : Option SourceLine) (class : ClassNo) → (line_keys setup item line class).class ≡ class
line_keys-class setup item None class = refl
line_keys-class setup item (Some line) class = class_key-class (slice_get setup.program.classes class.0) class (session_number setup.meaning line.session item.values)

-- a flow's key of a class, where it has one
pub key_for-is : (setup : Setup) (flow : ℕ) (class : ClassNo) (key : Key) → key_for setup (item_of setup flow) class ≡ Some key → keys_of setup flow class ≡ key
key_for-is setup flow class key = by (item_of setup flow)
  where
    on : (item : Item) (line : Option SourceLine) → key_on setup item line class ≡ Some key → line_keys setup item line class ≡ key
    on item None e = absurd cc
    on item (Some line) e = cc

    by : (item : Option Item) → key_for setup item class ≡ Some key → item_keys setup item class ≡ key
    by None e = absurd cc
    by (Some item) e = on item (slice_get setup.program.sources item.source.0) e

-- ---- its events

-- what a flow begins on
abbrev pub at_start : Stack
at_start = begun ∷ []

module _ (setup : Setup) (are : AreLocks setup.program setup.locks) where
  -- a flow's walk, with its `end`, runs
  pub record IsRun (key : ClassNo → Key) (walked : Walked) : Type 0 where
    pub runs : Runs key (declared setup.program) at_start (with_end walked)
    pub leaves : Leaves at_start (run at_start walked.events) walked.stop

  fine-run : (key : ClassNo → Key) (walked : Walked) → IsFine key (declared setup.program) at_start at_start walked → IsRun key walked
  fine-run key walked fine = record {
    runs = ends walked.stop fine.leaves;
    leaves = fine.leaves;
  }
    where
      ends : (stop : Stop) → Leaves at_start (run at_start walked.events) stop → Runs key (declared setup.program) at_start (walked.events ++ ending stop)
      ends (finished ended) left = runs-append key (declared setup.program) at_start walked.events (ending (finished ended)) fine.runs (rw left (tt, refl, tt))
      ends (before_call node args) left = runs-append key (declared setup.program) at_start walked.events [] fine.runs tt
      ends nowhere left = runs-append key (declared setup.program) at_start walked.events [] fine.runs tt

  nothing : (key : ClassNo → Key) → IsRun key lost
  nothing key = record { runs = tt; leaves = tt }

  line-run : (item : Item) (line : Option SourceLine) (answers : List Answer) → IsRun (line_keys setup item line) (target_walk setup item line answers)
  line-run item None answers = nothing (line_keys setup item None)
  line-run item (Some line) answers =
      let given = given_for setup item line in
      let keyed = line_keys-class setup item (Some line) in
      fine-run (line_keys setup item (Some line)) (target_walk setup item (Some line) answers)
      (safe-nested setup.program given are keyed (length setup.program.nodes) line.target.0 at_start tt
      (ready-begun setup.program setup.locks (let l = laws setup.program given are keyed in l.closed) given.key keyed (length setup.program.nodes) line.target.0) item.values answers)

  -- the walk of an item's flow
  pub flow-run : (flow : ℕ) (answers : List Answer) → IsRun (keys_of setup flow) (flow_walk setup flow answers)
  flow-run flow answers = by (item_of setup flow)
    where
      by : (item : Option Item) → IsRun (item_keys setup item) (item_walk setup item answers)
      by None = nothing (item_keys setup None)
      by (Some item) = line-run item (slice_get setup.program.sources item.source.0) answers
