-- Small programs, flows and entries, which the examples are about.
use Rattle.std.specs.Prelude.{ℕ, pos, zero, suc, false, List, [], ◌∷◌, None, codes}
use Rattle.flux_values.specs.declared.values.Value.{Value}
use Rattle.flux_values.specs.declared.values.Value.TheVariants as values
use Rattle.flux_values.specs.declared.answers.Mode.TheVariants.{Writer}
use Rattle.flux_values.specs.declared.answers.Answer.{Answer}
use Rattle.flux_values.specs.declared.answers.CallResult.{CallResult}
use Rattle.flux_values.specs.declared.answers.CallResult.TheVariants.{Bad}
use Rattle.flux_values.specs.Meanings.{LibraryMeaning}
use Rattle.flux_values.specs.Cells.{no_cell}
use Rattle.flux_model.specs.declared.items.FlowNo.{FlowNo}
use Rattle.flux_model.specs.declared.programs.Node.{Node}
use Rattle.flux_model.specs.declared.programs.NodeNo.{NodeNo}
use Rattle.flux_model.specs.declared.programs.Hold.{Hold}
use Rattle.flux_model.specs.declared.programs.Body.TheVariants.{Concrete}
use Rattle.flux_model.specs.Locks.{Holds}
use Rattle.flow_model.specs.declared.journals.Key.{Key}
use Rattle.flow_model.specs.declared.journals.Entry.{Entry}
use Rattle.flow_model.specs.declared.journals.Event.{Event}
use Rattle.flow_model.specs.declared.journals.Event.TheVariants.{Call}
use Rattle.flow_model.specs.Setup.{Setup}

abbrev pub int : ℕ → Value
int n = values.Int (pos n)

abbrev pub no : ℕ → NodeNo
no n = record { 0 = n }

abbrev pub flow : ℕ → FlowNo
flow n = record { 0 = n }

-- an entry of a flow
abbrev pub by : ℕ → Event → Entry
by n event = record { flow = flow n; event = event }

-- the answer of a call without puts and emission, and its event
abbrev pub answer : CallResult → Answer
answer result = record { result = result; puts = []; emits = [] }

abbrev pub called : ℕ → List Value → CallResult → Event
called node args result = Call (record { node = no node; args = args; answer = answer result })

-- a library whose nodes always fail with 1
abbrev pub meaning : LibraryMeaning
meaning = record {
  kind = λ ty. None;
  node = λ name. None;
  predicate = λ name. None;
  session = λ name. None;
  call = λ name args cells. answer (Bad 1);
  test = λ name value. false;
  id = λ name args. 0;
}

-- the key of the one class, and a writer on it
abbrev pub a : Key
a = record { class = record { 0 = 0 }; id = None }

abbrev pub writer : Hold
writer = record { class = record { 0 = 0 }; mode = Writer }

abbrev pub concrete : List ℕ → List Hold → Node
concrete name holds = record { name = name; body = Concrete name; on_fail = []; declared = holds }

-- two flows, one at each of two nodes, with these constraints and locks; the sources' own node isn't listed, and no walk
-- needs it
abbrev pub two : List Hold → Holds → Setup
two holds locks = record {
  program = record {
    classes = record { name = codes "a"; session = false } ∷ [];
    nodes = concrete (codes "A") holds ∷ concrete (codes "B") holds ∷ [];
    sources = record { node = no 9; target = no 0; session = None }
        ∷ record { node = no 9; target = no 1; session = None } ∷ [];
    predicates = [];
  };
  locks = locks;
  items = record { source = record { 0 = 0 }; values = int 7 ∷ [] }
      ∷ record { source = record { 0 = 1 }; values = int 2 ∷ [] } ∷ [];
  opening = λ key. no_cell;
  meaning = meaning;
}

-- both nodes write the class
abbrev pub first_two : Holds
first_two zero = writer ∷ []
first_two (suc zero) = writer ∷ []
first_two (suc (suc n)) = []

abbrev pub both_write : Setup
both_write = two (writer ∷ []) first_two

-- or neither holds anything
abbrev pub none_held : Holds
none_held n = []

abbrev pub free : Setup
free = two [] none_held
