-- Small programs, flows and journals, which the examples are about.
use Rattle.std.specs.Prelude.{ℕ, pos, zero, suc, Bool, true, false, List, [], ◌∷◌, Option, Some, None, codes}
use Rattle.flux_values.specs.declared.values.Kind.TheVariants as kinds
use Rattle.flux_values.specs.declared.values.Value.{Value}
use Rattle.flux_values.specs.declared.values.Value.TheVariants as values
use Rattle.flux_values.specs.declared.answers.Mode.TheVariants.{Writer}
use Rattle.flux_values.specs.declared.answers.Answer.{Answer}
use Rattle.flux_values.specs.declared.answers.CallResult.{CallResult}
use Rattle.flux_values.specs.declared.answers.CallResult.TheVariants as results
use Rattle.flux_values.specs.Meanings.{LibraryMeaning}
use Rattle.flux_values.specs.Cells.{no_cell}
use Rattle.flux_model.specs.declared.programs.Node.{Node}
use Rattle.flux_model.specs.declared.programs.NodeNo.{NodeNo}
use Rattle.flux_model.specs.declared.programs.Hold.{Hold}
use Rattle.flux_model.specs.declared.programs.HandleArm.{HandleArm}
use Rattle.flux_model.specs.declared.programs.Case.{Case}
use Rattle.flux_model.specs.declared.programs.Body.TheVariants.{Concrete, Abstract}
use Rattle.flow_model.specs.declared.journals.Key.{Key}
use Rattle.flow_model.specs.declared.journals.Entry.{Entry}
use Rattle.flow_model.specs.declared.journals.Event.{Event}
use Rattle.flow_model.specs.declared.journals.Event.TheVariants.{Call}
use Rattle.flow_model.specs.Setup.{Setup}
use Rattle.flux_model.specs.Locks.{Holds}

-- ---- programs, values and answers

abbrev pub int : ℕ → Value
int n = values.Int (pos n)

abbrev pub no : ℕ → NodeNo
no n = record { 0 = n }

abbrev pub concrete : List ℕ → List HandleArm → List Hold → Node
concrete name arms holds = record { name = name; body = Concrete name; on_fail = arms; declared = holds }

abbrev pub flow : List ℕ → List Case → List HandleArm → List Hold → Node
flow name cases arms holds = record { name = name; body = Abstract cases; on_fail = arms; declared = holds }

abbrev pub case_of : List (Option ℕ) → List NodeNo → Case
case_of patterns members = record { patterns = patterns; members = members }

abbrev pub on_codes : List ℕ → ℕ → HandleArm
on_codes numbers node = record { codes = numbers; node = no node }

-- the answer of a call without puts and emission, and its event
abbrev pub answer : CallResult → Answer
answer result = record { result = result; puts = []; emits = [] }

abbrev pub called : ℕ → List Value → CallResult → Event
called node args result = Call (record { node = no node; args = args; answer = answer result })

-- a predicate `zero`, and a session number that is always 4
abbrev pub is_zero : Value → Bool
is_zero (values.Int (pos zero)) = true
is_zero other = false

abbrev pub meaning : LibraryMeaning
meaning = record {
  kind = λ ty. None;
  node = λ name. None;
  predicate = λ name. Some kinds.Int;
  session = λ name. Some (kinds.Int ∷ []);
  call = λ name args cells. answer (results.Bad 1);
  test = λ name value. is_zero value;
  id = λ name args. 4;
}

-- a source starts a flow at the first node for its one item; the source's own node isn't listed, and no walk needs it
abbrev pub setup_of : List Node → Holds → List ℕ → Value → Setup
setup_of nodes locks class value = record {
  program = record {
    classes = record { name = class; session = false } ∷ [];
    nodes = nodes;
    sources = record { node = no 9; target = no 0; session = None } ∷ [];
    predicates = codes "IsZero" ∷ [];
  };
  locks = locks;
  items = record { source = record { 0 = 0 }; values = value ∷ [] } ∷ [];
  opening = λ key. no_cell;
  meaning = meaning;
}

abbrev pub k : Key
k = record { class = record { 0 = 0 }; id = None }

abbrev pub writer : Hold
writer = record { class = record { 0 = 0 }; mode = Writer }

abbrev pub first_two : Holds
first_two zero = writer ∷ []
first_two (suc zero) = writer ∷ []
first_two (suc (suc n)) = []

abbrev pub none_held : Holds
none_held n = []

-- an entry of a flow
abbrev pub by : ℕ → Event → Entry
by n event = record { flow = record { 0 = n }; event = event }

-- ---- two flows

-- one at each of two nodes, over the program-wide classes `a` and `b`
abbrev pub two : List Node → Holds → Setup
two nodes locks = record {
  program = record {
    classes = record { name = codes "a"; session = false } ∷ record { name = codes "b"; session = false } ∷ [];
    nodes = nodes;
    sources = record { node = no 9; target = no 0; session = None }
        ∷ record { node = no 9; target = no 1; session = None } ∷ [];
    predicates = [];
  };
  locks = locks;
  items = record { source = record { 0 = 0 }; values = int 1 ∷ [] }
      ∷ record { source = record { 0 = 1 }; values = int 2 ∷ [] } ∷ [];
  opening = λ key. no_cell;
  meaning = meaning;
}

-- the two keys, and a writer on each
abbrev pub a : Key
a = k

abbrev pub b : Key
b = record { class = record { 0 = 1 }; id = None }

abbrev pub writes_a : Hold
writes_a = writer

abbrev pub writes_b : Hold
writes_b = record { class = record { 0 = 1 }; mode = Writer }

-- both nodes write `a`
abbrev pub both_write : Setup
both_write = two
    (concrete (codes "A") [] (writes_a ∷ []) ∷ concrete (codes "B") [] (writes_a ∷ []) ∷ [])
    first_two

-- the first node takes `a` and then `b`, the second one `b` and then `a`, as no hoisting would have it
abbrev pub crossed_locks : Holds
crossed_locks zero = writes_a ∷ writes_b ∷ []
crossed_locks (suc zero) = writes_b ∷ writes_a ∷ []
crossed_locks (suc (suc n)) = []

abbrev pub crossed : Setup
crossed = two
    (concrete (codes "A") [] (writes_a ∷ writes_b ∷ []) ∷ concrete (codes "B") [] (writes_b ∷ writes_a ∷ []) ∷ [])
    crossed_locks
