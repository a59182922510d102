-- A program for tests: nodes and classes by their names alone.
use Rattle.std.specs.Prelude.{ℕ, Bool, true, false, List, [], ◌∷◌, ◌++◌, codes}
use Rattle.flux_model.specs.declared.programs.Program.{Program}
use Rattle.flux_model.specs.declared.programs.Node.{Node}
use Rattle.flux_model.specs.declared.programs.Body.TheVariants.{Concrete}
use Rattle.flux_model.specs.declared.programs.Class.{Class}

-- a node that calls the library's node of its name
abbrev pub plain : List ℕ → Node
plain name = record { name = name; body = Concrete name; on_fail = []; declared = [] }

abbrev pub scoped : List ℕ → Bool → Class
scoped name session = record { name = name; session = session }

abbrev pub plain_nodes : List Node
plain_nodes = plain (codes "Pass") ∷ plain (codes "Echo") ∷ plain (codes "Fail")
    ∷ plain (codes "Fail_h") ∷ plain (codes "Show") ∷ []

abbrev pub held_nodes : List Node
held_nodes = plain (codes "A") ∷ plain (codes "C") ∷ plain (codes "Pass_b")
    ∷ plain (codes "Pass_d") ∷ []

abbrev pub shared_nodes : List Node
shared_nodes = plain (codes "Pass_r") ∷ plain (codes "Pass_w") ∷ plain (codes "Sel")
    ∷ plain (codes "Add") ∷ []

abbrev pub counting_nodes : List Node
counting_nodes = plain (codes "Count") ∷ plain (codes "Command") ∷ plain (codes "Act")
    ∷ plain (codes "Amount") ∷ []

abbrev pub example_classes : List Class
example_classes = scoped (codes "counter") false ∷ scoped (codes "k") false ∷ scoped (codes "s") true
    ∷ scoped (codes "x") false ∷ scoped (codes "y") false ∷ []

abbrev pub example : Program
example = record {
  classes = example_classes;
  nodes = plain_nodes ++ held_nodes ++ shared_nodes ++ counting_nodes;
  sources = [];
  predicates = [];
}
