-- Steps of finding nodes and classes by their names.
use Rattle.std.specs.Prelude.{◌≡◌, ◌<◌, ◌≤◌, ℕ, Bool, List, length, map, Some}
use Rattle.std.specs.List.{slice_get}
use Rattle.flux_model.specs.declared.programs.Program.{Program}
use Rattle.flux_model.specs.declared.programs.Node.{Node}
use Rattle.flux_model.specs.declared.programs.NodeNo.{NodeNo}
use Rattle.flux_model.specs.declared.programs.Class.{Class}
use Rattle.flux_model.specs.declared.programs.ClassNo.{ClassNo}
use Rattle.flux_model.specs.declared.programs.TheConstants.{COUNT_LIMIT}
use Rattle.flux_model.specs.Names.{IsNamed}

-- the names of nodes
abbrev pub names_in : List Node → List (List ℕ)
names_in nodes = map (λ node. node.name) nodes

-- a node has a name
abbrev pub IsNodeNamed : List (List ℕ) → List ℕ → NodeNo → Type 0
IsNodeNamed names name node = slice_get names node.0 ≡ Some name

-- a class has a name and a scope
pub record IsClassNamed (p : Program) (session : Bool) (name : List ℕ) (number : ClassNo) : Type 0 where
  pub class : Class
  pub at : slice_get p.classes number.0 ≡ Some class
  pub named : class.name ≡ name
  pub scope : class.session ≡ session

-- what lines are read by: a program's nodes by their names
pub record IsReady (p : Program) (names : List (List ℕ)) : Type 0 where
  pub named : IsNamed p
  pub few : length names ≤ COUNT_LIMIT
  pub few_classes : length p.classes ≤ COUNT_LIMIT
  pub are : names ≡ names_in p.nodes

-- none of the first classes is one that is looked for
abbrev pub NoneBefore : List Class → (Class → Type 0) → ℕ → Type 0
NoneBefore classes Is n = (place : ℕ) (class : Class) → place < n
    → slice_get classes place ≡ Some class → Is class → ⊥
