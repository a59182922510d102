-- The names of a program: identifiers, distinct among the nodes, and among the classes of one scope.
use Rattle.std.specs.Prelude.{◌≡◌, ℕ, List, Some}
use Rattle.std.specs.List.{slice_get, AllByRecursion}
use Rattle.flux_values.specs.Identifiers.{IsIdentifier}
use Rattle.flux_model.specs.declared.programs.Program.{Program}
use Rattle.flux_model.specs.declared.programs.Node.{Node}
use Rattle.flux_model.specs.declared.programs.Class.{Class}

-- no two nodes have one name
abbrev pub AreNamedApart : List Node → Type 0
AreNamedApart nodes = (a b : ℕ) (first second : Node) → slice_get nodes a ≡ Some first
    → slice_get nodes b ≡ Some second → first.name ≡ second.name → a ≡ b

-- no two classes of one scope have one name
abbrev pub AreClassesApart : List Class → Type 0
AreClassesApart classes = (a b : ℕ) (first second : Class) → slice_get classes a ≡ Some first
    → slice_get classes b ≡ Some second → first.name ≡ second.name → first.session ≡ second.session
    → a ≡ b

pub record IsNamed (p : Program) : Type 0 where
  pub nodes : AllByRecursion (λ node. IsIdentifier node.name) p.nodes
  pub classes : AllByRecursion (λ class. IsIdentifier class.name) p.classes
  pub apart : AreNamedApart p.nodes
  pub classes_apart : AreClassesApart p.classes
