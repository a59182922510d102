-- Numbered programs: each number points into the program's lists, and no list is too long.
use Rattle.std.specs.Prelude.{ℕ, ◌<◌, ◌≤◌, ◌+◌, List, length, Option, Some, None, ⊤}
use Rattle.std.specs.List.{AllByRecursion}
use Rattle.flux_model.specs.declared.programs.TheConstants.{COUNT_LIMIT}
use Rattle.flux_model.specs.declared.programs.NodeNo.{NodeNo}
use Rattle.flux_model.specs.declared.programs.Hold.{Hold}
use Rattle.flux_model.specs.declared.programs.Body.{Body}
use Rattle.flux_model.specs.declared.programs.Body.TheVariants.{Concrete, Abstract}
use Rattle.flux_model.specs.declared.programs.Program.{Program}
use Rattle.flux_model.specs.Leading.{members_of, leads_to}
use Rattle.flux_model.specs.Modes.{AreCanonical}

-- numbers of nodes below a count
abbrev pub AreBelow : ℕ → List NodeNo → Type 0
AreBelow count numbers = AllByRecursion (λ number. number.0 < count) numbers

-- constraints on classes below a count
abbrev pub AreOnClasses : ℕ → List Hold → Type 0
AreOnClasses count holds = AllByRecursion (λ hold. hold.class.0 < count) holds

-- a pattern's number, where it has one, is below a count
abbrev pub IsPatternBelow : ℕ → Option ℕ → Type 0
IsPatternBelow count None = ⊤
IsPatternBelow count (Some number) = number < count

-- so are those of a body's cases
abbrev pub ArePatternsBelow : ℕ → Body → Type 0
ArePatternsBelow count (Concrete library) = ⊤
ArePatternsBelow count (Abstract cases) =
    AllByRecursion (λ case. AllByRecursion (IsPatternBelow count) case.patterns) cases

-- how many cases and members a node has together
abbrev pub parts_of : Body → ℕ
parts_of (Concrete library) = 0
parts_of (Abstract cases) = length cases + length (members_of (Abstract cases))

-- classes are in canonical order, each once; each number points into the program's lists; there are at
-- most 1,048,576 classes, nodes, sources and predicates each, and cases and members of a node together
pub record IsNumbered (p : Program) : Type 0 where
  pub few : length p.nodes ≤ COUNT_LIMIT
  pub few_classes : length p.classes ≤ COUNT_LIMIT
  pub few_sources : length p.sources ≤ COUNT_LIMIT
  pub few_predicates : length p.predicates ≤ COUNT_LIMIT
  pub parts : AllByRecursion (λ node. parts_of node.body ≤ COUNT_LIMIT) p.nodes
  pub canonical : AreCanonical p.classes
  pub nodes : AllByRecursion (λ node. AreBelow (length p.nodes) (leads_to node)) p.nodes
  pub classes : AllByRecursion (λ node. AreOnClasses (length p.classes) node.declared) p.nodes
  pub patterns : AllByRecursion (λ node. ArePatternsBelow (length p.predicates) node.body) p.nodes
  pub sources : AllByRecursion
      (λ line. (line.node.0 < length p.nodes) × (line.target.0 < length p.nodes)) p.sources
