-- Programs that are sound for a library.
use Rattle.std.specs.Prelude.{◌≡◌, ◌≢◌, ℕ, ◌⊎◌, List, [], ◌∷◌, Option, Some, None, IfSome, IsSome, true, ⊤}
use Rattle.std.specs.List.{slice_get, AllByRecursion, Contains}
use Rattle.flux_values.specs.declared.values.Kind.{Kind}
use Rattle.flux_values.specs.declared.meanings.Sig.{Sig}
use Rattle.flux_values.specs.declared.meanings.CellUse.{CellUse}
use Rattle.flux_values.specs.declared.meanings.Role.TheVariants.{Plain}
use Rattle.flux_values.specs.Meanings.{LibraryMeaning}
use Rattle.flux_model.specs.declared.programs.Program.{Program}
use Rattle.flux_model.specs.declared.programs.Class.{Class}
use Rattle.flux_model.specs.declared.programs.Hold.{Hold}
use Rattle.flux_model.specs.declared.programs.Node.{Node}
use Rattle.flux_model.specs.declared.programs.Body.{Body}
use Rattle.flux_model.specs.declared.programs.Body.TheVariants.{Concrete, Abstract}
use Rattle.flux_model.specs.declared.programs.SourceLine.{SourceLine}
use Rattle.flux_model.specs.Numbered.{IsNumbered}
use Rattle.flux_model.specs.Leading.{leads_to}
use Rattle.flux_model.specs.Children.{IsIn}
use Rattle.flux_model.specs.Ordering.{HasCycle, LeadsOn}
use Rattle.flux_model.specs.Modes.{at_least}
use Rattle.flux_model.specs.Locks.{declared}
use Rattle.flux_model.specs.Kinds.{NodeKinds, Agree}

-- ---- nodes of the library

-- a concrete node has the kinds of its library node, and there is one
abbrev pub IsLike : Option Sig → NodeKinds → Type 0
IsLike None own = ⊥
IsLike (Some sig) own = (own.ins ≡ sig.ins) × (own.outs ≡ sig.outs)

abbrev pub IsBodyLike : LibraryMeaning → NodeKinds → Body → Type 0
IsBodyLike meaning own (Concrete name) = IsLike (meaning.node name) own
IsBodyLike meaning own (Abstract cases) = ⊤

-- where a flow may come: an abstract node, or one whose library node is plain
abbrev pub IsPlainBody : LibraryMeaning → Body → Type 0
IsPlainBody meaning (Concrete name) = IfSome (meaning.node name) (λ sig. sig.role ≡ Plain)
IsPlainBody meaning (Abstract cases) = ⊤

abbrev pub IsPlain : LibraryMeaning → Option Node → Type 0
IsPlain meaning None = ⊥
IsPlain meaning (Some node) = IsPlainBody meaning node.body

-- where items come from: a concrete node whose library node is no plain one
abbrev pub IsSourceSig : Option Sig → Type 0
IsSourceSig None = ⊥
IsSourceSig (Some sig) = sig.role ≢ Plain

abbrev pub IsSourceBody : LibraryMeaning → Body → Type 0
IsSourceBody meaning (Concrete name) = IsSourceSig (meaning.node name)
IsSourceBody meaning (Abstract cases) = ⊥

abbrev pub IsSourceNode : LibraryMeaning → Option Node → Type 0
IsSourceNode meaning None = ⊥
IsSourceNode meaning (Some node) = IsSourceBody meaning node.body

-- ---- predicates and session functions

-- a pattern's predicate is one of the library, and takes the kind of the value in its place
abbrev pub TakesKind : LibraryMeaning → Option (List ℕ) → Kind → Type 0
TakesKind meaning None kind = ⊥
TakesKind meaning (Some name) kind = meaning.predicate name ≡ Some kind

abbrev pub IsPatternLike : LibraryMeaning → List (List ℕ) → Option ℕ → Kind → Type 0
IsPatternLike meaning predicates None kind = ⊤
IsPatternLike meaning predicates (Some number) kind = TakesKind meaning (slice_get predicates number) kind

-- as many patterns as values
abbrev pub ArePatternsLike : LibraryMeaning → List (List ℕ) → List (Option ℕ) → List Kind → Type 0
ArePatternsLike meaning predicates [] [] = ⊤
ArePatternsLike meaning predicates [] (kind ∷ kinds) = ⊥
ArePatternsLike meaning predicates (pattern ∷ patterns) [] = ⊥
ArePatternsLike meaning predicates (pattern ∷ patterns) (kind ∷ kinds) =
    IsPatternLike meaning predicates pattern kind × ArePatternsLike meaning predicates patterns kinds

-- or no patterns at all
abbrev pub FitPatterns : LibraryMeaning → List (List ℕ) → List Kind → List (Option ℕ) → Type 0
FitPatterns meaning predicates kinds [] = ⊤
FitPatterns meaning predicates kinds (pattern ∷ patterns) =
    ArePatternsLike meaning predicates (pattern ∷ patterns) kinds

abbrev pub FitBody : LibraryMeaning → List (List ℕ) → NodeKinds → Body → Type 0
FitBody meaning predicates own (Concrete name) = ⊤
FitBody meaning predicates own (Abstract cases) =
    AllByRecursion (λ case. FitPatterns meaning predicates own.ins case.patterns) cases

-- a session function, where there is one, is of the library, and takes what the source gives
abbrev pub IsSessionLike : LibraryMeaning → Option (List ℕ) → List Kind → Type 0
IsSessionLike meaning None kinds = ⊤
IsSessionLike meaning (Some function) kinds = meaning.session function ≡ Some kinds

-- ---- constraints

-- a node declares a constraint of a cell's name, in at least the mode of its use
pub record IsProtected (p : Program) (node : ℕ) (cell : CellUse) : Type 0 where
  pub hold : Hold
  pub declares : Contains (declared p node) hold
  pub class : Class
  pub is_class : slice_get p.classes hold.class.0 ≡ Some class
  pub named : class.name ≡ cell.name
  pub enough : at_least hold.mode cell.mode ≡ true

-- so it is for each cell that a concrete node's library node uses
abbrev pub AreCellsProtected : LibraryMeaning → Program → ℕ → Body → Type 0
AreCellsProtected meaning p node (Concrete name) =
    IfSome (meaning.node name) (λ sig. AllByRecursion (IsProtected p node) sig.cells)
AreCellsProtected meaning p node (Abstract cases) = ⊤

-- no node declares a name in both scopes
abbrev pub HasOneScope : Program → ℕ → Type 0
HasOneScope p node = (one other : Hold) (first second : Class)
    → Contains (declared p node) one → Contains (declared p node) other
    → slice_get p.classes one.class.0 ≡ Some first → slice_get p.classes other.class.0 ≡ Some second
    → first.name ≡ second.name → first.session ≡ second.session

-- a node declares a constraint of a session
pub record DeclaresSession (p : Program) (node : ℕ) : Type 0 where
  pub hold : Hold
  pub declares : Contains (declared p node) hold
  pub class : Class
  pub is_class : slice_get p.classes hold.class.0 ≡ Some class
  pub session : class.session ≡ true

-- a source that leads, by its target and on, to a session constraint has a session function
abbrev pub HasSession : Program → SourceLine → Type 0
HasSession p line = (node : ℕ) → (node ≡ line.target.0) ⊎ LeadsOn p.nodes line.target.0 node
    → DeclaresSession p node → IsSome line.session

-- ---- the whole

-- the kinds agree with each other, and with the library at each concrete node, predicate and session function
pub record AreKindsOf (meaning : LibraryMeaning) (p : Program) (kinds : ℕ → NodeKinds) : Type 0 where
  pub agree : Agree p kinds
  pub like : (number : ℕ) (node : Node) → slice_get p.nodes number ≡ Some node
      → IsBodyLike meaning (kinds number) node.body
  pub patterns : (number : ℕ) (node : Node) → slice_get p.nodes number ≡ Some node
      → FitBody meaning p.predicates (kinds number) node.body
  pub sessions : AllByRecursion
      (λ line. let from = kinds line.node.0 in IsSessionLike meaning line.session from.outs) p.sources

-- sound, with these kinds: numbered and without a cycle; items come from source nodes, and flows come to others only;
-- the kinds are right; cells are protected; no node has a name in both scopes; and sessions have their functions
pub record IsSound (meaning : LibraryMeaning) (p : Program) (kinds : ℕ → NodeKinds) : Type 0 where
  pub numbered : IsNumbered p
  pub acyclic : HasCycle p.nodes → ⊥
  pub origins : AllByRecursion (λ line. IsSourceNode meaning (slice_get p.nodes line.node.0)) p.sources
  pub targets : AllByRecursion (λ line. IsPlain meaning (slice_get p.nodes line.target.0)) p.sources
  pub members : (number : ℕ) (node : Node) → slice_get p.nodes number ≡ Some node
      → (led : ℕ) → IsIn led (leads_to node) → IsPlain meaning (slice_get p.nodes led)
  pub kinds_are : AreKindsOf meaning p kinds
  pub protected : (number : ℕ) (node : Node) → slice_get p.nodes number ≡ Some node
      → AreCellsProtected meaning p number node.body
  pub scopes : (number : ℕ) → HasOneScope p number
  pub session : AllByRecursion (HasSession p) p.sources
