-- What nodes hold: the least hoisting of the declared constraints.
use Rattle.std.specs.Prelude.{◌≡◌, ℕ, ◌<◌, ◌≤◌, ◌⊎◌, true, List, [], slice_get, Option, Some, None}
use Rattle.std.specs.List.{Contains}
use Rattle.flux_values.specs.declared.answers.Mode.{Mode}
use Rattle.flux_model.specs.declared.programs.ClassNo.{ClassNo}
use Rattle.flux_model.specs.declared.programs.Hold.{Hold}
use Rattle.flux_model.specs.declared.programs.Node.{Node}
use Rattle.flux_model.specs.declared.programs.Program.{Program}
use Rattle.flux_model.specs.Modes.{at_least}
use Rattle.flux_model.specs.Children.{IsBelow}

-- the constraints that the text declares on a node
abbrev pub declared_on : Option Node → List Hold
declared_on None = []
declared_on (Some node) = node.declared

abbrev pub declared : Program → ℕ → List Hold
declared p node = declared_on (slice_get p.nodes node)

-- a list of holds has a class, in some mode
abbrev pub HasClass : List Hold → ClassNo → Type 0
HasClass holds class = (mode : Mode) × Contains holds (record { class = class; mode = mode })

-- a node below another declares a class
pub record DeclaresBelow (p : Program) (top : ℕ) (class : ClassNo) : Type 0 where
  pub node : ℕ
  pub below : IsBelow p top node
  pub declares : HasClass (declared p node) class

-- a node declares a class that isn't less
pub record DeclaresPast (p : Program) (node : ℕ) (class : ClassNo) : Type 0 where
  pub past : ClassNo
  pub declares : HasClass (declared p node) past
  pub least : class.0 ≤ past.0

-- the locks of a node have a class exactly where the node declares it, or where a node below declares it and the
-- node declares some class that isn't less
abbrev pub IsLocked : Program → ℕ → ClassNo → Type 0
IsLocked p node class =
    HasClass (declared p node) class ⊎ (DeclaresBelow p node class × DeclaresPast p node class)

-- the node, or one below it, declares this
abbrev pub DeclaresHere : Program → ℕ → Hold → Type 0
DeclaresHere p node hold =
    Contains (declared p node) hold ⊎ ((other : ℕ) × IsBelow p node other × Contains (declared p other) hold)

-- the greatest mode in which the node, or one below it, declares the class
pub record IsGreatest (p : Program) (node : ℕ) (hold : Hold) : Type 0 where
  pub declares : DeclaresHere p node hold
  pub greatest : (mode : Mode) → DeclaresHere p node (record { class = hold.class; mode = mode })
      → at_least hold.mode mode ≡ true

-- classes in canonical order, each once
abbrev pub AreRising : List Hold → Type 0
AreRising holds = (low high : ℕ) (first second : Hold) → low < high
    → slice_get holds low ≡ Some first → slice_get holds high ≡ Some second
    → first.class.0 < second.class.0

-- the locks of a node, in canonical order
pub record AreLocksOf (p : Program) (node : ℕ) (holds : List Hold) : Type 0 where
  pub rising : AreRising holds
  pub has : (class : ClassNo) → IsLocked p node class → HasClass holds class
  pub only : (hold : Hold) → Contains holds hold → IsLocked p node hold.class
  pub modes : (hold : Hold) → Contains holds hold → IsGreatest p node hold

-- what nodes hold, by their numbers
abbrev pub Holds : Type 0
Holds = ℕ → List Hold

abbrev pub AreLocks : Program → Holds → Type 0
AreLocks p locks = (node : ℕ) → AreLocksOf p node (locks node)

-- no node holds anything
abbrev pub no_locks : Holds
no_locks node = []

-- ---- the law of hoisting: the locks are the least that are closed and have what is declared

-- a list has a class in at least this mode
pub record HasAtLeast (holds : List Hold) (hold : Hold) : Type 0 where
  pub mode : Mode
  pub has : Contains holds (record { class = hold.class; mode = mode })
  pub enough : at_least mode hold.mode ≡ true

-- closed: what a node below holds is held by the node itself, where the node holds some class that isn't less
abbrev pub IsClosed : Program → Holds → Type 0
IsClosed p holds = (top node : ℕ) (hold own : Hold) → IsBelow p top node → Contains (holds node) hold
    → Contains (holds top) own → hold.class.0 ≤ own.class.0 → HasAtLeast (holds top) hold

-- each node holds what it declares
abbrev pub HasDeclared : Program → Holds → Type 0
HasDeclared p holds =
    (node : ℕ) (hold : Hold) → Contains (declared p node) hold → HasAtLeast (holds node) hold

-- each has at least what the other has
abbrev pub IsAtMost : Holds → Holds → Type 0
IsAtMost holds others =
    (node : ℕ) (hold : Hold) → Contains (holds node) hold → HasAtLeast (others node) hold

pub record IsLeastClosed (p : Program) (locks : Holds) : Type 0 where
  pub closed : IsClosed p locks
  pub declares : HasDeclared p locks
  pub least : (others : Holds) → IsClosed p others → HasDeclared p others → IsAtMost locks others

abbrev pub LocksAreLeastClosed : Type 0
LocksAreLeastClosed = (p : Program) (locks : Holds) → AreLocks p locks → IsLeastClosed p locks
