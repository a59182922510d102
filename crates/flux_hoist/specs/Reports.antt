-- The report: which classes the nodes' locks add to what the nodes declare, which they raise, and for which node below.
use Rattle.std.specs.Prelude.{◌≡◌, ℕ, ◌≤◌, ◌⊎◌, List, [], ◌∷◌, ◌++◌, length, codes}
use Rattle.std.specs.List.{slice_get, range_with_len}
use Rattle.flux_model.specs.declared.programs.Program.{Program}
use Rattle.flux_model.specs.declared.programs.NodeNo.{NodeNo}
use Rattle.flux_model.specs.declared.programs.Hold.{Hold}
use Rattle.flux_model.specs.Children.{IsBelow}
use Rattle.flux_model.specs.Locks.{declared, HasClass, HasAtLeast, Holds}
use Rattle.flux_model.specs.Texts.{name_in, node_name}
use Rattle.flux_hoist.specs.Printed.{printed_hold}

-- of the nodes below one that declare a class in at least this mode, the one with the lowest number
pub record IsCause (p : Program) (top : ℕ) (hold : Hold) (node : NodeNo) : Type 0 where
  pub below : IsBelow p top node.0
  pub declares : HasAtLeast (declared p node.0) hold
  pub lowest : (other : ℕ) → IsBelow p top other → HasAtLeast (declared p other) hold → node.0 ≤ other

-- `N adds CLASS for E` or `N raises CLASS for E`
abbrev pub line_of : Program → ℕ → List ℕ → Hold → NodeNo → List ℕ
line_of p top word hold cause =
    name_in (slice_get p.nodes top) ++ word ++ printed_hold p hold ++ codes " for " ++ node_name p cause ++ codes "\n"

pub record IsLine (p : Program) (top : ℕ) (word : List ℕ) (hold : Hold) (text : List ℕ) : Type 0 where
  pub cause : NodeNo
  pub is : IsCause p top hold cause
  pub text_ : text ≡ line_of p top word hold cause

-- what a node declares has a class that the node holds: as it is held; not at all; or in a lesser mode
abbrev pub IsKept : List Hold → Hold → Type 0
IsKept own hold = HasAtLeast own hold

abbrev pub IsAdded : List Hold → Hold → Type 0
IsAdded own hold = HasClass own hold.class → ⊥

abbrev pub IsRaised : List Hold → Hold → Type 0
IsRaised own hold = HasClass own hold.class × (HasAtLeast own hold → ⊥)

-- so nothing is said, or a line
abbrev pub IsSaid : Program → ℕ → Hold → List ℕ → Type 0
IsSaid p top hold text =
    (IsKept (declared p top) hold × (text ≡ []))
    ⊎ ((IsAdded (declared p top) hold × IsLine p top (codes " adds ") hold text)
    ⊎ (IsRaised (declared p top) hold × IsLine p top (codes " raises ") hold text))

-- a text is made of pieces, one for each of a list, in order
abbrev pub ArePieces : {X : Type 0} → (X → List ℕ → Type 0) → List X → List ℕ → Type 0
ArePieces Is [] text = text ≡ []
ArePieces Is (x ∷ xs) text =
    (piece : List ℕ) × (rest : List ℕ) × Is x piece × ArePieces Is xs rest × (text ≡ piece ++ rest)

-- what is said of all classes that a node holds, in canonical order
abbrev pub AreSaid : Program → Holds → ℕ → List ℕ → Type 0
AreSaid p locks node text = ArePieces (IsSaid p node) (locks node) text

-- that of each node, in order of their numbers, and then `ok`
pub record IsReport (p : Program) (locks : Holds) (text : List ℕ) : Type 0 where
  pub lines : List ℕ
  pub said : ArePieces (AreSaid p locks) (range_with_len 0 (length p.nodes)) lines
  pub is : text ≡ lines ++ codes "ok\n"

-- ---- the law of reports: a program has only one

abbrev pub ReportsAreOne : Type 0
ReportsAreOne = (p : Program) (locks : Holds) (text other : List ℕ) → IsReport p locks text
    → IsReport p locks other → text ≡ other
