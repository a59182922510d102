-- Programs that can be served: their one source, and how links are read for it.
use Rattle.std.specs.Prelude.{◌≡◌, ℕ, List, [], ◌∷◌, Some}
use Rattle.std.specs.List.{slice_get}
use Rattle.flux_values.specs.Meanings.{LibraryMeaning}
use Rattle.flux_values.specs.declared.meanings.Sig.{Sig}
use Rattle.flux_values.specs.declared.meanings.Role.{Role}
use Rattle.flux_values.specs.declared.meanings.Role.TheVariants.{HeadSource, LineSource}
use Rattle.flux_model.specs.declared.programs.Program.{Program}
use Rattle.flux_model.specs.declared.programs.SourceLine.{SourceLine}
use Rattle.flux_model.specs.declared.programs.Node.{Node}
use Rattle.flux_model.specs.declared.programs.Body.TheVariants.{Concrete}
use Rattle.flux_doors.specs.declared.framing.Framing.{Framing}
use Rattle.flux_doors.specs.declared.framing.Framing.TheVariants.{Head, Line}

-- the role of a source whose links are read so
abbrev pub role_of : Framing → Role
role_of Head = HeadSource
role_of Line = LineSource

-- the source's node is the library's node of this name
pub record IsLibraryNode (p : Program) (line : SourceLine) (name : List ℕ) : Type 0 where
  pub node : Node
  pub at : let target = line.node in slice_get p.nodes target.0 ≡ Some node
  pub concrete : node.body ≡ Concrete name

-- the program has exactly one source, and its library node has the role by which links are read so
pub record IsServed (meaning : LibraryMeaning) (p : Program) (framing : Framing) : Type 0 where
  pub line : SourceLine
  pub one : p.sources ≡ line ∷ []
  pub name : List ℕ
  pub sig : Sig
  pub named : IsLibraryNode p line name
  pub known : meaning.node name ≡ Some sig
  pub role : sig.role ≡ role_of framing

-- it has none or several, or one that no link's text goes to
abbrev pub IsNotServed : LibraryMeaning → Program → Type 0
IsNotServed meaning p = (framing : Framing) → IsServed meaning p framing → ⊥
