-- A joined library keeps the laws of a library (an `impl` takes its laws' proofs from here).
use Rattle.std.proofs.Common.{◌≤◌, if◌then◌else◌, List, length, Option, Some, None, IfSome, is_some}
use Rattle.std.specs.Option.{option_or}
use Rattle.flux_values.specs.declared.texts.TheConstants.{TEXT_LIMIT}
use Rattle.flux_values.specs.declared.values.Value.{Value}
use Rattle.flux_values.specs.declared.answers.Answer.{Answer}
use Rattle.flux_values.specs.Cells.{CellMap}
use Rattle.flux_values.specs.Meanings.{LibraryMeaning}
use Rattle.flux_values.specs.declared.meanings.Sig.{Sig}
use Rattle.flux_library.specs.Libraries.{IsLawfulNode, IsLawful}
use Rattle.nodes_joined.specs.Joined.{joined}

-- a type is short where each of two libraries has only short types
short_kept : {A : Type 0} (short : Type 0) (a b : Option A) → IfSome a (λ _. short) → IfSome b (λ _. short)
    → IfSome (option_or a b) (λ _. short)
short_kept short (Some kind) b one other = one
short_kept short None b one other = other

-- a node keeps its laws where it does in the library that it is from
node_kept : (a b : Option Sig) (f g : List Value → List CellMap → Answer) → IsLawfulNode a f → IsLawfulNode b g
    → IsLawfulNode (option_or a b) (if is_some a then f else g)
node_kept (Some sig) b f g one other = one
node_kept None b f g one other = other

pub joined_lawful : (first second : LibraryMeaning) → IsLawful first → IsLawful second → IsLawful (joined first second)
unfolding joined
joined_lawful first second one other = record {
  short = λ ty.
      short_kept (length ty ≤ TEXT_LIMIT) (first.kind ty) (second.kind ty) (one.short ty) (other.short ty);
  nodes = λ name. node_kept (first.node name) (second.node name) (first.call name) (second.call name)
      (one.nodes name) (other.nodes name);
}
