-- Signatures whose types agree, in their spellings and in their kinds.
use Rattle.std.specs.Prelude.{◌≡◌, ℕ, List, [], ◌∷◌, Some, ⊤}
use Rattle.std.specs.List.{slice_get, AllByRecursion}
use Rattle.flux_model.specs.declared.programs.Program.{Program}
use Rattle.flux_model.specs.declared.programs.Node.{Node}
use Rattle.flux_model.specs.declared.programs.NodeNo.{NodeNo}
use Rattle.flux_model.specs.declared.programs.Body.{Body}
use Rattle.flux_model.specs.declared.programs.Body.TheVariants.{Concrete, Abstract}
use Rattle.flux_model.specs.declared.programs.SourceLine.{SourceLine}
use Rattle.flux_model.specs.declared.signatures.TypeText.{TypeText}
use Rattle.flux_model.specs.declared.signatures.NodeSig.{NodeSig}
use Rattle.flux_model.specs.Leading.{handlers_of}

-- these types go through the members, one after another, and come out as those
abbrev pub TypesJoin : (ℕ → NodeSig) → List TypeText → List NodeNo → List TypeText → Type 0
TypesJoin sigs types [] outs = types ≡ outs
TypesJoin sigs types (member ∷ members) outs =
    let own = sigs member.0 in (types ≡ own.ins) × TypesJoin sigs own.outs members outs

-- each case takes and gives what its node does
abbrev pub AreCasesTyped : (ℕ → NodeSig) → NodeSig → Body → Type 0
AreCasesTyped sigs own (Concrete name) = ⊤
AreCasesTyped sigs own (Abstract cases) =
    AllByRecursion (λ case. TypesJoin sigs own.ins case.members own.outs) cases

-- each handler takes what its node does
abbrev pub AreHandlersTyped : (ℕ → NodeSig) → NodeSig → List NodeNo → Type 0
AreHandlersTyped sigs own handlers =
    AllByRecursion (λ handler. let their = sigs handler.0 in their.ins ≡ own.ins) handlers

-- a source gives what its target takes
abbrev pub TypesFit : (ℕ → NodeSig) → SourceLine → Type 0
TypesFit sigs line = let from = sigs line.node.0 in let to = sigs line.target.0 in from.outs ≡ to.ins

-- types agree at each join, case, handler and source
pub record TypesAgree (p : Program) (sigs : ℕ → NodeSig) : Type 0 where
  pub cases_ : (number : ℕ) (node : Node) → slice_get p.nodes number ≡ Some node
      → AreCasesTyped sigs (sigs number) node.body
  pub handlers : (number : ℕ) (node : Node) → slice_get p.nodes number ≡ Some node
      → AreHandlersTyped sigs (sigs number) (handlers_of node.on_fail)
  pub sources : AllByRecursion (TypesFit sigs) p.sources
