-- What nodes take and give: kinds that agree with each other.
use Rattle.std.specs.Prelude.{◌≡◌, ℕ, List, [], ◌∷◌, map, Option, Some, None, ⊤}
use Rattle.std.specs.List.{slice_get, AllByRecursion}
use Rattle.flux_values.specs.declared.values.Kind.{Kind}
use Rattle.flux_model.specs.declared.programs.Program.{Program}
use Rattle.flux_model.specs.declared.programs.Node.{Node}
use Rattle.flux_model.specs.declared.programs.NodeNo.{NodeNo}
use Rattle.flux_model.specs.declared.programs.Body.{Body}
use Rattle.flux_model.specs.declared.programs.Body.TheVariants.{Concrete, Abstract}
use Rattle.flux_model.specs.declared.programs.SourceLine.{SourceLine}
use Rattle.flux_model.specs.declared.signatures.TypeText.{TypeText}
use Rattle.flux_model.specs.declared.signatures.NodeSig.{NodeSig}
use Rattle.flux_model.specs.Leading.{handlers_of}

-- the kinds of what a node takes and gives
pub record NodeKinds : Type 0 where
  pub ins : List Kind
  pub outs : List Kind

abbrev pub kinds_of : List TypeText → List Kind
kinds_of types = map (λ ty. ty.kind) types

abbrev pub node_kinds : NodeSig → NodeKinds
node_kinds sig = record { ins = kinds_of sig.ins; outs = kinds_of sig.outs }

-- a number's signature; a number without one takes and gives nothing
abbrev pub sig_or_none : Option NodeSig → NodeSig
sig_or_none None = record { ins = []; outs = [] }
sig_or_none (Some sig) = sig

abbrev pub sig_at : List NodeSig → ℕ → NodeSig
sig_at sigs number = sig_or_none (slice_get sigs number)

abbrev pub kinds_at : List NodeSig → ℕ → NodeKinds
kinds_at sigs number = node_kinds (sig_at sigs number)

-- values of these kinds go through the members, one after another, and come out of those kinds
abbrev pub Join : (ℕ → NodeKinds) → List Kind → List NodeNo → List Kind → Type 0
Join kinds ins [] outs = ins ≡ outs
Join kinds ins (member ∷ members) outs =
    let own = kinds member.0 in (ins ≡ own.ins) × Join kinds own.outs members outs

-- each case takes and gives what its node does
abbrev pub AreCasesJoined : (ℕ → NodeKinds) → NodeKinds → Body → Type 0
AreCasesJoined kinds own (Concrete name) = ⊤
AreCasesJoined kinds own (Abstract cases) =
    AllByRecursion (λ case. Join kinds own.ins case.members own.outs) cases

-- each handler takes what its node does
abbrev pub AreHandlersJoined : (ℕ → NodeKinds) → NodeKinds → List NodeNo → Type 0
AreHandlersJoined kinds own handlers =
    AllByRecursion (λ handler. let their = kinds handler.0 in their.ins ≡ own.ins) handlers

-- a source gives what its target takes
abbrev pub Fits : (ℕ → NodeKinds) → SourceLine → Type 0
Fits kinds line = let from = kinds line.node.0 in let to = kinds line.target.0 in from.outs ≡ to.ins

-- kinds agree at each join, case, handler and source
pub record Agree (p : Program) (kinds : ℕ → NodeKinds) : Type 0 where
  pub cases_ : (number : ℕ) (node : Node) → slice_get p.nodes number ≡ Some node
      → AreCasesJoined kinds (kinds number) node.body
  pub handlers : (number : ℕ) (node : Node) → slice_get p.nodes number ≡ Some node
      → AreHandlersJoined kinds (kinds number) (handlers_of node.on_fail)
  pub sources : AllByRecursion (Fits kinds) p.sources
