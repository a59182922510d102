-- Signatures that agree in their types agree in the kinds of these.
use Rattle.std.proofs.Common.{ℕ, List, [], ◌∷◌, ap}
use Rattle.std.specs.List.{AllByRecursion}
use Rattle.flux_model.specs.declared.programs.Program.{Program}
use Rattle.flux_model.specs.declared.programs.Case.{Case}
use Rattle.flux_model.specs.declared.programs.NodeNo.{NodeNo}
use Rattle.flux_model.specs.declared.programs.Body.{Body}
use Rattle.flux_model.specs.declared.programs.Body.TheVariants.{Concrete, Abstract}
use Rattle.flux_model.specs.declared.programs.SourceLine.{SourceLine}
use Rattle.flux_model.specs.declared.signatures.TypeText.{TypeText}
use Rattle.flux_model.specs.declared.signatures.NodeSig.{NodeSig}
use Rattle.flux_model.specs.Leading.{handlers_of}
use Rattle.flux_model.specs.Kinds.{NodeKinds, kinds_of, node_kinds, Join, AreCasesJoined, AreHandlersJoined, Fits, Agree}
use Rattle.flux_hoist.specs.Types.{TypesJoin, AreCasesTyped, AreHandlersTyped, TypesFit, TypesAgree}

module _ (sigs : ℕ → NodeSig) where
  abbrev kinds : ℕ → NodeKinds
  kinds number = node_kinds (sigs number)

  join_kinds : (types outs : List TypeText) (members : List NodeNo) → TypesJoin sigs types members outs → Join kinds (kinds_of types) members (kinds_of outs)
  join_kinds types outs [] same = ap kinds_of same
  join_kinds types outs (member ∷ members) (same, rest) = let own = sigs member.0 in (ap kinds_of same, join_kinds own.outs outs members rest)

  case_kinds : (own : NodeSig) (cases : List Case) → AllByRecursion (λ case. TypesJoin sigs own.ins case.members own.outs) cases
      → AllByRecursion (λ case. Join kinds (kinds_of own.ins) case.members (kinds_of own.outs)) cases
  case_kinds own [] typed = tt
  case_kinds own (case ∷ cases) (first, typed) = (join_kinds own.ins own.outs case.members first, case_kinds own cases typed)

  cases_kinds : (own : NodeSig) (body : Body) → AreCasesTyped sigs own body → AreCasesJoined kinds (node_kinds own) body
  cases_kinds own (Concrete name) typed = tt
  cases_kinds own (Abstract cases) typed = case_kinds own cases typed

  handlers_kinds : (own : NodeSig) (handlers : List NodeNo) → AreHandlersTyped sigs own handlers → AreHandlersJoined kinds (node_kinds own) handlers
  handlers_kinds own [] typed = tt
  handlers_kinds own (handler ∷ handlers) (same, typed) = (ap kinds_of same, handlers_kinds own handlers typed)

  sources_kinds : (lines : List SourceLine) → AllByRecursion (TypesFit sigs) lines → AllByRecursion (Fits kinds) lines
  sources_kinds [] typed = tt
  sources_kinds (line ∷ lines) (same, typed) = (ap kinds_of same, sources_kinds lines typed)

  -- so kinds agree where types do
  pub kinds_agree : (p : Program) → TypesAgree p sigs → Agree p (λ number. node_kinds (sigs number))
  kinds_agree p types = record {
    cases_ = λ number node at. cases_kinds (sigs number) node.body (types.cases_ number node at);
    handlers = λ number node at. handlers_kinds (sigs number) (handlers_of node.on_fail) (types.handlers number node at);
    sources = sources_kinds p.sources types.sources;
  }
