use Rattle.std.proofs.Common.{◌≡◌, ◌∙◌, ℕ, List, Option, Some, None, sym, ap, subst}
use Rattle.flux_faults.specs.declared.faults.FaultKind.{FaultKind}
use Rattle.flux_faults.specs.declared.faults.FaultKind.TheVariants.{BothScopes, Unprotected}
use Rattle.flux_syntax.specs.declared.declarations.Decl.{Decl}
use Rattle.flux_syntax.specs.Least.{soonest, fault_or, IsLeastFault}
use Rattle.flux_check.specs.Rows.{both_scopes, unprotected}
use Rattle.flux_check.proofs.constraints.constraints.Goals as goal

pub returns-in-Some-clause-fault : goal.returns-in-Some-clause-fault
returns-in-Some-clause-fault g c =
    let meaning = g.L.Meaning.meaning c.args.library.now in
    let scopes = c.in_ok-scopes.ensures ∙ ap (λ (ds : List Decl). soonest None (both_scopes ds)) c.as_slice.ensures in
    let cells = c.in_ok-cells.ensures ∙ ap (λ (ds : List Decl). soonest None (unprotected meaning ds)) c.as_slice-2.ensures in
    let found = sym c.in-Some.is ∙ c.fault_or.ensures
    ∙ ap (fault_or BothScopes c.in_ok-scopes.scopes) (c.fault_or-fault.ensures ∙ ap (λ (p : Option ℕ). fault_or Unprotected p None) cells)
    ∙ ap (λ (p : Option ℕ). fault_or BothScopes p (fault_or Unprotected (soonest None (unprotected meaning c.args.decls.now)) None)) scopes in
    subst (λ (f : Option (FaultKind × ℕ)). IsLeastFault f c.fault_at.result) found c.fault_at.ensures
