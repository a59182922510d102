-- What `sizes` answers of a program in an order.
use Rattle.std.proofs.Common.{◌≡◌, ℕ, List, map, Option, Some, None, refl, sym, ap, subst, ◌∙◌}
use Rattle.flux_faults.specs.declared.faults.FaultKind.TheVariants.{PlanTooLarge}
use Rattle.flux_model.specs.declared.programs.SourceLine.{SourceLine}
use Rattle.flux_model.specs.declared.named.Named.{Named}
use Rattle.flux_model.specs.Locks.{Holds}
use Rattle.flux_syntax.specs.declared.declarations.Decl.{Decl}
use Rattle.flux_syntax.specs.ProgramOfText.{program_of, named_of}
use Rattle.flux_syntax.specs.Least.{soonest, fault_or, first_fault}
use Rattle.flux_hoist.specs.Counted.{AreCounted}
use Rattle.flux_types.specs.Signatures.{nodes_of}
use Rattle.flux_check.specs.Rows.{flow_size, too_large_after, size_rows}
use Rattle.flux_check.specs.steps.Summing.{large_along, line_size}
use Rattle.flux_check.specs.steps.Checking.{AreSizes}
use Rattle.flux_check.proofs.Sized.{large_fault, are_sizes}

module _ (locks : Holds) (decls ds : List Decl) (named : Named) (lines : List SourceLine) (made table : List ℕ) (place : Option ℕ)
    (is : named ≡ named_of decls) (same_decls : ds ≡ decls) (same_lines : lines ≡ named.program.sources)
    (counted : AreCounted named.program.nodes locks made) (same_table : table ≡ made) (found : place ≡ large_along table 0 None ds lines) where
  own_lines : lines ≡ (program_of decls).sources
  own_lines = same_lines ∙ ap (λ (n : Named). n.program.sources) is

  stands : AreCounted (nodes_of decls) locks table
  stands = subst (AreCounted (nodes_of decls) locks) (sym same_table) (subst (λ (n : Named). AreCounted n.program.nodes locks made) is counted)

  own_place : place ≡ soonest None (too_large_after (flow_size locks decls) 0 decls)
  own_place = found ∙ (rw (same_decls, own_lines) refl) ∙ sym (large_fault locks decls table stands)

  pub fault_is : (at : ℕ) → place ≡ Some at → Some (PlanTooLarge, at) ≡ first_fault (size_rows locks decls)
  fault_is at e = ap (λ (p : Option ℕ). fault_or PlanTooLarge p None) (sym e ∙ own_place)

  pub sizes_are : (again sizes : List ℕ) → place ≡ None → again ≡ made → sizes ≡ map (line_size again) lines → AreSizes locks decls named.program sizes
  sizes_are again sizes none same e =
      let all = are_sizes locks decls table stands (sym own_place ∙ none) in
      subst (λ (n : Named). AreSizes locks decls n.program sizes) (sym is)
      (subst (AreSizes locks decls (program_of decls)) (sym (e ∙ ap (λ (t : List ℕ). map (line_size t) lines) (same ∙ sym same_table) ∙ ap (map (line_size table)) own_lines)) all)
