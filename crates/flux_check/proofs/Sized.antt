-- Fault 27 along the program is that of the declarations, and without it the sizes are those of the program.
use Rattle.std.proofs.Common.{◌≡◌, ◌≤◌, ◌+◌, ℕ, Bool, true, false, nat_lt, if◌then◌else◌, List, [], ◌∷◌, ◌++◌, map, Option, None, refl, sym, ap, ◌∙◌, arith}
use Rattle.std.specs.List.{filter_map}
use Rattle.std.proofs.lemmas.Bool.Decides.{nat_tests}
use Rattle.flux_syntax.proofs.RowLemmas.{none_soonest}
use Rattle.flux_faults.specs.declared.faults.FaultKind.TheVariants.{PlanTooLarge}
use Rattle.flux_model.specs.declared.programs.Program.{Program}
use Rattle.flux_model.specs.declared.programs.SourceLine.{SourceLine}
use Rattle.flux_model.specs.Locks.{Holds}
use Rattle.flux_model.specs.Sizes.{source_size, total_size}
use Rattle.flux_syntax.specs.declared.declarations.Word.{Word}
use Rattle.flux_syntax.specs.declared.declarations.Decl.{Decl}
use Rattle.flux_syntax.specs.declared.declarations.Decl.TheVariants.{Source}
use Rattle.flux_syntax.specs.Words.{names_of}
use Rattle.flux_syntax.specs.ProgramOfText.{number_of, source_of, program_of}
use Rattle.flux_syntax.specs.Least.{soonest, fault_or}
use Rattle.flux_syntax.proofs.Soonest.{soonest_append}
use Rattle.flux_hoist.specs.declared.checked.TheConstants.{SIZE_LIMIT}
use Rattle.flux_types.specs.Signatures.{nodes_of}
use Rattle.flux_check.specs.Rows.{flow_size, past_limit, too_large_after}
use Rattle.flux_hoist.specs.Counted.{capped, size_at, AreCounted}
use Rattle.flux_check.specs.steps.Summing.{large_along, line_size}
use Rattle.flux_check.specs.steps.Checking.{AreSizes}

same_limit : (total t : ℕ) (name : Word) → total ≡ capped t → past_limit total name ≡ past_limit t name
same_limit total t name is = ap (λ (b : Bool). if b then name ∷ [] else []) (one (nat_lt SIZE_LIMIT t) refl)
  where
    one : (b : Bool) → nat_lt SIZE_LIMIT t ≡ b → nat_lt SIZE_LIMIT total ≡ nat_lt SIZE_LIMIT t
    one true e = grind (arith, nat_tests, e, is)
    one false e = grind (arith, nat_tests, e, is)

module _ (locks : Holds) (decls : List Decl) (table : List ℕ) (stands : AreCounted (nodes_of decls) locks table) where
  names : List (List ℕ)
  names = names_of decls

  line_is : (target : Word) → let node = number_of (names_of decls) target in capped (size_at table node.0 + 1) ≡ capped (flow_size locks decls target)
  line_is target = let node = number_of (names_of decls) target in let own = stands node.0 in omega (arith, own)

  large_is : (total t : ℕ) (place : Option ℕ) (ds : List Decl) → total ≡ capped t
      → large_along table total place ds (filter_map (source_of (names_of decls) decls) ds) ≡ soonest place (too_large_after (flow_size locks decls) t ds)
  large_is total t place [] is = refl
  large_is total t place (Source name target ∷ ds) is =
      let node = number_of (names_of decls) target in
      let more : capped (total + capped (size_at table node.0 + 1)) ≡ capped (t + flow_size locks decls target) = (let one = line_is target in omega (arith, is, one)) in
      large_is (capped (total + capped (size_at table node.0 + 1))) (t + flow_size locks decls target) (soonest place (past_limit (capped (total + capped (size_at table node.0 + 1))) name)) ds more
      ∙ ap (λ (l : List Word). soonest (soonest place l) (too_large_after (flow_size locks decls) (t + flow_size locks decls target) ds)) (same_limit (capped (total + capped (size_at table node.0 + 1))) (t + flow_size locks decls target) name more)
      ∙ sym (soonest_append place (past_limit (t + flow_size locks decls target) name) (too_large_after (flow_size locks decls) (t + flow_size locks decls target) ds))
  large_is total t place (other ∷ ds) is = large_is total t place ds is

  -- ---- within the limit

  abbrev program : Program
  program = program_of decls

  within : (total : ℕ) (name : Word) (others : List Word) → past_limit total name ++ others ≡ [] → (total ≤ SIZE_LIMIT) × (others ≡ [])
  within total name others e = one (nat_lt SIZE_LIMIT total) refl
    where
      one : (b : Bool) → nat_lt SIZE_LIMIT total ≡ b → (total ≤ SIZE_LIMIT) × (others ≡ [])
      one true i = let h : ◌≡◌ {A = List Word} (name ∷ others) [] = rw i at e in absurd cc
      one false i = (grind (arith, nat_tests, i), let h : others ≡ [] = rw i at e in h)

  small : (t : ℕ) (ds : List Decl) → t ≤ SIZE_LIMIT → too_large_after (flow_size locks decls) t ds ≡ [] → t + total_size locks program (filter_map (source_of (names_of decls) decls) ds) ≤ SIZE_LIMIT
  small t [] le e = omega (arith, le)
  small t (Source name target ∷ ds) le e =
      let both = within (t + flow_size locks decls target) name (too_large_after (flow_size locks decls) (t + flow_size locks decls target) ds) e in
      let more = small (t + flow_size locks decls target) ds both.0 both.1 in omega (arith, more)
  small t (other ∷ ds) le e = small t ds le e

  lines_are : (lines : List SourceLine) → total_size locks program lines ≤ SIZE_LIMIT → map (line_size table) lines ≡ map (source_size locks program) lines
  lines_are [] le = refl
  lines_are (line ∷ lines) le =
      let own = stands line.target.0 in
      let one : capped (size_at table line.target.0 + 1) ≡ source_size locks program line = omega (arith, own, le) in
      λ i. one i ∷ lines_are lines (omega (arith, le)) i

  pub large_fault : soonest None (too_large_after (flow_size locks decls) 0 decls) ≡ large_along table 0 None decls program.sources
  large_fault = sym (large_is 0 0 None decls refl)

  pub are_sizes : soonest None (too_large_after (flow_size locks decls) 0 decls) ≡ None → AreSizes locks decls program (map (line_size table) program.sources)
  are_sizes none =
      let few = small 0 decls (omega arith) (none_soonest (too_large_after (flow_size locks decls) 0 decls) none) in
      record {
        sound = ap (λ (place : Option ℕ). fault_or PlanTooLarge place None) none;
        are = lines_are program.sources (omega (arith, few));
        small = omega (arith, few);
      }
