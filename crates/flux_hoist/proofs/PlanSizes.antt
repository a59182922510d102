-- The plan with sizes as they are counted is the plan with the sizes of the program.
use Rattle.std.proofs.Common.{◌≡◌, ◌≤◌, ℕ, Bool, true, false, nat_lt, if◌then◌else◌, List, [], ◌∷◌, ◌++◌, length, slice_get, codes, Option, Some, None, refl, sym, ap, ◌∙◌, arith}
use Rattle.std.specs.List.{flat_map, range_with_len}
use Rattle.std.specs.Fmt.{decimal}
use Rattle.std.proofs.lemmas.Bool.Decides.{nat_tests}
use Rattle.flux_values.specs.Meanings.{LibraryMeaning}
use Rattle.flux_model.specs.declared.programs.Node.{Node}
use Rattle.flux_model.specs.declared.programs.Program.{Program}
use Rattle.flux_model.specs.declared.programs.SourceLine.{SourceLine}
use Rattle.flux_model.specs.declared.signatures.NodeSig.{NodeSig}
use Rattle.flux_model.specs.Kinds.{sig_at}
use Rattle.flux_model.specs.Locks.{Holds}
use Rattle.flux_model.specs.Sizes.{size_of, source_size, total_size}
use Rattle.flux_hoist.specs.declared.checked.TheConstants.{SIZE_LIMIT}
use Rattle.flux_hoist.specs.Counted.{capped, size_at, counted_source, AreCounted}
use Rattle.flux_hoist.specs.Plans.{printed_size, is_source, printed_sig, printed_holds, node_part, node_lines, source_line, source_lines, printed_plan}

-- a size past the limit is printed as one more than the limit is
printed_size-capped : (size : ℕ) → printed_size (capped size) ≡ printed_size size
printed_size-capped size = one (nat_lt SIZE_LIMIT size) refl
  where
    one : (t : Bool) → nat_lt SIZE_LIMIT size ≡ t → printed_size (capped size) ≡ printed_size size
    one true e =
        let past : nat_lt SIZE_LIMIT (capped size) ≡ true = grind (arith, nat_tests, e) in
        ap (λ (b : Bool). if b then codes "large" else decimal (capped size)) past ∙ ap (λ (b : Bool). if b then codes "large" else decimal size) (sym e)
    one false e = ap printed_size (let within : size ≤ SIZE_LIMIT = grind (arith, nat_tests, e) in let same : capped size ≡ size = omega (arith, within) in same)

module _ (meaning : LibraryMeaning) (p : Program) (sigs : List NodeSig) (locks : Holds) (f g : ℕ → ℕ) (same : (number : ℕ) → printed_size (f number) ≡ printed_size (g number)) where
  node_part_same : (number : ℕ) (found : Option Node) → node_part meaning p sigs locks f number found ≡ node_part meaning p sigs locks g number found
  node_part_same number None = refl
  node_part_same number (Some node) =
      ap (λ (size : List ℕ). if is_source meaning node.body then [] else
      codes "node " ++ node.name ++ codes " " ++ printed_sig (sig_at sigs number) ++ codes " locks " ++ printed_holds p (locks number) ++ codes " size " ++ size ++ codes "\n") (same number)

  node_lines_same : node_lines meaning p sigs locks f ≡ node_lines meaning p sigs locks g
  node_lines_same = λ i. flat_map (λ number. node_part_same number (slice_get p.nodes number) i) (range_with_len 0 (length p.nodes))

-- within the limit a source's size is as it is counted
source_lines_same : (p : Program) (locks : Holds) (sizes : List ℕ) (lines : List SourceLine) → AreCounted p.nodes locks sizes → total_size locks p lines ≤ SIZE_LIMIT
    → source_lines p (counted_source sizes) lines ≡ source_lines p (source_size locks p) lines
source_lines_same p locks sizes [] counted le = refl
source_lines_same p locks sizes (line ∷ lines) counted le =
    let own = counted line.target.0 in
    let one : counted_source sizes line ≡ source_size locks p line = omega (arith, own, le) in
    λ i. source_line p (one i) line ++ source_lines_same p locks sizes lines counted (omega (arith, le)) i

pub counted_plan : (meaning : LibraryMeaning) (p : Program) (sigs : List NodeSig) (locks : Holds) (sizes : List ℕ) → AreCounted p.nodes locks sizes → total_size locks p p.sources ≤ SIZE_LIMIT
    → node_lines meaning p sigs locks (size_at sizes) ++ source_lines p (counted_source sizes) p.sources ≡ printed_plan meaning p sigs locks
counted_plan meaning p sigs locks sizes counted le = λ i. nodes i ++ source_lines_same p locks sizes p.sources counted le i
  where
    nodes : node_lines meaning p sigs locks (size_at sizes) ≡ node_lines meaning p sigs locks (size_of locks p.nodes)
    nodes = node_lines_same meaning p sigs locks (size_at sizes) (size_of locks p.nodes) (λ number. ap printed_size (counted number) ∙ printed_size-capped (size_of locks p.nodes number))
