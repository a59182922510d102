-- The sizes that a checked program keeps are those of its items' sources.
use Rattle.std.proofs.Common.{◌≡◌, ◌≤◌, ℕ, zero, suc, List, [], ◌∷◌, map, Some, slice_get, slice_index, refl, sym, ap, ◌∙◌, arith}
use Rattle.std.specs.List.{sum_by}
use Rattle.std.proofs.Math.Bridge.{le_prop}
use Rattle.std.proofs.Math.Logic.{∥∥₁_elim}
use Rattle.std.proofs.lemmas.List.Sums.{sum_by-le-sum_by}
use Rattle.flux_values.specs.Meanings.{LibraryMeaning}
use Rattle.flux_model.specs.declared.programs.Program.{Program}
use Rattle.flux_model.specs.declared.programs.NodeNo.{NodeNo}
use Rattle.flux_model.specs.declared.programs.Hold.{Hold}
use Rattle.flux_model.specs.declared.programs.SourceLine.{SourceLine}
use Rattle.flux_model.specs.declared.signatures.NodeSig.{NodeSig}
use Rattle.flux_model.specs.declared.items.Item.{Item}
use Rattle.flux_model.specs.Locks.{Holds}
use Rattle.flux_model.specs.Sizes.{source_size}
use Rattle.flux_model.proofs.Hoisting.{locks_once}
use Rattle.flow_model.specs.Setup.{Setup}
use Rattle.flux_laws.specs.Growth.{line_size, item_size}
use Rattle.flux_laws.specs.Hoisted.{locks_of}
use Rattle.flux_laws.proofs.Locks.{locks_are_there}
use Rattle.flux_hoist.specs.Sets.{held_by}
use Rattle.flux_hoist.specs.Keeping.{Keeps}
use Rattle.flow_core.specs.States.{CoreState, setup_in}
use Rattle.flow_trials.specs.Ready.{IsOpened}

line-same : (setup : Setup) (f : SourceLine → ℕ)
    → ((line : SourceLine) → f line ≡ source_size setup.locks setup.program line) → (lines : List SourceLine) (k : ℕ)
    → slice_index (map f lines) k ≡ line_size setup (slice_get lines k)
line-same setup f same [] k = refl
line-same setup f same (line ∷ lines) zero = same line
line-same setup f same (line ∷ lines) (suc k) = line-same setup f same lines k

module _ {L : Type 0} (meaning : L → LibraryMeaning) (p : Program) (sigs : List NodeSig) (order : List NodeNo)
    (sets : List (List Hold)) (sizes : List ℕ) (items : List Item) (core : CoreState L)
    (is : IsOpened p items core) where
  abbrev size : Program → SourceLine → ℕ
  size q line = source_size (locks_of q) q line

  own : Keeps p sigs order sets sizes → (item : Item)
      → slice_index sizes item.source.0 ≡ item_size (setup_in meaning core) (Some item)
  own keeps item =
      let locks : held_by sets ≡ locks_of p =
      locks_once p (held_by sets) (locks_of p) keeps.locks (locks_are_there p keeps.numbered keeps.acyclic) in
      ap (λ (all : List ℕ). slice_index all item.source.0) keeps.sizes_
      ∙ ap (λ (q : Program). slice_index (map (source_size (held_by sets) p) q.sources) item.source.0) (sym is.program_)
      ∙ line-same (setup_in meaning core) (source_size (held_by sets) p)
      (λ line. ap (λ (l : Holds). source_size l p line) locks ∙ ap (λ (q : Program). size q line) (sym is.program_))
      core.setup.program.sources item.source.0

  pub small : ∥ Keeps p sigs order sets sizes ∥₁
      → sum_by (λ (item : Item). slice_index sizes item.source.0) items ≤ 4194304
      → sum_by (λ (item : Item). item_size (setup_in meaning core) (Some item)) core.setup.items ≤ 4194304
  small kept total = ∥∥₁_elim kept le_prop (λ keeps.
      let le = sum_by-le-sum_by (λ (item : Item). item_size (setup_in meaning core) (Some item))
      (λ (item : Item). slice_index sizes item.source.0) core.setup.items
      (λ item. let e = own keeps item in omega (arith, e)) in
      let same = ap (sum_by (λ (item : Item). slice_index sizes item.source.0)) is.items_ in
      omega (arith, le, same, total))
