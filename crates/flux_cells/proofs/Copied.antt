-- Cells that are copied one by one.
use Rattle.std.proofs.Common.{◌≡◌, Bool, false, cond, [], ◌∷◌, Option, Some, None, refl, sym, ap, ◌∙◌, unwrap_or}
use Rattle.std.specs.Map.{keys_of}
use Rattle.std.specs.List.{IsDistinct, AllByRecursion}
use Rattle.std.specs.Ordering.{eq_by_cmp}
use Rattle.std.proofs.lemmas.Map.Keys.{IsDistinct-head, IsDistinct-tail}
use Rattle.flux_values.specs.Cells.{CellMap, no_cell}
use Rattle.flow_model.specs.declared.journals.Key.{Key}
use Rattle.flux_cells.specs.Kept.{Kept, kept_at, cells_of, NoneIsEmpty}
use Rattle.flow_model.proofs.Keys.{key_cmp, key_cmp_same, key_cases, same_key_turned}
use Rattle.flux_cells.proofs.Keys.{IsChanged, kept_there, kept_else}

-- each key is kept once
abbrev pub KeysDiffer : Kept → Type 0
KeysDiffer [] = Unit {0}
KeysDiffer (entry ∷ kept) = (kept_at kept entry.0 ≡ None) × KeysDiffer kept

not_among : (key : Key) (kept : Kept) → AllByRecursion (λ other. eq_by_cmp key_cmp key other ≡ false) (keys_of kept) → kept_at kept key ≡ None
not_among key [] apart = refl
not_among key (entry ∷ kept) apart =
    ap (λ (b : Bool). cond b (Some entry.1) (kept_at kept key)) (sym (key_cmp_same key entry.0) ∙ apart.0) ∙ not_among key kept apart.1

pub keys_differ : (kept : Kept) → IsDistinct (eq_by_cmp key_cmp) (keys_of kept) → KeysDiffer kept
keys_differ [] distinct = tt
keys_differ (entry ∷ kept) distinct =
    (not_among entry.0 kept (IsDistinct-head (eq_by_cmp key_cmp) entry.0 (keys_of kept) distinct), keys_differ kept (IsDistinct-tail (eq_by_cmp key_cmp) entry.0 (keys_of kept) distinct))

abbrev pub or_kept : Option CellMap → Option CellMap → Option CellMap
or_kept None other = other
or_kept (Some cell) other = Some cell

-- what isn't left is copied
pub record IsCopied (all rest now : Kept) : Type 0 where
  pub differ : KeysDiffer rest
  pub at : (q : Key) → kept_at all q ≡ or_kept (kept_at rest q) (kept_at now q)

or_none : (o : Option CellMap) → o ≡ or_kept o None
or_none None = refl
or_none (Some cell) = refl

pub copied_none : (all : Kept) → KeysDiffer all → IsCopied all all []
copied_none all differ = record { differ = differ; at = λ q. or_none (kept_at all q) }

pub copied_more : (all rest now after : Kept) (key : Key) (cell : CellMap) → IsCopied all ((key, cell) ∷ rest) now → IsChanged now after key (Some cell) → IsCopied all rest after
copied_more all rest now after key cell copied changed = record {
  differ = copied.differ.1;
  at = λ q. key_cases {P = kept_at all q ≡ or_kept (kept_at rest q) (kept_at after q)} key q
      (λ same e. copied.at q ∙ ap (λ (b : Bool). or_kept (cond b (Some cell) (kept_at rest q)) (kept_at now q)) (same_key_turned q key ∙ e)
      ∙ sym (ap (λ (o : Option CellMap). or_kept o (kept_at after q)) (ap (kept_at rest) (sym same) ∙ copied.differ.0) ∙ kept_there now after key (Some cell) changed q e))
      (λ apart _. copied.at q ∙ ap (λ (b : Bool). or_kept (cond b (Some cell) (kept_at rest q)) (kept_at now q)) (same_key_turned q key ∙ apart)
      ∙ ap (or_kept (kept_at rest q)) (sym (kept_else now after key (Some cell) changed q apart)));
}

pub copied_all : (all now : Kept) → IsCopied all [] now → cells_of now ≡ cells_of all
copied_all all now copied = λ i q. ap (λ (o : Option CellMap). unwrap_or o no_cell) (sym (copied.at q)) i

pub copied_full : (all now : Kept) → IsCopied all [] now → NoneIsEmpty all → NoneIsEmpty now
copied_full all now copied full key cell is = full key cell (copied.at key ∙ is)
