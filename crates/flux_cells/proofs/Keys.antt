-- Look-ups in the map of cells.
use Rattle.std.proofs.Common.{◌≡◌, Bool, true, false, cond, Option, sym, ap, ◌∙◌, unwrap_or}
use Rattle.std.specs.Ordering.{is_eq}
use Rattle.std.specs.Map.{lookup}
use Rattle.flux_values.specs.Cells.{CellMap, no_cell}
use Rattle.flow_model.specs.declared.journals.Key.{Key}
use Rattle.flow_model.specs.Keys.{same_key}
use Rattle.flow_model.proofs.Keys.{key_cmp, key_cmp_same, key_cases}
use Rattle.flux_cells.specs.Kept.{Kept, kept_at, cells_of}

abbrev pub found : Kept → Key → Option CellMap
found kept key = lookup (λ other. is_eq (key_cmp key other)) kept

pub found_is : (kept : Kept) (key : Key) → found kept key ≡ kept_at kept key
found_is kept key = ap (λ (test : Key → Bool). lookup test kept) (λ i other. key_cmp_same key other i)

-- what the map says of a change under a key
pub record IsChanged (before after : Kept) (key : Key) (now : Option CellMap) : Type 0 where
  pub at : (q : Key) → kept_at after q ≡ cond (same_key key q) now (kept_at before q)

pub changed_is : (before after : Kept) (key : Key) (now : Option CellMap)
    → ((q : Key) → found after q ≡ cond (is_eq (key_cmp key q)) now (found before q)) → IsChanged before after key now
changed_is before after key now says = record {
  at = λ q. sym (found_is after q) ∙ says q
      ∙ ap (λ (b : Bool). cond b now (found before q)) (key_cmp_same key q)
      ∙ ap (λ (o : Option CellMap). cond (same_key key q) now o) (found_is before q);
}

pub kept_there : (before after : Kept) (key : Key) (now : Option CellMap) → IsChanged before after key now → (q : Key) → same_key key q ≡ true → kept_at after q ≡ now
kept_there before after key now is q same = is.at q ∙ ap (λ (b : Bool). cond b now (kept_at before q)) same

pub kept_else : (before after : Kept) (key : Key) (now : Option CellMap) → IsChanged before after key now → (q : Key) → same_key key q ≡ false → kept_at after q ≡ kept_at before q
kept_else before after key now is q apart = is.at q ∙ ap (λ (b : Bool). cond b now (kept_at before q)) apart

-- to keep an empty cell or none is the same
pub cells_same : (before after : Kept) (key : Key) (now : Option CellMap) → IsChanged before after key now → unwrap_or now no_cell ≡ cells_of before key → cells_of after ≡ cells_of before
cells_same before after key now is stays = λ i q. key_cases {P = cells_of after q ≡ cells_of before q} key q
    (λ same e. ap (λ (o : Option CellMap). unwrap_or o no_cell) (kept_there before after key now is q e) ∙ stays ∙ ap (cells_of before) same)
    (λ apart _. ap (λ (o : Option CellMap). unwrap_or o no_cell) (kept_else before after key now is q apart)) i
