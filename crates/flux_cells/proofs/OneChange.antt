-- What the cells are where one of them changes.
use Rattle.std.proofs.Common.{◌≡◌, ◌≢◌, Bool, true, false, cond, Option, Some, refl, sym, ap, ◌∙◌, unwrap_or}
use Rattle.flux_values.specs.declared.answers.Put.{Put}
use Rattle.flux_values.specs.Cells.{CellMap, no_cell, changed}
use Rattle.flow_model.specs.declared.journals.Key.{Key}
use Rattle.flow_model.specs.Keys.{same_key}
use Rattle.flow_model.specs.CellsAfter.{put_under}
use Rattle.flow_model.proofs.Keys.{key_cases}
use Rattle.flux_cells.specs.Kept.{Kept, kept_at, cells_of, NoneIsEmpty}
use Rattle.flux_cells.proofs.Keys.{IsChanged, kept_there, kept_else}

-- of two changes under one key the last counts
pub changed_twice : (old middle after : Kept) (key : Key) (first last : Option CellMap) → IsChanged old middle key first → IsChanged middle after key last → IsChanged old after key last
changed_twice old middle after key first last one two = record {
  at = λ q. two.at q ∙ ap (λ (o : Option CellMap). cond (same_key key q) last o) (one.at q)
      ∙ elim (same_key key q) as (λ b. cond b last (cond b first (kept_at old q)) ≡ cond b last (kept_at old q)) [ true ↦ refl | false ↦ refl ];
}

-- a put is applied where its key's cell is what the put makes of it
pub changed_under : (old after : Kept) (key : Key) (put : Put) (now : Option CellMap) → IsChanged old after key now
    → unwrap_or now no_cell ≡ changed (cells_of old key) put.name put.value → cells_of after ≡ put_under (cells_of old) put (Some key)
changed_under old after key put now is made = λ i q. key_cases {P = cells_of after q ≡ put_under (cells_of old) put (Some key) q} key q
    (λ same e. ap (λ (o : Option CellMap). unwrap_or o no_cell) (kept_there old after key now is q e) ∙ made
    ∙ ap (λ k. changed (cells_of old k) put.name put.value) same
    ∙ sym (ap (λ (b : Bool). cond b (changed (cells_of old q) put.name put.value) (cells_of old q)) e))
    (λ apart _. ap (λ (o : Option CellMap). unwrap_or o no_cell) (kept_else old after key now is q apart)
    ∙ sym (ap (λ (b : Bool). cond b (changed (cells_of old q) put.name put.value) (cells_of old q)) apart)) i

-- no empty cell is kept where the change keeps none
pub still_full : (old after : Kept) (key : Key) (now : Option CellMap) → NoneIsEmpty old → IsChanged old after key now
    → ((cell : CellMap) → now ≡ Some cell → cell ≢ no_cell) → NoneIsEmpty after
still_full old after key now full is kept q cell there = key_cases {P = cell ≢ no_cell} key q
    (λ _ e. kept cell (sym (kept_there old after key now is q e) ∙ there))
    (λ apart _. full q cell (sym (kept_else old after key now is q apart) ∙ there))
