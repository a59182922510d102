-- Cells hold values, where what is put into them are values.
use Rattle.std.proofs.Common.{◌≡◌, ℕ, Bool, true, false, cond, List, [], ◌∷◌, map, Option, Some, None, refl, sym, ap, subst, ◌∙◌}
use Rattle.std.specs.FinMap.{get, get-empty, get-insert, get-remove}
use Rattle.std.specs.List.{AllByRecursion}
use Rattle.std.specs.Ordering.{nat_cmp}
use Rattle.std.specs.Cmp.Lexicographic.{slice_cmp}
use Rattle.std.specs.Str.{bytes_eq}
use Rattle.std.proofs.lemmas.Cmp.{nat_list_cmp_total}
use Rattle.std.proofs.lemmas.Map.Text.{is_eq-slice_cmp}
use Rattle.std.proofs.lemmas.Slice.Eq.{bytes_eq-Decides}
use Rattle.flux_values.specs.declared.values.Value.{Value}
use Rattle.flux_values.specs.declared.texts.TheConstants.{TEXT_LIMIT}
use Rattle.flux_values.specs.declared.answers.Put.{Put}
use Rattle.flux_values.specs.declared.meanings.CellUse.{CellUse}
use Rattle.flux_values.specs.declared.meanings.Sig.{Sig}
use Rattle.flux_values.specs.Reading.{IsValue}
use Rattle.flux_values.specs.Cells.{CellMap, no_cell, changed}
use Rattle.flow_model.specs.declared.journals.Key.{Key}
use Rattle.flow_model.specs.Keys.{Cells, same_key}
use Rattle.flow_model.specs.Setup.{Setup}
use Rattle.flow_model.specs.CellsAfter.{cell_key, put_under, after_puts}
use Rattle.flow_model.specs.Answers.{cell_at, cells_for}
use Rattle.flux_journal.specs.Entries.{IsTextOf, IsValueOrNone}
use Rattle.flux_upheld.specs.Printable.{HoldsValues, PutsValue}

-- all cells hold values
abbrev pub AllHold : Cells → Type 0
AllHold cells = (key : Key) → HoldsValues (cells key)

pub none-held : HoldsValues no_cell
none-held name value is = let empty : get no_cell name ≡ None = get-empty {X = Value} (slice_cmp nat_cmp) name in absurd (cc (empty, is))

-- ---- what is put

get-changed : (cell : CellMap) (name other : List ℕ) (value : Option Value) → get (changed cell name value) other ≡ cond (bytes_eq other name) value (get cell other)
get-changed cell name other None = get-remove nat_list_cmp_total cell name other ∙ ap (λ (b : Bool). cond b None (get cell other)) (is_eq-slice_cmp other name)
get-changed cell name other (Some value) = get-insert nat_list_cmp_total cell name value other ∙ ap (λ (b : Bool). cond b (Some value) (get cell other)) (is_eq-slice_cmp other name)

changed-held : (cell : CellMap) (put : Put) → HoldsValues cell → PutsValue put → HoldsValues (changed cell put.name put.value)
changed-held cell put holds puts other found is = by (bytes_eq other put.name) refl (sym (get-changed cell put.name other put.value) ∙ is)
  where
    given : (value : Option Value) → IsValueOrNone value → value ≡ Some found → IsValue found
    given None own e = absurd cc
    given (Some value) own e = subst IsValue (cc e) own

    by : (b : Bool) → bytes_eq other put.name ≡ b → cond b put.value (get cell other) ≡ Some found → IsTextOf TEXT_LIMIT other × IsValue found
    by true same e = (subst (IsTextOf TEXT_LIMIT) (sym ((bytes_eq-Decides other put.name).0 same)) puts.name, given put.value puts.value e)
    by false same e = holds other found e

under-held : (cells : Cells) (put : Put) (key : Option Key) → AllHold cells → PutsValue put → AllHold (put_under cells put key)
under-held cells put None holds puts = holds
under-held cells put (Some key) holds puts = λ other. by other (same_key key other)
  where
    by : (other : Key) (b : Bool) → HoldsValues (cond b (changed (cells other) put.name put.value) (cells other))
    by other true = changed-held (cells other) put (holds other) puts
    by other false = holds other

pub puts-held : (setup : Setup) (flow node : ℕ) (cells : Cells) (puts : List Put) → AllHold cells → AllByRecursion PutsValue puts → AllHold (after_puts setup flow node cells puts)
puts-held setup flow node cells [] holds all = holds
puts-held setup flow node cells (put ∷ puts) holds all =
    puts-held setup flow node (put_under cells put (cell_key setup flow node put.cell)) puts (under-held cells put (cell_key setup flow node put.cell) holds all.0) all.1

-- ---- what a call reads

at-held : (cells : Cells) (key : Option Key) → AllHold cells → HoldsValues (cell_at cells key)
at-held cells None holds = none-held
at-held cells (Some key) holds = holds key

read-held : (setup : Setup) (flow node : ℕ) (cells : Cells) → AllHold cells → (uses : List CellUse) → AllByRecursion HoldsValues (map (λ (cell : CellUse). cell_at cells (cell_key setup flow node cell.name)) uses)
read-held setup flow node cells holds [] = tt
read-held setup flow node cells holds (cell ∷ uses) = (at-held cells (cell_key setup flow node cell.name) holds, read-held setup flow node cells holds uses)

pub cells-held : (setup : Setup) (flow node : ℕ) (cells : Cells) → AllHold cells → (found : Option Sig) → AllByRecursion HoldsValues (cells_for setup flow node cells found)
cells-held setup flow node cells holds None = tt
cells-held setup flow node cells holds (Some sig) = read-held setup flow node cells holds sig.cells
