-- What flows hold and what cells hold: small journals.
use Rattle.std.specs.Prelude.{◌≡◌, ◌≢◌, ℕ, true, false, [], ◌∷◌, Option, Some, None, codes}
use Rattle.std.specs.FinMap as map
use Rattle.flux_values.specs.declared.answers.Mode.TheVariants.{Reader, Writer}
use Rattle.flux_values.specs.declared.answers.CallResult.TheVariants as results
use Rattle.flux_values.specs.declared.values.Value.{Value}
use Rattle.flux_values.specs.Cells.{CellMap}
use Rattle.flow_model.specs.declared.journals.Event.{Event}
use Rattle.flow_model.specs.declared.journals.Event.TheVariants.{Take, Enter, Call, Exit, Drop}
use Rattle.flow_model.specs.declared.journals.Outcome.TheVariants.{Good}
use Rattle.flow_model.specs.Setup.{Setup}
use Rattle.flow_model.specs.Keys.{class_key}
use Rattle.flow_model.specs.CellsAfter.{cells_after}
use Rattle.flow_model.specs.Exclusion.{holds_against, TakesExclude, SectionsExclude}
use Rattle.flux_examples.specs.Small.{int, no, concrete, setup_of, k, writer, first_two, both_write, by}

-- ---- a reader beside a reader isn't held against it, a writer is; a drop ends the latest take

abbrev pub ReadersShare : Type 0
ReadersShare =
    (holds_against (by 0 (Take k Reader) ∷ []) 0 k Reader ≡ false)
    × (holds_against (by 0 (Take k Reader) ∷ []) 0 k Writer ≡ true)
    × (holds_against (by 0 (Take k Writer) ∷ by 0 (Take k Reader) ∷ by 0 (Drop k) ∷ []) 0 k Reader ≡ true)

-- ---- cells hold what the calls before put, under the flow's key

abbrev pub counting : Setup
counting = setup_of (concrete (codes "Add") [] (writer ∷ []) ∷ []) first_two (codes "counter") (int 9)

abbrev pub adding : ℕ → Event
adding n = Call (record {
  node = no 0;
  args = int n ∷ [];
  answer = record {
    result = results.Good (int n ∷ []);
    puts = record { cell = codes "counter"; name = codes "total"; value = Some (int n) } ∷ [];
    emits = [];
  };
})

abbrev pub total_in : CellMap → Option Value
total_in cell = map.get cell (codes "total")

abbrev pub CellsFollowPuts : Type 0
CellsFollowPuts =
    (total_in (cells_after counting [] k) ≡ None)
    × (total_in (cells_after counting (by 0 (adding 9) ∷ by 0 (adding 4) ∷ []) k) ≡ Some (int 4))

-- ---- a session class has a key for each number, and a program-wide class one for all

abbrev pub KeysGoBySession : Type 0
KeysGoBySession =
    (class_key (Some (record { name = codes "s"; session = true })) (record { 0 = 0 }) 4
    ≢ class_key (Some (record { name = codes "s"; session = true })) (record { 0 = 0 }) 5)
    × (class_key (Some (record { name = codes "s"; session = false })) (record { 0 = 0 }) 4
    ≡ class_key (Some (record { name = codes "s"; session = false })) (record { 0 = 0 }) 5)

-- ---- exclusion refuses a take beside another flow's holding, and sections that overlap

-- a reader's take, while a writer holds the key
abbrev pub TakesAreKeptApart : Type 0
TakesAreKeptApart = TakesExclude (by 0 (Take k Writer) ∷ by 1 (Take k Reader) ∷ []) → ⊥

-- two writers' sections, though nothing was taken at all
abbrev pub SectionsAreKeptApart : Type 0
SectionsAreKeptApart = SectionsExclude both_write (by 0 (Enter (no 0)) ∷ by 1 (Enter (no 1)) ∷ []) → ⊥

-- nor where both have left in the end
abbrev pub OverlapsAreKeptApart : Type 0
OverlapsAreKeptApart = SectionsExclude both_write (by 0 (Enter (no 0)) ∷ by 1 (Enter (no 1))
    ∷ by 0 (Exit (no 0) Good) ∷ by 1 (Exit (no 1) Good) ∷ []) → ⊥

-- two writers' sections, the second of which begins after the first has ended, are let through
abbrev pub SectionsMayFollow : Type 0
SectionsMayFollow = SectionsExclude both_write (by 0 (Enter (no 0)) ∷ by 0 (Exit (no 0) Good)
    ∷ by 1 (Enter (no 1)) ∷ by 1 (Exit (no 1) Good) ∷ [])

-- one take after the other's drop is let through
abbrev pub TakesMayFollow : Type 0
TakesMayFollow = TakesExclude (by 0 (Take k Writer) ∷ by 0 (Drop k) ∷ by 1 (Take k Reader) ∷ [])
