-- Steps of a cell: its entries in order of their names, a search among them, and an edit there.
use Rattle.std.specs.Prelude.{◌≡◌, ℕ, ◌<◌, ◌≤◌, List, [], length, slice_index_or, not, Option, Some, None, Result, Ok, Err, IsTrue, Vec}
use Rattle.std.specs.declared.cmp.Ordering.{Ordering}
use Rattle.std.specs.declared.cmp.Ordering.TheVariants.{Less, Equal, Greater}
use Rattle.std.specs.Ordering.{nat_cmp, eq_by_cmp}
use Rattle.std.specs.Cmp.Lexicographic.{slice_cmp}
use Rattle.std.specs.FinMap.{is_sorted, put}
use Rattle.std.specs.FinMap.Entries.{where_key}
use Rattle.std.specs.declared.sync.Arc.{Arc}
use Rattle.std.specs.Arc.{arc_value}
use Rattle.flux_values.specs.declared.values.Value.{Value}

-- entries whose names rise
abbrev pub Entries : Type 0
Entries = List (List ℕ × Value)

abbrev pub AreInOrder : Entries → Type 0
AreInOrder entries = IsTrue (is_sorted (slice_cmp nat_cmp) entries)

-- the entries that a cell holds; it holds none where nothing was put yet
abbrev pub held : {Y Z : Type 0} → Option (Arc (Vec (List ℕ × Value) Y) Z) → Entries
held (Some shared) = (arc_value shared).items
held None = []

-- how the name of the entry at a place compares with a name
abbrev pub compared : Entries → List ℕ → ℕ → List ℕ × Value → Ordering
compared entries name place default =
    let entry = slice_index_or entries place default in slice_cmp nat_cmp entry.0 name

-- where a name is among entries in order, or where it would go: smaller names before it, greater
-- ones from it on
abbrev pub IsPlaceOf : Entries → List ℕ → Result ℕ ℕ → Type 0
IsPlaceOf entries name (Ok place) =
    (place < length entries)
    × ((d : List ℕ × Value) → compared entries name place d ≡ Equal)
IsPlaceOf entries name (Err place) =
    (place ≤ length entries)
    × ((k : ℕ) (d : List ℕ × Value) → k < place → compared entries name k d ≡ Less)
    × ((k : ℕ) (d : List ℕ × Value) → place ≤ k → k < length entries
    → compared entries name k d ≡ Greater)

-- the entries of all other names
abbrev pub without : List ℕ → Entries → Entries
without name entries =
    where_key (slice_cmp nat_cmp) (λ other. not (eq_by_cmp (slice_cmp nat_cmp) name other)) entries

-- the entries with a name set to a value, or without it
abbrev pub edited : Entries → List ℕ → Option Value → Entries
edited entries name (Some value) = put (slice_cmp nat_cmp) name value entries
edited entries name None = without name entries
