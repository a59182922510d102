-- What a search in a cell's entries finds, and what an edit there does to the map.
use Rattle.std.proofs.Common.{◌≡◌, ℕ, zero, suc, ◌<◌, ◌≤◌, Bool, true, false, not, cond, T, List, [], ◌∷◌, length, get_or, set, map, slice_get, Option, Some, None, Result, Ok, Err, refl, sym, ap, subst, ◌∙◌, arith}
use Rattle.std.specs.Ordering.{nat_cmp, is_eq, eq_by_cmp}
use Rattle.std.specs.Cmp.{alike_right, eq_by_cmp_equiv}
use Rattle.std.specs.Prelude.{OnOk, OnErr}
use Rattle.std.specs.Cmp.Lexicographic.{slice_cmp, nat_list_cmp_total}
use Rattle.std.specs.List.{insert, remove}
use Rattle.std.specs.List.Sorted.{IsSearchInRange, IsBinarySearchResult}
use Rattle.std.specs.FinMap as fin
use Rattle.std.specs.FinMap.Entries.{find, put, is_sorted-put, find-where_key, is_sorted-where_key}
use Rattle.flux_values.specs.declared.values.Value.{Value}
use Rattle.flux_values.specs.Cells.{CellMap, changed}
use Rattle.flux_values.specs.steps.Cells.{Entries, AreInOrder, IsPlaceOf, edited}
use Rattle.flux_values.proofs.Sorted.{comparisons_rise, IsGap, IsThere, gap_find, gap_put, gap_without, there_find, there_put, there_without}

-- a binary search finds the place of a name
pub place_of : (es : Entries) (name : List ℕ) (r : Result ℕ ℕ) → AreInOrder es → IsSearchInRange r (length es) → IsBinarySearchResult (λ (e : List ℕ × Value). slice_cmp nat_cmp e.0 name) es r → IsPlaceOf es name r
place_of es name (Ok place) order in_range equal = (in_range, λ d. equal d)
place_of es name (Err place) order in_range parted =
    let parts = parted (comparisons_rise (slice_cmp nat_cmp) nat_list_cmp_total es order name) in
    (in_range, λ k d lt. parts.0 k d (omega arith) lt, λ k d le lt. parts.1 k d le lt)

gap_at : (es : Entries) (name : List ℕ) (place : ℕ) → IsPlaceOf es name (Err place) → IsGap (slice_cmp nat_cmp) nat_list_cmp_total es name place
gap_at es name place is = record { within = is.0; before = is.1; after = is.2 }

there_at : (es : Entries) (name : List ℕ) (place : ℕ) → AreInOrder es → IsPlaceOf es name (Ok place) → IsThere (slice_cmp nat_cmp) nat_list_cmp_total es name place
there_at es name place order is = record { order = order; within = is.0; tied = is.1 }

-- what the map has under a name
pub get_there : (es : Entries) (m : CellMap) (name : List ℕ) (place : ℕ) (d : List ℕ × Value) → AreInOrder es → fin.from_sorted es ≡ m → IsPlaceOf es name (Ok place) → fin.get m name ≡ Some (get_or es place d).1
get_there es m name place d order is at = rw (← is) (fin.get-from_sorted (slice_cmp nat_cmp) es name (rw order tt) ∙ there_find (slice_cmp nat_cmp) nat_list_cmp_total es name place d (there_at es name place order at))

pub get_gap : (es : Entries) (m : CellMap) (name : List ℕ) (place : ℕ) → AreInOrder es → fin.from_sorted es ≡ m → IsPlaceOf es name (Err place) → fin.get m name ≡ None
get_gap es m name place order is at = rw (← is) (fin.get-from_sorted (slice_cmp nat_cmp) es name (rw order tt) ∙ gap_find (slice_cmp nat_cmp) nat_list_cmp_total es name place (gap_at es name place at))

-- the names of the map are those of the entries
pub keys_are : (es : Entries) (m : CellMap) → AreInOrder es → fin.from_sorted es ≡ m → fin.keys m ≡ map (λ e. e.0) es
keys_are es m order is = rw (← is) (ap (map (λ (e : List ℕ × Value). e.0)) (fin.entries-from_sorted (slice_cmp nat_cmp) es (rw order tt)))

-- an edit at a place is that of the entries
pub set_there : (es : Entries) (name : List ℕ) (value : Value) (place : ℕ) (d : List ℕ × Value) → AreInOrder es → IsPlaceOf es name (Ok place) → set es place ((get_or es place d).0, value) ≡ edited es name (Some value)
set_there es name value place d order at = sym (there_put (slice_cmp nat_cmp) nat_list_cmp_total es name value place d (there_at es name place order at))

pub insert_gap : (es : Entries) (name : List ℕ) (value : Value) (place : ℕ) → IsPlaceOf es name (Err place) → insert es place (name, value) ≡ edited es name (Some value)
insert_gap es name value place at = sym (gap_put (slice_cmp nat_cmp) nat_list_cmp_total es name value place (gap_at es name place at))

pub remove_there : (es : Entries) (name : List ℕ) (place : ℕ) → AreInOrder es → IsPlaceOf es name (Ok place) → remove es place ≡ edited es name None
remove_there es name place order at = sym (there_without (slice_cmp nat_cmp) nat_list_cmp_total es name place (there_at es name place order at))

pub stay_gap : (es : Entries) (name : List ℕ) (place : ℕ) → IsPlaceOf es name (Err place) → es ≡ edited es name None
stay_gap es name place at = sym (gap_without (slice_cmp nat_cmp) nat_list_cmp_total es name place (gap_at es name place at))

-- the name at a place
pub names_get : (es : Entries) (k : ℕ) (d : List ℕ × Value) → k < length es → slice_get (map (λ e. e.0) es) k ≡ Some (get_or es k d).0
names_get [] k d lt = absurd (omega arith)
names_get (e ∷ es) zero d lt = refl
names_get (e ∷ es) (suc k) d lt = names_get es k d (omega arith)

pub names_end : (es : Entries) (k : ℕ) → length es ≤ k → slice_get (map (λ e. e.0) es) k ≡ None
names_end [] k le = refl
names_end (e ∷ es) zero le = absurd (omega arith)
names_end (e ∷ es) (suc k) le = names_end es k (omega arith)

pub no_entries : (es : Entries) → es ≡ [] → fin.from_sorted {R = slice_cmp nat_cmp} es ≡ fin.empty
no_entries es none = rw none (fin.empty_of_len (fin.from_sorted []) (fin.len-entries (fin.from_sorted []) ∙ ap length (fin.entries-from_sorted (slice_cmp nat_cmp) [] tt)))

T-true : (b : Bool) → T b → b ≡ true
T-true true t = refl
T-true false t = absurd t

-- an edit keeps the order
pub edited_in_order : (es : Entries) (name : List ℕ) (value : Option Value) → AreInOrder es → AreInOrder (edited es name value)
edited_in_order es name (Some value) order = T-true _ (is_sorted-put (slice_cmp nat_cmp) nat_list_cmp_total name value es (rw order tt))
edited_in_order es name None order = T-true _ (is_sorted-where_key (slice_cmp nat_cmp) (λ other. not (eq_by_cmp (slice_cmp nat_cmp) name other)) es (rw order tt))

turned : (b : Bool) (x : Option Value) → cond (not b) x None ≡ cond b None x
turned true x = refl
turned false x = refl

-- the map of the edited entries is the changed map
pub edited_is : (es fs : Entries) (m : CellMap) (name : List ℕ) (value : Option Value) → AreInOrder es → fin.from_sorted es ≡ m → fs ≡ edited es name value → fin.from_sorted fs ≡ changed m name value
edited_is es fs m name (Some v) order is same =
    fin.same_entries_map _ _ (fin.entries-from_sorted (slice_cmp nat_cmp) fs (rw (same, edited_in_order es name (Some v) order) tt)
    ∙ same ∙ ap (put (slice_cmp nat_cmp) name v) (sym (fin.entries-from_sorted (slice_cmp nat_cmp) es (rw order tt)) ∙ ap (λ (n : CellMap). fin.entries n) is)
    ∙ sym (fin.entries-insert nat_list_cmp_total m name v))
edited_is es fs m name None order is same =
    fin.same_map nat_list_cmp_total (fin.slice_cmp-IsAntisymmetric fin.nat_cmp-IsAntisymmetric) _ _ (λ q.
    fin.get-from_sorted (slice_cmp nat_cmp) fs q (rw (same, edited_in_order es name None order) tt)
    ∙ ap (find (slice_cmp nat_cmp) q) same
    ∙ find-where_key (slice_cmp nat_cmp) (λ other. not (eq_by_cmp (slice_cmp nat_cmp) name other)) q (λ x t. ap (λ r. not (is_eq r)) (sym (alike_right nat_list_cmp_total q x name t))) es
    ∙ turned (eq_by_cmp (slice_cmp nat_cmp) name q) (find (slice_cmp nat_cmp) q es)
    ∙ ap (λ (b : Bool). cond b None (find (slice_cmp nat_cmp) q es)) ((eq_by_cmp_equiv nat_list_cmp_total).symm name q)
    ∙ ap (cond (eq_by_cmp (slice_cmp nat_cmp) q name) None) (sym (fin.get-from_sorted (slice_cmp nat_cmp) es q (rw order tt)) ∙ ap (λ (n : CellMap). fin.get n q) is)
    ∙ sym (fin.get-remove nat_list_cmp_total m name q))

-- the same, with what is so after a refusal
pub put_in_order : {E : Type 0} (r : Result (Unit {0}) E) (es fs : Entries) (name : List ℕ) (value : Option Value) → AreInOrder es → OnOk r (fs ≡ edited es name value) → OnErr r (fs ≡ es) → AreInOrder fs
put_in_order (Ok u) es fs name value order ok err = subst AreInOrder (sym ok) (edited_in_order es name value order)
put_in_order (Err e) es fs name value order ok err = subst AreInOrder (sym err) order
