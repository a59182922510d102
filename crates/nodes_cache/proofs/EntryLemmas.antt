-- What the cell holds of entries.
use Rattle.std.proofs.Common.{◌≡◌, ℕ, suc, ltb, codes, ◌<◌, ◌≤◌, ◌&&◌, Bool, true, false, List, [], ◌∷◌, ◌++◌, ◌+◌, map, length, take, drop, get_or, Option, Some, None, cond, leb, IfSome, refl, sym, ap, ◌∙◌, subst, arith}
use Rattle.std.specs.List.{AllByRecursion, list_all, filter_map, cons_option, filter, find, slice_get}
use Rattle.std.proofs.lemmas.List.{append-nil, map_push, take_more}
use Rattle.std.proofs.lemmas.List.Elements.{filter_map-append}
use Rattle.std.proofs.lemmas.Option.{slice_get_within, get_or_from_slice_get}
use Rattle.std.specs.Str.{bytes_eq}
use Rattle.std.specs.FinMap.{keys}
use Rattle.std.proofs.lemmas.Bool.{leb-true}
use Rattle.std.proofs.lemmas.Bool.Decides.{nat_tests}
use Rattle.flux_values.specs.Cells.{CellMap}
use Rattle.nodes_cache.specs.Entries.{fits, entry_name, entries, is_zero, users_of, free_entries, is_least_used, leaving}

-- bytes that fit
all_bytes : (t : List ℕ) → ((i : ℕ) → get_or t i 0 < 256) → list_all (λ byte. ltb byte 256) t ≡ true
all_bytes [] each = refl
all_bytes (b ∷ t) each =
    let first : ltb b 256 ≡ true = let h = each 0 in grind (arith, nat_tests) in
    rw (first, all_bytes t (λ i. each (suc i))) refl

pub text_fits : (t : List ℕ) → length t ≤ 65536 → ((i : ℕ) → get_or t i 0 < 256) → fits t ≡ true
text_fits t le each =
    let short : leb (length t) 65536 ≡ true = grind (arith, nat_tests) in
    rw (short, all_bytes t each) refl

-- ---- the one that goes has a short name

and_right : (a b : Bool) → (a && b) ≡ true → b ≡ true
and_right true b e = e
and_right false b e = absurd cc

short_name : (key name : List ℕ) → entry_name key ≡ Some name → length name ≤ 1024
short_name key name e = one (bytes_eq (take 2 key) (codes "b:") && leb (length (drop 2 key)) 1024) refl
  where
    one : (t : Bool) → (bytes_eq (take 2 key) (codes "b:") && leb (length (drop 2 key)) 1024) ≡ t → length name ≤ 1024
    one true p =
        let is : ◌≡◌ {A = Option (List ℕ)} (Some (drop 2 key)) (Some name) = rw p at e in
        let same : drop 2 key ≡ name = cc in
        subst (λ (n : List ℕ). length n ≤ 1024) same (leb-true (length (drop 2 key)) 1024 (and_right (bytes_eq (take 2 key) (codes "b:")) (leb (length (drop 2 key)) 1024) p))
    one false p = let none : ◌≡◌ {A = Option (List ℕ)} None (Some name) = rw p at e in absurd cc

abbrev AreShort : List (List ℕ) → Type 0
AreShort = AllByRecursion (λ name. length name ≤ 1024)

entries_short : (ks : List (List ℕ)) → AreShort (filter_map entry_name ks)
entries_short [] = tt
entries_short (k ∷ ks) = one (entry_name k) refl (entries_short ks)
  where
    one : (o : Option (List ℕ)) → entry_name k ≡ o → AreShort (filter_map entry_name ks) → AreShort (cons_option o (filter_map entry_name ks))
    one None e more = more
    one (Some name) e more = (short_name k name e, more)

filter_short : (p : List ℕ → Bool) (ns : List (List ℕ)) → AreShort ns → AreShort (filter p ns)
filter_short p [] all = tt
filter_short p (n ∷ ns) all = one (p n) (filter_short p ns all.1)
  where
    one : (t : Bool) → AreShort (filter p ns) → AreShort (cond t (n ∷ filter p ns) (filter p ns))
    one true more = (all.0, more)
    one false more = more

found_short : (p : List ℕ → Bool) (ns : List (List ℕ)) (name : List ℕ) → AreShort ns → find p ns ≡ Some name → length name ≤ 1024
found_short p [] name all e = absurd cc
found_short p (n ∷ ns) name all e = one (p n) refl (found_short p ns name all.1)
  where
    one : (t : Bool) → p n ≡ t → (find p ns ≡ Some name → length name ≤ 1024) → length name ≤ 1024
    one true q more = let is : ◌≡◌ {A = Option (List ℕ)} (Some n) (Some name) = rw q at e in let same : n ≡ name = cc in subst (λ (x : List ℕ). length x ≤ 1024) same all.0
    one false q more = more (rw q at e)

pub leaving_short : (cell : CellMap) (name : List ℕ) → leaving cell ≡ Some name → length name ≤ 1024
leaving_short cell name e =
    found_short (is_least_used cell (free_entries cell)) (free_entries cell) name (filter_short (λ n. is_zero (users_of cell n)) (entries cell) (entries_short (keys cell))) e

-- ---- the names that have an entry, one more

push_name : {X : Type 0} (f : X → List ℕ) (names : List X) (x : X) (ks : List (List ℕ)) (k : ℕ) (key : List ℕ) → map f names ≡ filter_map entry_name (take k ks) → k < length ks → key ≡ get_or ks k key
    → Some (f x) ≡ entry_name key → map f (names ++ x ∷ []) ≡ filter_map entry_name (take (k + 1) ks)
push_name f names x ks k key so lt is e =
    map_push f names x ∙ ap (λ (l : List (List ℕ)). l ++ f x ∷ []) so ∙ ap (λ (o : Option (List ℕ)). filter_map entry_name (take k ks) ++ cons_option o []) e
    ∙ sym (filter_map-append entry_name (take k ks) (key ∷ [])) ∙ ap (filter_map entry_name) (ap (λ (x : List ℕ). take k ks ++ x ∷ []) is ∙ sym (take_more ks k key lt))

same_names : (names : List (List ℕ)) (ks : List (List ℕ)) (k : ℕ) (key : List ℕ) → names ≡ filter_map entry_name (take k ks) → k < length ks → key ≡ get_or ks k key
    → None ≡ entry_name key → names ≡ filter_map entry_name (take (k + 1) ks)
same_names names ks k key so lt is e =
    so ∙ sym (append-nil (filter_map entry_name (take k ks))) ∙ ap (λ (o : Option (List ℕ)). filter_map entry_name (take k ks) ++ cons_option o []) e
    ∙ sym (filter_map-append entry_name (take k ks) (key ∷ [])) ∙ ap (filter_map entry_name) (ap (λ (x : List ℕ). take k ks ++ x ∷ []) is ∙ sym (take_more ks k key lt))

-- with what was found of the key at a place
pub names_more : {X : Type 0} (f : X → List ℕ) (names : List X) (x : X) (ks : List (List ℕ)) (k : ℕ) (key : List ℕ) → map f names ≡ filter_map entry_name (take k ks) → Some key ≡ slice_get ks k
    → Some (f x) ≡ entry_name key → map f (names ++ x ∷ []) ≡ filter_map entry_name (take (k + 1) ks)
names_more f names x ks k key so at e = push_name f names x ks k key so (slice_get_within ks k key (sym at)) (sym (get_or_from_slice_get ks k key key (sym at))) e

pub names_same : (names : List (List ℕ)) (ks : List (List ℕ)) (k : ℕ) (key : List ℕ) → names ≡ filter_map entry_name (take k ks) → Some key ≡ slice_get ks k
    → None ≡ entry_name key → names ≡ filter_map entry_name (take (k + 1) ks)
names_same names ks k key so at e = same_names names ks k key so (slice_get_within ks k key (sym at)) (sym (get_or_from_slice_get ks k key key (sym at))) e
