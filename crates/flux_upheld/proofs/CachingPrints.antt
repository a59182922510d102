-- The answers of `Caching` can be printed.
use Rattle.std.proofs.Common.{◌≡◌, ◌≤◌, ◌<◌, ◌^◌, ◌-◌, ◌⊎◌, inl, inr, ℕ, ℤ, ◌+ℤ◌, ◌-ℤ◌, pos, negsuc, zero, suc, Bool, true, false, ◌&&◌, ◌||◌, cond, eqb, leb, ltb, int_lt, is_some, List, [], ◌∷◌, ◌++◌, length, codes, take, drop, map, Option, Some, None, IfSome, FitsSigned, refl, sym, ap, subst, ◌∙◌, arith, length-append}
use Rattle.std.specs.Int.{w64, int_min}
use Rattle.std.specs.FinMap.{get, keys, contains_key-keys}
use Rattle.std.specs.List.{All, AllByRecursion, filter, find, filter_map, cons_option, list_any}
use Rattle.std.specs.Ordering.{eq_by_cmp, nat_cmp}
use Rattle.std.specs.Cmp.Lexicographic.{slice_cmp}
use Rattle.std.specs.Str.{bytes_eq}
use Rattle.std.proofs.lemmas.Bool.{leb-true, ltb-false}
use Rattle.std.proofs.lemmas.Int.{ints, int_min_is}
use Rattle.std.proofs.lemmas.List.Elements.{All-nil, All-drop, All-append}
use Rattle.std.proofs.lemmas.Map.Text.{is_eq-slice_cmp}
use Rattle.std.proofs.lemmas.Slice.Eq.{bytes_eq-Decides}
use Rattle.flux_values.specs.declared.values.Value.{Value}
use Rattle.flux_values.specs.declared.values.Value.TheVariants as values
use Rattle.flux_values.specs.declared.texts.TheConstants.{TEXT_LIMIT}
use Rattle.flux_values.specs.declared.answers.Answer.{Answer}
use Rattle.flux_values.specs.declared.answers.Put.{Put}
use Rattle.flux_values.specs.Reading.{IsValue}
use Rattle.flux_values.specs.Cells.{CellMap}
use Rattle.flux_library.specs.Answers.{the_text, ok, fails}
use Rattle.flux_library.specs.Documents.{DocMap}
use Rattle.nodes_cache.specs.declared.nodes.Node.{Node}
use Rattle.nodes_cache.specs.declared.nodes.Node.TheVariants as nodes
use Rattle.nodes_cache.specs.Nodes.{sig_named}
use Rattle.nodes_cache.specs.Entries.{number_or_zero, has_entry, body_of, body_name, uses_name, users_name, uses_of, users_of, one_more, entry_name, entries, is_zero, free_entries, is_least_used, leaving}
use Rattle.nodes_cache.specs.Calls.{the_name, the_body, put, cut, entered, removed, used_more, puts, read_name_call, check_call, read_document, replacing, stored, complete_call, on_cell, answer_named}
use Rattle.flux_laws.proofs.Members.{In}
use Rattle.flux_journal.specs.Entries.{IsTextOf}
use Rattle.flux_upheld.specs.Printable.{HoldsValues, PutsValue, IsPrintable, AnswersPrintably}
use Rattle.flux_upheld.proofs.Printing.{bytes-all, prints-values, prints-failure, prints-bytes, prints-either}
use Rattle.flux_upheld.proofs.Keyed.{all-in}

abbrev IsByte : ℕ → Type 0
IsByte byte = byte < 256

and-left : (a b : Bool) → (a && b) ≡ true → a ≡ true
and-left true b e = refl
and-left false b e = absurd cc

-- ---- what nodes read

no-text : IsValue (values.Text [])
no-text = (All-nil IsByte, omega arith)

name-valid : (args : List Value) → AllByRecursion IsValue args → IsValue (values.Text (the_name args))
name-valid [] all = no-text
name-valid (values.Text t ∷ args) all = all.0
name-valid (values.Int z ∷ args) all = no-text
name-valid (values.Bool b ∷ args) all = no-text

body-valid : (args : List Value) → AllByRecursion IsValue args → IsValue (values.Text (the_body args))
body-valid [] all = no-text
body-valid (v ∷ []) all = no-text
body-valid (v ∷ values.Text t ∷ args) all = all.1.0
body-valid (v ∷ values.Int z ∷ args) all = no-text
body-valid (v ∷ values.Bool b ∷ args) all = no-text

-- a number that the cell holds has 64 bits
held-fits : (cell : CellMap) (name : List ℕ) → HoldsValues cell → FitsSigned w64 (number_or_zero (get cell name))
held-fits cell name holds = by (get cell name) refl
  where
    nothing : FitsSigned w64 (pos 0)
    nothing = omega (arith, ints)

    by : (found : Option Value) → get cell name ≡ found → FitsSigned w64 (number_or_zero found)
    by None at = nothing
    by (Some (values.Bool b)) at = nothing
    by (Some (values.Text t)) at = nothing
    by (Some (values.Int z)) at = (holds name (values.Int z) at).1

more-fits : (z : ℤ) → FitsSigned w64 z → FitsSigned w64 (one_more z)
more-fits z fits = let least = int_min_is (z +ℤ pos 1) (pos (2 ^ 63 - 1)) in omega (arith, ints, fits, least)

-- ---- names in the cell

name-of : (front name : List ℕ) → length front ≤ 8 → All IsByte front → All IsByte name → length name ≤ 1024 → IsTextOf TEXT_LIMIT (front ++ name)
name-of front name few own bytes short = record { each = All-append IsByte front name own bytes; few = omega (arith, few, short, length-append front name) }

sets : (name : List ℕ) (value : Value) → IsTextOf TEXT_LIMIT name → IsValue value → PutsValue (put name value)
sets name value is own = record { name = is; value = own }

cuts : (name : List ℕ) → IsTextOf TEXT_LIMIT name → PutsValue (cut name)
cuts name is = record { name = is; value = tt }

-- the three names of an entry
record HasNames (name : List ℕ) : Type 0 where
  body : IsTextOf TEXT_LIMIT (body_name name)
  uses : IsTextOf TEXT_LIMIT (uses_name name)
  users : IsTextOf TEXT_LIMIT (users_name name)

names-of : (name : List ℕ) → All IsByte name → length name ≤ 1024 → HasNames name
names-of name bytes short = record {
  body = name-of (codes "b:") name (omega arith) (bytes-all (codes "b:") refl) bytes short;
  uses = name-of (codes "n:") name (omega arith) (bytes-all (codes "n:") refl) bytes short;
  users = name-of (codes "u:") name (omega arith) (bytes-all (codes "u:") refl) bytes short;
}

-- ---- the one that goes

tied : (k : List ℕ) → eq_by_cmp (slice_cmp nat_cmp) k k ≡ true
tied k = is_eq-slice_cmp k k ∙ (bytes_eq-Decides k k).1 refl

any-in : (k : List ℕ) (ks : List (List ℕ)) → In k ks → list_any (eq_by_cmp (slice_cmp nat_cmp) k) ks ≡ true
any-in k [] is = absurd is
any-in k (x ∷ ks) (inl same) = rw same (rw (tied k) refl)
any-in k (x ∷ ks) (inr is) = by (eq_by_cmp (slice_cmp nat_cmp) k x) (any-in k ks is)
  where
    by : (b : Bool) → list_any (eq_by_cmp (slice_cmp nat_cmp) k) ks ≡ true → (b || list_any (eq_by_cmp (slice_cmp nat_cmp) k) ks) ≡ true
    by true more = refl
    by false more = more

key-bytes : (cell : CellMap) → HoldsValues cell → (k : List ℕ) → In k (keys cell) → All IsByte k
key-bytes cell holds k is = by (get cell k) refl (contains_key-keys cell k ∙ any-in k (keys cell) is)
  where
    by : (found : Option Value) → get cell k ≡ found → is_some found ≡ true → All IsByte k
    by None at e = absurd cc
    by (Some value) at e = let name = (holds k value at).0 in name.each

and-right : (a b : Bool) → (a && b) ≡ true → b ≡ true
and-right true b e = e
and-right false b e = absurd cc

-- a short name of bytes
abbrev IsName : List ℕ → Type 0
IsName name = All IsByte name × (length name ≤ 1024)

entry-is : (k name : List ℕ) → All IsByte k → entry_name k ≡ Some name → IsName name
entry-is k name bytes e = by (bytes_eq (take 2 k) (codes "b:") && leb (length (drop 2 k)) 1024) refl
  where
    by : (t : Bool) → (bytes_eq (take 2 k) (codes "b:") && leb (length (drop 2 k)) 1024) ≡ t → IsName name
    by true p =
        let is : ◌≡◌ {A = Option (List ℕ)} (Some (drop 2 k)) (Some name) = rw p at e in
        let same : drop 2 k ≡ name = cc in
        subst IsName same (All-drop IsByte 2 k bytes, leb-true (length (drop 2 k)) 1024 (and-right (bytes_eq (take 2 k) (codes "b:")) (leb (length (drop 2 k)) 1024) p))
    by false p = let none : ◌≡◌ {A = Option (List ℕ)} None (Some name) = rw p at e in absurd cc

abbrev AreNames : List (List ℕ) → Type 0
AreNames names = AllByRecursion IsName names

entries-are : (ks : List (List ℕ)) → ((k : List ℕ) → In k ks → All IsByte k) → AreNames (filter_map entry_name ks)
entries-are [] each = tt
entries-are (k ∷ ks) each = by (entry_name k) refl (entries-are ks (λ x is. each x (inr is)))
  where
    by : (o : Option (List ℕ)) → entry_name k ≡ o → AreNames (filter_map entry_name ks) → AreNames (cons_option o (filter_map entry_name ks))
    by None e more = more
    by (Some name) e more = (entry-is k name (each k (inl refl)) e, more)

filter-are : (p : List ℕ → Bool) (names : List (List ℕ)) → AreNames names → AreNames (filter p names)
filter-are p [] all = tt
filter-are p (n ∷ names) all = by (p n) (filter-are p names all.1)
  where
    by : (t : Bool) → AreNames (filter p names) → AreNames (cond t (n ∷ filter p names) (filter p names))
    by true more = (all.0, more)
    by false more = more

found-is : (p : List ℕ → Bool) (names : List (List ℕ)) (name : List ℕ) → AreNames names → find p names ≡ Some name → IsName name
found-is p [] name all e = absurd cc
found-is p (n ∷ names) name all e = by (p n) refl (found-is p names name all.1)
  where
    by : (t : Bool) → p n ≡ t → (find p names ≡ Some name → IsName name) → IsName name
    by true q more = let is : ◌≡◌ {A = Option (List ℕ)} (Some n) (Some name) = rw q at e in let same : n ≡ name = cc in subst IsName same all.0
    by false q more = more (rw q at e)

leaving-is : (cell : CellMap) (name : List ℕ) → HoldsValues cell → leaving cell ≡ Some name → IsName name
leaving-is cell name holds e =
    found-is (is_least_used cell (free_entries cell)) (free_entries cell) name
    (filter-are (λ n. is_zero (users_of cell n)) (entries cell) (entries-are (keys cell) (key-bytes cell holds))) e

-- ---- puts

abbrev ArePut : List Put → Type 0
ArePut changes = AllByRecursion PutsValue changes

entered-put : (name body : List ℕ) → HasNames name → IsValue (values.Text body) → ArePut (entered name body)
entered-put name body has is =
    let one : IsValue (values.Int (pos 1)) = record { sfits = omega arith } in
    (sets (body_name name) (values.Text body) has.body is, (sets (uses_name name) (values.Int (pos 1)) has.uses one, (sets (users_name name) (values.Int (pos 1)) has.users one, tt)))

used-put : (cell : CellMap) (name : List ℕ) → HoldsValues cell → HasNames name → ArePut (used_more cell name)
used-put cell name holds has = (sets (users_name name) (values.Int (one_more (users_of cell name))) has.users (more-fits (users_of cell name) (held-fits cell (users_name name) holds)), tt)

replacing-put : (cell : CellMap) → HoldsValues cell → (old : Option (List ℕ)) → leaving cell ≡ old → (name body : List ℕ) → HasNames name → IsValue (values.Text body) → ArePut (replacing old name body)
replacing-put cell holds None e name body has is = tt
replacing-put cell holds (Some old) e name body has is =
    let name_is = leaving-is cell old holds e in
    let own = names-of old name_is.0 name_is.1 in
    (cuts (body_name old) own.body, (cuts (uses_name old) own.uses, (cuts (users_name old) own.users, entered-put name body has is)))

stored-put : (cell : CellMap) (name body : List ℕ) → HoldsValues cell → IsValue (values.Text name) → IsValue (values.Text body) → ArePut (stored cell name body)
stored-put cell name body holds named is = by (ltb 1024 (length name)) refl
  where
    short : ltb 1024 (length name) ≡ false → length name ≤ 1024
    short e = ltb-false 1024 (length name) e

    on : HasNames name → (b c : Bool) → ArePut (cond b (used_more cell name) (cond c (entered name body) (replacing (leaving cell) name body)))
    on has true c = used-put cell name holds has
    on has false true = entered-put name body has is
    on has false false = replacing-put cell holds (leaving cell) refl name body has is

    by : (a : Bool) → ltb 1024 (length name) ≡ a → ArePut (stored cell name body)
    by true e = rw e tt
    by false e = rw e (on (names-of name named.0 (short e)) (has_entry cell name) (ltb (length (entries cell)) 8))

-- ---- answers

prints-puts : (own : List Value) (changes : List Put) → ArePut changes → IsPrintable (puts own changes)
prints-puts own changes are = record { puts = are; emits = All-nil IsByte }

entry-short : (cell : CellMap) (name : List ℕ) → has_entry cell name ≡ true → length name ≤ 1024
entry-short cell name e = leb-true (length name) 1024 (and-left (leb (length name) 1024) (is_some (get cell (body_name name))) e)

check-prints : (cell : CellMap) (name : List ℕ) → HoldsValues cell → IsValue (values.Text name) → IsPrintable (check_call cell name)
check-prints cell name holds named = by (has_entry cell name) refl
  where
    by : (b : Bool) → has_entry cell name ≡ b → IsPrintable (check_call cell name)
    by false e = rw e (prints-values (values.Text name ∷ values.Text [] ∷ values.Bool false ∷ []))
    by true e =
        let has = names-of name named.0 (entry-short cell name e) in
        rw e (prints-puts (values.Text name ∷ values.Text (body_of cell name) ∷ values.Bool true ∷ []) (put (uses_name name) (values.Int (one_more (uses_of cell name))) ∷ used_more cell name)
        (sets (uses_name name) (values.Int (one_more (uses_of cell name))) has.uses (more-fits (uses_of cell name) (held-fits cell (uses_name name) holds)), used-put cell name holds has))

read-prints : (name : List ℕ) (body : Option (List ℕ)) → IsPrintable (read_document name body)
read-prints name None = prints-failure 4
read-prints name (Some body) =
    prints-either (leb (length body) 65536) (ok (values.Text name ∷ values.Text body ∷ values.Bool false ∷ [])) (fails 5)
    (prints-values (values.Text name ∷ values.Text body ∷ values.Bool false ∷ [])) (prints-failure 5)

less-fits : (z : ℤ) → int_lt (pos 0) z ≡ true → FitsSigned w64 z → FitsSigned w64 (z -ℤ pos 1)
less-fits (pos n) e fits = omega (arith, ints, fits)
less-fits (negsuc n) e fits = absurd cc

complete-prints : (cell : CellMap) (name : List ℕ) → HoldsValues cell → IsValue (values.Text name) → IsPrintable (complete_call cell name)
complete-prints cell name holds named = by (has_entry cell name) refl (int_lt (pos 0) (users_of cell name)) refl
  where
    by : (a : Bool) → has_entry cell name ≡ a → (b : Bool) → int_lt (pos 0) (users_of cell name) ≡ b → IsPrintable (complete_call cell name)
    by false e b f = rw e (prints-values [])
    by true e false f = rw (e, f) (prints-values [])
    by true e true f =
        let has = names-of name named.0 (entry-short cell name e) in
        rw (e, f) (prints-puts [] (put (users_name name) (values.Int (users_of cell name -ℤ pos 1)) ∷ [])
        (sets (users_name name) (values.Int (users_of cell name -ℤ pos 1)) has.users (less-fits (users_of cell name) f (held-fits cell (users_name name) holds)), tt))

-- ---- nodes

on-one : (call : CellMap → Answer) (cells : List CellMap) → AllByRecursion HoldsValues cells → ((cell : CellMap) → HoldsValues cell → IsPrintable (call cell)) → IsPrintable (on_cell call cells)
on-one call [] held prints = prints-values []
on-one call (cell ∷ []) held prints = prints cell held.0
on-one call (cell ∷ next ∷ cells) held prints = prints-values []

pub caching-prints : (docs : DocMap) (node : Option Node) → AnswersPrintably (sig_named node) (answer_named docs.named node)
caching-prints docs None = tt
caching-prints docs (Some nodes.Listen) = λ args cells fits_ all held. let h = fits_.role in absurd cc
caching-prints docs (Some nodes.ReadName) = λ args cells fits_ all held. let text = the_text args in
    prints-either (eqb (length text) 0 || ltb 1024 (length text)) (fails 2) (ok (values.Text text ∷ [])) (prints-failure 2) (prints-values (values.Text text ∷ []))
caching-prints docs (Some nodes.CheckCache) = λ args cells fits_ all held. on-one (λ cell. check_call cell (the_name args)) cells held (λ cell holds. check-prints cell (the_name args) holds (name-valid args all))
caching-prints docs (Some nodes.ReadInFromDisk) = λ args cells fits_ all held. read-prints (the_name args) (get docs.named (the_name args))
caching-prints docs (Some nodes.StoreInCache) = λ args cells fits_ all held.
    on-one (λ cell. puts args (stored cell (the_name args) (the_body args))) cells held
    (λ cell holds. prints-puts args (stored cell (the_name args) (the_body args)) (stored-put cell (the_name args) (the_body args) holds (name-valid args all) (body-valid args all)))
caching-prints docs (Some nodes.Write) = λ args cells fits_ all held. record { puts = tt; emits = (body-valid args all).0 }
caching-prints docs (Some nodes.Complete) = λ args cells fits_ all held. on-one (λ cell. complete_call cell (the_name args)) cells held (λ cell holds. complete-prints cell (the_name args) holds (name-valid args all))
caching-prints docs (Some nodes.FourOhFour) = λ args cells fits_ all held. prints-bytes (codes "not found\n") (bytes-all (codes "not found\n") refl)
