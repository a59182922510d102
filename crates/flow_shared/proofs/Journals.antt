-- Journals that begin with others, and places in them.
use Rattle.std.specs.Prelude.{◌==◌, if◌then◌else◌}
use Rattle.std.proofs.Common.{◌≡◌, ◌≢◌, ℕ, zero, suc, ◌+◌, ◌-◌, ◌≤◌, ◌<◌, leb, Bool, true, false, List, [], ◌∷◌, ◌++◌, length, map, drop, get_or, slice_get, Some, sym, ap, subst, refl, ◌∙◌, append_assoc, leb-true, leb-false, arith}
use Rattle.std.proofs.lemmas.List.{append-nil, length-append}
use Rattle.std.proofs.lemmas.Bool.{eq-eqb, ne_eqb, eqb-true}
use Rattle.flow_model.specs.declared.journals.Entry.{Entry}
use Rattle.flow_core.specs.States.{CoreState}
use Rattle.flow_core.specs.Runs.{GoesOn}
use Rattle.flow_shared.specs.Journals.{BeginsWith, longer, places_from, places_behind, Rise, ArePlacesOf, with_place, merged, times, entries_at}

-- ---- journals

pub begins-none : (entries : List Entry) → BeginsWith entries entries
begins-none entries = ([], sym (append-nil entries))

pub begins-then : (one two three : List Entry) → BeginsWith two one → BeginsWith three two → BeginsWith three one
begins-then one two three first second =
    (first.0 ++ second.0, second.1 ∙ (ap (λ xs. xs ++ second.0) first.1 ∙ append_assoc one first.0 second.0))

pub begins-same : (one two : List Entry) → two ≡ one → BeginsWith two one
begins-same one two same = subst (λ xs. BeginsWith xs one) (sym same) (begins-none one)

pub begins_of : {L : Type 0} (core later : CoreState L) → GoesOn core later → BeginsWith later.entries core.entries
begins_of core later on = (on.more, on.added)

pub begins-long : (entries front : List Entry) → BeginsWith entries front → length front ≤ length entries
begins-long entries front begins =
    let long = ap length begins.1 in let parts = length-append front begins.0 in omega (arith, long, parts)

-- of two fronts of one list, the longer one begins with the other
shorter : {X : Type 0} (one other more rest : List X) → one ++ more ≡ other ++ rest → length one ≤ length other
    → (between : List X) × (other ≡ one ++ between)
shorter [] other more rest same le = (other, refl)
shorter (x ∷ one) [] more rest same le = absurd (omega (arith, le))
shorter {X} (x ∷ one) (y ∷ other) more rest same le =
    let head : x ≡ y = ap (λ (xs : List X). get_or xs 0 x) same in
    let tail : one ++ more ≡ other ++ rest = ap (λ (xs : List X). drop 1 xs) same in
    let found = shorter one other more rest tail (omega (arith, le)) in
    (found.0, ap (λ (xs : List X). y ∷ xs) found.1 ∙ ap (λ z. z ∷ one ++ found.0) (sym head))

front_of : (latest one other : List Entry) → BeginsWith latest one → BeginsWith latest other
    → length one ≤ length other → BeginsWith other one
front_of latest one other first second le = shorter one other first.0 second.0 (sym first.1 ∙ second.1) le

-- the longer one of two fronts begins with both
pub longer_begins : (latest one other : List Entry) → BeginsWith latest one → BeginsWith latest other
    → BeginsWith (longer one other) one × BeginsWith (longer one other) other
longer_begins latest one other first second = by (leb (length one) (length other)) refl
  where
    by : (b : Bool) → leb (length one) (length other) ≡ b
        → BeginsWith (if b then other else one) one × BeginsWith (if b then other else one) other
    by true is =
        (front_of latest one other first second (leb-true (length one) (length other) is), begins-none other)
    by false is = let lt = leb-false (length one) (length other) is in
        (begins-none one, front_of latest other one second first (omega (arith, lt)))

-- and is a front itself
pub longer_of : (latest one other : List Entry) → BeginsWith latest one → BeginsWith latest other
    → BeginsWith latest (longer one other)
longer_of latest one other first second = by (leb (length one) (length other))
  where
    by : (b : Bool) → BeginsWith latest (if b then other else one)
    by true = second
    by false = first

pub longer-none : (entries : List Entry) → longer entries [] ≡ entries
longer-none [] = refl
longer-none (entry ∷ entries) = by (leb (length (entry ∷ entries)) 0) refl
  where
    by : (b : Bool) → leb (length (entry ∷ entries)) 0 ≡ b
        → (if b then [] else entry ∷ entries) ≡ entry ∷ entries
    by true is = let le = leb-true (length (entry ∷ entries)) 0 is in absurd (omega (arith, le))
    by false is = refl

-- ---- places

pub rise-higher : (low high top : ℕ) (places : List ℕ) → high ≤ top → Rise low high places → Rise low top places
rise-higher low high top [] le rise = tt
rise-higher low high top (place ∷ places) le (ge, lt, rise) =
    (ge, omega (arith, lt, le), rise-higher (suc place) high top places le rise)

pub rise-lower : (low from high : ℕ) (places : List ℕ) → low ≤ from → Rise from high places → Rise low high places
rise-lower low from high [] le rise = tt
rise-lower low from high (place ∷ places) le (ge, lt, rise) = (omega (arith, le, ge), lt, rise)

rise-then : (low mid high : ℕ) (places more : List ℕ) → low ≤ mid → mid ≤ high → Rise low mid places
    → Rise mid high more → Rise low high (places ++ more)
rise-then low mid high [] more le le' first second = rise-lower low mid high more le second
rise-then low mid high (place ∷ places) more le le' (ge, lt, rise) second =
    (ge, omega (arith, lt, le'), rise-then (suc place) mid high places more (omega (arith, lt)) le' rise second)

rise-from : (start count high : ℕ) → start + count ≤ high → Rise start high (places_from start count)
rise-from start zero high le = tt
rise-from start (suc count) high le =
    (omega arith, omega (arith, le), rise-from (suc start) count high (omega (arith, le)))

pub rise_behind : (front entries : List Entry) → BeginsWith entries front
    → Rise (length front) (length entries) (places_behind front entries)
rise_behind front entries begins = let le = begins-long entries front begins in
    rise-from (length front) (length entries - length front) (length entries) (omega (arith, le))

-- a seat's places with those after what it saw
pub places_then : (front entries : List Entry) (places : List ℕ) → BeginsWith entries front → ArePlacesOf front places
    → ArePlacesOf entries (places ++ places_behind front entries)
places_then front entries places begins rise =
    rise-then 0 (length front) (length entries) places (places_behind front entries) (omega arith)
    (begins-long entries front begins) rise (rise_behind front entries begins)

pub places_longer : (front entries : List Entry) (places : List ℕ) → BeginsWith entries front
    → ArePlacesOf front places → ArePlacesOf entries places
places_longer front entries places begins rise =
    rise-higher 0 (length front) (length entries) places (begins-long entries front begins) rise

-- where nothing is aside
pub places-alone : (entries : List Entry) (places : List ℕ) → ArePlacesOf (longer entries []) places
    → ArePlacesOf entries places
places-alone entries places rise = subst (λ xs. ArePlacesOf xs places) (longer-none entries) rise

pub places-settled : (entries : List Entry) (places : List ℕ) → ArePlacesOf entries places
    → ArePlacesOf (longer entries []) places
places-settled entries places rise = subst (λ xs. ArePlacesOf xs places) (sym (longer-none entries)) rise

-- ---- how often a place is there

same_place : (place : ℕ) → (place == place) ≡ true
same_place place = eq-eqb place place refl

pub times_then : (place : ℕ) (places more : List ℕ) → times place (places ++ more) ≡ times place places + times place more
times_then place [] more = omega arith
times_then place (first ∷ places) more = let rest = times_then place places more in omega (arith, rest)

pub times_with : (place more : ℕ) (places : List ℕ)
    → times place (with_place more places) ≡ (if more == place then 1 else 0) + times place places
times_with place more [] = omega arith
times_with place more (first ∷ places) = by (leb more first) (times_with place more places)
  where
    by : (b : Bool)
        → times place (with_place more places) ≡ (if more == place then 1 else 0) + times place places
        → times place (if b then more ∷ first ∷ places else first ∷ with_place more places)
        ≡ (if more == place then 1 else 0) + times place (first ∷ places)
    by true rest = refl
    by false rest = omega (arith, rest)

pub times_merged : (place : ℕ) (places others : List ℕ)
    → times place (merged places others) ≡ times place places + times place others
times_merged place [] others = omega arith
times_merged place (first ∷ places) others =
    let with = times_with place first (merged places others) in
    let rest = times_merged place places others in omega (arith, with, rest)

pub times_above : (low high place : ℕ) (places : List ℕ) → high ≤ place → Rise low high places → times place places ≡ 0
times_above low high place [] le rise = refl
times_above low high place (first ∷ places) le (ge, lt, rise) =
    let apart : (first == place) ≡ false = ne_eqb first place (λ is. omega (arith, lt, le, is)) in
    let rest = times_above (suc first) high place places le rise in rw apart (omega (arith, rest))

pub times_under : (low high place : ℕ) (places : List ℕ) → place < low → Rise low high places → times place places ≡ 0
times_under low high place [] under rise = refl
times_under low high place (first ∷ places) under (ge, lt, rise) =
    let apart : (first == place) ≡ false = ne_eqb first place (λ is. omega (arith, under, ge, is)) in
    let rest = times_under (suc first) high place places (omega (arith, under, ge)) rise in
    rw apart (omega (arith, rest))

pub times_once : (low high place : ℕ) (places : List ℕ) → Rise low high places → times place places ≤ 1
times_once low high place [] rise = omega arith
times_once low high place (first ∷ places) (ge, lt, rise) =
    by (first == place) refl (times_once (suc first) high place places rise)
  where
    by : (b : Bool) → (first == place) ≡ b → times place places ≤ 1 → (if b then 1 else 0) + times place places ≤ 1
    by true is rest =
        let same : first ≡ place = eqb-true first place is in
        let none = times_under (suc first) high place places (omega (arith, same)) rise in omega (arith, none)
    by false is rest = omega (arith, rest)

-- ---- places of two

over : (a b : ℕ) → a ≤ b → b ≢ a → suc a ≤ b
over a b le ne = by (leb (suc a) b) refl
  where
    by : (c : Bool) → leb (suc a) b ≡ c → suc a ≤ b
    by true is = leb-true (suc a) b is
    by false is = let lt = leb-false (suc a) b is in absurd (ne (omega (arith, lt, le)))

rise-with : (low high place : ℕ) (places : List ℕ) → low ≤ place → place < high → times place places ≡ 0
    → Rise low high places → Rise low high (with_place place places)
rise-with low high place [] le lt none rise = (le, lt, tt)
rise-with low high place (first ∷ places) le lt none (ge, lt', rise) =
    by (leb place first) refl
    (λ above. rise-with (suc first) high place places above lt (omega (arith, none)) rise)
  where
    apart : first ≢ place
    apart is =
        let there : times place (first ∷ places) ≡ 1 + times place places =
        ap (λ b. (if b then 1 else 0) + times place places) (eq-eqb first place is) in omega (arith, none, there)

    by : (b : Bool) → leb place first ≡ b → (suc first ≤ place → Rise (suc first) high (with_place place places))
        → Rise low high (if b then place ∷ first ∷ places else first ∷ with_place place places)
    by true is rest = (le, lt, (over place first (leb-true place first is) apart, lt', rise))
    by false is rest = let above = leb-false place first is in (ge, lt', rest (omega (arith, above)))

pub rise-merged : (low high : ℕ) (places others : List ℕ) → Rise low high places → Rise low high others
    → ((place : ℕ) → times place places + times place others ≤ 1) → Rise low high (merged places others)
rise-merged low high [] others first second once = second
rise-merged low high (place ∷ places) others (ge, lt, rise) second once =
    rise-with low high place (merged places others) ge lt alone
    (rise-merged low high places others (rise-lower low (suc place) high places (omega (arith, ge)) rise) second
    (λ other. let here = once other in omega (arith, here)))
  where
    alone : times place (merged places others) ≡ 0
    alone =
        let there : times place (place ∷ places) ≡ 1 + times place places =
        ap (λ b. (if b then 1 else 0) + times place places) (same_place place) in
        let here = once place in let both = times_merged place places others in omega (arith, here, there, both)

-- ---- entries

at_front : (front more : List Entry) (place : ℕ) → place < length front
    → slice_get (front ++ more) place ≡ slice_get front place
at_front [] more place lt = absurd (omega (arith, lt))
at_front (entry ∷ front) more zero lt = refl
at_front (entry ∷ front) more (suc place) lt = at_front front more place (omega (arith, lt))

pub entries_stay : (front entries : List Entry) (low : ℕ) (places : List ℕ) → BeginsWith entries front
    → Rise low (length front) places → entries_at entries places ≡ entries_at front places
entries_stay front entries low [] begins rise = refl
entries_stay front entries low (place ∷ places) begins (ge, lt, rise) =
    let here : slice_get entries place ≡ slice_get front place =
    ap (λ xs. slice_get xs place) begins.1 ∙ at_front front begins.0 place lt in
    let rest = entries_stay front entries (suc place) places begins rise in
    ap (λ x. x ∷ entries_at entries places) here ∙ ap (λ xs. slice_get front place ∷ xs) rest

at_last : (front more : List Entry) (entry : Entry) → slice_get (front ++ entry ∷ more) (length front) ≡ Some entry
at_last [] more entry = refl
at_last (first ∷ front) more entry = at_last front more entry

entries-added : (front more : List Entry)
    → entries_at (front ++ more) (places_from (length front) (length more)) ≡ map Some more
entries-added front [] = refl
entries-added front (entry ∷ more) =
    let all : (front ++ entry ∷ []) ++ more ≡ front ++ entry ∷ more = append_assoc front (entry ∷ []) more in
    let long : length (front ++ entry ∷ []) ≡ suc (length front) =
    let parts = length-append front (entry ∷ []) in omega (arith, parts) in
    let rest = entries-added (front ++ entry ∷ []) more in
    let same : entries_at (front ++ entry ∷ more) (places_from (suc (length front)) (length more)) ≡ map Some more =
    ap (λ xs. entries_at xs (places_from (suc (length front)) (length more))) (sym all)
    ∙ ap (λ n. entries_at ((front ++ entry ∷ []) ++ more) (places_from n (length more))) (sym long) ∙ rest in
    ap (λ x. x ∷ entries_at (front ++ entry ∷ more) (places_from (suc (length front)) (length more)))
    (at_last front more entry) ∙ ap (λ xs. Some entry ∷ xs) same

-- after a front are the entries that were added
pub entries_behind : (front more : List Entry)
    → entries_at (front ++ more) (places_behind front (front ++ more)) ≡ map Some more
entries_behind front more =
    let count : length (front ++ more) - length front ≡ length more =
    let parts = length-append front more in omega (arith, parts) in
    ap (λ n. entries_at (front ++ more) (places_from (length front) n)) count ∙ entries-added front more
