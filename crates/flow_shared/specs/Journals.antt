-- Journals that begin with others, and places in them.
use Rattle.std.specs.Prelude.{◌≡◌, ℕ, zero, suc, ◌+◌, ◌-◌, ◌<◌, ◌≤◌, ◌==◌, leb, if◌then◌else◌, List, [], ◌∷◌, ◌++◌, length, map, Option, slice_get, ⊤}
use Rattle.flow_model.specs.declared.journals.Entry.{Entry}

-- ---- journals

-- a journal begins with another one
abbrev pub BeginsWith : List Entry → List Entry → Type 0
BeginsWith entries front = (more : List Entry) × (entries ≡ front ++ more)

-- the longer one of two
abbrev pub longer : List Entry → List Entry → List Entry
longer one other = if leb (length one) (length other) then other else one

-- ---- places

-- so many places from one on
abbrev pub places_from : ℕ → ℕ → List ℕ
places_from start zero = []
places_from start (suc count) = start ∷ places_from (suc start) count

-- the places of the entries that a journal has after a front of it
abbrev pub places_behind : List Entry → List Entry → List ℕ
places_behind front entries = places_from (length front) (length entries - length front)

-- places in rising order, each once, from one number on and below another
abbrev pub Rise : ℕ → ℕ → List ℕ → Type 0
Rise low high [] = ⊤
Rise low high (place ∷ places) = (low ≤ place) × (place < high) × Rise (suc place) high places

-- they are places of a journal
abbrev pub ArePlacesOf : List Entry → List ℕ → Type 0
ArePlacesOf entries places = Rise 0 (length entries) places

-- a place more, in front of the first one that isn't below it
abbrev pub with_place : ℕ → List ℕ → List ℕ
with_place place [] = place ∷ []
with_place place (first ∷ places) =
    if leb place first then place ∷ first ∷ places else first ∷ with_place place places

-- the places of two lists, in rising order where both are
abbrev pub merged : List ℕ → List ℕ → List ℕ
merged [] others = others
merged (place ∷ places) others = with_place place (merged places others)

-- how often a place is in a list
abbrev pub times : ℕ → List ℕ → ℕ
times place [] = 0
times place (first ∷ places) = (if first == place then 1 else 0) + times place places

-- the entries that a journal has at places
abbrev pub entries_at : List Entry → List ℕ → List (Option Entry)
entries_at entries places = map (λ place. slice_get entries place) places
