-- Holds that join a set, part by part.
use Rattle.std.proofs.Common.{◌≡◌, ◌<◌, ◌+◌, ℕ, zero, suc, inl, inr, List, [], ◌∷◌, ◌++◌, length, get_or, take, refl, sym, ap, subst, ◌∙◌, arith}
use Rattle.std.specs.List.{Contains, flat_map}
use Rattle.std.proofs.lemmas.List.{take_more, append-nil}
use Rattle.std.proofs.lemmas.Grind.{flat_map-append}
use Rattle.std.proofs.lemmas.List.Elements.{Contains-append_left, Contains-append_right, Contains-append_cases}
use Rattle.flux_model.specs.declared.programs.Hold.{Hold}
use Rattle.flux_model.specs.declared.programs.NodeNo.{NodeNo}
use Rattle.flux_model.specs.declared.programs.Case.{Case}
use Rattle.flux_model.specs.Locks.{AreRising, HasAtLeast}
use Rattle.flux_model.specs.Children.{IsIn}
use Rattle.flux_model.proofs.Hoisting.{at_least_on}
use Rattle.flux_model.proofs.RisingHolds.{contains_none}
use Rattle.flux_constraints.specs.ClassSets.{IsJoined}
use Rattle.flux_constraints.proofs.Joins.{has_itself}
use Rattle.flux_hoist.specs.Sets.{held_by}
use Rattle.flux_hoist.specs.steps.Joining.{AreJoined, held_at, held_by_all, held_by_cases}

-- what has each hold of a set has what that set has
pub has_on : (hs is : List Hold) (h : Hold) → ((x : Hold) → Contains hs x → HasAtLeast is x) → HasAtLeast hs h → HasAtLeast is h
has_on hs is h each first =
    let then = each (record { class = h.class; mode = first.mode }) first.has in
    record { mode = then.mode; has = then.has; enough = at_least_on then.mode first.mode h.mode then.enough first.enough }

-- ---- no holds, one hold, some and some more

pub joined_none : (hs : List Hold) → AreJoined hs [] hs
joined_none hs = record {
  rising = λ are. are;
  kept = λ h c. has_itself hs h c;
  joined = λ h c. absurd (contains_none h c);
  only = λ h c. inl c;
}

pub joined_one : (hs is : List Hold) (h : Hold) → AreRising is → IsJoined hs h is → AreJoined hs (h ∷ []) is
joined_one hs is h are one = record {
  rising = λ _. are;
  kept = λ x c. one.kept x c;
  joined = λ x c. subst (HasAtLeast is) (single x c) one.joined;
  only = λ x c. elim (one.only x c) [ inl old ↦ inl old | inr e ↦ inr (0, omega arith, sym e) ];
}
  where
    single : (x : Hold) → Contains (h ∷ []) x → h ≡ x
    single x (zero, lt, is) = is
    single x (suc k, lt, is) = absurd (omega arith)

pub joined_then : (from mid to xs ys : List Hold) → AreJoined from xs mid → AreJoined mid ys to → AreJoined from (xs ++ ys) to
joined_then from mid to xs ys first then = record {
  rising = λ are. then.rising (first.rising are);
  kept = λ h c. has_on mid to h then.kept (first.kept h c);
  joined = λ h c. elim (Contains-append_cases xs ys h c) [
    | inl front ↦ has_on mid to h then.kept (first.joined h front)
    | inr back ↦ then.joined h back
  ];
  only = λ h c. elim (then.only h c) [
    | inl old ↦ elim (first.only h old) [ inl older ↦ inl older | inr front ↦ inr (Contains-append_left xs ys h front) ]
    | inr back ↦ inr (Contains-append_right xs ys h back)
  ];
}

-- one more of a list whose elements give holds
pub joined_next : {X : Type 0} (f : X → List Hold) (xs : List X) (i : ℕ) (d : X) (from mid to : List Hold) → i < length xs
    → AreJoined from (flat_map f (take i xs)) mid → AreJoined mid (f (get_or xs i d)) to → AreJoined from (flat_map f (take (i + 1) xs)) to
joined_next f xs i d from mid to lt first then =
    subst (λ (hs : List Hold). AreJoined from hs to) (sym parts) (joined_then from mid to (flat_map f (take i xs)) (f (get_or xs i d)) first then)
  where
    parts : flat_map f (take (i + 1) xs) ≡ flat_map f (take i xs) ++ f (get_or xs i d)
    parts =
        ap (flat_map f) (take_more xs i d lt) ∙ flat_map-append f (take i xs) (get_or xs i d ∷ [])
        ∙ ap (λ (hs : List Hold). flat_map f (take i xs) ++ hs) (append-nil (f (get_or xs i d)))

pub joined_more : (xs : List Hold) (i : ℕ) (d : Hold) (from mid to : List Hold) → i < length xs
    → AreJoined from (take i xs) mid → AreRising to → IsJoined mid (get_or xs i d) to → AreJoined from (take (i + 1) xs) to
joined_more xs i d from mid to lt first are one =
    subst (λ (hs : List Hold). AreJoined from hs to) (sym (take_more xs i d lt)) (joined_then from mid to (take i xs) (get_or xs i d ∷ []) first (joined_one mid to (get_or xs i d) are one))

-- ---- the holds of nodes

pub in_some : (table : List (List Hold)) (nodes : List NodeNo) (h : Hold) → Contains (held_by_all table nodes) h
    → (number : ℕ) × IsIn number nodes × Contains (held_by table number) h
in_some table [] h c = absurd (contains_none h c)
in_some table (n ∷ nodes) h c = elim (Contains-append_cases (held_at table n) (held_by_all table nodes) h c) [
  | inl here ↦ (n.0, inl refl, here)
  | inr later ↦ let found = in_some table nodes h later in (found.0, inr found.1, found.2)
]

pub in_all : (table : List (List Hold)) (nodes : List NodeNo) (number : ℕ) (h : Hold) → IsIn number nodes → Contains (held_by table number) h
    → Contains (held_by_all table nodes) h
in_all table [] number h is c = absurd is
in_all table (n ∷ nodes) number h (inl same) c =
    Contains-append_left (held_at table n) (held_by_all table nodes) h (subst (λ (k : ℕ). Contains (held_by table k) h) same c)
in_all table (n ∷ nodes) number h (inr is) c =
    Contains-append_right (held_at table n) (held_by_all table nodes) h (in_all table nodes number h is c)

-- the members of cases, case by case
pub members_held : (table : List (List Hold)) (cases : List Case) → held_by_cases table cases ≡ held_by_all table (flat_map (λ case. case.members) cases)
members_held table [] = refl
members_held table (case ∷ cases) =
    ap (λ (hs : List Hold). held_by_all table case.members ++ hs) (members_held table cases)
    ∙ sym (flat_map-append (held_at table) case.members (flat_map (λ (c : Case). c.members) cases))
