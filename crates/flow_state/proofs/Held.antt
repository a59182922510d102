-- How a table counts the modes in which a flow holds a key.
use Rattle.std.proofs.Common.{◌≡◌, inl, inr, ℕ, ◌+◌, ◌-◌, ◌≤◌, Bool, true, false, ◌||◌, cond, ltb, List, [], ◌∷◌, ◌++◌, Option, Some, None, refl, sym, ap, subst, ◌∙◌, arith}
use Rattle.std.specs.List.{Contains, list_any}
use Rattle.flux_values.specs.declared.answers.Mode.{Mode}
use Rattle.flux_values.specs.declared.answers.Mode.TheVariants.{Reader, Writer}
use Rattle.flux_model.specs.Modes.{conflict, at_least}
use Rattle.flux_table.specs.declared.locks.Held.{Held}
use Rattle.flux_table.specs.Changes.{one_more, one_less}
use Rattle.flux_laws.proofs.Members.{In, contains-from_in}
use Rattle.flow_state.specs.steps.Table.{held_in}

-- nothing is held exactly in no modes
pub held-none : (modes : List Mode) → held_in modes ≡ None → modes ≡ []
held-none [] is = refl
held-none (mode ∷ modes) is = absurd (cc)

-- a count is at least one
count-some : (held : Option Held) (mode : Mode) → let more = one_more held mode in 1 ≤ more.count
count-some None mode = omega arith
count-some (Some held) mode = omega arith

-- with the latest gone, the others are left
pub held-less : (mode : Mode) (modes : List Mode) → one_less (held_in (mode ∷ modes)) ≡ held_in modes
held-less mode [] = refl
held-less mode (next ∷ modes) =
    let held : Held = one_more (held_in modes) next in
    let some : 1 ≤ held.count = count-some (held_in modes) next in
    let less : ltb 1 (held.count + 1) ≡ true = grind (arith) in
    let back : held.count + 1 - 1 ≡ held.count = omega arith in
    ap (λ (b : Bool). cond b (Some (record { mode = held.mode; count = held.count + 1 - 1 })) None) less
    ∙ ap (λ (n : ℕ). Some (record { mode = held.mode; count = n })) back

-- the first of some modes is the one that a table knows
pub record IsSplit (modes : List Mode) (held : Held) : Type 0 where
  pub later : List Mode
  pub first : Mode
  pub is : modes ≡ later ++ first ∷ []
  pub known : held.mode ≡ first

pub held-split : (modes : List Mode) (held : Held) → held_in modes ≡ Some held → IsSplit modes held
held-split [] held is = absurd (cc)
held-split (mode ∷ []) held is = record {
  later = [];
  first = mode;
  is = refl;
  known = let e : record { mode = mode; count = 1 } ≡ held = cc in ap (λ (h : Held). h.mode) (sym e);
}
held-split (mode ∷ next ∷ modes) held is =
    let below : Held = one_more (held_in modes) next in
    let e : record { mode = below.mode; count = below.count + 1 } ≡ held = cc in
    let more = held-split (next ∷ modes) below refl in
    record {
      later = mode ∷ more.later;
      first = more.first;
      is = ap (λ ms. mode ∷ ms) more.is;
      known = ap (λ (h : Held). h.mode) (sym e) ∙ more.known;
    }

-- the first take is the greatest
abbrev pub FirstIsGreatest : List Mode → Type 0
FirstIsGreatest modes = (later : List Mode) (first : Mode) → modes ≡ later ++ first ∷ [] → (mode : Mode)
    → Contains later mode → at_least first mode ≡ true

in-last : (later : List Mode) (first : Mode) → In first (later ++ first ∷ [])
in-last [] first = inl refl
in-last (mode ∷ later) first = inr (in-last later first)

any-in : (modes : List Mode) (own mode : Mode) → In own modes → conflict own mode ≡ true
    → list_any (λ held. conflict held mode) modes ≡ true
any-in [] own mode is against = absurd is
any-in (held ∷ modes) own mode (inl same) against = ap (λ (b : Bool). b || list_any (λ h. conflict h mode) modes)
    (ap (λ m. conflict m mode) same ∙ against)
any-in (held ∷ modes) own mode (inr is) against = by (conflict held mode) (any-in modes own mode is against)
  where
    by : (b : Bool) → list_any (λ h. conflict h mode) modes ≡ true → b || list_any (λ h. conflict h mode) modes ≡ true
    by true e = refl
    by false e = e

pub some-in : (modes : List Mode) (mode : Mode) → list_any (λ held. conflict held mode) modes ≡ true
    → (own : Mode) × In own modes × (conflict own mode ≡ true)
some-in [] mode is = absurd (cc)
some-in (held ∷ modes) mode is = by (conflict held mode) refl is (some-in modes mode)
  where
    by : (b : Bool) → conflict held mode ≡ b → b || list_any (λ h. conflict h mode) modes ≡ true
        → (list_any (λ h. conflict h mode) modes ≡ true → (own : Mode) × In own modes × (conflict own mode ≡ true))
        → (own : Mode) × In own (held ∷ modes) × (conflict own mode ≡ true)
    by true against is more = (held, inl refl, against)
    by false against is more = let (own, there, e) = more is in (own, inr there, e)

conflict-more : (own less mode : Mode) → at_least own less ≡ true → conflict less mode ≡ true → conflict own mode ≡ true
conflict-more Writer less mode more against = refl
conflict-more Reader Reader mode more against = against
conflict-more Reader Writer mode more against = absurd (cc)

-- the mode that a table knows is in conflict exactly where some mode is
pub held-against : (modes : List Mode) (held : Held) (mode : Mode) → held_in modes ≡ Some held
    → conflict held.mode mode ≡ true → list_any (λ m. conflict m mode) modes ≡ true
held-against modes held mode is against =
    let split = held-split modes held is in
    let whole = split.is in
    rw whole (any-in (split.later ++ split.first ∷ []) split.first mode (in-last split.later split.first)
    (ap (λ m. conflict m mode) (sym split.known) ∙ against))

pub against-held : (modes : List Mode) (held : Held) (mode : Mode) → FirstIsGreatest modes → held_in modes ≡ Some held
    → list_any (λ m. conflict m mode) modes ≡ true → conflict held.mode mode ≡ true
against-held modes held mode greatest is against = by (some-in modes mode against)
  where
    split : IsSplit modes held
    split = held-split modes held is

    told : (own : Mode) → (later : List Mode) → ((m : Mode) → In m later → at_least split.first m ≡ true)
        → In own (later ++ split.first ∷ []) → conflict own mode ≡ true → conflict split.first mode ≡ true
    told own [] all (inl same) own_against = ap (λ m. conflict m mode) same ∙ own_against
    told own [] all (inr never) own_against = absurd never
    told own (m ∷ later) all (inl same) own_against = conflict-more split.first m mode (all m (inl refl))
        (ap (λ x. conflict x mode) same ∙ own_against)
    told own (m ∷ later) all (inr there) own_against = told own later (λ x is. all x (inr is)) there own_against

    by : (own : Mode) × In own modes × (conflict own mode ≡ true) → conflict held.mode mode ≡ true
    by (own, there, own_against) =
        ap (λ m. conflict m mode) split.known
        ∙ told own split.later (λ m is. greatest split.later split.first split.is m (contains-from_in split.later m is))
        (subst (λ ms. In own ms) split.is there) own_against

-- and it is at least what is held
pub held-enough : (modes : List Mode) (held : Held) (own mode : Mode) → FirstIsGreatest modes
    → held_in modes ≡ Some held → In own modes → at_least own mode ≡ true → at_least held.mode mode ≡ true
held-enough modes held own mode greatest is there enough =
    let split = held-split modes held is in
    ap (λ m. at_least m mode) split.known
    ∙ told split.first split.later (λ m among. greatest split.later split.first split.is m
    (contains-from_in split.later m among)) (subst (λ ms. In own ms) split.is there)
  where
    trans : (a b c : Mode) → at_least a b ≡ true → at_least b c ≡ true → at_least a c ≡ true
    trans Writer b c one two = refl
    trans Reader Reader c one two = two
    trans Reader Writer c one two = absurd (cc)

    told : (first : Mode) (later : List Mode) → ((m : Mode) → In m later → at_least first m ≡ true)
        → In own (later ++ first ∷ []) → at_least first mode ≡ true
    told first [] all (inl same) = ap (λ m. at_least m mode) same ∙ enough
    told first [] all (inr never) = absurd never
    told first (m ∷ later) all (inl same) = trans first m mode (all m (inl refl))
        (ap (λ x. at_least x mode) same ∙ enough)
    told first (m ∷ later) all (inr more) = told first later (λ x among. all x (inr among)) more
