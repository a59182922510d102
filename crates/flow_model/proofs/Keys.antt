-- Keys: whether they are the same, and their order.
use Rattle.std.proofs.Common.{◌≡◌, ℕ, Bool, true, false, ◌&&◌, cond, eqb, ltb, Option, Some, None, refl, sym, ap, ◌∙◌, arith}
use Rattle.std.specs.declared.cmp.Ordering.{Ordering}
use Rattle.std.specs.declared.cmp.Ordering.TheVariants.{Less, Equal, Greater}
use Rattle.std.specs.Ordering.{nat_cmp, is_eq, ordering_then}
use Rattle.std.specs.Option.{option_cmp}
use Rattle.std.proofs.lemmas.Bool.{and_parts, eqb-true, eq-eqb, ne_eqb, ltb-true, false≢true}
use Rattle.flow_model.specs.declared.journals.Key.{Key}
use Rattle.flow_model.specs.Keys.{same_key, same_id}

-- ---- the same or not

same_id_is : (a b : Option ℕ) → same_id a b ≡ true → a ≡ b
same_id_is None None same = refl
same_id_is None (Some b) same = absurd (cc)
same_id_is (Some a) None same = absurd (cc)
same_id_is (Some a) (Some b) same = ap Some (eqb-true a b same)

same_id_itself : (a : Option ℕ) → same_id a a ≡ true
same_id_itself None = refl
same_id_itself (Some a) = eq-eqb a a refl

-- keys that the test takes for the same are
pub same_key_is : (a b : Key) → same_key a b ≡ true → a ≡ b
same_key_is a b same =
    let parts = and_parts _ _ same in
    λ i. record { class = record { 0 = eqb-true a.class.0 b.class.0 parts.0 i }; id = same_id_is a.id b.id parts.1 i }

-- each key is the same as itself
pub same_key_itself : (a : Key) → same_key a a ≡ true
same_key_itself a = rw (eq-eqb a.class.0 a.class.0 refl) (same_id_itself a.id)

-- keys that the test tells apart aren't equal
pub key_apart : (a b : Key) → same_key a b ≡ false → a ≡ b → ⊥
key_apart a b apart same = false≢true (sym apart ∙ ap (same_key a) (sym same) ∙ same_key_itself a)

-- two keys are the same or not
pub key_cases : {P : Type 0} (a b : Key) → (a ≡ b → same_key a b ≡ true → P) → (same_key a b ≡ false → (a ≡ b → ⊥) → P) → P
key_cases {P} a b same apart = by (same_key a b) refl
  where
    by : (t : Bool) → same_key a b ≡ t → P
    by true e = same (same_key_is a b e) e
    by false e = apart e (key_apart a b e)

-- which of two keys comes first doesn't matter
pub same_key_turned : (a b : Key) → same_key a b ≡ same_key b a
same_key_turned a b =
    key_cases a b (λ same e. ap (λ k. same_key k b) same ∙ ap (same_key b) (sym same))
    (λ apart _. elim (same_key b a) as (λ t. same_key b a ≡ t → same_key a b ≡ t) [
      | true ↦ λ e. absurd (key_apart a b apart (sym (same_key_is b a e)))
      | false ↦ λ _. apart
    ] refl)

-- ---- the order

-- numbers are equal in their order exactly where they are the same
pub cmp_eqb : (a b : ℕ) → is_eq (nat_cmp a b) ≡ eqb a b
cmp_eqb a b =
    elim (ltb a b) as (λ l. ltb a b ≡ l → is_eq (cond l Less (cond (eqb a b) Equal Greater)) ≡ eqb a b) [
      | true ↦ λ less. sym (ne_eqb a b (λ same. absurd (omega (arith, ltb-true a b less))))
      | false ↦ λ _. elim (eqb a b) as (λ e. is_eq (cond e Equal Greater) ≡ e) [ true ↦ refl | false ↦ refl ]
    ] refl

-- the order of keys, as it is derived: by class, then by session number
abbrev pub key_cmp : Key → Key → Ordering
key_cmp a b = ordering_then (nat_cmp a.class.0 b.class.0) (option_cmp nat_cmp a.id b.id)

is_eq_then : (a b : Ordering) → is_eq (ordering_then a b) ≡ (is_eq a && is_eq b)
is_eq_then Less b = refl
is_eq_then Equal b = refl
is_eq_then Greater b = refl

id_cmp : (a b : Option ℕ) → is_eq (option_cmp nat_cmp a b) ≡ same_id a b
id_cmp None None = refl
id_cmp None (Some b) = refl
id_cmp (Some a) None = refl
id_cmp (Some a) (Some b) = cmp_eqb a b

-- the order of keys tells them apart as they are
pub key_cmp_same : (a b : Key) → is_eq (key_cmp a b) ≡ same_key a b
key_cmp_same a b =
    is_eq_then (nat_cmp a.class.0 b.class.0) (option_cmp nat_cmp a.id b.id)
    ∙ ap (λ (t : Bool). t && is_eq (option_cmp nat_cmp a.id b.id)) (cmp_eqb a.class.0 b.class.0)
    ∙ ap (λ (t : Bool). eqb a.class.0 b.class.0 && t) (id_cmp a.id b.id)
