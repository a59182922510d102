-- What the calls of a set say of its numbers.
use Rattle.std.proofs.Common.{◌≡◌, ◌≢◌, ◌<◌, ◌≤◌, ◌⊎◌, ◌+◌, inl, inr, ℕ, Bool, true, false, cond, not, ◌||◌, ◌&&◌, eqb, ltb, if◌then◌else◌, List, [], ◌∷◌, refl, sym, ap, subst, ◌∙◌, arith}
use Rattle.std.specs.Prelude.{IfSome}
use Rattle.std.specs.declared.cmp.Ordering.TheVariants.{Less, Equal, Greater}
use Rattle.std.specs.List.{list_any, slice_get}
use Rattle.std.specs.Ordering.{nat_cmp, is_eq, is_gt}
use Rattle.std.specs.BTreeSet.{BTreeSet, IsKeyRangeOf, IsKeyInRange}
use Rattle.std.specs.BTreeMap.Range.{IsLeBy}
use Rattle.std.specs.declared.ops.Bound.TheVariants.{Included, Unbounded}
use Rattle.std.proofs.lemmas.Bool.{cases_lt, ltb-false, eq-eqb, false≢true}
use Rattle.std.proofs.lemmas.Map.Keys.{le_from_not_gt}
use Rattle.flow_model.proofs.Keys.{cmp_eqb}
use Rattle.flow_orders.specs.Turns.{IsBefore}
use Rattle.flow_waits.specs.steps.Waking.{has, IsMore, IsLess, IsEarliest}

abbrev found : List ℕ → ℕ → Bool
found numbers flow = list_any (λ n. is_eq (nat_cmp flow n)) numbers

pub has_is : (numbers : List ℕ) (flow : ℕ) → found numbers flow ≡ has numbers flow
has_is numbers flow = ap (λ (test : ℕ → Bool). list_any test numbers) (λ i n. cmp_eqb flow n i)

or_cond : (b x : Bool) → cond b true x ≡ (b || x)
or_cond true x = refl
or_cond false x = refl

and_cond : (b x : Bool) → cond b false x ≡ (not b && x)
and_cond true x = refl
and_cond false x = refl

pub more_is : (old new : List ℕ) (flow : ℕ) → ((q : ℕ) → found new q ≡ cond (is_eq (nat_cmp flow q)) true (found old q))
    → IsMore old new flow
more_is old new flow says other =
    sym (has_is new other) ∙ says other ∙ ap (λ (b : Bool). cond b true (found old other)) (cmp_eqb flow other)
    ∙ ap (cond (eqb flow other) true) (has_is old other) ∙ or_cond (eqb flow other) (has old other)

pub less_is : (old new : List ℕ) (flow : ℕ) → ((q : ℕ)
    → found new q ≡ cond (is_eq (nat_cmp flow q)) false (found old q)) → IsLess old new flow
less_is old new flow says other =
    sym (has_is new other) ∙ says other ∙ ap (λ (b : Bool). cond b false (found old other)) (cmp_eqb flow other)
    ∙ ap (cond (eqb flow other) false) (has_is old other) ∙ and_cond (eqb flow other) (has old other)

pub fewer : (old new : ℕ) (b : Bool) → new + (if b then 1 else 0) ≡ old → b ≡ true → new < old
fewer old new true len is = omega (arith, len)
fewer old new false len is = absurd cc

not_gt : (a b : ℕ) → a ≤ b → is_gt (nat_cmp a b) ≡ false
not_gt a b le = by (ltb a b) refl (eqb a b) refl
  where
    by : (l : Bool) → ltb a b ≡ l → (e : Bool) → eqb a b ≡ e → is_gt (cond l Less (cond e Equal Greater)) ≡ false
    by true less e same = refl
    by false least true same = refl
    by false least false apart =
        let ge = ltb-false a b least in
        let same : a ≡ b = omega (arith, le, ge) in
        absurd (false≢true (sym apart ∙ eq-eqb a b same))

module _ (s : BTreeSet ℕ) (from : ℕ) (r : List ℕ) (range : IsKeyRangeOf nat_cmp (Included from) Unbounded s r) where
  -- the first of those from a number on
  pub earliest-above : (flow : ℕ) (rest : List ℕ) → r ≡ flow ∷ rest → IsEarliest s.keys from flow
  earliest-above flow rest is = record {
    is = sym (has_is s.keys flow) ∙ inside.1;
    first = λ other there apart. by other (has_is s.keys other ∙ there) apart (cases_lt other from);
  }
    where
      inside : IsKeyInRange nat_cmp (Included from) Unbounded s flow
      inside = subst (λ (l : List ℕ). IfSome (slice_get l 0) (IsKeyInRange nat_cmp (Included from) Unbounded s)) is
          range.1

      at_most : (other : ℕ) → found s.keys other ≡ true → from ≤ other → flow ≤ other
      at_most other there le =
          le_from_not_gt flow other (subst (λ (l : List ℕ). IfSome (slice_get l 0) (λ k. IsLeBy nat_cmp k other)) is
          (range.2 other (not_gt from other le, tt) there))

      above : from ≤ flow
      above = le_from_not_gt from flow inside.0.0

      by : (other : ℕ) → found s.keys other ≡ true → flow ≢ other → (other < from) ⊎ (from ≤ other)
          → IsBefore from flow other
      by other there apart (inl lt) = inl (above, inr lt)
      by other there apart (inr le) = let most = at_most other there le in inl (above, inl (omega (arith, most, apart)))

  -- the least of all, where none is from the number on
  pub earliest-below : (flow : ℕ) → r ≡ [] → found s.keys flow ≡ true
      → ((other : ℕ) → found s.keys other ≡ true → is_gt (nat_cmp flow other) ≡ false) → IsEarliest s.keys from flow
  earliest-below flow none is least = record {
    is = sym (has_is s.keys flow) ∙ is;
    first = λ other there apart. by other (has_is s.keys other ∙ there) apart (cases_lt other from);
  }
    where
      by : (other : ℕ) → found s.keys other ≡ true → flow ≢ other → (other < from) ⊎ (from ≤ other)
          → IsBefore from flow other
      by other there apart (inl lt) = let most = le_from_not_gt flow other (least other there) in inr
          (omega (arith, most, apart), lt)
      by other there apart (inr le) = absurd (false≢true (sym (range.5 none other (not_gt from other le, tt)) ∙ there))
