-- Members of sets and of parked flows that change.
use Rattle.std.proofs.Common.{◌≡◌, ◌≢◌, ◌⊎◌, inl, inr, ℕ, Bool, true, false, not, ◌||◌, ◌&&◌, eqb, List, [], refl, sym, ap, ◌∙◌}
use Rattle.std.proofs.lemmas.Bool.{eqb-true, eq-eqb, ne_eqb, false≢true}
use Rattle.flow_model.specs.declared.journals.Key.{Key}
use Rattle.flow_model.proofs.Keys.{key_cases}
use Rattle.flow_waits.specs.steps.Waking.{has, IsMore, IsLess, ParkedFlows, parked_at, IsMoreAt, IsLessAt}

-- nothing is in an empty set
pub none_has : (numbers : List ℕ) (flow : ℕ) → numbers ≡ [] → has numbers flow ≡ true → ⊥
none_has numbers flow none is = by (rw none at is)
  where
    by : false ≡ true → ⊥
    by e = cc

either : (b c : Bool) → (b || c) ≡ true → (b ≡ true) ⊎ (c ≡ true)
either true c is = inl refl
either false c is = inr is

right : (b c : Bool) → c ≡ true → (b || c) ≡ true
right true c is = refl
right false c is = is

left : (b c : Bool) → b ≡ true → (b || c) ≡ true
left true c is = refl
left false c is = absurd cc

both : (b c : Bool) → (not b && c) ≡ true → (b ≡ false) × (c ≡ true)
both true c is = absurd cc
both false c is = (refl, is)

kept : (b c : Bool) → b ≡ false → c ≡ true → (not b && c) ≡ true
kept true c apart is = absurd cc
kept false c apart is = is

module _ (old new : List ℕ) (flow : ℕ) where
  -- one more
  pub more_cases : IsMore old new flow → (other : ℕ) → has new other ≡ true → (flow ≡ other) ⊎ (has old other ≡ true)
  more_cases more other is = by (either (eqb flow other) (has old other) (sym (more other) ∙ is))
    where
      by : (eqb flow other ≡ true) ⊎ (has old other ≡ true) → (flow ≡ other) ⊎ (has old other ≡ true)
      by (inl same) = inl (eqb-true flow other same)
      by (inr there) = inr there

  pub more_there : IsMore old new flow → (other : ℕ) → has old other ≡ true → has new other ≡ true
  more_there more other is = more other ∙ right (eqb flow other) (has old other) is

  pub more_own : IsMore old new flow → has new flow ≡ true
  more_own more = more flow ∙ left (eqb flow flow) (has old flow) (eq-eqb flow flow refl)

  -- one less
  pub less_there : IsLess old new flow → (other : ℕ) → has new other ≡ true → has old other ≡ true
  less_there less other is = let parts = both (eqb flow other) (has old other) (sym (less other) ∙ is) in parts.1

  pub less_own : IsLess old new flow → has new flow ≡ true → ⊥
  less_own less is =
      let parts = both (eqb flow flow) (has old flow) (sym (less flow) ∙ is) in
      false≢true (sym parts.0 ∙ eq-eqb flow flow refl)

  pub less_kept : IsLess old new flow → (other : ℕ) → flow ≢ other → has old other ≡ true → has new other ≡ true
  less_kept less other apart is = less other ∙ kept (eqb flow other) (has old other) (ne_eqb flow other apart) is

module _ (old new : ParkedFlows) (key : Key) (flow : ℕ) where
  pub more_at_cases : IsMoreAt old new key flow → (k : Key) (other : ℕ) → has (parked_at new k) other ≡ true
      → ((key ≡ k) × (flow ≡ other)) ⊎ (has (parked_at old k) other ≡ true)
  more_at_cases more k other is = key_cases key k (λ same _. here same)
      (λ apart _. inr (ap (λ parking. has parking other) (sym (more.others k apart)) ∙ is))
    where
      here : key ≡ k → ((key ≡ k) × (flow ≡ other)) ⊎ (has (parked_at old k) other ≡ true)
      here same = by (more_cases (parked_at old key) (parked_at new key) flow more.at other
          (ap (λ q. has (parked_at new q) other) same ∙ is))
        where
          by : (flow ≡ other) ⊎ (has (parked_at old key) other ≡ true)
              → ((key ≡ k) × (flow ≡ other)) ⊎ (has (parked_at old k) other ≡ true)
          by (inl own) = inl (same, own)
          by (inr there) = inr (ap (λ q. has (parked_at old q) other) (sym same) ∙ there)

  pub more_at_there : IsMoreAt old new key flow → (k : Key) (other : ℕ) → has (parked_at old k) other ≡ true
      → has (parked_at new k) other ≡ true
  more_at_there more k other is = key_cases key k
      (λ same _. ap (λ q. has (parked_at new q) other) (sym same) ∙ more_there (parked_at old key) (parked_at new key) flow
      more.at other (ap (λ q. has (parked_at old q) other) same ∙ is))
      (λ apart _. ap (λ parking. has parking other) (more.others k apart) ∙ is)

  pub more_at_own : IsMoreAt old new key flow → has (parked_at new key) flow ≡ true
  more_at_own more = more_own (parked_at old key) (parked_at new key) flow more.at

  pub less_at_there : IsLessAt old new key flow → (k : Key) (other : ℕ) → has (parked_at new k) other ≡ true
      → has (parked_at old k) other ≡ true
  less_at_there less k other is = key_cases key k
      (λ same _. ap (λ q. has (parked_at old q) other) (sym same) ∙ less_there (parked_at old key) (parked_at new key) flow
      less.at other (ap (λ q. has (parked_at new q) other) same ∙ is))
      (λ apart _. ap (λ parking. has parking other) (sym (less.others k apart)) ∙ is)

  pub less_at_own : IsLessAt old new key flow → has (parked_at new key) flow ≡ true → ⊥
  less_at_own less is = less_own (parked_at old key) (parked_at new key) flow less.at is

  pub less_at_kept : IsLessAt old new key flow → (k : Key) (other : ℕ) → has (parked_at old k) other ≡ true
      → (has (parked_at new k) other ≡ true) ⊎ ((key ≡ k) × (flow ≡ other))
  less_at_kept less k other is = key_cases key k (λ same _. here same)
      (λ apart _. inl (ap (λ parking. has parking other) (less.others k apart) ∙ is))
    where
      here : key ≡ k → (has (parked_at new k) other ≡ true) ⊎ ((key ≡ k) × (flow ≡ other))
      here same = by (eqb flow other) refl
        where
          by : (b : Bool) → eqb flow other ≡ b → (has (parked_at new k) other ≡ true) ⊎ ((key ≡ k) × (flow ≡ other))
          by true e = inr (same, eqb-true flow other e)
          by false e = inl (ap (λ q. has (parked_at new q) other) (sym same) ∙ less.at other
              ∙ kept (eqb flow other) (has (parked_at old key) other) e (ap (λ q. has (parked_at old q) other) same ∙ is))
