use Rattle.std.proofs.Common.{◌≡◌, ◌⊎◌, inl, inr, ℕ, ◌+◌, ◌<◌, ◌≤◌, sym, ◌∙◌, subst, arith}
use Rattle.std.proofs.lemmas.Bool.{cases_lt, false≢true}
use Rattle.rt_event.proofs.leads.lowest_call.Goals as goal

-- none of the first ones, and not the next
none-more : (P : ℕ → Type 0) (count : ℕ) → ((n : ℕ) → n < count → P n → ⊥) → (P count → ⊥)
    → (n : ℕ) → n < count + 1 → P n → ⊥
none-more P count all own n lt is = by (cases_lt n count)
  where
    by : (n < count) ⊎ (count ≤ n) → ⊥
    by (inl less) = all n less is
    by (inr le) = let same : n ≡ count = omega (arith, lt, le) in own (subst P same is)

pub returns-then-is_calling-clause-lowest : goal.returns-then-is_calling-clause-lowest
returns-then-is_calling-clause-lowest g c = (c.is_calling.ensures.0 c.if-is_calling.true, c.loop-number.invariant)

pub loop-number-preserved : goal.loop-number-preserved
loop-number-preserved g c =
    none-more _ c.loop-number.number c.loop-number.invariant
    (λ some. false≢true (sym c.if-is_calling.false ∙ c.is_calling.ensures.1 some))

pub returns-clause-lowest : goal.returns-clause-lowest
returns-clause-lowest g c flow less =
    c.loop-number.invariant flow (omega (arith, less, c.loop-number-test.false, c.flows-number-end.ensures))
