-- Lists of nodes' numbers.
use Rattle.std.proofs.Common.{◌<◌, ℕ, ◌⊎◌, inl, inr, List, [], ◌∷◌, ◌++◌, sym, subst}
use Rattle.flux_model.specs.declared.programs.NodeNo.{NodeNo}
use Rattle.flux_model.specs.Children.{IsIn}
use Rattle.flux_model.specs.Numbered.{AreBelow}

-- what is among the first of two lists is among both together
pub in_front : (x : ℕ) (a b : List NodeNo) → IsIn x a → IsIn x (a ++ b)
in_front x [] b is = absurd is
in_front x (n ∷ a) b (inl e) = inl e
in_front x (n ∷ a) b (inr is) = inr (in_front x a b is)

-- so is what is among the second
pub in_behind : (x : ℕ) (a b : List NodeNo) → IsIn x b → IsIn x (a ++ b)
in_behind x [] b is = is
in_behind x (n ∷ a) b is = inr (in_behind x a b is)

-- what is among both together is among one of them
pub in_either : (x : ℕ) (a b : List NodeNo) → IsIn x (a ++ b) → IsIn x a ⊎ IsIn x b
in_either x [] b is = inr is
in_either x (n ∷ a) b (inl e) = inl (inl e)
in_either x (n ∷ a) b (inr is) = more (in_either x a b is)
  where
    more : IsIn x a ⊎ IsIn x b → IsIn x (n ∷ a) ⊎ IsIn x b
    more (inl i) = inl (inr i)
    more (inr i) = inr i

-- what is among numbers below a count is below it
pub in-below_count : (count x : ℕ) (numbers : List NodeNo) → AreBelow count numbers
    → IsIn x numbers → x < count
in-below_count count x [] below is = absurd is
in-below_count count x (n ∷ numbers) (own, below) (inl e) =
    subst (λ (m : ℕ). m < count) (sym e) own
in-below_count count x (n ∷ numbers) (own, below) (inr is) =
    in-below_count count x numbers below is
