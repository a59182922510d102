-- The search for the end of a comment.
use Rattle.std.proofs.Common.{◌≡◌, ℕ, suc, ◌+◌, ◌≤◌, Bool, true, false, cond, List, [], ◌∷◌, length, Option, Some, None, refl, sym, ap, ◌∙◌, arith}
use Rattle.std.specs.Option.{option_map}
use Rattle.flux_lexer.specs.Pieces.{closes, close_of}

-- so many bytes have been looked at
pub record Sought (text rest : List ℕ) (at : ℕ) : Type 0 where
  pub within : at + length rest ≡ length text
  pub same : close_of text ≡ option_map (λ n. n + at) (close_of rest)

plus_zero : (o : Option ℕ) → o ≡ option_map (λ n. n + 0) o
plus_zero None = refl
plus_zero (Some n) = ap (λ (m : ℕ). Some m) (omega arith)

-- before the first byte
pub sought_none : (text : List ℕ) → Sought text text 0
sought_none text = record { within = omega arith; same = plus_zero (close_of text) }

later : (o : Option ℕ) (at : ℕ) → option_map (λ n. n + at) (option_map (λ n. suc n) o) ≡ option_map (λ n. n + (at + 1)) o
later None at = refl
later (Some n) at = ap (λ (m : ℕ). Some m) (omega arith)

-- one byte more that isn't the end
pub sought_next : (text : List ℕ) (b : ℕ) (rest : List ℕ) (at : ℕ) → Sought text (b ∷ rest) at → closes b rest ≡ false → Sought text rest (at + 1)
sought_next text b rest at s other = record {
  within = omega (arith, s.within);
  same = s.same ∙ ap (λ (t : Bool). option_map (λ n. n + at) (cond t (Some 0) (option_map (λ n. suc n) (close_of rest)))) other ∙ later (close_of rest) at;
}

-- the end is found
pub sought_found : (text : List ℕ) (rest : List ℕ) (at : ℕ) → Sought text (42 ∷ 47 ∷ rest) at → Some at ≡ close_of text
sought_found text rest at s = sym (s.same ∙ ap (λ (m : ℕ). Some m) (zero_plus at))
  where
    zero_plus : (n : ℕ) → 0 + n ≡ n
    zero_plus n = omega arith

-- there is no end
pub sought_end : (text : List ℕ) (rest : List ℕ) (at : ℕ) → Sought text rest at → length text ≤ at → None ≡ close_of text
sought_end text [] at s le = sym s.same
sought_end text (b ∷ rest) at s le = absurd (omega (arith, s.within))

-- what is found lies in the bytes
pub close_within : (bytes : List ℕ) (k : ℕ) → close_of bytes ≡ Some k → k + 2 ≤ length bytes
close_within [] k is = absurd cc
close_within (b ∷ bytes) k is = one (closes b bytes) refl (close_of bytes) refl (λ j e. close_within bytes j e)
  where
    begun : (bytes : List ℕ) → closes b bytes ≡ true → 1 ≤ length bytes
    begun [] e = absurd cc
    begun (c ∷ bytes) e = omega arith

    one : (t : Bool) → closes b bytes ≡ t → (o : Option ℕ) → close_of bytes ≡ o → ((j : ℕ) → close_of bytes ≡ Some j → j + 2 ≤ length bytes) → k + 2 ≤ length (b ∷ bytes)
    one true e o f more = let h : ◌≡◌ {A = Option ℕ} (Some 0) (Some k) = rw e at is in let same : 0 ≡ k = cc in omega (arith, same, begun bytes e)
    one false e None f more = let h : ◌≡◌ {A = Option ℕ} None (Some k) = rw (e, f) at is in absurd cc
    one false e (Some j) f more = let h : ◌≡◌ {A = Option ℕ} (Some (suc j)) (Some k) = rw (e, f) at is in let same : suc j ≡ k = cc in omega (arith, same, more j f)
