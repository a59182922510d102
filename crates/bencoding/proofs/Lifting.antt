-- A place where a part stops is one where the whole does.
use Rattle.std.proofs.Common.{◌≡◌, ℕ, zero, suc, ◌+◌, ◌<◌, ◌≤◌, List, [], ◌∷◌, ◌++◌, length, take, drop, refl, sym, ap, ◌∙◌, arith, subst, append_assoc, take-add, length-drop, eq-zero-or-pos, inl, inr}
use Rattle.bencoding.specs.steps.Places.{CanGrow, Follows, IsStuck}

-- a part of the set is at the front
pub record Cut (L : List ℕ → Type 0) (y : List ℕ) : Type 0 where
  pub part : List ℕ
  pub left : List ℕ
  pub is : L part
  pub laid : y ≡ part ++ left

behind : (rest y : List ℕ) (more : ℕ) → Follows (drop more rest) y → Follows rest (take more rest ++ y)
behind [] y zero follows = follows
behind [] y (suc more) follows = follows
behind (b ∷ rest) y zero follows = follows
behind (b ∷ rest) y (suc more) follows = refl

drop_none : (n : ℕ) → drop {A = ℕ} n [] ≡ []
drop_none zero = refl
drop_none (suc n) = refl

drop_on : (at more : ℕ) (xs : List ℕ) → drop more (drop at xs) ≡ drop (at + more) xs
drop_on zero more xs = let same : more ≡ 0 + more = omega arith in ap (λ n. drop n xs) same
drop_on (suc at) more [] = drop_none more ∙ sym (drop_none (suc at + more))
drop_on (suc at) more (x ∷ xs) = let same : suc (at + more) ≡ suc at + more = omega arith in
    drop_on at more xs ∙ ap (λ n. drop n (x ∷ xs)) same

pub lift : (L M : List ℕ → Type 0) (bytes : List ℕ) (at more : ℕ) → at ≤ length bytes → IsStuck L (drop at bytes) more
    → (0 < at → CanGrow M (take at bytes))
    → ((s : List ℕ) → L s → CanGrow M (take at bytes ++ s))
    → ((y z s : List ℕ) → M s → Follows (drop at bytes) y → take at bytes ++ y ≡ s ++ z → Cut L y)
    → IsStuck M bytes (at + more)
lift L M bytes at more within stuck start grow cut = record {
  within = omega (arith, within, stuck.within, length-drop at bytes);
  grows = grows;
  stops = λ y z s m follows e.
      let rest = drop at bytes in
      let front : take at bytes ++ (take more rest ++ y) ≡ s ++ z =
      sym (append_assoc (take at bytes) (take more rest) y) ∙ ap (λ l. l ++ y) (sym (take-add at more bytes)) ∙ e in
      let follows_ : Follows (drop more rest) y = subst (λ l. Follows l y) (sym (drop_on at more bytes)) follows in
      let c = cut (take more rest ++ y) z s m (behind rest y more follows_) front in
      stuck.stops y c.left c.part c.is follows_ c.laid;
}
  where
    on : CanGrow L (take more (drop at bytes)) → CanGrow M (take (at + more) bytes)
    on part =
        let g = grow (take more (drop at bytes) ++ part.more) part.grown in
        record {
          more = part.more ++ g.more;
          grown = subst M
              (ap (λ l. l ++ g.more) (sym (append_assoc (take at bytes) (take more (drop at bytes)) part.more))
              ∙ append_assoc (take at bytes ++ take more (drop at bytes)) part.more g.more
              ∙ ap (λ l. l ++ (part.more ++ g.more)) (sym (take-add at more bytes)))
              g.grown;
        }

    grows : 0 < at + more → CanGrow M (take (at + more) bytes)
    grows some = elim (eq-zero-or-pos more) as (λ _. CanGrow M (take (at + more) bytes)) [
      | inl none ↦ subst (λ n. CanGrow M (take n bytes)) (omega (arith, none)) (start (omega (arith, some, none)))
      | inr above ↦ on (stuck.grows above)
    ]

-- at the beginning
pub widen : (L M : List ℕ → Type 0) (bytes : List ℕ) (at : ℕ) → IsStuck L bytes at → ((s : List ℕ) → L s → CanGrow M s)
    → ((y z s : List ℕ) → M s → Follows bytes y → y ≡ s ++ z → Cut L y) → IsStuck M bytes at
widen L M bytes at stuck grow cut =
    subst (IsStuck M bytes) (omega arith)
    (lift L M bytes 0 at (omega arith) stuck (λ some. absurd (omega arith)) grow cut)
