-- The piece at the front of a text's bytes: what it spells, and where none goes on.
use Rattle.std.proofs.Common.{◌≡◌, ℕ, ◌+◌, ◌*◌, ◌<◌, ◌≤◌, false, eqb, ltb, List, [], ◌∷◌, ◌++◌, length, take, slice_get, get_or, zero, suc, Option, Some, None, refl, sym, ap, ◌∙◌, arith, subst}
use Rattle.std.specs.Char.{digit_value}
use Rattle.std.proofs.lemmas.Bool.{cond_both, eqb-true}
use Rattle.std.proofs.lemmas.Bool.Decides.{nat_tests}
use Rattle.flux_spelling.specs.declared.reading.Piece.{Piece}
use Rattle.flux_spelling.specs.declared.reading.Piece.TheVariants.{Spells, Stops}
use Rattle.flux_values.specs.Spellings.{escaped, SpellsByte}
use Rattle.flux_spelling.specs.steps.Pieces.{digit_in, pair_of, hexadecimal_of, letter_of, escape_of, piece_of}

-- ---- a piece is found at the front

digit_is : (b : ℕ) → digit_value b < 16 → digit_in (Some b) ≡ Some (digit_value b)
digit_is b lt = cond_both (ltb (digit_value b) 16) (Some (digit_value b)) None (λ (o : Option ℕ). o ≡ Some (digit_value b)) (λ e. refl) (λ e. absurd (let no : 16 ≤ digit_value b = grind (arith, nat_tests) in omega arith))

letter_is : (letter b : ℕ) (x : List ℕ) → escaped letter ≡ Some b → escape_of (letter ∷ x) ≡ Spells b 2
letter_is letter b x is = cond_both (eqb letter 120) (hexadecimal_of x) (letter_of (escaped letter)) (λ (p : Piece). p ≡ Spells b 2)
    (λ e. absurd (let none : None ≡ Some b = subst (λ (l : ℕ). escaped l ≡ Some b) (eqb-true letter 120 e) is in cc))
    (λ e. ap letter_of is)

raw_is : (raw b : ℕ) (x : List ℕ) → SpellsByte (raw ∷ []) b → piece_of (raw ∷ x) ≡ Spells b 1
raw_is raw b x s = cond_both (eqb raw 92) (escape_of x) _ (λ (p : Piece). p ≡ Spells b 1)
    (λ e. absurd (s.2 (eqb-true raw 92 e)))
    (λ e. cond_both (eqb raw 34) (Stops 0) _ (λ (p : Piece). p ≡ Spells b 1)
    (λ f. absurd (s.1 (eqb-true raw 34 f)))
    (λ f. cond_both (eqb raw 10) (Stops 0) (Spells raw 1) (λ (p : Piece). p ≡ Spells b 1)
    (λ g. absurd (s.3 (eqb-true raw 10 g)))
    (λ g. ap (λ (r : ℕ). Spells r 1) s.0)))

pub spells_is : (p x : List ℕ) (b : ℕ) → SpellsByte p b → piece_of (p ++ x) ≡ Spells b (length p)
spells_is [] x b s = absurd s
spells_is (raw ∷ []) x b s = raw_is raw b x s
spells_is (mark ∷ letter ∷ []) x b s = rw s.0 (letter_is letter b x s.1)
spells_is (mark ∷ letter ∷ high ∷ []) x b s = absurd s
spells_is (mark ∷ letter ∷ high ∷ low ∷ []) x b s = rw (s.0, s.1, s.4) (rw (digit_is high s.2, digit_is low s.3) refl)
spells_is (mark ∷ letter ∷ high ∷ low ∷ other ∷ rest) x b s = absurd s

-- ---- what is found is a piece

pub record IsPiece (x : List ℕ) (b n : ℕ) : Type 0 where
  pub some : 0 < n
  pub within : n ≤ length x
  pub spells : SpellsByte (take n x) b

digit_back : (o : Option ℕ) (d b : ℕ) → o ≡ Some b → digit_in o ≡ Some d → (digit_value b < 16) × (digit_value b ≡ d)
digit_back o d b is e = cond_both (ltb (digit_value b) 16) (Some (digit_value b)) None (λ (r : Option ℕ). r ≡ Some d → (digit_value b < 16) × (digit_value b ≡ d))
    (λ t f. (grind (arith, nat_tests), cc)) (λ t f. absurd cc) (sym (ap digit_in is) ∙ e)

pair_back : (first second : Option ℕ) (b n : ℕ) → pair_of first second ≡ Spells b n → (high : ℕ) × ((low : ℕ) × ((first ≡ Some high) × (second ≡ Some low) × (b ≡ 16 * high + low) × (n ≡ 4)))
pair_back None second b n e = absurd cc
pair_back (Some high) None b n e = absurd cc
pair_back (Some high) (Some low) b n e = (high, (low, (refl, refl, cc, cc)))

hexadecimal_back : (x : List ℕ) (b n : ℕ) → hexadecimal_of x ≡ Spells b n → IsPiece (92 ∷ 120 ∷ x) b n
hexadecimal_back [] b n e = absurd cc
hexadecimal_back (high ∷ []) b n e = let p = pair_back (digit_in (Some high)) None b n e in absurd (let no = p.1.1.1 in cc)
hexadecimal_back (high ∷ low ∷ x) b n e =
    let p = pair_back (digit_in (Some high)) (digit_in (Some low)) b n e in
    let h = digit_back (Some high) p.0 high refl p.1.1.0 in
    let l = digit_back (Some low) p.1.0 low refl p.1.1.1 in
    record { some = omega (arith, p.1.1.3); within = omega (arith, p.1.1.3); spells = subst (λ (m : ℕ). SpellsByte (take m (92 ∷ 120 ∷ high ∷ low ∷ x)) b) (sym p.1.1.3) (refl, refl, h.0, l.0, p.1.1.2 ∙ cc (h.1, l.1)) }

letter_back : (o : Option ℕ) (b n : ℕ) → letter_of o ≡ Spells b n → (o ≡ Some b) × (n ≡ 2)
letter_back None b n e = absurd cc
letter_back (Some c) b n e = (cc, cc)

escape_back : (x : List ℕ) (b n : ℕ) → escape_of x ≡ Spells b n → IsPiece (92 ∷ x) b n
escape_back [] b n e = absurd cc
escape_back (letter ∷ x) b n e = cond_both (eqb letter 120) (hexadecimal_of x) (letter_of (escaped letter)) (λ (p : Piece). p ≡ Spells b n → IsPiece (92 ∷ letter ∷ x) b n)
    (λ t f. rw (eqb-true letter 120 t) (hexadecimal_back x b n f))
    (λ t f. let l = letter_back (escaped letter) b n f in record { some = omega (arith, l.1); within = omega (arith, l.1); spells = rw l.1 (refl, l.0) }) e

raw_back : (h b n : ℕ) (x : List ℕ) → eqb h 92 ≡ false → eqb h 34 ≡ false → eqb h 10 ≡ false → Spells h 1 ≡ Spells b n → IsPiece (h ∷ x) b n
raw_back h b n x slash quote lf e =
    let one : n ≡ 1 = cc in
    let same : h ≡ b = cc in
    record { some = omega arith; within = omega arith; spells = subst (λ (m : ℕ). SpellsByte (take m (h ∷ x)) b) (sym one) (same, grind (arith, nat_tests), grind (arith, nat_tests), grind (arith, nat_tests)) }

pub piece_back : (x : List ℕ) (b n : ℕ) → piece_of x ≡ Spells b n → IsPiece x b n
piece_back [] b n e = absurd cc
piece_back (h ∷ x) b n e = cond_both (eqb h 92) (escape_of x) _ (λ (p : Piece). p ≡ Spells b n → IsPiece (h ∷ x) b n)
    (λ t f. rw (eqb-true h 92 t) (escape_back x b n f))
    (λ t f. cond_both (eqb h 34) (Stops 0) _ (λ (p : Piece). p ≡ Spells b n → IsPiece (h ∷ x) b n)
    (λ q g. absurd cc)
    (λ q g. cond_both (eqb h 10) (Stops 0) (Spells h 1) (λ (p : Piece). p ≡ Spells b n → IsPiece (h ∷ x) b n)
    (λ r k. absurd cc)
    (λ r k. raw_back h b n x t q r k) g) f) e

-- ---- where none goes on

-- a piece can begin with so many of the bytes, and nothing that goes on with one more has a piece
pub record HasStopped (x : List ℕ) (k : ℕ) : Type 0 where
  pub within : k ≤ length x
  pub more : List ℕ
  pub byte : ℕ
  pub small : byte < 256
  pub goes : SpellsByte (take k x ++ more) byte
  pub stuck : (y : List ℕ) → k < length x → piece_of (take (k + 1) x ++ y) ≡ Stops k

raw_stops : (h : ℕ) (x : List ℕ) → ((y : List ℕ) → piece_of (h ∷ y) ≡ Stops 0) → HasStopped (h ∷ x) 0
raw_stops h x is = record { within = omega arith; more = 97 ∷ []; byte = 97; small = omega arith; goes = (refl, omega arith, omega arith, omega arith); stuck = λ y lt. is y }

first_stuck : (x y : List ℕ) → digit_in (slice_get x 0) ≡ None → 2 < length (92 ∷ 120 ∷ x) → piece_of (take 3 (92 ∷ 120 ∷ x) ++ y) ≡ Stops 2
first_stuck [] y none lt = absurd (omega arith)
first_stuck (h ∷ x) y none lt = ap (λ (o : Option ℕ). pair_of o (digit_in (slice_get (h ∷ y) 1))) none

first_stops : (x : List ℕ) → (digit_in (slice_get x 0) ≡ None) → HasStopped (92 ∷ 120 ∷ x) 2
first_stops x none = record { within = omega arith; more = 48 ∷ 48 ∷ []; byte = 0; small = omega arith; goes = (refl, refl, omega arith, omega arith, refl); stuck = λ y lt. first_stuck x y none lt }

second_stuck : (high : ℕ) (x y : List ℕ) (d : ℕ) → digit_in (Some high) ≡ Some d → digit_in (slice_get x 0) ≡ None → 3 < length (92 ∷ 120 ∷ high ∷ x) → piece_of (take 4 (92 ∷ 120 ∷ high ∷ x) ++ y) ≡ Stops 3
second_stuck high [] y d is none lt = absurd (omega arith)
second_stuck high (low ∷ x) y d is none lt = ap (λ (o : Option ℕ). pair_of o (digit_in (Some low))) is ∙ ap (pair_of (Some d)) none

second_stops : (high : ℕ) (x : List ℕ) (d : ℕ) → digit_in (Some high) ≡ Some d → digit_in (slice_get x 0) ≡ None → HasStopped (92 ∷ 120 ∷ high ∷ x) 3
second_stops high x d is none =
    let h = digit_back (Some high) d high refl is in
    record { within = omega arith; more = 48 ∷ []; byte = 16 * digit_value high; small = omega (arith, h.0); goes = (refl, refl, h.0, omega arith, omega arith); stuck = λ y lt. second_stuck high x y d is none lt }

by_second : (high : ℕ) (x : List ℕ) (d : ℕ) (second : Option ℕ) (k : ℕ) → digit_in (Some high) ≡ Some d → digit_in (slice_get x 0) ≡ second → pair_of (Some d) second ≡ Stops k → HasStopped (92 ∷ 120 ∷ high ∷ x) k
by_second high x d None k is none e = let three : 3 ≡ k = cc in subst (HasStopped (92 ∷ 120 ∷ high ∷ x)) three (second_stops high x d is none)
by_second high x d (Some low) k is some e = absurd cc

by_first : (high : ℕ) (x : List ℕ) (first : Option ℕ) (k : ℕ) → digit_in (Some high) ≡ first → pair_of first (digit_in (slice_get x 0)) ≡ Stops k → HasStopped (92 ∷ 120 ∷ high ∷ x) k
by_first high x None k none e = let two : 2 ≡ k = cc in subst (HasStopped (92 ∷ 120 ∷ high ∷ x)) two (first_stops (high ∷ x) none)
by_first high x (Some d) k is e = by_second high x d (digit_in (slice_get x 0)) k is refl e

hexadecimal_stops : (x : List ℕ) (k : ℕ) → hexadecimal_of x ≡ Stops k → HasStopped (92 ∷ 120 ∷ x) k
hexadecimal_stops [] k e = let two : 2 ≡ k = cc in subst (HasStopped (92 ∷ 120 ∷ [])) two (first_stops [] refl)
hexadecimal_stops (high ∷ x) k e = by_first high x (digit_in (Some high)) k refl e

letter_stuck : (letter : ℕ) (y : List ℕ) → eqb letter 120 ≡ false → escaped letter ≡ None → piece_of (92 ∷ letter ∷ y) ≡ Stops 1
letter_stuck letter y other none = rw other (ap letter_of none)

letter_stops : (letter : ℕ) (x : List ℕ) (o : Option ℕ) (k : ℕ) → eqb letter 120 ≡ false → escaped letter ≡ o → letter_of o ≡ Stops k → HasStopped (92 ∷ letter ∷ x) k
letter_stops letter x None k other none e = let one : 1 ≡ k = cc in subst (HasStopped (92 ∷ letter ∷ x)) one (record { within = omega arith; more = 110 ∷ []; byte = 10; small = omega arith; goes = (refl, refl); stuck = λ y lt. letter_stuck letter y other none })
letter_stops letter x (Some b) k other some e = absurd cc

escape_stops : (x : List ℕ) (k : ℕ) → escape_of x ≡ Stops k → HasStopped (92 ∷ x) k
escape_stops [] k e = let one : 1 ≡ k = cc in subst (HasStopped (92 ∷ [])) one (record { within = omega arith; more = 110 ∷ []; byte = 10; small = omega arith; goes = (refl, refl); stuck = λ y lt. absurd (omega arith) })
escape_stops (letter ∷ x) k e = cond_both (eqb letter 120) (hexadecimal_of x) (letter_of (escaped letter)) (λ (p : Piece). p ≡ Stops k → HasStopped (92 ∷ letter ∷ x) k)
    (λ t f. subst (λ (l : ℕ). HasStopped (92 ∷ l ∷ x) k) (sym (eqb-true letter 120 t)) (hexadecimal_stops x k f))
    (λ t f. letter_stops letter x (escaped letter) k t refl f) e

-- where no piece is found, none goes on
pub piece_stops : (x : List ℕ) (k : ℕ) → piece_of x ≡ Stops k → HasStopped x k
piece_stops [] k e = let none : 0 ≡ k = cc in subst (HasStopped []) none (record { within = omega arith; more = 97 ∷ []; byte = 97; small = omega arith; goes = (refl, omega arith, omega arith, omega arith); stuck = λ y lt. absurd (omega arith) })
piece_stops (h ∷ x) k e = cond_both (eqb h 92) (escape_of x) _ (λ (p : Piece). p ≡ Stops k → HasStopped (h ∷ x) k)
    (λ t f. subst (λ (b : ℕ). HasStopped (b ∷ x) k) (sym (eqb-true h 92 t)) (escape_stops x k f))
    (λ t f. cond_both (eqb h 34) (Stops 0) _ (λ (p : Piece). p ≡ Stops k → HasStopped (h ∷ x) k)
    (λ q g. let none : 0 ≡ k = cc in subst (HasStopped (h ∷ x)) none (raw_stops h x (λ y. rw (t, q) refl)))
    (λ q g. cond_both (eqb h 10) (Stops 0) (Spells h 1) (λ (p : Piece). p ≡ Stops k → HasStopped (h ∷ x) k)
    (λ r j. let none : 0 ≡ k = cc in subst (HasStopped (h ∷ x)) none (raw_stops h x (λ y. rw (t, q, r) refl)))
    (λ r j. absurd cc) g) f) e

-- ---- the reader's steps

get_there : (xs : List ℕ) (k d : ℕ) → k < length xs → slice_get xs k ≡ Some (get_or xs k d)
get_there [] k d lt = absurd (omega arith)
get_there (x ∷ xs) zero d lt = refl
get_there (x ∷ xs) (suc k) d lt = get_there xs k d (omega arith)

-- a digit that is at a place is found there
pub digit_found : (xs : List ℕ) (k b code d : ℕ) → k < length xs → b ≡ get_or xs k b → code ≡ b → digit_value code < 16 → d ≡ digit_value code → Some d ≡ digit_in (slice_get xs k)
digit_found xs k b code d lt at same small is =
    ap Some (is ∙ ap digit_value same) ∙ sym (ap digit_in (get_there xs k b lt ∙ ap Some (sym at)) ∙ digit_is b (subst (λ (c : ℕ). digit_value c < 16) same small))
