-- The lines of a load's items.
use Rattle.std.proofs.Common.{◌≡◌, ◌<◌, ◌+◌, ◌*◌, ◌%◌, ℕ, zero, suc, false, List, [], ◌∷◌, ◌++◌, codes, decimal, refl, sym, ap, subst, ◌∙◌, arith, append_assoc}
use Rattle.std.specs.List.{AllByRecursion}
use Rattle.std.proofs.lemmas.Bool.Decides.{nat_tests}
use Rattle.std.proofs.lemmas.Fmt.{decimal_digit}
use Rattle.std.proofs.lemmas.List.Elements.{All-from_recursion}
use Rattle.std.proofs.lemmas.List.Splits.{slice_split_at}
use Rattle.flux_items.specs.Lines.{is_line_end, lines_of}
use Rattle.flux_load.specs.Loads.{item_line, items_text}

-- the number of the item at a place
abbrev pub number_at : ℕ → ℕ → ℕ
number_at first place = (first + 7 * place) % 10

-- its line, without the LF
abbrev pub body : ℕ → List ℕ
body number = codes "Tick (" ++ decimal number ++ codes ")"

-- the lines of so many items
abbrev pub bodies : ℕ → ℕ → List (List ℕ)
bodies zero first = []
bodies (suc count) first = bodies count first ++ body (number_at first count) ∷ []

abbrev HasNoEnd : List ℕ → Type 0
HasNoEnd line = AllByRecursion (λ b. is_line_end b ≡ false) line

no_end : (number : ℕ) → is_line_end (48 + number) ≡ false
no_end number = grind (arith, nat_tests)

one_line : (number : ℕ) → number < 10 → HasNoEnd (body number)
one_line number lt =
    subst (λ (digits : List ℕ). HasNoEnd (codes "Tick (" ++ digits ++ codes ")")) (sym (decimal_digit number lt))
    (refl, (refl, (refl, (refl, (refl, (refl, (no_end number, (refl, tt))))))))

-- a number is one digit
pub one_digit : (first place : ℕ) → number_at first place < 10
one_digit first place = omega arith

line_first : (first place : ℕ) (rest : List ℕ)
    → lines_of (item_line first place ++ rest) ≡ body (number_at first place) ∷ lines_of rest
line_first first place rest = let number = number_at first place in
    ap (λ (l : List ℕ). lines_of (codes "Tick (" ++ l))
    (append_assoc (decimal number) (codes ")\n") rest ∙ sym (append_assoc (decimal number) (codes ")") (10 ∷ rest)))
    ∙ slice_split_at is_line_end (body number) 10 rest
    (All-from_recursion (λ (b : ℕ). is_line_end b ≡ false) (body number) (one_line number (one_digit first place))) refl

-- the lines of the items, and of what comes after them
pub lines_are : (count first : ℕ) (rest : List ℕ)
    → lines_of (items_text count first ++ rest) ≡ bodies count first ++ lines_of rest
lines_are zero first rest = refl
lines_are (suc count) first rest =
    ap lines_of (append_assoc (items_text count first) (item_line first count) rest)
    ∙ lines_are count first (item_line first count ++ rest)
    ∙ ap (λ (ls : List (List ℕ)). bodies count first ++ ls) (line_first first count rest)
    ∙ sym (append_assoc (bodies count first) (body (number_at first count) ∷ []) (lines_of rest))
