-- What a node reads of its cell is a value, and a node may put into the cell that it writes.
use Rattle.std.proofs.Common.{◌≡◌, ◌≤◌, ◌<◌, ℕ, ◌&&◌, leb, ltb, Bool, true, false, List, [], ◌∷◌, length, Option, Some, None, IfSome, refl, arith, get_or, suc}
use Rattle.std.specs.List.{AllByRecursion, list_all}
use Rattle.std.specs.FinMap.{get}
use Rattle.std.proofs.lemmas.Bool.{leb-true}
use Rattle.std.proofs.lemmas.Bool.Decides.{nat_tests}
use Rattle.std.proofs.lemmas.List.Elements.{All-from_recursion}
use Rattle.flux_values.specs.Cells.{CellMap}
use Rattle.flux_values.specs.declared.values.Value.{Value}
use Rattle.flux_values.specs.declared.values.Value.TheVariants as values
use Rattle.flux_values.specs.declared.answers.Mode.TheVariants.{Writer}
use Rattle.flux_values.specs.Reading.{IsValue}
use Rattle.flux_library.specs.Libraries.{IsWrite}
use Rattle.flux_library.specs.Signatures.{uses}
use Rattle.nodes_shortener.specs.Arguments.{fits}
use Rattle.nodes_shortener.specs.Cells.{number_or_zero, number_under, is_text, text_of, text_under}
use Rattle.nodes_shortener.specs.laws.Arguments.{fits_sound, zero_valid}

and_left : (a b : Bool) → (a && b) ≡ true → a ≡ true
and_left true b e = refl
and_left false b e = absurd cc

and_right : (a b : Bool) → (a && b) ≡ true → b ≡ true
and_right true b e = e
and_right false b e = absurd cc

bytes_small : (t : List ℕ) → list_all (λ byte. ltb byte 256) t ≡ true → AllByRecursion (λ (b : ℕ). b < 256) t
bytes_small [] e = tt
bytes_small (b ∷ t) e =
    let first : ltb b 256 ≡ true = and_left (ltb b 256) (list_all (λ byte. ltb byte 256) t) e in
    (grind (arith, nat_tests), bytes_small t (and_right (ltb b 256) (list_all (λ byte. ltb byte 256) t) e))

text_sound : (t : List ℕ) → is_text t ≡ true → IsValue (values.Text t)
text_sound t e = (
  All-from_recursion (λ (b : ℕ). b < 256) t (bytes_small t (and_right (leb (length t) 65536) (list_all (λ byte. ltb byte 256) t) e)),
  leb-true (length t) 65536 (and_left (leb (length t) 65536) (list_all (λ byte. ltb byte 256) t) e),
)

text_of_valid : (value : Option Value) → IfSome (text_of value) (λ text. IsValue (values.Text text))
text_of_valid None = tt
text_of_valid (Some (values.Int z)) = tt
text_of_valid (Some (values.Bool b)) = tt
text_of_valid (Some (values.Text t)) = cases (is_text t) refl
  where
    cases : (a : Bool) → is_text t ≡ a → IfSome (text_of (Some (values.Text t))) (λ text. IsValue (values.Text text))
    cases true p = rw p (text_sound t p)
    cases false p = rw p tt

number_of_valid : (value : Option Value) → IsValue (values.Int (number_or_zero value))
number_of_valid None = zero_valid
number_of_valid (Some (values.Bool b)) = zero_valid
number_of_valid (Some (values.Text t)) = zero_valid
number_of_valid (Some (values.Int z)) = cases (fits z) refl
  where
    cases : (a : Bool) → fits z ≡ a → IsValue (values.Int (number_or_zero (Some (values.Int z))))
    cases true p = rw p (fits_sound z p)
    cases false p = rw p zero_valid

-- the number under a name is a value
pub number_under_valid : (cells : List CellMap) (name : List ℕ) → IsValue (values.Int (number_under cells name))
number_under_valid [] name = zero_valid
number_under_valid (cell ∷ []) name = number_of_valid (get cell name)
number_under_valid (cell ∷ next ∷ cells) name = zero_valid

-- the text under a name is a value
pub text_under_valid : (cells : List CellMap) (name : List ℕ)
    → IfSome (text_under cells name) (λ text. IsValue (values.Text text))
text_under_valid [] name = tt
text_under_valid (cell ∷ []) name = text_of_valid (get cell name)
text_under_valid (cell ∷ next ∷ cells) name = tt

all_bytes : (t : List ℕ) → ((i : ℕ) → get_or t i 0 < 256) → list_all (λ byte. ltb byte 256) t ≡ true
all_bytes [] each = refl
all_bytes (b ∷ t) each =
    let first : ltb b 256 ≡ true = let h = each 0 in grind (arith, nat_tests) in
    rw (first, all_bytes t (λ i. each (suc i))) refl

-- bytes that are short enough are a text
pub is_text_of_bytes : (t : List ℕ) → length t ≤ 65536 → ((i : ℕ) → get_or t i 0 < 256) → is_text t ≡ true
is_text_of_bytes t le each =
    let short : leb (length t) 65536 ≡ true = grind (arith, nat_tests) in
    rw (short, all_bytes t each) refl

-- a put under any name is on the one cell that a node writes
pub writes : (cell name : List ℕ) (value : Option Value)
    → IsWrite (uses cell Writer) (record { cell = cell; name = name; value = value })
writes cell name value = record {
  use_ = record { name = cell; mode = Writer };
  before = [];
  after = [];
  among = refl;
  name = refl;
  mode = refl;
}
