-- Steps of the reader: values, one after another.
use Rattle.std.specs.Prelude.{◌≡◌, ℕ, ◌<◌, ◌≤◌, List, [], ◌∷◌, ◌++◌, length, map, take, drop, Bool, true, false}
use Rattle.flux_values.specs.declared.values.Kind.{Kind}
use Rattle.flux_values.specs.declared.values.Value.{Value}
use Rattle.flux_values.specs.Values.{kind_of}
use Rattle.flux_values.specs.Spellings.{BeginsSpelled}
use Rattle.flux_items.specs.declared.spellings.Next.{Next}
use Rattle.flux_items.specs.declared.spellings.Next.TheVariants as nexts
use Rattle.flux_items.specs.declared.spellings.ValuesRead.{ValuesRead}
use Rattle.flux_items.specs.declared.spellings.ValuesRead.TheVariants as reads
use Rattle.flux_items.specs.steps.Fronts.{past_blanks, Ends}

-- a value's spelling comes after blanks, and after it and blanks is the rest
pub record IsValueThen (value : Value) (text : List ℕ) (Then : List ℕ → Type 0) : Type 0 where
  pub n : ℕ
  pub begins : BeginsSpelled (past_blanks text) value n
  pub then_ : Then (past_blanks (drop n (past_blanks text)))

-- after a value: a comma and the next of these, or the end of the line where there are no more
abbrev pub Follow : List Value → List ℕ → Type 0
Follow [] rest = Ends rest
Follow (value ∷ values) rest = (rest ≡ 44 ∷ drop 1 rest) × IsValueThen value (drop 1 rest) (Follow values)

-- after `(`: these values up to the end of the line
abbrev pub Close : List Value → List ℕ → Type 0
Close [] text = Ends (past_blanks text)
Close (value ∷ values) text = IsValueThen value text (Follow values)

-- what the reader has of one value and what follows it
abbrev pub IsNext : List ℕ → Next → Type 0
IsNext text nexts.Bad = (value : Value) (values : List Value) → Close (value ∷ values) text → ⊥
IsNext text (nexts.Last value) = Close (value ∷ []) text
IsNext text (nexts.More value behind) =
    IsValueThen value text (λ rest. rest ≡ 44 ∷ behind.now) × (length behind.now < length text)

-- the values so far, kept where they may still be of the wanted kinds
abbrev pub IsKept : List Kind → List Value → List Value → Bool → Type 0
IsKept kinds all kept true =
    (kept ≡ all) × (length all ≤ length kinds) × (map kind_of all ≡ take (length all) kinds)
IsKept kinds all kept false = (more : List Value) → map kind_of (all ++ more) ≡ kinds → ⊥

-- all values of a line, if they have the wanted kinds
pub record HaveOtherKinds (kinds : List Kind) (text : List ℕ) : Type 0 where
  pub values : List Value
  pub close : Close values text
  pub other : map kind_of values ≡ kinds → ⊥

abbrev pub AreRead : List Kind → List ℕ → ValuesRead → Type 0
AreRead kinds text reads.Bad = (values : List Value) → Close values text → ⊥
AreRead kinds text reads.Other = HaveOtherKinds kinds text
AreRead kinds text (reads.These values) = Close values text × (map kind_of values ≡ kinds)

-- values that go on after some others
pub record GoesOn (all values : List Value) (rest : List ℕ) : Type 0 where
  pub value : Value
  pub more : List Value
  pub are : values ≡ all ++ value ∷ more
  pub close : Close (value ∷ more) rest

-- the values so far, and how the line goes on after them
pub record AreSoFar (kinds : List Kind) (text rest : List ℕ) (kept : List Value) (fits : Bool) : Type 0 where
  pub all : List Value
  pub keeps : IsKept kinds all kept fits
  pub on : (value : Value) (values : List Value) → Close (value ∷ values) rest
      → Close (all ++ value ∷ values) text
  pub only : (values : List Value) → Close values text → GoesOn all values rest
