-- Rows that don't apply: they have no words.
use Rattle.std.proofs.Common.{◌≡◌, ℕ, Bool, true, false, if◌then◌else◌, List, [], ◌∷◌, ◌++◌, Option, Some, None, refl, ap, ◌∙◌}
use Rattle.std.specs.List.{flat_map, AllByRecursion}
use Rattle.flux_faults.specs.declared.faults.FaultKind.{FaultKind}
use Rattle.flux_syntax.specs.declared.declarations.Word.{Word}
use Rattle.flux_syntax.specs.Least.{Row, sooner, soonest, fault_or, first_fault}

some_soonest : (at : ℕ) (words : List Word) → soonest (Some at) words ≡ None → ⊥
some_soonest at [] e = absurd cc
some_soonest at (w ∷ words) e = some_soonest (sooner (Some at) w.at) words e

-- where there is no least place there are no words
pub none_soonest : (words : List Word) → soonest None words ≡ None → words ≡ []
none_soonest [] e = refl
none_soonest (w ∷ words) e = absurd (some_soonest w.at words e)

-- where there is no least fault the first row doesn't apply, nor do the others
pub no_fault : (kind : FaultKind) (place : Option ℕ) (other : Option (FaultKind × ℕ)) → fault_or kind place other ≡ None → (place ≡ None) × (other ≡ None)
no_fault kind None other e = (refl, e)
no_fault kind (Some at) other e = absurd cc

-- where no row of two lists applies, none of either does
pub none_of_both : (a b : List Row) → first_fault (a ++ b) ≡ None → (first_fault a ≡ None) × (first_fault b ≡ None)
none_of_both [] b e = (refl, e)
none_of_both (row ∷ a) b e =
    let both = no_fault row.0 (soonest None row.1) (first_fault (a ++ b)) e in
    let rest = none_of_both a b both.1 in
    (ap (λ (place : Option ℕ). fault_or row.0 place (first_fault a)) both.0 ∙ rest.0, rest.1)

-- two lists that are empty together
pub none_either : {A : Type 0} (a b : List A) → a ++ b ≡ [] → (a ≡ []) × (b ≡ [])
none_either [] b e = (refl, e)
none_either (x ∷ a) b e = absurd cc

-- rows of which none applies have no words
pub wordless : (rs : List Row) → first_fault rs ≡ None → AllByRecursion (λ row. row.1 ≡ []) rs
wordless [] e = tt
wordless (row ∷ rs) e =
    let both = no_fault row.0 (soonest None row.1) (first_fault rs) e in
    (none_soonest row.1 both.0, wordless rs both.1)

-- no words of all of them
pub none_each : {A : Type 0} (of : A → List Word) (xs : List A) → flat_map of xs ≡ [] → AllByRecursion (λ x. of x ≡ []) xs
none_each of [] e = tt
none_each of (x ∷ xs) e = let both = none_either (of x) (flat_map of xs) e in (both.0, none_each of xs both.1)

-- a word that is there where something doesn't hold
pub holds_unless : (t : Bool) (w : Word) → (if t then [] else w ∷ []) ≡ [] → t ≡ true
holds_unless true w e = refl
holds_unless false w e = absurd cc
