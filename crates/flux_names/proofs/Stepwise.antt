-- The least place of words, step by step.
use Rattle.std.proofs.Common.{◌≡◌, ◌<◌, ◌+◌, ℕ, Bool, true, false, not, List, [], ◌∷◌, length, get_or, drop, Option, refl, ◌∙◌}
use Rattle.std.specs.List.{filter, flat_map}
use Rattle.std.proofs.lemmas.List.{at_drop_more}
use Rattle.flux_syntax.specs.declared.declarations.Word.{Word}
use Rattle.flux_syntax.specs.Least.{soonest}
use Rattle.flux_syntax.specs.Words.{known}
use Rattle.flux_syntax.proofs.Soonest.{soonest_append}
use Rattle.flux_names.specs.steps.Picks.{picked}

-- one thing more of a list, each of which has words
pub soonest_more : {X : Type 0} (words : X → List Word) (place : Option ℕ) (xs : List X) (i : ℕ) (d : X) → i < length xs
    → soonest place (flat_map words (drop i xs)) ≡ soonest (soonest place (words (get_or xs i d))) (flat_map words (drop (i + 1) xs))
soonest_more words place xs i d lt =
    at_drop_more (λ ds. soonest place (flat_map words ds)) xs i d lt
    ∙ soonest_append place (words (get_or xs i d)) (flat_map words (drop (i + 1) xs))

-- a word more before those that pass a test
pub soonest_filter : (test : Word → Bool) (place : Option ℕ) (word : Word) (words : List Word)
    → soonest place (filter test (word ∷ words)) ≡ soonest (soonest place (filter test (word ∷ []))) (filter test words)
soonest_filter test place word words = one (test word) refl
  where
    one : (t : Bool) → test word ≡ t → soonest place (filter test (word ∷ words)) ≡ soonest (soonest place (filter test (word ∷ []))) (filter test words)
    one true e = rw e refl
    one false e = rw e refl

pub soonest_picked : (wanted : Bool) (names : List (List ℕ)) (place : Option ℕ) (word : Word) (words : List Word)
    → soonest place (picked wanted names (word ∷ words)) ≡ soonest (soonest place (picked wanted names (word ∷ []))) (picked wanted names words)
soonest_picked true names = soonest_filter (λ w. known names w.text)
soonest_picked false names = soonest_filter (λ w. not (known names w.text))
