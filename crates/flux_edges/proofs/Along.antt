-- The least places along arms and source lines are those of their rows.
use Rattle.std.proofs.Common.{◌≡◌, ℕ, suc, Bool, true, false, ◌||◌, not, if◌then◌else◌, List, [], ◌∷◌, ◌++◌, length, Option, Some, None, IsSome, refl, sym, ap, ◌∙◌, arith}
use Rattle.std.specs.List.{AllByRecursion}
use Rattle.std.specs.Option.{is_some}
use Rattle.flux_model.specs.declared.programs.Program.{Program}
use Rattle.flux_model.specs.declared.programs.SourceLine.{SourceLine}
use Rattle.flux_model.specs.declared.signatures.NodeSig.{NodeSig}
use Rattle.flux_model.specs.Soundness.{HasSession}
use Rattle.flux_syntax.specs.Least.{sooner}
use Rattle.flux_edges.specs.declared.handlers.Arm.{Arm}
use Rattle.flux_edges.specs.Places.{least_of, unless, sooner_of}
use Rattle.flux_edges.specs.Handlers.{is_like, unlike_arms}
use Rattle.flux_edges.specs.Sessions.{needs_session}
use Rattle.flux_edges.specs.Unserved.{IsNeeded, is_served, unserved}
use Rattle.flux_edges.specs.steps.Marking.{arms_along, lines_along}

one_more : (t : Bool) (at : ℕ) (place : Option ℕ) (places : List ℕ) → least_of (sooner_of t at place) places ≡ least_of place (unless t at ++ places)
one_more true at place places = refl
one_more false at place places = refl

-- arm after arm
pub arms_least : (sigs : ℕ → NodeSig) (place : Option ℕ) (arms : List Arm) (sites : List ℕ) → arms_along sigs place arms sites ≡ least_of place (unlike_arms sigs arms sites)
arms_least sigs place [] sites = refl
arms_least sigs place (arm ∷ arms) [] = refl
arms_least sigs place (arm ∷ arms) (at ∷ sites) = arms_least sigs (sooner_of (is_like sigs arm) at place) arms sites ∙ one_more (is_like sigs arm) at place (unlike_arms sigs arms sites)

-- line after line
pub lines_least : (needs : ℕ → Bool) (place : Option ℕ) (lines : List SourceLine) (sites : List ℕ) → lines_along needs place lines sites ≡ least_of place (unserved needs lines sites)
lines_least needs place [] sites = refl
lines_least needs place (line ∷ lines) [] = refl
lines_least needs place (line ∷ lines) (at ∷ sites) = lines_least needs (sooner_of (is_served needs line) at place) lines sites ∙ one_more (is_served needs line) at place (unserved needs lines sites)

-- ---- no place

some_least : (at : ℕ) (places : List ℕ) → least_of (Some at) places ≡ None → ⊥
some_least at [] e = absurd cc
some_least at (other ∷ places) e = some_least (sooner (Some at) other) places e

-- where there is no least place there is no place
pub none_least : (places : List ℕ) → least_of None places ≡ None → places ≡ []
none_least [] e = refl
none_least (at ∷ places) e = absurd (some_least at places e)

served_all : (needs : ℕ → Bool) (lines : List SourceLine) (sites : List ℕ) → length sites ≡ length lines → unserved needs lines sites ≡ [] → AllByRecursion (λ line. is_served needs line ≡ true) lines
served_all needs [] sites many none = tt
served_all needs (line ∷ lines) [] many none = absurd (omega (arith, many))
served_all needs (line ∷ lines) (at ∷ sites) many none = one (is_served needs line) refl none (served_all needs lines sites (omega (arith, many)))
  where
    one : (t : Bool) → is_served needs line ≡ t → unless t at ++ unserved needs lines sites ≡ [] → (unserved needs lines sites ≡ [] → AllByRecursion (λ line. is_served needs line ≡ true) lines)
        → AllByRecursion (λ line. is_served needs line ≡ true) (line ∷ lines)
    one true e none others = (e, others none)
    one false e none others = absurd cc

module _ (p : Program) (law : (number : ℕ) → IsNeeded p number → needs_session p number ≡ true) where
  has_one : (line : SourceLine) → is_served (needs_session p) line ≡ true → HasSession p line
  has_one line served node reached declares =
      let target = line.target in
      one line.session (law target.0 (record { node = node; reached = reached; declares = declares })) served
    where
      one : (session : Option (List ℕ)) → (let target = line.target in needs_session p target.0 ≡ true) → (let target = line.target in (is_some session || not (needs_session p target.0)) ≡ true) → IsSome session
      one (Some function) needs served = refl
      one None needs served = let h : ◌≡◌ {A = Bool} false true = rw needs at served in absurd cc

  has_all : (lines : List SourceLine) → AllByRecursion (λ line. is_served (needs_session p) line ≡ true) lines → AllByRecursion (HasSession p) lines
  has_all [] all = tt
  has_all (line ∷ lines) all = (has_one line all.0, has_all lines all.1)

  -- where the row doesn't apply each source has the session that it needs
  pub all_served : (lines : List SourceLine) (sites : List ℕ) → length sites ≡ length lines → least_of None (unserved (needs_session p) lines sites) ≡ None → AllByRecursion (HasSession p) lines
  all_served lines sites many none = has_all lines (served_all (needs_session p) lines sites many (none_least (unserved (needs_session p) lines sites) none))
