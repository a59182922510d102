-- Tables that fit the shared core's rule, and some that don't.
use Rattle.std.specs.Prelude.{◌==◌, if◌then◌else◌}
use Rattle.std.proofs.Common.{◌≡◌, ℕ, ◌+◌, ◌≤◌, zero, suc, Bool, true, false, List, [], ◌∷◌, length, Option, Some, None, refl, ap, sym, subst, ◌∙◌, get_or, arith}
use Rattle.std.proofs.lemmas.List.{length-append}
use Rattle.std.proofs.lemmas.Bool.{eq-eqb, true≢false}
use mathlib.Core.Option as slots
use mathlib.Core.Option.{some, none, some-injective, some-ne-none}
use lib.ListN.{get_elem?}
use Rattle.flow_model.specs.declared.journals.Entry.{Entry}
use Rattle.flow_core.specs.States.{CoreState}
use Rattle.flow_shared.specs.Journals.{BeginsWith, ArePlacesOf}
use Rattle.flow_shared.specs.declared.views.View.{View}
use Rattle.flow_shared.specs.declared.views.View.TheVariants.{Spent}
use Rattle.flow_shared.specs.Rule.{FitsView}
use Rattle.flow_shared.specs.Examples.{seat, IsNext, RuleFits}
use Rattle.flow_shared.proofs.Journals.{begins-none, begins-long, places-alone, places-settled}

module _ {L : Type 0} where
  all-more : (core : CoreState L) (latest : List Entry) (first : View L) (views : List (View L))
      → FitsView core latest first
      → ((seat : ℕ) (view : View L) → get_elem? views seat ≡ some view → FitsView core latest view)
      → (seat : ℕ) (view : View L) → get_elem? (first ∷ views) seat ≡ some view → FitsView core latest view
  all-more core latest first views fits all zero view at =
      subst (FitsView core latest) (some-injective first view at) fits
  all-more core latest first views fits all (suc seat) view at = all seat view at

  all-none : (core : CoreState L) (latest : List Entry) (seat : ℕ) (view : View L) → get_elem? [] seat ≡ some view
      → FitsView core latest view
  all-none core latest seat view at = absurd (some-ne-none view (sym at))

  -- a seat that fits where the journal has come so far
  fits-so : (core : CoreState L) (latest : List Entry) (has_turn : Bool) (seen : List Entry) (places : List ℕ)
      → BeginsWith latest seen → (has_turn ≡ true → seen ≡ latest) → ArePlacesOf seen places
      → FitsView core latest (seat core has_turn seen places)
  fits-so core latest has_turn seen places begins turn rise = record {
    base_ = refl;
    seen_ = begins;
    aside_ = (latest, refl);
    turn_ = turn;
    places_ = places-settled seen places rise;
  }

  next-long : (core later : CoreState L) (entry : Entry) → IsNext core later entry
      → length later.entries ≡ length core.entries + 1
  next-long core later entry next = ap length next.added ∙ length-append core.entries (entry ∷ [])

-- 1 where the first slot holds a core
abbrev filled : {L : Type 0} → List (slots.Option (Option (CoreState L))) → ℕ
filled [] = 0
filled (none ∷ homes) = 0
filled (some None ∷ homes) = 0
filled (some (Some core) ∷ homes) = 1

-- the length of the journal of the core there
abbrev held_long : {L : Type 0} → List (slots.Option (Option (CoreState L))) → ℕ
held_long [] = 0
held_long (none ∷ homes) = 0
held_long (some None ∷ homes) = 0
held_long (some (Some core) ∷ homes) = length core.entries

false≢true : false ≡ true → ⊥
false≢true is = true≢false (sym is)

pub rule-fits : (L : Type 0) → RuleFits L
rule-fits L = record {
  free = λ core later entry next.
      let long = next-long core later entry next in record {
        latest = later.entries;
        word = refl;
        one = omega arith;
        core = λ none. record { core = later; there = refl; setup_ = next.setup_; journal = refl };
        seats = all-more core later.entries (seat core false later.entries (length core.entries ∷ []))
            (seat core false core.entries [] ∷ [])
            (fits-so core later.entries false later.entries (length core.entries ∷ []) (begins-none later.entries)
            (λ is. refl) (omega arith, omega (arith, long), tt))
            (all-more core later.entries (seat core false core.entries []) []
            (fits-so core later.entries false core.entries [] (entry ∷ [], next.added)
            (λ is. absurd (false≢true is)) tt)
            (all-none core later.entries));
        once = λ place. once_one (length core.entries == place);
      };
  taken = λ core later entry next. record {
    latest = later.entries;
    word = refl;
    one = omega arith;
    core = λ none. absurd (omega (arith, none));
    seats = all-more core later.entries (seat core true later.entries [])
        (seat core false core.entries [] ∷ Spent ∷ [])
        (fits-so core later.entries true later.entries [] (begins-none later.entries) (λ is. refl) tt)
        (all-more core later.entries (seat core false core.entries []) (Spent ∷ [])
        (fits-so core later.entries false core.entries [] (entry ∷ [], next.added)
        (λ is. absurd (false≢true is)) tt)
        (all-more core later.entries Spent [] tt (all-none core later.entries)));
    once = λ place. omega arith;
  };
  two = λ core kept. let one = kept.one in omega (arith, one);
  nobody = λ core kept. let word = ap (λ words. get_or words 0 0) kept.word in omega (arith, word);
  empty = λ core kept. let held = kept.core refl in let there = ap filled held.there in omega (arith, there);
  forgotten = λ core later entry next kept.
      let held = kept.core refl in
      let there = ap held_long held.there in
      let same = ap length held.journal in
      let fits = kept.seats 0 (seat core false later.entries []) refl in
      let le = begins-long kept.latest later.entries fits.seen_ in
      let long = next-long core later entry next in omega (arith, there, same, le, long);
  behind = λ core later entry next kept.
      let first = kept.seats 0 (seat core true core.entries []) refl in
      let same = ap length (first.turn_ refl) in
      let second = kept.seats 1 (seat core false later.entries []) refl in
      let le = begins-long kept.latest later.entries second.seen_ in
      let long = next-long core later entry next in omega (arith, same, le, long);
  twice = λ core later entry next kept.
      let few = kept.once (length core.entries) in
      twice_one (length core.entries == length core.entries) (eq-eqb (length core.entries) (length core.entries) refl) few;
  nowhere = λ core kept.
      let fits = kept.seats 0 (seat core false core.entries (length core.entries ∷ [])) refl in
      let rise = places-alone core.entries (length core.entries ∷ []) fits.places_ in
      let lt = rise.1 in omega (arith, lt);
}
  where
    once_one : (b : Bool) → 0 + ((if b then 1 else 0) + 0) + 0 ≤ 1
    once_one true = omega arith
    once_one false = omega arith

    twice_one : (b : Bool) → b ≡ true → 0 + ((if b then 1 else 0) + 0) + ((if b then 1 else 0) + 0) ≤ 1 → ⊥
    twice_one true is few = omega (arith, few)
    twice_one false is few = false≢true is
