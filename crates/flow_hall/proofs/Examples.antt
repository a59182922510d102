-- Tables and steps that fit the hall's rule, and some that don't.
use Rattle.std.proofs.Common.{◌≡◌, ℕ, ◌≤◌, zero, suc, true, false, List, [], ◌∷◌, length, Option, Some, None, refl, ap, sym, subst, ⊎_elim, get_or, arith}
use Rattle.std.specs.Prelude.{IsSome}
use mathlib.Core.Option as slots
use mathlib.Core.Option.{some, none, some-injective, some-ne-none}
use lib.ListN.{get_elem?}
use Rattle.flow_core.specs.States.{CoreState}
use Rattle.flow_hall.specs.declared.views.View.{View}
use Rattle.flow_hall.specs.declared.views.View.TheVariants.{Spent, Seated}
use Rattle.flow_hall.specs.Rule.{KnowsBase, IsHall}
use Rattle.flow_hall.specs.Examples.{table, RuleFits, StepsFit}
use Rattle.flow_hall.proofs.Goings.{goes_on-none}

module _ {L : Type 0} where
  -- what the first view and the others know
  knows-more : (core : CoreState L) (first : View L) (views : List (View L)) → KnowsBase core first
      → ((seat : ℕ) (view : View L) → get_elem? views seat ≡ some view → KnowsBase core view)
      → (seat : ℕ) (view : View L) → get_elem? (first ∷ views) seat ≡ some view → KnowsBase core view
  knows-more core first views knows all zero view at = subst (KnowsBase core) (some-injective first view at) knows
  knows-more core first views knows all (suc seat) view at = all seat view at

  knows-none : (core : CoreState L) (seat : ℕ) (view : View L) → get_elem? [] seat ≡ some view → KnowsBase core view
  knows-none core seat view at = absurd (some-ne-none view (sym at))

-- 1 where the first slot holds a core
abbrev filled : {L : Type 0} → List (slots.Option (Option (CoreState L))) → ℕ
filled [] = 0
filled (none ∷ homes) = 0
filled (some None ∷ homes) = 0
filled (some (Some core) ∷ homes) = 1

pub rule-fits : (L : Type 0) → RuleFits L
rule-fits L = record {
  free = λ core. record {
    word = refl;
    one = omega arith;
    core = λ none. record { core = core; there = refl; on = goes_on-none core };
    seats = knows-more core (Seated core 4 false) (Seated core 2 false ∷ []) refl
        (knows-more core (Seated core 2 false) [] refl (knows-none core));
  };
  taken = λ core. record {
    word = refl;
    one = omega arith;
    core = λ none. absurd (omega (arith, none));
    seats = knows-more core (Seated core 3 true) (Seated core 2 false ∷ Spent ∷ []) refl
        (knows-more core (Seated core 2 false) (Spent ∷ []) refl (knows-more core Spent [] tt (knows-none core)));
  };
  two = λ core kept. let one = kept.one in omega (arith, one);
  nobody = λ core kept. let word = ap (λ words. get_or words 0 0) kept.word in omega (arith, word);
  empty = λ core kept. let held = kept.core refl in let there = ap filled held.there in omega (arith, there);
}

pub steps-fit : (L : Type 0) → StepsFit L
steps-fit L = record {
  give = λ core moves turn after gives. let held = ap length gives.slot in omega (arith, held);
  load = λ slots found before after tries. let to = tries.to in omega (arith, to);
  swap = λ slots new found before after tries. let to = tries.to in omega (arith, to);
}
