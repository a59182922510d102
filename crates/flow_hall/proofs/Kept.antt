-- Each kind of step keeps the rule.
use Rattle.std.specs.Prelude.{◌==◌, MatchBool}
use Rattle.std.proofs.Common.{◌≡◌, ℕ, zero, suc, ◌+◌, ◌≤◌, Bool, true, false, List, [], ◌∷◌, ◌++◌, length, get_or, set, sym, ap, subst, refl, ◌∙◌, ⊎_elim, Option, Some, None, arith}
use Rattle.std.proofs.lemmas.Bool.{eqb-true, true≢false}
use mathlib.Core.Option.{some, none, some-injective, some-ne-none}
use prog.Atomic.{either}
use lib.ListN.{get_elem?}
use Rattle.atomic_table.specs.Table.{State, Act, step, keeps, takes, gives, Valid, stepped, carried_after, Allows, Splits, Joins}
use Rattle.atomic_table.proofs.Lists.{at_set, at_snoc}
use Rattle.flow_core.specs.States.{CoreState}
use Rattle.flow_core.specs.Runs.{GoesOn}
use Rattle.flow_hall.specs.declared.views.View.{View}
use Rattle.flow_hall.specs.declared.views.View.TheVariants.{Spent, Seated}
use Rattle.flow_hall.specs.Rule.{view_after, KnowsBase, turn_of, turns, HoldsCore, IsHall, WinsTurn, LosesTurn, TriesTurn, GivesTurn, first_view}
use Rattle.flow_hall.proofs.Goings.{goes_on-none}

only : {A : Type 0} (xs : List A) (x : A) → length xs ≡ 1 → set xs 0 x ≡ x ∷ []
only [] x long = absurd (omega arith)
only (y ∷ []) x long = refl
only (y ∷ z ∷ zs) x long = absurd (omega arith)

one : (n : ℕ) → n ≤ 1 → (n == 0) ≡ false → n ≡ 1
one zero few is = absurd (true≢false is)
one (suc n) few is = omega (arith, few)

module _ {L : Type 0} where
  -- ---- counting the seats that have the turn

  turns_set : (views : List (View L)) (seat : ℕ) (old new : View L) → get_elem? views seat ≡ some old
      → turns (set views seat new) + turn_of old ≡ turns views + turn_of new
  turns_set [] seat old new at = absurd (some-ne-none old (sym at))
  turns_set (view ∷ views) zero old new at =
      let same : turn_of view ≡ turn_of old = ap turn_of (some-injective view old at) in omega (arith, same)
  turns_set (view ∷ views) (suc seat) old new at = let rest = turns_set views seat old new at in omega (arith, rest)

  turns_snoc : (views : List (View L)) (new : View L) → turns (views ++ new ∷ []) ≡ turns views + turn_of new
  turns_snoc [] new = omega arith
  turns_snoc (view ∷ views) new = let rest = turns_snoc views new in omega (arith, rest)

  turns_at : (views : List (View L)) (seat : ℕ) (view : View L) → get_elem? views seat ≡ some view
      → turn_of view ≤ turns views
  turns_at [] seat view at = absurd (some-ne-none view (sym at))
  turns_at (x ∷ views) zero view at =
      let same : turn_of x ≡ turn_of view = ap turn_of (some-injective x view at) in omega (arith, same)
  turns_at (x ∷ views) (suc seat) view at = let rest = turns_at views seat view at in omega (arith, rest)

  -- ---- views that change

  known_set : (base : CoreState L) (views : List (View L)) (seat : ℕ) (new : View L) → KnowsBase base new
      → ((other : ℕ) (view : View L) → get_elem? views other ≡ some view → KnowsBase base view)
      → (other : ℕ) (view : View L) → get_elem? (set views seat new) other ≡ some view → KnowsBase base view
  known_set base views seat new knows all other view at =
      ⊎_elim (λ here. subst (KnowsBase base) here.1 knows) (λ there. all other view there.1)
      (at_set views seat other new view at)

  known_snoc : (base : CoreState L) (views : List (View L)) (new : View L) → KnowsBase base new
      → ((other : ℕ) (view : View L) → get_elem? views other ≡ some view → KnowsBase base view)
      → (other : ℕ) (view : View L) → get_elem? (views ++ new ∷ []) other ≡ some view → KnowsBase base view
  known_snoc base views new knows all other view at =
      ⊎_elim (λ there. all other view there) (λ here. subst (KnowsBase base) here knows)
      (at_snoc views new view other at)

  -- a seat's view changes, and it has the turn neither before nor after, or both
  pub view_changed : (base : CoreState L) (table : State (Option (CoreState L)) (View L)) (seat : ℕ) (old new : View L)
      → IsHall base table → get_elem? table.views seat ≡ some old → turn_of new ≡ turn_of old → KnowsBase base new
      → IsHall base record { words = table.words; homes = table.homes; views = set table.views seat new }
  view_changed base table seat old new kept at same knows =
      let count : turns (set table.views seat new) ≡ turns table.views =
      let both = turns_set table.views seat old new at in omega (arith, both, same) in record {
        word = kept.word ∙ ap (λ n. n ∷ []) (sym count);
        one = subst (λ n. n ≤ 1) (sym count) kept.one;
        core = λ none. kept.core (sym count ∙ none);
        seats = known_set base table.views seat new knows kept.seats;
      }

  -- a seat comes, without the turn
  view_added : (base : CoreState L) (table : State (Option (CoreState L)) (View L)) (new : View L)
      → IsHall base table → turn_of new ≡ 0 → KnowsBase base new
      → IsHall base record { words = table.words; homes = table.homes; views = table.views ++ new ∷ [] }
  view_added base table new kept without knows =
      let count : turns (table.views ++ new ∷ []) ≡ turns table.views =
      let both = turns_snoc table.views new in omega (arith, both, without) in record {
        word = kept.word ∙ ap (λ n. n ∷ []) (sym count);
        one = subst (λ n. n ≤ 1) (sym count) kept.one;
        core = λ none. kept.core (sym count ∙ none);
        seats = known_snoc base table.views new knows kept.seats;
      }

  -- ---- the steps

  pub opens : (core : CoreState L)
      → IsHall core record { words = 0 ∷ []; homes = some (Some core) ∷ []; views = first_view core ∷ [] }
  opens core = record {
    word = refl;
    one = omega arith;
    core = λ none. record { core = core; there = refl; on = goes_on-none core };
    seats = known_snoc core [] (first_view core) refl (λ other view at. absurd (some-ne-none view (sym at)));
  }

  tries_by : (base : CoreState L) (slots seat moves : ℕ) (table : State (Option (CoreState L)) (View L))
      → IsHall base table → get_elem? table.views seat ≡ some (Seated base moves false)
      → (free : Bool) → (turns table.views == 0) ≡ free
      → (new : View L) × (act : Act (Option (CoreState L))) × Valid table.homes [] act
      × IsHall base (stepped table 0 (either free 1 (turns table.views)) seat [] new act)
      × MatchBool free (WinsTurn (Seated base moves false, []) (new, carried_after [] act))
      (LosesTurn (Seated base moves false, []) (turns table.views) (new, carried_after [] act))
  tries_by base slots seat moves table kept at true is =
      let none : turns table.views ≡ 0 = eqb-true (turns table.views) 0 is in
      let new : View L = Seated base (moves + 1) true in
      let held = kept.core none in
      let count : turns (set table.views seat new) ≡ 1 =
      let both = turns_set table.views seat (Seated base moves false) new at in omega (arith, both, none) in (
        new,
        takes 0 (Some held.core),
        ap (λ homes. get_elem? homes 0) held.there,
        record {
          word = ap (λ words. set words 0 1) kept.word ∙ ap (λ n. n ∷ []) (sym count);
          one = omega (arith, count);
          core = λ none'. absurd (omega (arith, count, none'));
          seats = known_set base table.views seat new refl kept.seats;
        },
        record { core = held.core; on = held.on; after_ = refl },
      )
  tries_by base slots seat moves table kept at false is =
      let new : View L = Seated base (moves + 1) false in (
        new,
        keeps,
        tt,
        subst (λ words. IsHall base record { words = words; homes = table.homes; views = set table.views seat new })
            (kept.word ∙ sym (ap (λ words. set words 0 (turns table.views)) kept.word))
            (view_changed base table seat (Seated base moves false) new kept at refl refl),
        record { word = one (turns table.views) kept.one is; after_ = refl },
      )

  pub tries : (base : CoreState L) (slots seat moves : ℕ)
      → Allows (IsHall base) slots seat (Seated base moves false, []) 0 (λ n. either (n == 0) 1 n)
      (TriesTurn (step slots 0 0 1 none) (Seated base moves false, []))
  tries base slots seat moves table kept long at small =
      let P : ℕ → Type 0 = λ n.
      (new : View L) × (act : Act (Option (CoreState L))) × Valid table.homes [] act
      × IsHall base (stepped table 0 (either (n == 0) 1 n) seat [] new act)
      × TriesTurn (step slots 0 0 1 none) (Seated base moves false, []) n (new, carried_after [] act) in
      let by = tries_by base slots seat moves table kept at (turns table.views == 0) refl in
      subst P (sym (ap (λ words. get_or words 0 0) kept.word))
      (by.0, by.1, by.2, by.3, record { from = refl; to = refl; comes = by.4 })

  pub gives_back : (base core : CoreState L) (seat moves : ℕ) → GoesOn base core
      → Allows (IsHall base) 1 seat (Seated base moves true, (0, Some core) ∷ []) 0 (λ n. 0)
      (λ n. GivesTurn (Seated base moves true, (0, Some core) ∷ []))
  gives_back base core seat moves on table kept long at small =
      let new : View L = Seated base (moves + 1) false in
      let count : turns (set table.views seat new) ≡ 0 =
      let both = turns_set table.views seat (Seated base moves true) new at in omega (arith, both, kept.one) in (
        new,
        gives,
        tt,
        record {
          word = ap (λ words. set words 0 0) kept.word ∙ ap (λ n. n ∷ []) (sym count);
          one = omega (arith, count);
          core = λ none. record { core = core; there = only table.homes (some (Some core)) long; on = on };
          seats = known_set base table.views seat new refl kept.seats;
        },
        record { core = core; slot = refl; after_ = refl },
      )

  pub splits : (base : CoreState L) (seat moves : ℕ)
      → Splits (IsHall base) seat (Seated base moves false) (Seated base (moves + 2) false) (Seated base (moves + 2) false)
  splits base seat moves table kept at =
      let new : View L = Seated base (moves + 2) false in
      view_added base record { words = table.words; homes = table.homes; views = set table.views seat new } new
      (view_changed base table seat (Seated base moves false) new kept at refl refl) refl refl

  pub joins : (base : CoreState L) (seat moves other more : ℕ)
      → Joins (IsHall base) seat (Seated base moves false) other (Seated base more false) (Seated base (moves + 1) false) Spent
  joins base seat moves other more table kept at apart at' =
      let new : View L = Seated base (moves + 1) false in
      view_changed base record { words = table.words; homes = table.homes; views = set table.views seat new } other
      (Seated base more false) Spent
      (view_changed base table seat (Seated base moves false) new kept at refl refl) at' refl tt
