-- Each kind of step keeps the rule.
use Rattle.std.specs.Prelude.{◌==◌, MatchBool, if◌then◌else◌}
use Rattle.std.proofs.Common.{◌≡◌, ℕ, zero, suc, ◌+◌, ◌≤◌, leb, Bool, true, false, List, [], ◌∷◌, ◌++◌, length, get_or, set, sum_by, sym, ap, subst, refl, ◌∙◌, ⊎_elim, Option, Some, leb-true, leb-false, arith}
use Rattle.std.proofs.lemmas.Bool.{eqb-true, true≢false}
use Rattle.std.proofs.lemmas.List.Sums.{sum_by-cons, sum_by_push}
use mathlib.Core.Option.{some, some-injective, some-ne-none}
use prog.Atomic.{either}
use lib.ListN.{get_elem?}
use Rattle.atomic_table.specs.Table.{State, Act, keeps, takes, gives, Valid, stepped, carried_after, Allows, Splits, Joins}
use Rattle.atomic_table.proofs.Lists.{at_set, at_snoc}
use Rattle.flow_model.specs.declared.journals.Entry.{Entry}
use Rattle.flow_core.specs.States.{CoreState}
use Rattle.flow_core.specs.Runs.{SameSetup}
use Rattle.flow_shared.specs.Journals.{BeginsWith, longer, places_behind, times}
use Rattle.flow_shared.specs.declared.views.View.{View}
use Rattle.flow_shared.specs.declared.views.View.TheVariants.{Spent, Seated}
use Rattle.flow_shared.specs.Rule.{places_of, turn_of, FitsView, IsShared, first_view, moved_view, without_places, view_on_turn, view_after_turn, joined, settled, WinsTurn, LosesTurn, WinsOrLoses, GivesTurn, Settles}
use Rattle.flow_shared.proofs.Journals.{begins-none, begins-then, begins-same, begins-long, longer_begins, longer_of, places-alone, places-settled, places_then, places_longer, rise_behind, rise-merged, times_then, times_merged, times_above, times_under, times_once}

only : {A : Type 0} (xs : List A) (x : A) → length xs ≡ 1 → set xs 0 x ≡ x ∷ []
only [] x long = absurd (omega arith)
only (y ∷ []) x long = refl
only (y ∷ z ∷ zs) x long = absurd (omega arith)

one : (n : ℕ) → n ≤ 1 → (n == 0) ≡ false → n ≡ 1
one zero few is = absurd (true≢false is)
one (suc n) few is = omega (arith, few)

-- ---- sums over views

module _ {X : Type 0} (f : X → ℕ) where
  sum_set : (xs : List X) (i : ℕ) (old new : X) → get_elem? xs i ≡ some old
      → sum_by f (set xs i new) + f old ≡ sum_by f xs + f new
  sum_set [] i old new at = absurd (some-ne-none old (sym at))
  sum_set (x ∷ xs) zero old new at =
      let same : f x ≡ f old = ap f (some-injective x old at) in
      let one = sum_by-cons f x xs in let other = sum_by-cons f new xs in omega (arith, same, one, other)
  sum_set (x ∷ xs) (suc i) old new at =
      let rest = sum_set xs i old new at in
      let one = sum_by-cons f x xs in let other = sum_by-cons f x (set xs i new) in omega (arith, rest, one, other)

  sum_at : (xs : List X) (i : ℕ) (x : X) → get_elem? xs i ≡ some x → f x ≤ sum_by f xs
  sum_at [] i x at = absurd (some-ne-none x (sym at))
  sum_at (y ∷ xs) zero x at =
      let same : f y ≡ f x = ap f (some-injective y x at) in let one = sum_by-cons f y xs in omega (arith, same, one)
  sum_at (y ∷ xs) (suc i) x at =
      let rest = sum_at xs i x at in let one = sum_by-cons f y xs in omega (arith, rest, one)

  sum_none : (xs : List X) → ((i : ℕ) (x : X) → get_elem? xs i ≡ some x → f x ≡ 0) → sum_by f xs ≡ 0
  sum_none [] none = refl
  sum_none (x ∷ xs) none =
      let one = sum_by-cons f x xs in let here = none zero x refl in
      let rest = sum_none xs (λ i y at. none (suc i) y at) in omega (arith, one, here, rest)

  -- two that are apart
  sum_apart : (xs : List X) (i j : ℕ) (x y new : X) → get_elem? xs i ≡ some x → get_elem? (set xs i new) j ≡ some y
      → ¬ (j ≡ i) → f x + f y ≤ sum_by f xs
  sum_apart [] i j x y new at at' apart = absurd (some-ne-none x (sym at))
  sum_apart (z ∷ xs) zero zero x y new at at' apart = absurd (apart refl)
  sum_apart (z ∷ xs) zero (suc j) x y new at at' apart =
      let same : f z ≡ f x = ap f (some-injective z x at) in
      let one = sum_by-cons f z xs in let rest = sum_at xs j y at' in omega (arith, same, one, rest)
  sum_apart (z ∷ xs) (suc i) zero x y new at at' apart =
      let same : f z ≡ f y = ap f (some-injective z y at') in
      let one = sum_by-cons f z xs in let rest = sum_at xs i x at in omega (arith, same, one, rest)
  sum_apart (z ∷ xs) (suc i) (suc j) x y new at at' apart =
      let one = sum_by-cons f z xs in
      let rest = sum_apart xs i j x y new at at' (λ is. apart (ap suc is)) in omega (arith, one, rest)

module _ {L : Type 0} where
  -- how often a view has a place
  abbrev has : ℕ → View L → ℕ
  has place view = times place (places_of view)

  -- ---- views that change

  fits_set : (base : CoreState L) (latest : List Entry) (views : List (View L)) (seat : ℕ) (new : View L)
      → FitsView base latest new
      → ((other : ℕ) (view : View L) → get_elem? views other ≡ some view → FitsView base latest view)
      → (other : ℕ) (view : View L) → get_elem? (set views seat new) other ≡ some view → FitsView base latest view
  fits_set base latest views seat new fits all other view at =
      ⊎_elim (λ here. subst (FitsView base latest) here.1 fits) (λ there. all other view there.1)
      (at_set views seat other new view at)

  fits_snoc : (base : CoreState L) (latest : List Entry) (views : List (View L)) (new : View L)
      → FitsView base latest new
      → ((other : ℕ) (view : View L) → get_elem? views other ≡ some view → FitsView base latest view)
      → (other : ℕ) (view : View L) → get_elem? (views ++ new ∷ []) other ≡ some view → FitsView base latest view
  fits_snoc base latest views new fits all other view at =
      ⊎_elim (λ there. all other view there) (λ here. subst (FitsView base latest) here fits)
      (at_snoc views new view other at)

  -- a seat without the turn fits a journal that went on
  fits_later : (base : CoreState L) (latest later : List Entry) (view : View L) → BeginsWith later latest
      → turn_of view ≡ 0 → FitsView base latest view → FitsView base later view
  fits_later base latest later Spent on off fits = tt
  fits_later base latest later (Seated known) on off fits = record {
    base_ = fits.base_;
    seen_ = begins-then known.seen latest later fits.seen_ on;
    aside_ = begins-then known.aside latest later fits.aside_ on;
    turn_ = λ is. let has : turn_of (Seated known) ≡ 1 = ap (λ b. if b then 1 else 0) is in absurd (omega (arith, has, off));
    places_ = fits.places_;
  }

  -- a fitting view has no place past the journal
  has_none : (base : CoreState L) (latest : List Entry) (view : View L) (place : ℕ) → length latest ≤ place
      → FitsView base latest view → has place view ≡ 0
  has_none base latest Spent place le fits = refl
  has_none base latest (Seated known) place le fits =
      let all : List Entry = longer known.seen known.aside in
      let long = begins-long latest all (longer_of latest known.seen known.aside fits.seen_ fits.aside_) in
      times_above 0 (length all) place known.places (omega (arith, long, le)) fits.places_

  -- a seat's view changes: it has the turn neither before nor after, or both, and has no place more
  view_changed : (base : CoreState L) (table : State (Option (CoreState L)) (View L)) (seat : ℕ) (old new : View L)
      → (kept : IsShared base table) → get_elem? table.views seat ≡ some old → turn_of new ≡ turn_of old
      → FitsView base kept.latest new → ((place : ℕ) → has place new ≡ has place old)
      → IsShared base record { words = table.words; homes = table.homes; views = set table.views seat new }
  view_changed base table seat old new kept at same fits less =
      let count : sum_by turn_of (set table.views seat new) ≡ sum_by turn_of table.views =
      let both = sum_set turn_of table.views seat old new at in omega (arith, both, same) in record {
        latest = kept.latest;
        word = kept.word ∙ ap (λ n. n ∷ []) (sym count);
        one = subst (λ n. n ≤ 1) (sym count) kept.one;
        core = λ none. kept.core (sym count ∙ none);
        seats = fits_set base kept.latest table.views seat new fits kept.seats;
        once = λ place. let both = sum_set (has place) table.views seat old new at in
            let few = kept.once place in let le = less place in omega (arith, both, few, le);
      }

  -- a seat comes, without the turn and without places
  view_added : (base : CoreState L) (table : State (Option (CoreState L)) (View L)) (new : View L)
      → (kept : IsShared base table) → turn_of new ≡ 0 → FitsView base kept.latest new
      → ((place : ℕ) → has place new ≡ 0)
      → IsShared base record { words = table.words; homes = table.homes; views = table.views ++ new ∷ [] }
  view_added base table new kept without fits none =
      let count : sum_by turn_of (table.views ++ new ∷ []) ≡ sum_by turn_of table.views =
      let both = sum_by_push turn_of table.views new in omega (arith, both, without) in record {
        latest = kept.latest;
        word = kept.word ∙ ap (λ n. n ∷ []) (sym count);
        one = subst (λ n. n ≤ 1) (sym count) kept.one;
        core = λ none. kept.core (sym count ∙ none);
        seats = fits_snoc base kept.latest table.views new fits kept.seats;
        once = λ place. let both = sum_by_push (has place) table.views new in
            let few = kept.once place in let zero_ = none place in omega (arith, both, few, zero_);
      }

  -- ---- the steps

  -- a seat with nothing aside
  abbrev pub at_seat : CoreState L → Bool → ℕ → List Entry → List ℕ → View L
  at_seat base has_turn moves seen places = Seated record {
    base = base;
    moves = moves;
    has_turn = has_turn;
    seen = seen;
    aside = [];
    places = places;
  }

  pub opens : (core : CoreState L)
      → IsShared core record { words = 0 ∷ []; homes = some (Some core) ∷ []; views = first_view core ∷ [] }
  opens core = record {
    latest = core.entries;
    word = refl;
    one = omega arith;
    core = λ none. record { core = core; there = refl; setup_ = refl; journal = refl };
    seats = fits_snoc core core.entries [] (first_view core)
        record {
          base_ = refl;
          seen_ = begins-none core.entries;
          aside_ = (core.entries, refl);
          turn_ = λ is. refl;
          places_ = tt;
        }
        (λ other view at. absurd (some-ne-none view (sym at)));
    once = λ place. omega arith;
  }

  module _ (base : CoreState L) (seat moves : ℕ) (seen : List Entry) (places : List ℕ) where
    abbrev off : View L
    off = at_seat base false moves seen places

    tries_by : (table : State (Option (CoreState L)) (View L)) → IsShared base table
        → get_elem? table.views seat ≡ some off → (free : Bool) → (sum_by turn_of table.views == 0) ≡ free
        → (new : View L) × (act : Act (Option (CoreState L))) × Valid table.homes [] act
        × IsShared base (stepped table 0 (either free 1 (sum_by turn_of table.views)) seat [] new act)
        × MatchBool free (WinsTurn (off, []) (new, carried_after [] act))
        (LosesTurn (off, []) (sum_by turn_of table.views) (new, carried_after [] act))
    tries_by table kept at true is =
        let none : sum_by turn_of table.views ≡ 0 = eqb-true (sum_by turn_of table.views) 0 is in
        let held = kept.core none in
        let fits = kept.seats seat off at in
        let new : View L = view_on_turn held.core off in
        let begins : BeginsWith held.core.entries seen =
        subst (λ xs. BeginsWith xs seen) (sym held.journal) fits.seen_ in
        let count : sum_by turn_of (set table.views seat new) ≡ 1 =
        let both = sum_set turn_of table.views seat off new at in omega (arith, both, none) in (
          new,
          takes 0 (Some held.core),
          ap (λ homes. get_elem? homes 0) held.there,
          record {
            latest = kept.latest;
            word = ap (λ words. set words 0 1) kept.word ∙ ap (λ n. n ∷ []) (sym count);
            one = omega (arith, count);
            core = λ none'. absurd (omega (arith, count, none'));
            seats = fits_set base kept.latest table.views seat new
                record {
                  base_ = refl;
                  seen_ = begins-same held.core.entries kept.latest (sym held.journal);
                  aside_ = fits.aside_;
                  turn_ = λ on. held.journal;
                  places_ = places-settled held.core.entries places
                      (places_longer seen held.core.entries places begins (places-alone seen places fits.places_));
                }
                kept.seats;
            once = λ place. let both = sum_set (has place) table.views seat off new at in
                let few = kept.once place in omega (arith, both, few);
          },
          record { core = held.core; setup_ = held.setup_; seen_ = begins; after_ = refl },
        )
    tries_by table kept at false is =
        let fits = kept.seats seat off at in
        let new : View L = moved_view 1 off in (
          new,
          keeps,
          tt,
          subst (λ words. IsShared base record { words = words; homes = table.homes; views = set table.views seat new })
              (kept.word ∙ sym (ap (λ words. set words 0 (sum_by turn_of table.views)) kept.word))
              (view_changed base table seat off new kept at refl
              record {
                base_ = refl;
                seen_ = fits.seen_;
                aside_ = fits.aside_;
                turn_ = fits.turn_;
                places_ = fits.places_;
              }
              (λ place. refl)),
          record { word = one (sum_by turn_of table.views) kept.one is; after_ = refl },
        )

    pub tries : (slots : ℕ)
        → Allows (IsShared base) slots seat (off, []) 0 (λ n. either (n == 0) 1 n) (WinsOrLoses (off, []))
    tries slots table kept long at small =
        let P : ℕ → Type 0 = λ n.
        (new : View L) × (act : Act (Option (CoreState L))) × Valid table.homes [] act
        × IsShared base (stepped table 0 (either (n == 0) 1 n) seat [] new act)
        × WinsOrLoses (off, []) n (new, carried_after [] act) in
        subst P (sym (ap (λ words. get_or words 0 0) kept.word))
        (tries_by table kept at (sum_by turn_of table.views == 0) refl)

    pub splits : Splits (IsShared base) seat off (moved_view 2 off) (without_places 2 off)
    unfolding view_changed
    splits table kept at =
        let fits = kept.seats seat off at in
        view_added base record { words = table.words; homes = table.homes; views = set table.views seat (moved_view 2 off) }
        (without_places 2 off)
        (view_changed base table seat off (moved_view 2 off) kept at refl
        record {
          base_ = refl;
          seen_ = fits.seen_;
          aside_ = fits.aside_;
          turn_ = fits.turn_;
          places_ = fits.places_;
        }
        (λ place. refl))
        refl
        record {
          base_ = refl;
          seen_ = fits.seen_;
          aside_ = fits.aside_;
          turn_ = fits.turn_;
          places_ = tt;
        }
        (λ place. refl)

    -- ---- giving

    module _ (core : CoreState L) (setup : SameSetup base core) (begins : BeginsWith core.entries seen) where
      abbrev on : View L
      on = at_seat base true moves seen places

      -- all fit the journal that the turn brought
      all_later : (table : State (Option (CoreState L)) (View L)) → (kept : IsShared base table)
          → get_elem? table.views seat ≡ some on → sum_by turn_of (set table.views seat (view_after_turn core on)) ≡ 0
          → (other : ℕ) (view : View L) → get_elem? (set table.views seat (view_after_turn core on)) other ≡ some view
          → FitsView base core.entries view
      all_later table kept at none other view at' =
          let fits = kept.seats seat on at in
          let same : seen ≡ kept.latest = fits.turn_ refl in
          let new : View L = view_after_turn core on in
          let later : BeginsWith core.entries kept.latest = subst (λ xs. BeginsWith core.entries xs) same begins in
          let off_ : turn_of view ≡ 0 =
          let le = sum_at turn_of (set table.views seat new) other view at' in omega (arith, le, none) in
          ⊎_elim
          (λ here. subst (FitsView base core.entries) here.1
          record {
            base_ = refl;
            seen_ = begins-none core.entries;
            aside_ = (core.entries, refl);
            turn_ = λ is. refl;
            places_ = places-settled core.entries (places ++ places_behind seen core.entries)
                (places_then seen core.entries places begins (places-alone seen places fits.places_));
          })
          (λ there. fits_later base kept.latest core.entries view later off_ (kept.seats other view there.1))
          (at_set table.views seat other new view at')

      -- no place is twice: the new ones come after all others
      all_once : (table : State (Option (CoreState L)) (View L)) → (kept : IsShared base table)
          → get_elem? table.views seat ≡ some on → (place : ℕ)
          → sum_by (has place) (set table.views seat (view_after_turn core on)) ≤ 1
      all_once table kept at place = by (leb (length seen) place) refl
        where
          fresh : List ℕ
          fresh = places_behind seen core.entries

          more : sum_by (has place) (set table.views seat (view_after_turn core on))
              ≡ sum_by (has place) table.views + times place fresh
          more =
              let both = sum_set (has place) table.views seat on (view_after_turn core on) at in
              let parts = times_then place places fresh in omega (arith, both, parts)

          by : (b : Bool) → leb (length seen) place ≡ b
              → sum_by (has place) (set table.views seat (view_after_turn core on)) ≤ 1
          by true is =
              let le = leb-true (length seen) place is in
              let fits = kept.seats seat on at in
              let same : length seen ≡ length kept.latest = ap length (fits.turn_ refl) in
              let none = sum_none (has place) table.views
              (λ other view there. has_none base kept.latest view place (omega (arith, le, same)) (kept.seats other view there)) in
              let few = times_once (length seen) (length core.entries) place fresh (rise_behind seen core.entries begins) in
              omega (arith, more, none, few)
          by false is =
              let lt = leb-false (length seen) place is in
              let none = times_under (length seen) (length core.entries) place fresh (omega (arith, lt))
              (rise_behind seen core.entries begins) in
              let few = kept.once place in omega (arith, more, none, few)

      pub gives_back : Allows (IsShared base) 1 seat (on, (0, Some core) ∷ []) 0 (λ n. 0)
          (λ n. GivesTurn (on, (0, Some core) ∷ []))
      gives_back table kept long at small =
          let new : View L = view_after_turn core on in
          let count : sum_by turn_of (set table.views seat new) ≡ 0 =
          let both = sum_set turn_of table.views seat on new at in omega (arith, both, kept.one) in (
            new,
            gives,
            tt,
            record {
              latest = core.entries;
              word = ap (λ words. set words 0 0) kept.word ∙ ap (λ n. n ∷ []) (sym count);
              one = omega (arith, count);
              core = λ none. record {
                core = core;
                there = only table.homes (some (Some core)) long;
                setup_ = setup;
                journal = refl;
              };
              seats = all_later table kept at count;
              once = all_once table kept at;
            },
            record { core = core; slot = refl; after_ = refl },
          )

    -- ---- joining

    pub joins : (other more : ℕ) (also : List Entry) (others : List ℕ)
        → Joins (IsShared base) seat off other (at_seat base false more also others)
        (joined off (at_seat base false more also others)) Spent
    joins other more also others table kept at apart at' =
        let second : View L = at_seat base false more also others in
        let new : View L = joined off second in
        let mid : List (View L) = set table.views seat new in
        let fits = kept.seats seat off at in
        let fits' : FitsView base kept.latest second =
        ⊎_elim (λ here. absurd (apart here.0)) (λ there. kept.seats other second there.1)
        (at_set table.views seat other new second at') in
        let begins = longer_begins kept.latest seen also fits.seen_ fits'.seen_ in
        let all : List Entry = longer seen also in
        let once_ : (place : ℕ) → times place places + times place others ≤ 1 = λ place.
        let few = kept.once place in
        let two = sum_apart (has place) table.views seat other off second new at at' apart in omega (arith, few, two) in
        let count : sum_by turn_of (set mid other Spent) ≡ sum_by turn_of table.views =
        let one_ = sum_set turn_of table.views seat off new at in
        let two = sum_set turn_of mid other second Spent at' in omega (arith, one_, two) in record {
          latest = kept.latest;
          word = kept.word ∙ ap (λ n. n ∷ []) (sym count);
          one = subst (λ n. n ≤ 1) (sym count) kept.one;
          core = λ none. kept.core (sym count ∙ none);
          seats = fits_set base kept.latest mid other Spent tt
              (fits_set base kept.latest table.views seat new
              record {
                base_ = refl;
                seen_ = fits.seen_;
                aside_ = fits'.seen_;
                turn_ = fits.turn_;
                places_ = rise-merged 0 (length all) places others
                    (places_longer seen all places begins.0 (places-alone seen places fits.places_))
                    (places_longer also all others begins.1 (places-alone also others fits'.places_)) once_;
              }
              kept.seats);
          once = λ place.
              let one_ = sum_set (has place) table.views seat off new at in
              let two = sum_set (has place) mid other second Spent at' in
              let parts = times_merged place places others in
              let few = kept.once place in omega (arith, one_, two, parts, few);
        }

    pub settles : (slots : ℕ) (aside : List Entry)
        → let before : View L = Seated record { base = base; moves = moves; has_turn = false; seen = seen; aside = aside; places = places } in
        Allows (IsShared base) slots seat (before, []) 0 (λ n. n) (λ n. Settles (before, []))
    settles slots aside table kept long at small =
        let old : View L = Seated record {
          base = base;
          moves = moves;
          has_turn = false;
          seen = seen;
          aside = aside;
          places = places;
        } in
        let fits = kept.seats seat old at in
        let begins = longer_begins kept.latest seen aside fits.seen_ fits.aside_ in
        let new : View L = settled old in
        let stay : set table.words 0 (get_or table.words 0 0) ≡ table.words =
        ap (λ words. set words 0 (get_or words 0 0)) kept.word ∙ sym kept.word in (
          new,
          keeps,
          tt,
          subst (λ words. IsShared base record { words = words; homes = table.homes; views = set table.views seat new })
              (sym stay)
              (view_changed base table seat old new kept at refl
              record {
                base_ = fits.base_;
                seen_ = longer_of kept.latest seen aside fits.seen_ fits.aside_;
                aside_ = (kept.latest, refl);
                turn_ = λ is. absurd (true≢false (sym is));
                places_ = places-settled (longer seen aside) places fits.places_;
              }
              (λ place. refl)),
          record { after_ = refl; first = begins.0; second = begins.1; rising = fits.places_ },
        )
