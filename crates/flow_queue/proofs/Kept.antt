-- Each kind of step keeps the queue's rule.
use Rattle.std.specs.Prelude.{◌==◌, if◌then◌else◌}
use Rattle.std.proofs.Common.{◌≡◌, ◌≢◌, ◌⊎◌, inl, inr, ⊎_elim, ℕ, zero, suc, ◌+◌, ◌<◌, ◌≤◌, List, [], ◌∷◌, ◌++◌, length, set, Option, Some, None, refl, sym, ap, subst, ◌∙◌, append_assoc, arith}
use Rattle.std.specs.List.{slice_get, AllByRecursion, sum_by}
use Rattle.std.proofs.lemmas.List.{append-nil}
use Rattle.std.proofs.lemmas.List.Sums.{sum_by_push}
use Rattle.std.proofs.lemmas.List.{length-append}
use native.Mathlib.Decide.{ℕ_discrete}
use mathlib.Core.Logic.{dite}
use mathlib.Core.Option.{some, some-injective, some-ne-none}
use lib.ListN.{get_elem?}
use Rattle.crossbeam_queue.specs.Fifo.{Pushes, Pops, Forks, Learns}
use Rattle.crossbeam_queue.proofs.Lists.{at_set, at_snoc}
use Rattle.flow_queue.specs.declared.views.Placed.{Placed}
use Rattle.flow_queue.specs.declared.views.View.{View}
use Rattle.flow_queue.specs.declared.views.View.TheVariants.{Opening, Working}
use Rattle.flow_queue.specs.Rule.{in_hand, held_of, moves_of, puts_of, takes_of, numbers, times, marks, StandsIn, IsPut, IsSeat, IsWorking, IsOpening, IsQueue, IsBehind, PutsNumber, TakesNumber, HasRoom, HasMoment, HasOpened, opened, opening_after, split_left, split_right}
use Rattle.flow_queue.proofs.Counts.{sum_set, sum_at, few_below, place_last, length-numbers, times-numbers, marks_behind, behind, marks_then, mark_here, mark_else, place_then, times_then, numbers_below, all_then, all_map, sum_none}

-- ---- which view it is

abbrev is_working : View → ℕ
is_working (Opening next) = 0
is_working (Working flows held moves puts takes) = 1

-- the parts of a working view
abbrev flows_in : View → ℕ
flows_in (Opening next) = 0
flows_in (Working flows held moves puts takes) = flows

abbrev next_in : View → ℕ
next_in (Opening next) = next
next_in (Working flows held moves puts takes) = 0

not_working : (next flows : ℕ) (held : Option ℕ) (moves : ℕ) (puts takes : List Placed)
    → Opening next ≡ Working flows held moves puts takes → ⊥
not_working next flows held moves puts takes is = let no = ap is_working is in omega (arith, no)

alone : (view other : View) (seat : ℕ) → get_elem? (view ∷ []) seat ≡ some other → (seat ≡ 0) × (view ≡ other)
alone view other zero at = (refl, some-injective view other at)
alone view other (suc seat) at = absurd (some-ne-none other (sym at))

-- ---- seats of a queue that has grown

module _ (flows : ℕ) (all more gone : List ℕ) where
  -- more was put
  seat_grows : (view : View) → IsSeat flows all gone view → IsSeat flows (all ++ more) gone view
  seat_grows view seat = record {
    held = seat.held;
    is = seat.is;
    below = seat.below;
    puts = all_map (IsPut flows all) (IsPut flows (all ++ more)) (puts_of view)
        (λ placed put. record {
          stands = place_then all more placed.place placed.number put.stands;
          later = put.later;
        })
        seat.puts;
    takes = seat.takes;
  }

  -- more has gone
  seat_goes : (view : View) → IsSeat flows all gone view → IsSeat flows all (gone ++ more) view
  seat_goes view seat = record {
    held = seat.held;
    is = seat.is;
    below = seat.below;
    puts = seat.puts;
    takes = all_map (StandsIn gone) (StandsIn (gone ++ more)) (takes_of view)
        (λ placed stands. place_then gone more placed.place placed.number stands) seat.takes;
  }

puts_stand : (flows : ℕ) (all : List ℕ) (puts : List Placed) → AllByRecursion (IsPut flows all) puts
    → AllByRecursion (StandsIn all) puts
puts_stand flows all puts each = all_map (IsPut flows all) (StandsIn all) puts (λ placed put. put.stands) each

-- ---- a working queue

module _ (flows : ℕ) (items : List ℕ) (views : List View) (kept : IsWorking flows items views) where
  -- no pass has put or taken at the next place
  none_put : sum_by (λ view. marks (length (numbers flows ++ kept.later)) (puts_of view)) views ≡ 0
  none_put = let all : List ℕ = numbers flows ++ kept.later in
      sum_none (λ view. marks (length all) (puts_of view)) views
      (λ seat view at. let own = kept.seats seat view at in
      marks_behind (length all) (puts_of view) (behind all (puts_of view) (puts_stand flows all (puts_of view) own.puts)))

  none_taken : sum_by (λ view. marks (length kept.gone) (takes_of view)) views ≡ 0
  none_taken = sum_none (λ view. marks (length kept.gone) (takes_of view)) views
      (λ seat view at. let own = kept.seats seat view at in
      marks_behind (length kept.gone) (takes_of view) (behind kept.gone (takes_of view) own.takes))

abbrev hand_in : View → Option ℕ
hand_in (Opening next) = None
hand_in (Working flows held moves puts takes) = held

module _ (flows : ℕ) (items : List ℕ) (views : List View) (seat : ℕ) (held : Option ℕ) (moves : ℕ)
    (puts takes : List Placed) where
  -- a queue with a working pass is a working queue
  working : IsQueue items views → get_elem? views seat ≡ some (Working flows held moves puts takes)
      → IsWorking flows items views
  working (inl (next, opening)) at =
      let only = alone (Opening next) (Working flows held moves puts takes) seat
      (subst (λ vs. get_elem? vs seat ≡ some (Working flows held moves puts takes)) opening.alone at) in
      absurd (not_working next flows held moves puts takes only.1)
  working (inr (own, kept)) at =
      let mine = kept.seats seat (Working flows held moves puts takes) at in
      subst (λ f. IsWorking f items views) (sym (ap flows_in mine.is)) kept

  -- what it holds is below the count
  held_below : (kept : IsWorking flows items views) → get_elem? views seat ≡ some (Working flows held moves puts takes)
      → AllByRecursion (λ number. number < flows) (in_hand held)
  held_below kept at =
      let mine = kept.seats seat (Working flows held moves puts takes) at in
      subst (λ h. AllByRecursion (λ number. number < flows) (in_hand h)) (sym (ap hand_in mine.is)) mine.below

  -- with what is held, there is room
  pub room : IsQueue items views → get_elem? views seat ≡ some (Working flows held moves puts takes)
      → length items + length (in_hand held) ≤ flows
  room queue at =
      let kept = working queue at in
      let once : (x : ℕ) → times x (items ++ in_hand held) ≤ 1 = λ x.
      let split = times_then x items (in_hand held) in
      let part = sum_at (λ view. times x (held_of view)) views seat (Working flows held moves puts takes) at in
      let few = kept.once x in omega (arith, split, part, few) in
      let few = few_below flows (items ++ in_hand held) once
      (all_then (λ number. number < flows) items (in_hand held) kept.below (held_below kept at)) in
      let long = length-append items (in_hand held) in omega (arith, few, long)

-- the number that is held is put
puts_by : (flows : ℕ) (items : List ℕ) (views : List View) (seat number moves : ℕ) (puts takes : List Placed)
    → IsWorking flows items views → get_elem? views seat ≡ some (Working flows (Some number) moves puts takes)
    → (new : View) × IsQueue (items ++ number ∷ []) (set views seat new)
    × PutsNumber (Working flows (Some number) moves puts takes) number new
puts_by flows items views seat number moves puts takes kept at =
    let all : List ℕ = numbers flows ++ kept.later in
    let placed : Placed = record { place = length all; number = number } in
    let old : View = Working flows (Some number) moves puts takes in
    let new : View = Working flows None (moves + 1) (puts ++ placed ∷ []) takes in
    let own = kept.seats seat old at in
    let all' : List ℕ = numbers flows ++ (kept.later ++ number ∷ []) in
    let same : all ++ number ∷ [] ≡ all' = append_assoc (numbers flows) kept.later (number ∷ []) in
    let long : length all' ≡ length all + 1 = ap length (sym same) ∙ length-append all (number ∷ []) in
    let front : flows ≤ length all =
    let both = length-append (numbers flows) kept.later in let first = length-numbers flows in omega (arith, both, first) in
    let grown = seat_grows flows all (number ∷ []) kept.gone old own in
    let seat' : IsSeat flows (all ++ number ∷ []) kept.gone new = record {
      held = None;
      is = refl;
      below = tt;
      puts = all_then (IsPut flows (all ++ number ∷ [])) puts (placed ∷ []) grown.puts
          (record { stands = place_last all number; later = front }, tt);
      takes = own.takes;
    } in (
      new,
      inr (
        flows,
        record {
          later = kept.later ++ number ∷ [];
          gone = kept.gone;
          order = sym same ∙ ap (λ xs. xs ++ number ∷ []) kept.order ∙ append_assoc kept.gone items (number ∷ []);
          below = all_then (λ n. n < flows) items (number ∷ []) kept.below
              (held_below flows items views seat (Some number) moves puts takes kept at);
          once = λ n.
              let split = times_then n items (number ∷ []) in
              let total = sum_set (λ view. times n (held_of view)) views seat old new at in
              let few = kept.once n in omega (arith, split, total, few);
          seats = λ other view at'. ⊎_elim
              (λ here. subst (IsSeat flows all' kept.gone) here.1 (subst (λ xs. IsSeat flows xs kept.gone new) same seat'))
              (λ there. subst (λ xs. IsSeat flows xs kept.gone view) same
              (seat_grows flows all (number ∷ []) kept.gone view (kept.seats other view there.1)))
              (at_set views seat other new view at');
          put_once = λ place le lt.
              let total = sum_set (λ view. marks place (puts_of view)) views seat old new at in
              let split = marks_then place puts (placed ∷ []) in
              dite (ℕ_discrete place (length all))
              (λ is. let none = subst (λ p. sum_by (λ view. marks p (puts_of view)) views ≡ 0) (sym is) (none_put flows items views kept) in
              let here = mark_here placed place (sym is) in omega (arith, total, split, none, here))
              (λ apart. let one = kept.put_once place le (omega (arith, lt, long, apart)) in
              let else' = mark_else placed place (λ is. apart (sym is)) in omega (arith, total, split, one, else'));
          taken_once = λ place lt.
              let total = sum_set (λ view. marks place (takes_of view)) views seat old new at in
              let one = kept.taken_once place lt in omega (arith, total, one);
        },
      ),
      (length all, front, behind all puts (puts_stand flows all puts own.puts), refl),
    )

pub pushes : (room flows seat number moves : ℕ) (puts takes : List Placed)
    → Pushes IsQueue room seat (Working flows (Some number) moves puts takes) number
    (PutsNumber (Working flows (Some number) moves puts takes) number)
pushes room' flows seat number moves puts takes items views short queue at =
    puts_by flows items views seat number moves puts takes
    (working flows items views seat (Some number) moves puts takes queue at) at

-- the number at the front is taken
takes_by : (flows : ℕ) (front : ℕ) (items : List ℕ) (views : List View) (seat : ℕ) (held : Option ℕ) (moves : ℕ)
    (puts takes : List Placed) → IsWorking flows (front ∷ items) views
    → get_elem? views seat ≡ some (Working flows held moves puts takes)
    → (new : View) × IsQueue items (set views seat new)
    × TakesNumber (Working flows held moves puts takes) front new
takes_by flows front items views seat held moves puts takes kept at =
    let all : List ℕ = numbers flows ++ kept.later in
    let placed : Placed = record { place = length kept.gone; number = front } in
    let old : View = Working flows held moves puts takes in
    let new : View = Working flows (Some front) (moves + 1) puts (takes ++ placed ∷ []) in
    let own = kept.seats seat old at in
    let gone' : List ℕ = kept.gone ++ front ∷ [] in
    let long : length gone' ≡ length kept.gone + 1 = length-append kept.gone (front ∷ []) in
    let grown = seat_goes flows all (front ∷ []) kept.gone old own in
    let seat' : IsSeat flows all gone' new = record {
      held = Some front;
      is = refl;
      below = (kept.below.0, tt);
      puts = own.puts;
      takes = all_then (StandsIn gone') takes (placed ∷ []) grown.takes (place_last kept.gone front, tt);
    } in (
      new,
      inr (
        flows,
        record {
          later = kept.later;
          gone = gone';
          order = kept.order ∙ sym (append_assoc kept.gone (front ∷ []) items);
          below = kept.below.1;
          once = λ n.
              let total = sum_set (λ view. times n (held_of view)) views seat old new at in
              let few = kept.once n in omega (arith, total, few);
          seats = λ other view at'. ⊎_elim
              (λ here. subst (IsSeat flows all gone') here.1 seat')
              (λ there. seat_goes flows all (front ∷ []) kept.gone view (kept.seats other view there.1))
              (at_set views seat other new view at');
          put_once = λ place le lt.
              let total = sum_set (λ view. marks place (puts_of view)) views seat old new at in
              let one = kept.put_once place le lt in omega (arith, total, one);
          taken_once = λ place lt.
              let total = sum_set (λ view. marks place (takes_of view)) views seat old new at in
              let split = marks_then place takes (placed ∷ []) in
              dite (ℕ_discrete place (length kept.gone))
              (λ is. let none = subst (λ p. sum_by (λ view. marks p (takes_of view)) views ≡ 0) (sym is) (none_taken flows (front ∷ items) views kept) in
              let here = mark_here placed place (sym is) in omega (arith, total, split, none, here))
              (λ apart. let one = kept.taken_once place (omega (arith, lt, long, apart)) in
              let else' = mark_else placed place (λ is. apart (sym is)) in omega (arith, total, split, one, else'));
        },
      ),
      (length kept.gone, kept.below.0, behind kept.gone takes own.takes, refl),
    )

pub pops : (flows seat : ℕ) (held : Option ℕ) (moves : ℕ) (puts takes : List Placed)
    → Pops IsQueue seat (Working flows held moves puts takes) (TakesNumber (Working flows held moves puts takes))
pops flows seat held moves puts takes front items views queue at =
    takes_by flows front items views seat held moves puts takes
    (working flows (front ∷ items) views seat held moves puts takes queue at) at

-- a pass is split
pub forks : (flows seat : ℕ) (held : Option ℕ) (moves : ℕ) (puts takes : List Placed)
    → Forks IsQueue seat (Working flows held moves puts takes) (Working flows held (moves + 1) puts takes)
    (Working flows None (moves + 1) [] [])
forks flows seat held moves puts takes items views queue at =
    let kept = working flows items views seat held moves puts takes queue at in
    let old : View = Working flows held moves puts takes in
    let left : View = Working flows held (moves + 1) puts takes in
    let right : View = Working flows None (moves + 1) [] [] in
    let own = kept.seats seat old at in
    inr (
      flows,
      record {
        later = kept.later;
        gone = kept.gone;
        order = kept.order;
        below = kept.below;
        once = λ n.
            let total = sum_set (λ view. times n (held_of view)) views seat old left at in
            let more = sum_by_push (λ view. times n (held_of view)) (set views seat left) right in
            let few = kept.once n in omega (arith, total, more, few);
        seats = λ other view at'. ⊎_elim
            (λ there. ⊎_elim
            (λ here. subst (IsSeat flows (numbers flows ++ kept.later) kept.gone) here.1 (record {
              held = held;
              is = refl;
              below = held_below flows items views seat held moves puts takes kept at;
              puts = own.puts;
              takes = own.takes;
            }))
            (λ else'. kept.seats other view else'.1)
            (at_set views seat other left view there))
            (λ here. subst (IsSeat flows (numbers flows ++ kept.later) kept.gone) here
            (record { held = None; is = refl; below = tt; puts = tt; takes = tt }))
            (at_snoc (set views seat left) right view other at');
        put_once = λ place le lt.
            let total = sum_set (λ view. marks place (puts_of view)) views seat old left at in
            let more = sum_by_push (λ view. marks place (puts_of view)) (set views seat left) right in
            let one = kept.put_once place le lt in omega (arith, total, more, one);
        taken_once = λ place lt.
            let total = sum_set (λ view. marks place (takes_of view)) views seat old left at in
            let more = sum_by_push (λ view. marks place (takes_of view)) (set views seat left) right in
            let one = kept.taken_once place lt in omega (arith, total, more, one);
      },
    )

-- ---- opening

pub begins : IsQueue [] (Opening 0 ∷ [])
begins = inl (0, record { alone = refl; has = refl })

-- a queue with an opening pass is being opened
opening : (items : List ℕ) (views : List View) (seat next : ℕ) → IsQueue items views
    → get_elem? views seat ≡ some (Opening next) → (seat ≡ 0) × IsOpening next items views
opening items views seat next (inl (own, early)) at =
    let only = alone (Opening own) (Opening next) seat (subst (λ vs. get_elem? vs seat ≡ some (Opening next)) early.alone at) in
    (only.0, subst (λ n. IsOpening n items views) (ap next_in only.1) early)
opening items views seat next (inr (flows, kept)) at =
    let mine = kept.seats seat (Opening next) at in absurd (not_working next flows mine.held 0 [] [] mine.is)

pub opens : (room seat number : ℕ) → Pushes IsQueue room seat (Opening number) number (λ after. after ≡ Opening (number + 1))
opens room' seat number items views short queue at =
    let early = opening items views seat number queue at in
    let kept = early.1 in
    let new : View = Opening (number + 1) in
    let P : ℕ → Type 0 = λ n. set views n new ≡ new ∷ [] in (
      new,
      inl (
        number + 1,
        record {
          alone = subst P (sym early.0) (ap (λ vs. set vs 0 new) kept.alone);
          has = ap (λ xs. xs ++ number ∷ []) kept.has ∙ ap numbers (after number);
        },
      ),
      refl,
    )
  where
    after : (n : ℕ) → suc n ≡ n + 1
    after n = omega arith

pub told : (seat number : ℕ) → Learns IsQueue seat (Opening number) (HasOpened (Opening number))
told seat number items views queue at = let early = opening items views seat number queue at in let kept = early.1 in kept.has

pub moment : (seat : ℕ) (view : View) → Learns IsQueue seat view (HasMoment view)
moment seat view items views queue at = (seat, views, queue, at)

pub rooms : (flows seat : ℕ) (held : Option ℕ) (moves : ℕ) (puts takes : List Placed)
    → Learns IsQueue seat (Working flows held moves puts takes) (HasRoom (Working flows held moves puts takes))
rooms flows seat held moves puts takes items views queue at = room flows items views seat held moves puts takes queue at

-- the queue is open, with a spare pass
pub opened_with : (seat flows : ℕ) → Forks IsQueue seat (Opening flows) (Working flows None 0 [] []) (Working flows None 0 [] [])
opened_with seat flows items views queue at =
    let early = opening items views seat flows queue at in
    let kept = early.1 in
    let new : View = Working flows None 0 [] [] in
    let P : ℕ → Type 0 = λ n. set views n new ++ new ∷ [] ≡ new ∷ new ∷ [] in
    let both : set views seat new ++ new ∷ [] ≡ new ∷ new ∷ [] =
    subst P (sym early.0) (ap (λ vs. set vs 0 new ++ new ∷ []) kept.alone) in
    let first : numbers flows ++ [] ≡ items = append-nil (numbers flows) ∙ sym kept.has in
    subst (λ vs. IsQueue items vs) (sym both) (inr (
      flows,
      record {
        later = [];
        gone = [];
        order = first;
        below = subst (λ xs. AllByRecursion (λ n. n < flows) xs) (sym kept.has) (numbers_below flows);
        once = λ n. let few = subst (λ xs. times n xs ≤ 1) (sym kept.has) (times-numbers n flows) in omega (arith, few);
        seats = λ other view at'. subst (IsSeat flows (numbers flows ++ []) []) (twice new new view other at')
            (record { held = None; is = refl; below = tt; puts = tt; takes = tt });
        put_once = λ place le lt. let long = ap length first ∙ ap length kept.has ∙ length-numbers flows in absurd (omega (arith, le, lt, long));
        taken_once = λ place lt. absurd (omega (arith, lt));
      },
    ))
  where
    twice : (a new view : View) (other : ℕ) → get_elem? (new ∷ new ∷ []) other ≡ some view → new ≡ view
    twice a new view zero at = some-injective new view at
    twice a new view (suc zero) at = some-injective new view at
    twice a new view (suc (suc n)) at = absurd (some-ne-none view (sym at))
