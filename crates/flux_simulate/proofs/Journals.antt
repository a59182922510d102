-- Journals with ticks that grow by an entry.
use Rattle.std.proofs.Common.{◌≡◌, ◌<◌, ◌≤◌, ◌⊎◌, inl, inr, ℕ, Bool, true, false, cond, eqb, leb, List, [], ◌∷◌, ◌++◌, map, length, refl, ap, subst, ◌∙◌, arith}
use Rattle.std.specs.List.{AllByRecursion}
use Rattle.std.proofs.lemmas.Bool.{le-leb, lt-leb, eq-eqb, ne_eqb, cond-true, cond-false}
use Rattle.std.proofs.lemmas.List.{append-nil}
use Rattle.std.proofs.lemmas.Grind.{flat_map-append}
use Rattle.flux_model.specs.declared.items.FlowNo.{FlowNo}
use Rattle.flow_model.specs.declared.journals.Entry.{Entry}
use Rattle.flow_model.specs.declared.journals.Event.{Event}
use Rattle.flow_model.specs.declared.journals.Event.TheVariants.{Take, Wait, Enter, Choose, Call, Exit, Drop, End}
use Rattle.flow_model.specs.Setup.{Setup}
use Rattle.flow_waits.specs.Turns.{IsPassing}
use Rattle.flux_laws.proofs.Members.{end_or_front, IsEnd, InFront}
use Rattle.flow_orders.specs.Ticks.{Timed, timed, chosen, until, at_tick}
use Rattle.flow_orders.specs.Runs.{CallEnd, ends_by, ends_in}
use Rattle.flow_orders.specs.Rule.{IsTurnAt, ComeInTurn}

-- ---- one entry more

pub timed-more : (at : List ℕ) (entries : List Entry) (tick : ℕ) (entry : Entry) → length at ≡ length entries
    → timed (at ++ tick ∷ []) (entries ++ entry ∷ []) ≡ timed at entries ++ (tick, entry) ∷ []
timed-more [] [] tick entry same = refl
timed-more [] (one ∷ entries) tick entry same = absurd (omega (arith, same))
timed-more (t ∷ at) [] tick entry same = absurd (omega (arith, same))
timed-more (t ∷ at) (one ∷ entries) tick entry same =
    ap (λ (journal : Timed). (t, one) ∷ journal) (timed-more at entries tick entry (omega (arith, same)))

pub entries-of : (at : List ℕ) (entries : List Entry) → length at ≡ length entries
    → map (λ (one : ℕ × Entry). one.1) (timed at entries) ≡ entries
entries-of [] [] same = refl
entries-of [] (one ∷ entries) same = absurd (omega (arith, same))
entries-of (t ∷ at) [] same = absurd (omega (arith, same))
entries-of (t ∷ at) (one ∷ entries) same =
    ap (λ (es : List Entry). one ∷ es) (entries-of at entries (omega (arith, same)))

-- ---- entries by their ticks

chosen-append : (test : ℕ → Bool) (a b : Timed) → chosen test (a ++ b) ≡ chosen test a ++ chosen test b
chosen-append test [] b = refl
chosen-append test (one ∷ a) b = by (test one.0) (chosen-append test a b)
  where
    by : (is : Bool) → chosen test (a ++ b) ≡ chosen test a ++ chosen test b
        → cond is (one.1 ∷ chosen test (a ++ b)) (chosen test (a ++ b))
        ≡ cond is (one.1 ∷ chosen test a) (chosen test a) ++ chosen test b
    by true more = ap (λ (es : List Entry). one.1 ∷ es) more
    by false more = more

-- what comes later doesn't change what was done
pub until-later : (t tick : ℕ) (journal : Timed) (entry : Entry) → t < tick
    → until t (journal ++ (tick, entry) ∷ []) ≡ until t journal
until-later t tick journal entry later =
    chosen-append (λ at. leb at t) journal ((tick, entry) ∷ [])
    ∙ ap (λ (es : List Entry). until t journal ++ es) (cond-false (leb tick t) (entry ∷ []) [] (lt-leb tick t later))
    ∙ append-nil (until t journal)

-- when all is done, all is done
pub until-all : (t : ℕ) (at : List ℕ) (entries : List Entry) → length at ≡ length entries
    → AllByRecursion (λ a. a ≤ t) at → until t (timed at entries) ≡ entries
until-all t [] [] same all = refl
until-all t [] (one ∷ entries) same all = absurd (omega (arith, same))
until-all t (a ∷ at) [] same all = absurd (omega (arith, same))
until-all t (a ∷ at) (one ∷ entries) same all =
    cond-true (leb a t) (one ∷ until t (timed at entries)) (until t (timed at entries)) (le-leb a t all.0)
    ∙ ap (λ (es : List Entry). one ∷ es) (until-all t at entries (omega (arith, same)) all.1)

-- nothing is done yet at a later tick
pub at_tick-none : (tick : ℕ) (at : List ℕ) (entries : List Entry) → AllByRecursion (λ a. a < tick) at
    → at_tick tick (timed at entries) ≡ []
at_tick-none tick [] entries all = refl
at_tick-none tick (a ∷ at) [] all = refl
at_tick-none tick (a ∷ at) (one ∷ entries) all =
    cond-false (eqb a tick) (one ∷ at_tick tick (timed at entries)) (at_tick tick (timed at entries))
    (ne_eqb a tick (λ same. let lt = all.0 in omega (arith, same, lt)))
    ∙ at_tick-none tick at entries all.1

pub at_tick-more : (tick : ℕ) (journal : Timed) (entry : Entry)
    → at_tick tick (journal ++ (tick, entry) ∷ []) ≡ at_tick tick journal ++ entry ∷ []
at_tick-more tick journal entry =
    chosen-append (λ at. eqb at tick) journal ((tick, entry) ∷ [])
    ∙ ap (λ (es : List Entry). at_tick tick journal ++ es)
    (cond-true (eqb tick tick) (entry ∷ []) [] (eq-eqb tick tick refl))

-- ---- ends of calls

pub ends-more : (journal : Timed) (tick : ℕ) (flow : FlowNo) (event : Event)
    → ends_in (journal ++ (tick, record { flow = flow; event = event }) ∷ []) ≡ ends_in journal ++ ends_by tick flow event
ends-more journal tick flow event =
    flat_map-append (λ (one : ℕ × Entry). let entry : Entry = one.1 in ends_by one.0 entry.flow entry.event) journal
    ((tick, record { flow = flow; event = event }) ∷ [])
    ∙ ap (λ (ends : List CallEnd). ends_in journal ++ ends) (append-nil (ends_by tick flow event))

pub no-ends : (tick : ℕ) (flow : FlowNo) (event : Event) → IsPassing event → ends_by tick flow event ≡ []
no-ends tick flow (Call made) passes = absurd passes
no-ends tick flow (Wait key mode) passes = absurd passes
no-ends tick flow (Take key mode) passes = refl
no-ends tick flow (Enter node) passes = refl
no-ends tick flow (Choose place) passes = refl
no-ends tick flow (Exit node outcome) passes = refl
no-ends tick flow (Drop key) passes = refl
no-ends tick flow (End outcome) passes = refl

-- ---- turns

-- the turn of an entry with its tick
abbrev IsTurnOf : Setup → Timed → ℕ × Entry → Type 0
IsTurnOf setup before one = let entry : Entry = one.1 in IsTurnAt setup before one.0 entry.flow entry.event

pub turns-none : (setup : Setup) → ComeInTurn setup []
turns-none setup [] after tick flow event stands = absurd cc
turns-none setup (one ∷ before) after tick flow event stands = absurd cc

pub turns-more : (setup : Setup) (journal : Timed) (tick : ℕ) (flow : FlowNo) (event : Event)
    → ComeInTurn setup journal → IsTurnAt setup journal tick flow event
    → ComeInTurn setup (journal ++ (tick, record { flow = flow; event = event }) ∷ [])
turns-more setup journal tick flow event turns own before after t f e stands =
    by (end_or_front journal last before one after stands)
  where
    last : ℕ × Entry
    last = (tick, record { flow = flow; event = event })

    one : ℕ × Entry
    one = (t, record { flow = f; event = e })

    by : IsEnd journal last before one after ⊎ InFront journal last before one after → IsTurnAt setup before t f e
    by (inl end) = subst (λ (b : Timed). IsTurnOf setup b one) end.whole
        (subst (λ (x : ℕ × Entry). IsTurnOf setup journal x) end.same own)
    by (inr front) = turns before front.rest t f e front.front
