-- Flows that are set aside: what is covered with them, and who is found.
use Rattle.std.proofs.Common.{◌≡◌, ◌≢◌, ◌<◌, ◌⊎◌, inl, inr, ℕ, Bool, true, false, not, ◌||◌, ◌&&◌, eqb, List, [], ◌∷◌, ◌++◌, length, Option, Some, None, refl, sym, ap, subst, ◌∙◌, append_assoc, length-append, arith}
use Rattle.std.specs.Prelude.{IsSome, IsTrue, ◌↔◌}
use Rattle.std.specs.Option.{is_some}
use Rattle.std.proofs.lemmas.Bool.{cases_eq, eqb-true, false≢true}
use Rattle.std.proofs.lemmas.List.Folds.{list_any-append}
use Rattle.flux_values.specs.declared.answers.Mode.{Mode}
use Rattle.flux_values.specs.declared.answers.Mode.TheVariants.{Reader, Writer}
use Rattle.flux_values.specs.Meanings.{LibraryMeaning}
use Rattle.flux_model.specs.declared.items.FlowNo.{FlowNo}
use Rattle.flow_model.specs.declared.journals.CallMade.{CallMade}
use Rattle.flow_model.specs.declared.journals.Entry.{Entry}
use Rattle.flow_model.specs.declared.journals.Event.TheVariants.{Take, Call, Drop}
use Rattle.flow_model.specs.declared.journals.Key.{Key}
use Rattle.flow_model.specs.Setup.{Setup}
use Rattle.flow_model.specs.Events.{CallIsNext, IsLive}
use Rattle.flow_model.specs.Legal.{IsLegal}
use Rattle.flux_laws.specs.Going.{IsBlocked, CanGoOn, IsAtCall}
use Rattle.flux_laws.specs.Growth.{has_ended}
use Rattle.flux_laws.proofs.Fronts.{fronts_are_legal}
use Rattle.flux_laws.proofs.LastMoves.{entries_are_moves}
use Rattle.flux_laws.proofs.NextEvents.{call-item}
use Rattle.flux_table.specs.declared.locks.Waiter.{Waiter}
use Rattle.flow_state.specs.declared.readiness.BlockedTake.{BlockedTake}
use Rattle.flow_state.proofs.Ended.{call-goes_on, not-true}
use Rattle.flow_state.proofs.Tables.{not-both}
use Rattle.flow_core.specs.States.{CoreState, setup_in, begun_by, IsKept}
use Rattle.flow_waits.specs.Idle.{IsIdle, AllAreBlocked}
use Rattle.flow_orders.specs.Turns.{IsBefore}
use Rattle.flow_waits.specs.steps.Staying.{IsFresh}
use Rattle.flow_waits.specs.steps.Waking.{has, IsMore, IsLess, IsEarliest, ParkedFlows, IsMoreAt}
use Rattle.flow_waits.specs.steps.Covers.{Pools, parked_for, IsReady, IsParked, IsBehind, IsRightlyParked, IsCovered, Covers, Lags, BecomesParked, FallsAsleep, Parks, WakesFirst, Wakes, served_of, WakesLine}
use Rattle.flow_waits.specs.steps.Aside.{beside, AreAside, IsIdleChosen, CallsKeepCovers}
use Rattle.flow_waits.proofs.Ending.{live-is}
use Rattle.flow_waits.proofs.Membership.{none_has, more_cases, less_there, less_kept}
use Rattle.flow_waits.proofs.Orders.{before-itself, before-then, before-turned}
use Rattle.flow_waits.proofs.Choosing.{without_ended, parked}
use Rattle.flow_waits.proofs.Told.{told-other}
use Rattle.flow_waits.proofs.Woken.{covered-more}

-- ---- members of both

pub has-both : (a b : List ℕ) (flow : ℕ) → has (a ++ b) flow ≡ (has a flow || has b flow)
has-both a b flow = list_any-append (λ number. eqb flow number) a b

either : (a b : List ℕ) (flow : ℕ) → has (a ++ b) flow ≡ true → (has a flow ≡ true) ⊎ (has b flow ≡ true)
either a b flow is = by (has a flow) refl (sym (has-both a b flow) ∙ is)
  where
    by : (one : Bool) → has a flow ≡ one → (one || has b flow) ≡ true → (has a flow ≡ true) ⊎ (has b flow ≡ true)
    by true e there = inl e
    by false e there = inr there

right : (a b : List ℕ) (flow : ℕ) → has b flow ≡ true → has (a ++ b) flow ≡ true
right a b flow is = has-both a b flow ∙ by (has a flow)
  where
    by : (one : Bool) → (one || has b flow) ≡ true
    by true = refl
    by false = is

left : (a b : List ℕ) (flow : ℕ) → has a flow ≡ true → has (a ++ b) flow ≡ true
left a b flow is = has-both a b flow ∙ ap (λ one. one || has b flow) is

-- one less of the second is one less of both, where the first has it not
less-both : (a old new : List ℕ) (flow : ℕ) → IsLess old new flow → (has a flow ≡ true → ⊥)
    → IsLess (a ++ old) (a ++ new) flow
less-both a old new flow less away other =
    has-both a new other ∙ ap (λ b. has a other || b) (less other) ∙ by (eqb flow other) refl (has a other) refl
    ∙ ap (λ b. not (eqb flow other) && b) (sym (has-both a old other))
  where
    by : (same : Bool) → eqb flow other ≡ same → (there : Bool) → has a other ≡ there
        → (there || (not same && has old other)) ≡ (not same && (there || has old other))
    by true e true is = absurd (away (ap (has a) (eqb-true flow other e) ∙ is))
    by true e false is = refl
    by false e there is = refl

-- ---- the same flows

-- the same flows are looked at, and the same are parked
pub record HasSame (old new : Pools) : Type 0 where
  pub ready_ : (flow : ℕ) → has new.ready flow ≡ has old.ready flow
  pub readers_ : new.readers ≡ old.readers
  pub writers_ : new.writers ≡ old.writers

module _ (setup : Setup) (entries : List Entry) (old new : Pools) (from : ℕ) (same : HasSame old new) where
  parks : (mode : Mode) → parked_for new mode ≡ parked_for old mode
  parks Reader = same.readers_
  parks Writer = same.writers_

  back : (key : Key) (mode : Mode) (flow : ℕ) → IsParked new key mode flow → IsParked old key mode flow
  back key mode flow parked = rw (parks mode) at parked

  stay : (key : Key) (mode : Mode) (flow : ℕ) → IsParked old key mode flow → IsParked new key mode flow
  stay key mode flow parked = rw (parks mode) parked

  pub covers-same : Covers setup entries old from → Covers setup entries new from
  covers-same covers = record {
    each = λ flow live. covered-more setup entries old new from flow (λ other ready. same.ready_ other ∙ ready)
        (λ key mode there. inl (stay key mode flow there)) (covers.each flow live);
    fresh = λ key mode flow there. covers.fresh key mode flow (back key mode flow there);
    apart = λ key mode flow there ready. covers.apart key mode flow (back key mode flow there)
        (sym (same.ready_ flow) ∙ ready);
    exist = λ flow ready. covers.exist flow (sym (same.ready_ flow) ∙ ready);
  }

-- ---- a flow that is no longer among those that are looked at

parked-beside : (old new : Pools) (aside : List ℕ) (flow : ℕ) (key : Key) (mode : Mode) (stands : Bool)
    → BecomesParked old new flow key mode stands → BecomesParked (beside old aside) (beside new aside) flow key mode stands
parked-beside old new aside flow key mode true parking = parking
parked-beside old new aside flow key mode false (more, others) = (
  by mode more,
  λ other apart. both other
      (others other apart),
)
  where
    by : (m : Mode) → IsMoreAt (parked_for old m) (parked_for new m) key flow
        → IsMoreAt (parked_for (beside old aside) m) (parked_for (beside new aside) m) key flow
    by Reader is = is
    by Writer is = is

    both : (m : Mode) → parked_for new m ≡ parked_for old m
        → parked_for (beside new aside) m ≡ parked_for (beside old aside) m
    both Reader is = is
    both Writer is = is

parks-beside : (old new : Pools) (aside : List ℕ) (flow : ℕ) (stop : BlockedTake) → Parks old new flow stop
    → (has aside flow ≡ true → ⊥) → Parks (beside old aside) (beside new aside) flow stop
parks-beside old new aside flow stop parks away = record {
  less = less-both aside old.ready new.ready flow parks.less away;
  fewer = λ ready. by (either aside old.ready flow ready);
  parking = parked-beside old new aside flow stop.key stop.mode stop.stands parks.parking;
}
  where
    by : (has aside flow ≡ true) ⊎ IsReady old flow → length (aside ++ new.ready) < length (aside ++ old.ready)
    by (inl there) = absurd (away there)
    by (inr ready) =
        let fewer = parks.fewer ready in
        let a = length-append aside new.ready in
        let b = length-append aside old.ready in
        omega (arith, fewer, a, b)

-- one that is passed over, beside others
pub passed-kept : (old new : Pools) (aside : List ℕ) (flow : ℕ) → FallsAsleep old new flow
    → (other : ℕ) → flow ≢ other → IsReady (beside old aside) other → IsReady (beside new aside) other
passed-kept old new aside flow passed other apart ready = by (either aside old.ready other ready)
  where
    by : (has aside other ≡ true) ⊎ IsReady old other → IsReady (beside new aside) other
    by (inl is) = left aside new.ready other is
    by (inr is) = right aside new.ready other (less_kept old.ready new.ready flow passed.less other apart is)

pub passed-there : (old new : Pools) (aside : List ℕ) (flow : ℕ) → FallsAsleep old new flow
    → (other : ℕ) → IsReady (beside new aside) other → IsReady (beside old aside) other
passed-there old new aside flow passed other ready = by (either aside new.ready other ready)
  where
    by : (has aside other ≡ true) ⊎ IsReady new other → IsReady (beside old aside) other
    by (inl is) = left aside old.ready other is
    by (inr is) = right aside old.ready other (less_there old.ready new.ready flow passed.less other is)

-- flows that are woken

more-both : (a old new : List ℕ) (flow : ℕ) → IsMore old new flow → IsMore (a ++ old) (a ++ new) flow
more-both a old new flow more other =
    has-both a new other ∙ ap (λ b. has a other || b) (more other)
    ∙ by (has a other) (eqb flow other) ∙ ap (λ b. eqb flow other || b) (sym (has-both a old other))
  where
    by : (there same : Bool) → (there || (same || has old other)) ≡ (same || (there || has old other))
    by true true = refl
    by true false = refl
    by false true = refl
    by false false = refl

pub wakes-beside : (old new : Pools) (aside : List ℕ) (key : Key) (mode : Mode) (from : ℕ) → Wakes old new key mode from
    → Wakes (beside old aside) (beside new aside) key mode from
wakes-beside old new aside key mode from wakes = record {
  first = first mode wakes.first;
  others = λ other apart. both other (wakes.others other apart);
}
  where
    both : (m : Mode) → parked_for new m ≡ parked_for old m
        → parked_for (beside new aside) m ≡ parked_for (beside old aside) m
    both Reader is = is
    both Writer is = is

    moved : (parks fewer : ParkedFlows) → WakesFirst old.ready new.ready parks fewer key from
        → WakesFirst (aside ++ old.ready) (aside ++ new.ready) parks fewer key from
    moved parks fewer (inl (none, same, stays)) = inl (none, ap (λ ready. aside ++ ready) same, stays)
    moved parks fewer (inr (flow, moves)) = inr (
      flow,
      record {
        earliest = moves.earliest;
        added = more-both aside old.ready new.ready flow moves.added;
        left = moves.left;
      },
    )

    first : (m : Mode) → WakesFirst old.ready new.ready (parked_for old m) (parked_for new m) key from
        → WakesFirst (aside ++ old.ready) (aside ++ new.ready) (parked_for (beside old aside) m)
        (parked_for (beside new aside) m) key from
    first Reader is = moved old.readers new.readers is
    first Writer is = moved old.writers new.writers is

pub line-beside : (old new : Pools) (aside : List ℕ) (line : List Waiter) → WakesLine old new line
    → WakesLine (beside old aside) (beside new aside) line
line-beside old new aside line wakes = record {
  ready_ = members;
  readers_ = wakes.readers_;
  writers_ = wakes.writers_;
}
  where
    members : (flow : ℕ) → has (aside ++ new.ready) flow ≡ (has (served_of line) flow || has (aside ++ old.ready) flow)
    members flow = has-both aside new.ready flow ∙ ap (λ b. has aside flow || b) (wakes.ready_ flow)
        ∙ by (has aside flow) (has (served_of line) flow)
        ∙ ap (λ b. has (served_of line) flow || b) (sym (has-both aside old.ready flow))
      where
        by : (there served : Bool) → (there || (served || has old.ready flow)) ≡ (served || (there || has old.ready flow))
        by true true = refl
        by true false = refl
        by false true = refl
        by false false = refl

-- ---- a look

-- a flow of which that is denied has no begun call
pub idle-of : {X : Type 0} (o : Option X) (b : Bool) → IsTrue b ↔ IsSome o → b ≡ false → o ≡ None
idle-of None b both is_not = refl
idle-of (Some x) b both is_not = absurd (false≢true (sym is_not ∙ both.1 refl))

module _ {L : Type 0} (meaning : L → LibraryMeaning) (core : CoreState L) (kept : IsKept meaning core) (from : ℕ) where
  abbrev setup : Setup
  setup = setup_in meaning core

  -- a flow with a begun call is at it
  at-call : (flow : ℕ) → IsSome (begun_by core flow) → IsAtCall setup core.entries flow
  at-call flow some = by (begun_by core flow) refl some
    where
      by : (o : Option _) → begun_by core flow ≡ o → IsSome o → IsAtCall setup core.entries flow
      by None is none = absurd (false≢true none)
      by (Some inputs) is some_ = let call = kept.calls flow inputs is in (inputs.node, inputs.args, call.next)

  not-fresh : (flow : ℕ) (key : Key) (mode : Mode) → IsSome (begun_by core flow)
      → IsFresh setup core.entries flow key mode → ⊥
  not-fresh flow key mode some fresh =
      let (node, args, call) = at-call flow some in
      not-both setup core.entries flow (Take key mode) node args fresh.next call

  not-blocked : (flow : ℕ) → IsSome (begun_by core flow) → IsBlocked setup core.entries flow → ⊥
  not-blocked flow some (other, waits) =
      let (node, args, call) = at-call flow some in
      not-both setup core.entries flow (Take waits.key waits.mode) node args waits.next call

  none-begun : (flow : ℕ) → IsSome (begun_by core flow) → begun_by core flow ≡ None → ⊥
  none-begun flow some none = false≢true (sym (ap is_some none) ∙ some)

  not-ended : (flow : ℕ) → flow < length setup.items → IsSome (begun_by core flow)
      → has_ended core.entries flow ≡ true → ⊥
  not-ended flow within some ended =
      let (node, args, call) = at-call flow some in
      call-goes_on setup core.entries kept.legal flow within node args call ended

  module _ (old : Pools) (aside : List ℕ) (are : AreAside meaning core old aside from) where
    pub aside-exist : (flow : ℕ) → IsReady old flow → flow < length setup.items
    aside-exist flow ready = let covers = are.covers in covers.exist flow (right aside old.ready flow ready)

    -- one that has ended isn't aside
    ended-away : (flow : ℕ) → IsReady old flow → (IsLive setup core.entries flow → ⊥) → has aside flow ≡ true → ⊥
    ended-away flow ready ended there =
        let within = aside-exist flow ready in
        ended (live-is setup core.entries flow within
        (not-true (has_ended core.entries flow) (not-ended flow within (are.begun flow there))))

    -- one that has ended is no longer looked at
    pub aside-ended : (new : Pools) (flow : ℕ) → IsReady old flow → IsLess old.ready new.ready flow
        → new.readers ≡ old.readers → new.writers ≡ old.writers → (IsLive setup core.entries flow → ⊥)
        → AreAside meaning core new aside from
    aside-ended new flow ready less readers writers ended = record {
      covers = without_ended setup core.entries (beside old aside) (beside new aside) from flow are.covers
          (less-both aside old.ready new.ready flow less (ended-away flow ready ended)) readers writers ended;
      begun = are.begun;
    }

    -- one that is blocked is parked
    pub aside-parked : (new : Pools) (flow : ℕ) (stop : BlockedTake) → IsBlocked setup core.entries flow
        → Parks old new flow stop
        → ((covers : Covers setup core.entries (beside old aside) from)
        → Parks (beside old aside) (beside new aside) flow stop → Covers setup core.entries (beside new aside) from)
        → AreAside meaning core new aside from
    aside-parked new flow stop blocked parks told = record {
      covers = told are.covers (parks-beside old new aside flow stop parks
          (λ there. not-blocked flow (are.begun flow there) blocked));
      begun = are.begun;
    }

    -- one whose call is begun is set aside
    pub aside-more : (new : Pools) (more : List ℕ) (flow : ℕ) → IsReady old flow → IsLess old.ready new.ready flow
        → new.readers ≡ old.readers → new.writers ≡ old.writers → IsMore aside more flow
        → IsSome (begun_by core flow) → AreAside meaning core new more from
    aside-more new more flow ready less readers writers added some = record {
      covers = covers-same setup core.entries (beside old aside) (beside new more) from (record {
        ready_ = members;
        readers_ = readers;
        writers_ = writers;
      }) are.covers;
      begun = λ other there. begun other (more_cases aside more flow added other there);
    }
      where
        members : (other : ℕ) → has (more ++ new.ready) other ≡ has (aside ++ old.ready) other
        members other = has-both more new.ready other ∙ (λ i. added other i || less other i)
            ∙ by (eqb flow other) refl (has aside other) ∙ sym (has-both aside old.ready other)
          where
            by : (same : Bool) → eqb flow other ≡ same → (there : Bool)
                → ((same || there) || (not same && has old.ready other)) ≡ (there || has old.ready other)
            by true e true = refl
            by true e false = sym (subst (λ f. has old.ready f ≡ true) (eqb-true flow other e) ready)
            by false e there = refl

        begun : (other : ℕ) → (flow ≡ other) ⊎ (has aside other ≡ true) → IsSome (begun_by core other)
        begun other (inl same) = subst (λ f. IsSome (begun_by core f)) same some
        begun other (inr there) = are.begun other there

    -- who is found
    module _ (flow : FlowNo) (earliest : IsEarliest old.ready from flow.0) (can : CanGoOn setup core.entries flow.0)
        (idle : begun_by core flow.0 ≡ None) where
      none-ready : (other : ℕ) → IsReady old other → IsBefore from other flow.0 → ⊥
      none-ready other ready before = by (cases_eq flow.0 other)
        where
          by : (flow.0 ≡ other) ⊎ (flow.0 ≡ other → ⊥) → ⊥
          by (inl same) = before-itself from flow.0 (subst (λ f. IsBefore from f flow.0) (sym same) before)
          by (inr apart) = before-turned from flow.0 other (earliest.first other ready apart) before

      none-before : (other : ℕ) → IsIdle meaning core other → IsBefore from other flow.0 → ⊥
      none-before other is before = let goes = is.can in let covers = are.covers in by (covers.each other goes.live)
        where
          looked : (third : ℕ) → IsReady (beside old aside) third → begun_by core third ≡ None
              → IsBefore from third flow.0 → ⊥
          looked third ready none earlier = told (either aside old.ready third ready)
            where
              told : (has aside third ≡ true) ⊎ IsReady old third → ⊥
              told (inl there) = none-begun third (are.begun third there) none
              told (inr there) = none-ready third there earlier

          behind-fresh : (key : Key) (mode : Mode) → IsBehind setup core.entries (beside old aside) from key mode other
              → ⊥
          behind-fresh key mode behind = told (either aside old.ready behind.other behind.ready)
            where
              told : (has aside behind.other ≡ true) ⊎ IsReady old behind.other → ⊥
              told (inl there) = not-fresh behind.other key mode (are.begun behind.other there) behind.fresh
              told (inr there) = none-ready behind.other there
                  (before-then from behind.other other flow.0 behind.before before)

          cause : (key : Key) (mode : Mode) → IsBlocked setup core.entries other ⊎ IsBehind setup core.entries
              (beside old aside) from key mode other → ⊥
          cause key mode (inl blocked) = let goes = is.can in goes.free blocked
          cause key mode (inr behind) = behind-fresh key mode behind

          by : IsCovered setup core.entries (beside old aside) from other → ⊥
          by (inl ready) = looked other ready is.idle before
          by (inr (inl line)) = let goes = is.can in goes.free line.blocked
          by (inr (inr parking)) = cause parking.key parking.mode parking.cause

      pub idle-chosen : IsIdleChosen meaning core (beside old aside) from flow
      idle-chosen = record {
        first = record { is = record { can = can; idle = idle }; first = none-before };
        ready = right aside old.ready flow.0 earliest.is;
        earliest = λ other ready none apart. by other none apart (either aside old.ready other ready);
      }
        where
          by : (other : ℕ) → begun_by core other ≡ None → flow.0 ≢ other
              → (has aside other ≡ true) ⊎ IsReady old other → IsBefore from flow.0 other
          by other none apart (inl there) = absurd (none-begun other (are.begun other there) none)
          by other none apart (inr there) = earliest.first other there apart

    -- where nobody is looked at, all are blocked
    pub all-blocked : old.ready ≡ [] → AllAreBlocked meaning core
    all-blocked empty flow live none = let covers = are.covers in by (covers.each flow live)
      where
        looked : (third : ℕ) → IsReady (beside old aside) third → IsSome (begun_by core third)
        looked third ready = told (either aside old.ready third ready)
          where
            told : (has aside third ≡ true) ⊎ IsReady old third → IsSome (begun_by core third)
            told (inl there) = are.begun third there
            told (inr there) = absurd (none_has old.ready third empty there)

        cause : (key : Key) (mode : Mode) → IsBlocked setup core.entries flow ⊎ IsBehind setup core.entries
            (beside old aside) from key mode flow → IsBlocked setup core.entries flow
        cause key mode (inl blocked) = blocked
        cause key mode (inr behind) =
            absurd (not-fresh behind.other key mode (looked behind.other behind.ready) behind.fresh)

        by : IsCovered setup core.entries (beside old aside) from flow → IsBlocked setup core.entries flow
        by (inl ready) = absurd (none-begun flow (looked flow ready) none)
        by (inr (inl line)) = line.blocked
        by (inr (inr parking)) = cause parking.key parking.mode parking.cause

-- ---- calls that others finish

call-no_take : (made : CallMade) (key : Key) (mode : Mode) → Call made ≡ Take key mode → ⊥
call-no_take made key mode e = cc

call-no_drop : (made : CallMade) (key : Key) → Call made ≡ Drop key → ⊥
call-no_drop made key e = cc

module _ (setup : Setup) (entries : List Entry) (flow : FlowNo) (made : CallMade) (pools : Pools) (from : ℕ)
    (covers : Covers setup entries pools from)
    (legal : IsLegal setup (entries ++ record { flow = flow; event = Call made } ∷ [])) where
  call-next : CallIsNext setup entries flow.0 made.node made.args
  call-next = let may = entries_are_moves setup entries flow (Call made) legal in may.next

  call-live : IsLive setup entries flow.0
  call-live =
      let within = call-item setup entries flow.0 made.node made.args call-next in
      let before = fronts_are_legal setup entries (record { flow = flow; event = Call made } ∷ []) legal in
      live-is setup entries flow.0 within (not-true (has_ended entries flow.0)
      (call-goes_on setup entries before flow.0 within made.node made.args call-next))

  pub call-ready : IsReady pools flow.0
  call-ready = by (covers.each flow.0 call-live)
    where
      unblocked : IsBlocked setup entries flow.0 → ⊥
      unblocked (other, waits) =
          not-both setup entries flow.0 (Take waits.key waits.mode) made.node made.args waits.next call-next

      when-parked : IsRightlyParked setup entries pools from flow.0 → ⊥
      when-parked parking =
          let fresh = covers.fresh parking.key parking.mode flow.0 parking.parked in
          not-both setup entries flow.0 (Take parking.key parking.mode) made.node made.args fresh.next call-next

      by : IsCovered setup entries pools from flow.0 → IsReady pools flow.0
      by (inl ready) = ready
      by (inr (inl line)) = absurd (unblocked line.blocked)
      by (inr (inr parking)) = absurd (when-parked parking)

  call-lags : Lags setup (entries ++ record { flow = flow; event = Call made } ∷ []) pools from
  call-lags = record {
    before = entries;
    flow = flow;
    event = Call made;
    added = refl;
    was = from;
    covers = covers;
    ready = call-ready;
    later = λ one other key mode ready fresh apart before. before;
  }

  pub call-keeps : Covers setup (entries ++ record { flow = flow; event = Call made } ∷ []) pools from
  unfolding call-lags
  call-keeps = told-other setup (entries ++ record { flow = flow; event = Call made } ∷ []) legal pools from call-lags
      (λ key mode e. call-no_take made key mode e) (λ key e. call-no_drop made key e)

pub calls_keep_covers : CallsKeepCovers
calls_keep_covers setup entries [] pools from covers legal calls =
    subst (λ es. Covers setup es pools from) (by entries) covers
  where
    by : (es : List Entry) → es ≡ es ++ []
    by [] = refl
    by (e ∷ es) = ap (λ more. e ∷ more) (by es)
calls_keep_covers setup entries (entry ∷ more) pools from covers legal (call, calls) =
    let made = call.made in
    let one : Entry = record { flow = entry.flow; event = Call made } in
    let same : entry ≡ one = λ i. record { flow = entry.flow; event = call.is i } in
    let split : entries ++ entry ∷ more ≡ (entries ++ one ∷ []) ++ more =
    ap (λ e. entries ++ e ∷ more) same ∙ sym (append_assoc entries (one ∷ []) more) in
    let whole = subst (IsLegal setup) split legal in
    let first = fronts_are_legal setup (entries ++ one ∷ []) more whole in
    subst (λ es. Covers setup es pools from) (sym split)
    (calls_keep_covers setup (entries ++ one ∷ []) more pools from
    (call-keeps setup entries entry.flow made pools from covers first) whole calls)
