-- The first flow that can go on is among those that are looked at.
use Rattle.std.proofs.Common.{◌≡◌, ◌≢◌, ◌<◌, ◌⊎◌, inl, inr, ℕ, Bool, true, false, List, [], length, refl, sym, ap, subst, ◌∙◌}
use Rattle.std.proofs.lemmas.Bool.{cases_eq}
use Rattle.flux_values.specs.declared.answers.Mode.{Mode}
use Rattle.flux_values.specs.declared.answers.Mode.TheVariants.{Reader, Writer}
use Rattle.flow_model.specs.declared.journals.Key.{Key}
use Rattle.flow_model.specs.declared.journals.Entry.{Entry}
use Rattle.flow_model.specs.declared.journals.Event.TheVariants.{Take}
use Rattle.flow_model.specs.Setup.{Setup}
use Rattle.flow_model.specs.Events.{IsLive}
use Rattle.flow_model.specs.Exclusion.{HoldsKey}
use Rattle.flow_model.specs.Legal.{IsLegal}
use Rattle.flux_laws.specs.Going.{IsBlocked, CanGoOn}
use Rattle.flux_laws.proofs.Living.{not_all_blocked}
use Rattle.flux_laws.proofs.Standing.{next-unique}
use Rattle.flow_state.specs.declared.readiness.BlockedTake.{BlockedTake}
use Rattle.flow_state.specs.Lines.{IsBlockedTake}
use Rattle.flow_orders.specs.Turns.{IsBefore, IsInLine}
use Rattle.flow_waits.specs.steps.Staying.{IsFresh}
use Rattle.flow_waits.specs.steps.Waking.{has, IsLess, IsEarliest, parked_at}
use Rattle.flow_waits.specs.steps.Covers.{Pools, IsReady, IsParked, IsRightlyParked, IsBehind, IsCovered, Covers, IsChosen, BecomesParked, Parks, parked_for}
use Rattle.flow_waits.proofs.Orders.{before-itself, before-then, before-turned}
use Rattle.flow_waits.proofs.Membership.{none_has, less_there, less_kept, less_own, more_at_cases, more_at_there, more_at_own}
use Rattle.flow_waits.proofs.Blocked.{fresh_are_alike}

module _ (setup : Setup) (entries : List Entry) (pools : Pools) (from : ℕ) (covers : Covers setup entries pools from)
  where
    -- a flow before all others that are looked at is the first of all, if it can go on
    pub chosen : (flow : ℕ) → IsEarliest pools.ready from flow → CanGoOn setup entries flow
        → IsChosen setup entries pools from flow
    chosen flow earliest can = record {
      first = record { can = can; first = none };
      earliest = earliest;
    }
      where
        -- none that is looked at comes before it
        none-ready : (other : ℕ) → IsReady pools other → IsBefore from other flow → ⊥
        none-ready other ready before = by (cases_eq flow other)
          where
            by : (flow ≡ other) ⊎ (flow ≡ other → ⊥) → ⊥
            by (inl same) = before-itself from flow (subst (λ f. IsBefore from f flow) (sym same) before)
            by (inr apart) = before-turned from flow other (earliest.first other ready apart) before

        none : (other : ℕ) → CanGoOn setup entries other → IsBefore from other flow → ⊥
        none other goes before = by (covers.each other goes.live)
          where
            when-parked : IsRightlyParked setup entries pools from other → ⊥
            when-parked parking = cause parking.cause
              where
                cause : IsBlocked setup entries other ⊎ IsBehind setup entries pools from parking.key parking.mode other → ⊥
                cause (inl blocked) = goes.free blocked
                cause (inr behind) = none-ready behind.other behind.ready
                    (before-then from behind.other other flow behind.before before)

            by : IsCovered setup entries pools from other → ⊥
            by (inl ready) = none-ready other ready before
            by (inr (inl line)) = goes.free line.blocked
            by (inr (inr parking)) = when-parked parking

    -- where no flow is looked at, none is live
    pub none_left : IsLegal setup entries → pools.ready ≡ [] → (flow : ℕ) → IsLive setup entries flow → ⊥
    none_left legal none flow live = not_all_blocked setup entries legal blocked flow live
      where
        blocked : (other : ℕ) → IsLive setup entries other → IsBlocked setup entries other
        blocked other there = by (covers.each other there)
          where
            when-parked : IsRightlyParked setup entries pools from other → IsBlocked setup entries other
            when-parked parking = cause parking.cause
              where
                cause : IsBlocked setup entries other ⊎ IsBehind setup entries pools from parking.key parking.mode other
                    → IsBlocked setup entries other
                cause (inl is) = is
                cause (inr behind) = absurd (none_has pools.ready behind.other none behind.ready)

            by : IsCovered setup entries pools from other → IsBlocked setup entries other
            by (inl ready) = absurd (none_has pools.ready other none ready)
            by (inr (inl line)) = line.blocked
            by (inr (inr parking)) = when-parked parking

-- ---- flows that are no longer looked at

pub mode_cases : (a b : Mode) → (a ≡ b) ⊎ (a ≡ b → ⊥)
mode_cases Reader Reader = inl refl
mode_cases Reader Writer = inr (λ e. cc)
mode_cases Writer Reader = inr (λ e. cc)
mode_cases Writer Writer = inl refl

-- ---- all flows are looked at

none-parked : (key : Key) (flow : ℕ) → has (parked_at [] key) flow ≡ true → ⊥
none-parked key flow is = by is
  where
    by : false ≡ true → ⊥
    by e = cc

pub all_ready : (setup : Setup) (entries : List Entry) (ready : List ℕ)
    → ((flow : ℕ) → flow < length setup.items → has ready flow ≡ true)
    → ((flow : ℕ) → has ready flow ≡ true → flow < length setup.items) → (from : ℕ)
    → Covers setup entries (record { ready = ready; readers = []; writers = [] }) from
all_ready setup entries ready all exist from = record {
  each = λ flow live. inl (all flow live.item);
  fresh = fresh;
  apart = apart;
  exist = exist;
}
  where
    fresh : (key : Key) (mode : Mode) (flow : ℕ) → IsParked (record { ready = ready; readers = []; writers = [] }) key
        mode flow → IsFresh setup entries flow key mode
    fresh key Reader flow parked = absurd (none-parked key flow parked)
    fresh key Writer flow parked = absurd (none-parked key flow parked)

    apart : (key : Key) (mode : Mode) (flow : ℕ) → IsParked (record { ready = ready; readers = []; writers = [] }) key
        mode flow → IsReady (record { ready = ready; readers = []; writers = [] }) flow → ⊥
    apart key Reader flow parked is = none-parked key flow parked
    apart key Writer flow parked is = none-parked key flow parked

-- ---- flows that are no longer looked at, by their places

-- all parked flows stay, or one flow more is parked
abbrev pub IsParkedSo : Pools → Pools → Key → Mode → ℕ → Type 0
IsParkedSo old new key mode flow =
    ((k : Key) (m : Mode) (other : ℕ) → IsParked old k m other → IsParked new k m other)
    × ((k : Key) (m : Mode) (other : ℕ) → IsParked new k m other
    → IsParked old k m other ⊎ ((key ≡ k) × (mode ≡ m) × (flow ≡ other)))

module _ (setup : Setup) (entries : List Entry) (old new : Pools) (from flow : ℕ)
    (covers : Covers setup entries old from)
    (kept : (other : ℕ) → flow ≢ other → IsReady old other → IsReady new other)
    (there : (other : ℕ) → IsReady new other → IsReady old other) where
  -- what becomes of the others, where those after the flow are covered without it
  others : ((k : Key) (m : Mode) (other : ℕ) → IsParked old k m other → IsParked new k m other)
      → ((k : Key) (m : Mode) (other : ℕ) → IsParked old k m other → IsFresh setup entries flow k m
      → IsBlocked setup entries other)
      → (other : ℕ) → flow ≢ other → IsLive setup entries other → IsCovered setup entries new from other
  others stay alike other apart live = by (covers.each other live)
    where
      when-parked : IsRightlyParked setup entries old from other → IsRightlyParked setup entries new from other
      when-parked parking = record {
        key = parking.key;
        mode = parking.mode;
        parked = stay parking.key parking.mode other parking.parked;
        cause = cause parking.cause;
      }
        where
          behind-it : IsBehind setup entries old from parking.key parking.mode other
              → IsBlocked setup entries other ⊎ IsBehind setup entries new from parking.key parking.mode other
          behind-it behind = one (cases_eq flow behind.other)
            where
              one : (flow ≡ behind.other) ⊎ (flow ≡ behind.other → ⊥)
                  → IsBlocked setup entries other ⊎ IsBehind setup entries new from parking.key parking.mode other
              one (inl same) = inl (alike parking.key parking.mode other parking.parked
                  (subst (λ f. IsFresh setup entries f parking.key parking.mode) (sym same) behind.fresh))
              one (inr elsewhere) = inr (record {
                other = behind.other;
                ready = kept behind.other elsewhere behind.ready;
                fresh = behind.fresh;
                before = behind.before;
              })

          cause : IsBlocked setup entries other ⊎ IsBehind setup entries old from parking.key parking.mode other
              → IsBlocked setup entries other ⊎ IsBehind setup entries new from parking.key parking.mode other
          cause (inl blocked) = inl blocked
          cause (inr behind) = behind-it behind

      by : IsCovered setup entries old from other → IsCovered setup entries new from other
      by (inl ready) = inl (kept other apart ready)
      by (inr (inl line)) = inr (inl line)
      by (inr (inr parking)) = inr (inr (when-parked parking))

  exist : (other : ℕ) → IsReady new other → other < length setup.items
  exist other ready = covers.exist other (there other ready)

  -- one that is covered otherwise, with all parked flows as they were
  without-own : new.readers ≡ old.readers → new.writers ≡ old.writers
      → (IsLive setup entries flow → IsCovered setup entries new from flow)
      → ((key : Key) (mode : Mode) → IsFresh setup entries flow key mode → ⊥) → Covers setup entries new from
  without-own readers writers own stale = record {
    each = each;
    fresh = λ key mode other parked. covers.fresh key mode other (back key mode other parked);
    apart = λ key mode other parked ready. covers.apart key mode other (back key mode other parked)
        (there other ready);
    exist = exist;
  }
    where
      same : (mode : Mode) → parked_for new mode ≡ parked_for old mode
      same Reader = readers
      same Writer = writers

      stay : (k : Key) (m : Mode) (other : ℕ) → IsParked old k m other → IsParked new k m other
      stay k m other parked = rw (same m) parked

      back : (k : Key) (m : Mode) (other : ℕ) → IsParked new k m other → IsParked old k m other
      back k m other parked = rw (same m) at parked

      each : (other : ℕ) → IsLive setup entries other → IsCovered setup entries new from other
      each other live = by (cases_eq flow other)
        where
          by : (flow ≡ other) ⊎ (flow ≡ other → ⊥) → IsCovered setup entries new from other
          by (inl is) = subst (IsCovered setup entries new from) is (own (subst (IsLive setup entries) (sym is) live))
          by (inr apart) = others stay (λ k m o parked fresh. absurd (stale k m fresh)) other apart live

  -- one that is blocked, and is in a line
  pub without_standing : new.readers ≡ old.readers → new.writers ≡ old.writers → IsInLine setup entries flow
      → Covers setup entries new from
  without_standing readers writers line = without-own readers writers (λ live. inr (inl line))
      (λ key mode fresh. fresh.stands_nowhere line.key line.mode line.place line.stands)

module _ (setup : Setup) (entries : List Entry) (old new : Pools) (from flow : ℕ)
    (covers : Covers setup entries old from) (less : IsLess old.ready new.ready flow) where
  abbrev kept : (other : ℕ) → flow ≢ other → IsReady old other → IsReady new other
  kept = less_kept old.ready new.ready flow less

  abbrev there : (other : ℕ) → IsReady new other → IsReady old other
  there = less_there old.ready new.ready flow less

  -- one that has ended
  pub without_ended : new.readers ≡ old.readers → new.writers ≡ old.writers → (IsLive setup entries flow → ⊥)
      → Covers setup entries new from
  without_ended readers writers ended =
      without-own setup entries old new from flow covers kept there readers writers (λ live. absurd (ended live))
      (λ key mode fresh. ended fresh.live)

  -- one that is blocked, and is parked now
  pub without_parked : (key : Key) (mode : Mode) → IsParkedSo old new key mode flow → IsParked new key mode flow
      → IsFresh setup entries flow key mode → IsBlocked setup entries flow
      → Covers setup entries new from
  without_parked key mode (stay, back) parked own blocked = record {
    each = each;
    fresh = fresh;
    apart = apart;
    exist = exist setup entries old new from flow covers kept there;
  }
    where
      each : (other : ℕ) → IsLive setup entries other → IsCovered setup entries new from other
      each other live = by (cases_eq flow other)
        where
          by : (flow ≡ other) ⊎ (flow ≡ other → ⊥) → IsCovered setup entries new from other
          by (inl same) = subst (λ f. IsCovered setup entries new from f) same
              (inr (inr (record { key = key; mode = mode; parked = parked; cause = inl blocked })))
          by (inr elsewhere) = others setup entries old new from flow covers kept there stay
              (λ k m o parked fresh. fresh_are_alike setup entries flow o k m fresh (covers.fresh k m o parked) blocked)
              other elsewhere live

      fresh : (k : Key) (m : Mode) (other : ℕ) → IsParked new k m other → IsFresh setup entries other k m
      fresh k m other there = by (back k m other there)
        where
          by : IsParked old k m other ⊎ ((key ≡ k) × (mode ≡ m) × (flow ≡ other)) → IsFresh setup entries other k m
          by (inl was) = covers.fresh k m other was
          by (inr (same_key, same_mode, same)) = rw (← same_key, ← same_mode, ← same) own

      apart : (k : Key) (m : Mode) (other : ℕ) → IsParked new k m other → IsReady new other → ⊥
      apart k m other there ready = by (back k m other there)
        where
          by : IsParked old k m other ⊎ ((key ≡ k) × (mode ≡ m) × (flow ≡ other)) → ⊥
          by (inl was) = covers.apart k m other was (less_there old.ready new.ready flow less other ready)
          by (inr (same_key, same_mode, same)) = less_own old.ready new.ready flow less (rw same ready)

-- a flow that is parked, blocked at a stop
module _ (setup : Setup) (entries : List Entry) (old new : Pools) (from flow : ℕ) (stop : BlockedTake)
    (legal : IsLegal setup entries) (covers : Covers setup entries old from)
    (parks : Parks old new flow stop) (live : IsLive setup entries flow) (is_stop : IsBlockedTake setup entries flow stop)
  where
    free : HoldsKey entries flow stop.key → ⊥
    free = by is_stop.blocked
      where
        by : IsBlocked setup entries flow → HoldsKey entries flow stop.key → ⊥
        by (other, waits) holds =
            let same : Take waits.key waits.mode ≡ Take stop.key stop.mode =
            next-unique setup entries flow (Take waits.key waits.mode) (Take stop.key stop.mode) waits.next
            is_stop.next in
            let key_is : waits.key ≡ stop.key = cc same in
            let blocked = waits.blocked in
            blocked.free (subst (HoldsKey entries flow) (sym key_is) holds)

    pub parked : Covers setup entries new from
    parked = by stop.stands refl parks.parking
      where
        by : (b : Bool) → stop.stands ≡ b → BecomesParked old new flow stop.key stop.mode b → Covers setup entries new from
        by true stands (readers, writers) =
            let (place, there) = is_stop.stands stands in
            without_standing setup entries old new from flow covers (less_kept old.ready new.ready flow parks.less)
            (less_there old.ready new.ready flow parks.less) readers writers
            (record { key = stop.key; mode = stop.mode; place = place; stands = there; blocked = is_stop.blocked })
        by false not (more, others) =
            without_parked setup entries old new from flow covers parks.less stop.key stop.mode (kept, back)
            (own stop.mode refl)
            (record {
              live = live;
              next = is_stop.next;
              free = free;
              stands_nowhere = λ line own place stands. is_stop.nowhere not line own place stands;
            }) is_stop.blocked
          where
            own : (m : Mode) → stop.mode ≡ m → IsParked new stop.key stop.mode flow
            own m is = more_at_own (parked_for old stop.mode) (parked_for new stop.mode) stop.key flow more

            kept : (k : Key) (m : Mode) (other : ℕ) → IsParked old k m other → IsParked new k m other
            kept k m other was = told (mode_cases stop.mode m)
              where
                told : (stop.mode ≡ m) ⊎ (stop.mode ≡ m → ⊥) → IsParked new k m other
                told (inl same) = subst (λ q. IsParked new k q other) same
                    (more_at_there (parked_for old stop.mode) (parked_for new stop.mode) stop.key flow more k other
                    (subst (λ q. IsParked old k q other) (sym same) was))
                told (inr apart) = ap (λ parks. has (parked_at parks k) other) (others m apart) ∙ was

            back : (k : Key) (m : Mode) (other : ℕ) → IsParked new k m other
                → IsParked old k m other ⊎ ((stop.key ≡ k) × (stop.mode ≡ m) × (flow ≡ other))
            back k m other is = told (mode_cases stop.mode m)
              where
                told : (stop.mode ≡ m) ⊎ (stop.mode ≡ m → ⊥)
                    → IsParked old k m other ⊎ ((stop.key ≡ k) × (stop.mode ≡ m) × (flow ≡ other))
                told (inr apart) = inl (ap (λ parks. has (parked_at parks k) other) (sym (others m apart)) ∙ is)
                told (inl same) = cases (more_at_cases (parked_for old stop.mode) (parked_for new stop.mode) stop.key flow
                    more k other (subst (λ q. IsParked new k q other) (sym same) is))
                  where
                    cases : ((stop.key ≡ k) × (flow ≡ other)) ⊎ IsParked old k stop.mode other
                        → IsParked old k m other ⊎ ((stop.key ≡ k) × (stop.mode ≡ m) × (flow ≡ other))
                    cases (inl (key_is, own_is)) = inr (key_is, same, own_is)
                    cases (inr was) = inl (subst (λ q. IsParked old k q other) same was)
