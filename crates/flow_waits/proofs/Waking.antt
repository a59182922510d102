-- What is so of candidates after one entry more.
use Rattle.std.proofs.Common.{◌≡◌, ◌≢◌, ◌⊎◌, inl, inr, ℕ, List, [], ◌∷◌, ◌++◌, sym, ap, subst, ◌∙◌}
use Rattle.std.proofs.lemmas.Bool.{cases_eq}
use Rattle.flux_values.specs.declared.answers.Mode.{Mode}
use Rattle.flux_model.specs.declared.items.FlowNo.{FlowNo}
use Rattle.flow_model.specs.declared.journals.Key.{Key}
use Rattle.flow_model.specs.declared.journals.Entry.{Entry}
use Rattle.flow_model.specs.declared.journals.Event.{Event}
use Rattle.flow_model.specs.declared.journals.Event.TheVariants.{Take, Wait, Enter, Choose, Call, Exit, Drop, End}
use Rattle.flow_model.specs.Setup.{Setup}
use Rattle.flow_model.specs.Events.{own_events, IsLive, IsNext}
use Rattle.flow_model.specs.Waits.{StandsAt}
use Rattle.flow_model.specs.Legal.{IsLegal}
use Rattle.flow_model.proofs.Keys.{key_cases}
use Rattle.flux_laws.specs.Going.{IsBlocked}
use Rattle.flux_laws.specs.Moves.{IsMove}
use Rattle.flux_laws.proofs.Standing.{next-unique, standing-next}
use Rattle.flux_laws.proofs.Fronts.{fronts_are_legal}
use Rattle.flux_laws.proofs.LastMoves.{entries_are_moves}
use Rattle.flow_orders.specs.Turns.{IsBefore, IsInLine}
use Rattle.flow_waits.specs.steps.Staying.{IsFresh}
use Rattle.flow_waits.specs.steps.Covers.{Pools, IsReady, IsParked, IsBehind, IsCovered, Covers}
use Rattle.flow_waits.proofs.Others.{live-back, last-stays, fresh-stays}
use Rattle.flow_waits.proofs.Blocked.{blocked_stay, fresh_are_alike, nothing-left}

-- ---- what is so after an entry

-- an event drops a key or not
drops_or_not : (event : Event) (key : Key) → (event ≡ Drop key) ⊎ (event ≡ Drop key → ⊥)
drops_or_not (Drop k) key = key_cases k key (λ same _. inl (ap Drop same)) (λ _ apart. inr (λ e. apart (cc)))
drops_or_not (Take k mode) key = inr (λ e. cc)
drops_or_not (Wait k mode) key = inr (λ e. cc)
drops_or_not (Enter node) key = inr (λ e. cc)
drops_or_not (Choose place) key = inr (λ e. cc)
drops_or_not (Call made) key = inr (λ e. cc)
drops_or_not (Exit node outcome) key = inr (λ e. cc)
drops_or_not (End outcome) key = inr (λ e. cc)

-- who has to be looked at after an entry: who is in the line of a dropped key or is parked at it, and who is
-- parked at the key of a take in its mode
pub record IsOwed (entries : List Entry) (event : Event) (pools : Pools) (flow : ℕ) : Type 0 where
  pub key : Key
  pub mode : Mode
  pub cause : ((event ≡ Drop key) × (place : ℕ) × StandsAt entries flow key mode place)
      ⊎ (((event ≡ Drop key) ⊎ (event ≡ Take key mode)) × IsParked pools key mode flow)

module _ (setup : Setup) (before : List Entry) (flow : FlowNo) (event : Event)
    (legal : IsLegal setup (before ++ record { flow = flow; event = event } ∷ []))
    (pools : Pools) (was from : ℕ) (covers : Covers setup before pools was) (ready : IsReady pools flow.0)
    (later : (one other : ℕ) (key : Key) (mode : Mode) → IsReady pools one → IsFresh setup before one key mode
    → flow.0 ≢ one → IsBefore was one other → IsBefore from one other)
  where
    abbrev entries : List Entry
    entries = before ++ record { flow = flow; event = event } ∷ []

    earlier : IsLegal setup before
    earlier = fronts_are_legal setup before (record { flow = flow; event = event } ∷ []) legal

    move : IsMove setup before flow event
    move = entries_are_moves setup before flow event legal

    -- who is parked isn't the flow of the entry
    parked-apart : (key : Key) (mode : Mode) (other : ℕ) → IsParked pools key mode other → flow.0 ≡ other → ⊥
    parked-apart key mode other parked same = covers.apart key mode other parked (subst (IsReady pools) same ready)

    pub parked-fresh : (key : Key) (mode : Mode) (other : ℕ) → IsParked pools key mode other
        → IsFresh setup entries other key mode
    parked-fresh key mode other parked =
        fresh-stays before flow event other (parked-apart key mode other parked) setup key mode
        (covers.fresh key mode other parked)

    -- the entry of a flow at a take that isn't blocked is that take
    took : (key : Key) (mode : Mode) → IsNext setup before flow.0 (Take key mode) → (e : Event)
        → IsMove setup before flow e → (e ≡ Take key mode) ⊎ IsBlocked setup before flow.0
    took key mode next (Wait k m) may = inr may.blocked
    took key mode next (Call made) may =
        absurd (nothing-left (own_events before flow.0) (Take key mode) next.rest
        (sym (let call = may.next in call.all) ∙ next.next))
    took key mode next (Take k m) may =
        inl (next-unique setup before flow.0 (Take k m) (Take key mode) may.next next)
    took key mode next (Enter node) may =
        inl (next-unique setup before flow.0 (Enter node) (Take key mode) may.next next)
    took key mode next (Choose n) may =
        inl (next-unique setup before flow.0 (Choose n) (Take key mode) may.next next)
    took key mode next (Exit node outcome) may =
        inl (next-unique setup before flow.0 (Exit node outcome) (Take key mode) may.next next)
    took key mode next (Drop k) may =
        inl (next-unique setup before flow.0 (Drop k) (Take key mode) may.next next)
    took key mode next (End outcome) may =
        inl (next-unique setup before flow.0 (End outcome) (Take key mode) may.next next)

    module _ (other : ℕ) (apart : flow.0 ≡ other → ⊥) where
      still-blocked : (key : Key) (mode : Mode) → IsNext setup before other (Take key mode)
          → IsBlocked setup before other → (event ≡ Drop key → ⊥) → IsBlocked setup entries other
      still-blocked key mode next blocked kept = blocked_stay setup before flow event legal other key mode apart next
          blocked kept

      in-line : IsInLine setup before other → IsCovered setup entries pools from other
          ⊎ IsOwed entries event pools other
      in-line line = by (drops_or_not event line.key)
        where
          stands : StandsAt entries other line.key line.mode line.place
          stands = last-stays before flow event other apart (Wait line.key line.mode) line.place line.stands

          next : IsNext setup before other (Take line.key line.mode)
          next = standing-next setup before other line.key line.mode line.place (let l = earlier in l.waits) line.stands

          by : (event ≡ Drop line.key) ⊎ (event ≡ Drop line.key → ⊥)
              → IsCovered setup entries pools from other ⊎ IsOwed entries event pools other
          by (inl drops) = inr (record { key = line.key; mode = line.mode; cause = inl (drops, line.place, stands) })
          by (inr kept) = inl (inr (inl (record {
            key = line.key;
            mode = line.mode;
            place = line.place;
            stands = stands;
            blocked = still-blocked line.key line.mode next line.blocked kept;
          })))

      module _ (key : Key) (mode : Mode) (parked : IsParked pools key mode other) where
        fresh : IsFresh setup before other key mode
        fresh = covers.fresh key mode other parked

        when-parked-blocked : IsBlocked setup before other → IsCovered setup entries pools from other ⊎ IsOwed entries event
            pools other
        when-parked-blocked blocked = by (drops_or_not event key)
          where
            by : (event ≡ Drop key) ⊎ (event ≡ Drop key → ⊥)
                → IsCovered setup entries pools from other ⊎ IsOwed entries event pools other
            by (inl drops) = inr (record { key = key; mode = mode; cause = inr (inl drops, parked) })
            by (inr kept) = inl (inr (inr (record {
              key = key;
              mode = mode;
              parked = parked;
              cause = inl (still-blocked key mode (let f = fresh in f.next) blocked kept);
            })))

        when-parked-behind : IsBehind setup before pools was key mode other
            → IsCovered setup entries pools from other ⊎ IsOwed entries event pools other
        when-parked-behind behind = by (cases_eq flow.0 behind.other)
          where
            own : IsFresh setup before flow.0 key mode → IsCovered setup entries pools from other ⊎ IsOwed entries event
                pools other
            own first = told (took key mode first.next event move)
              where
                told : (event ≡ Take key mode) ⊎ IsBlocked setup before flow.0
                    → IsCovered setup entries pools from other ⊎ IsOwed entries event pools other
                told (inl takes) = inr (record { key = key; mode = mode; cause = inr (inr takes, parked) })
                told (inr blocked) = when-parked-blocked (fresh_are_alike setup before flow.0 other key mode first fresh
                    blocked)

            by : (flow.0 ≡ behind.other) ⊎ (flow.0 ≡ behind.other → ⊥)
                → IsCovered setup entries pools from other ⊎ IsOwed entries event pools other
            by (inl same) = own (subst (λ f. IsFresh setup before f key mode) (sym same) behind.fresh)
            by (inr elsewhere) = inl (inr (inr (record {
              key = key;
              mode = mode;
              parked = parked;
              cause = inr (record {
                other = behind.other;
                ready = behind.ready;
                fresh = fresh-stays before flow event behind.other elsewhere setup key mode behind.fresh;
                before = later behind.other other key mode behind.ready behind.fresh elsewhere behind.before;
              });
            })))

        when-parked : IsBlocked setup before other ⊎ IsBehind setup before pools was key mode other
            → IsCovered setup entries pools from other ⊎ IsOwed entries event pools other
        when-parked (inl blocked) = when-parked-blocked blocked
        when-parked (inr behind) = when-parked-behind behind

    -- each live flow stays covered, or is to be looked after
    pub carried : (other : ℕ) → IsLive setup entries other
        → IsCovered setup entries pools from other ⊎ IsOwed entries event pools other
    carried other live = by (cases_eq flow.0 other)
      where
        told : (apart : flow.0 ≡ other → ⊥) → IsCovered setup before pools was other
            → IsCovered setup entries pools from other ⊎ IsOwed entries event pools other
        told apart (inl is) = inl (inl is)
        told apart (inr (inl line)) = in-line other apart line
        told apart (inr (inr parking)) = when-parked other apart parking.key parking.mode parking.parked parking.cause

        by : (flow.0 ≡ other) ⊎ (flow.0 ≡ other → ⊥) → IsCovered setup entries pools from other ⊎ IsOwed entries event
            pools other
        by (inl same) = inl (inl (subst (IsReady pools) same ready))
        by (inr apart) = told apart (covers.each other (live-back before flow event other apart setup live))
