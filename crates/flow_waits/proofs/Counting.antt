-- A legal journal has at most so many entries: no flow waits twice for a take.
use Rattle.std.proofs.Common.{◌≡◌, ◌<◌, ◌≤◌, ◌+◌, ◌*◌, ◌⊎◌, inl, inr, ℕ, zero, suc, Bool, cond, List, [], ◌∷◌, ◌++◌, length, refl, sym, ap, subst, ◌∙◌, append_assoc, arith}
use Rattle.std.specs.List.{flat_map}
use Rattle.std.proofs.lemmas.Bool.{cases_eq, eq-eqb}
use Rattle.std.proofs.lemmas.List.{length-append, append-nil}
use Rattle.flux_values.specs.declared.answers.Mode.{Mode}
use Rattle.flux_model.specs.declared.items.FlowNo.{FlowNo}
use Rattle.flow_model.specs.declared.journals.Key.{Key}
use Rattle.flow_model.specs.declared.journals.Entry.{Entry}
use Rattle.flow_model.specs.declared.journals.Event.{Event}
use Rattle.flow_model.specs.declared.journals.Event.TheVariants.{Take, Wait, Enter, Choose, Call, Exit, Drop, End}
use Rattle.flow_model.specs.Setup.{Setup}
use Rattle.flow_model.specs.Events.{unless_wait, events_by, own_events}
use Rattle.flow_model.specs.Waits.{IsLast, IsNoWaitLast}
use Rattle.flow_model.specs.Legal.{IsLegal}
use Rattle.flux_laws.specs.Growth.{flow_size, sum_below}
use Rattle.flux_laws.proofs.FlowSums.{count-all}
use Rattle.flux_laws.proofs.OwnEvents.{events_by-append, own_events-append}
use Rattle.flux_laws.proofs.Fronts.{fronts_are_legal}
use Rattle.flux_laws.proofs.LastMoves.{entries_are_moves}
use Rattle.flux_laws.proofs.Growing.{own_events_are_bounded}
use Rattle.flow_waits.proofs.Others.{events-stay, last-stays}

-- ---- one flow

-- a flow's waits are at most as many as its own events, or one more, where its last entry is one
pub record IsCounted (entries : List Entry) (flow : ℕ) : Type 0 where
  pub most : length (events_by flow entries) ≤ 2 * length (own_events entries flow) + 1
  pub no_wait : IsNoWaitLast entries (record { 0 = flow })
      → length (events_by flow entries) ≤ 2 * length (own_events entries flow)

own-count : (event : Event) → ((key : Key) (mode : Mode) → event ≡ Wait key mode → ⊥) → length (unless_wait event) ≡ 1
own-count (Wait key mode) no_wait = absurd (no_wait key mode refl)
own-count (Take key mode) no_wait = refl
own-count (Enter node) no_wait = refl
own-count (Choose place) no_wait = refl
own-count (Call made) no_wait = refl
own-count (Exit node outcome) no_wait = refl
own-count (Drop key) no_wait = refl
own-count (End outcome) no_wait = refl

wait_or_not : (event : Event) → ((key : Key) × (mode : Mode) × (event ≡ Wait key mode)) ⊎
    ((key : Key) (mode : Mode) → event ≡ Wait key mode → ⊥)
wait_or_not (Wait key mode) = inl (key, mode, refl)
wait_or_not (Take k m) = inr (λ key mode e. cc)
wait_or_not (Enter node) = inr (λ key mode e. cc)
wait_or_not (Choose place) = inr (λ key mode e. cc)
wait_or_not (Call made) = inr (λ key mode e. cc)
wait_or_not (Exit node outcome) = inr (λ key mode e. cc)
wait_or_not (Drop k) = inr (λ key mode e. cc)
wait_or_not (End outcome) = inr (λ key mode e. cc)

abbrev with_entry : List Entry → FlowNo → Event → List Entry
with_entry entries own event = entries ++ record { flow = own; event = event } ∷ []

module _ (setup : Setup) (flow : ℕ) where
  counted-more : (entries : List Entry) (own : FlowNo) (event : Event)
      → IsLegal setup (entries ++ record { flow = own; event = event } ∷ []) → IsCounted entries flow
      → IsCounted (entries ++ record { flow = own; event = event } ∷ []) flow
  counted-more entries own event legal counted = by (cases_eq own.0 flow)
    where
      elsewhere : (own.0 ≡ flow → ⊥) → IsCounted (with_entry entries own event) flow
      elsewhere apart =
          let stay = events-stay entries own event flow apart in
          record {
            most = rw stay counted.most;
            no_wait = λ none. rw stay (counted.no_wait
                (λ key mode place last. none key mode place
                (last-stays entries own event flow apart (Wait key mode) place last)));
          }

      here : own.0 ≡ flow → IsCounted (with_entry entries own event) flow
      here same = told (wait_or_not event)
        where
          all : length (events_by flow (with_entry entries own event)) ≡ length (events_by flow entries) + 1
          all = ap length (events_by-append flow entries (record { flow = own; event = event } ∷ []))
              ∙ length-append (events_by flow entries) (events_by flow (record { flow = own; event = event } ∷ []))
              ∙ ap (λ (b : Bool). length (events_by flow entries) + length (cond b (event ∷ []) []))
              (eq-eqb own.0 flow same)

          owns : length (own_events (with_entry entries own event) flow) ≡ length (own_events entries flow) + length
              (unless_wait event)
          owns = ap length (own_events-append flow entries (record { flow = own; event = event } ∷ []))
              ∙ length-append (own_events entries flow) (own_events (record { flow = own; event = event } ∷ []) flow)
              ∙ ap (λ (b : Bool). length (own_events entries flow) + length
              (flat_map unless_wait (cond b (event ∷ []) []))) (eq-eqb own.0 flow same)
              ∙ ap (λ es. length (own_events entries flow) + length es) (append-nil (unless_wait event))

          waits : (key : Key) (mode : Mode) → event ≡ Wait key mode → IsCounted (with_entry entries own event) flow
          waits key mode is =
              let move = entries_are_moves setup entries own (Wait key mode) (rw is at legal) in
              let few = counted.no_wait (subst (λ f. IsNoWaitLast entries (record { 0 = f })) same move.once) in
              let none = owns ∙ ap (λ e. length (own_events entries flow) + length (unless_wait e)) is in
              record {
                most = omega (arith, all, none, few);
                no_wait = λ no. absurd (no key mode (length entries) (last key mode is));
              }
            where
              last : (key : Key) (mode : Mode) → event ≡ Wait key mode
                  → IsLast (with_entry entries own event) (record { 0 = flow }) (Wait key mode) (length entries)
              last key mode is = record {
                before = entries;
                after = [];
                stands = λ i. entries ++ record { flow = record { 0 = same i }; event = is i } ∷ [];
                last = refl;
                at = refl;
              }

          told : ((key : Key) × (mode : Mode) × (event ≡ Wait key mode)) ⊎
              ((key : Key) (mode : Mode) → event ≡ Wait key mode → ⊥) → IsCounted (with_entry entries own event) flow
          told (inl (key, mode, is)) = waits key mode is
          told (inr no_wait) =
              let one = own-count event no_wait in
              let most = counted.most in
              record {
                most = omega (arith, all, owns, one, most);
                no_wait = λ none. omega (arith, all, owns, one, most);
              }

      by : (own.0 ≡ flow) ⊎ (own.0 ≡ flow → ⊥) → IsCounted (with_entry entries own event) flow
      by (inl same) = here same
      by (inr apart) = elsewhere apart

  counted-all : (before after : List Entry) → IsLegal setup (before ++ after) → IsCounted before flow
      → IsCounted (before ++ after) flow
  counted-all before [] legal counted = rw (append-nil before) counted
  counted-all before (entry ∷ after) legal counted =
      let whole : before ++ entry ∷ after ≡ (before ++ entry ∷ []) ++ after =
      sym (append_assoc before (entry ∷ []) after) in
      let legal_whole = subst (IsLegal setup) whole legal in
      let one = counted-more before entry.flow entry.event
      (fronts_are_legal setup (before ++ entry ∷ []) after legal_whole) counted in
      subst (λ es. IsCounted es flow) (sym whole) (counted-all (before ++ entry ∷ []) after legal_whole one)

  counted : (entries : List Entry) → IsLegal setup entries → IsCounted entries flow
  counted entries legal = counted-all [] entries legal (record { most = omega arith; no_wait = λ none. omega arith })

-- ---- all flows

-- twice the sizes, and one for each flow
sum-twice : (g h : ℕ → ℕ) (count : ℕ) → ((flow : ℕ) → flow < count → g flow ≤ 2 * h flow + 1)
    → sum_below g count ≤ 2 * sum_below h count + count
sum-twice g h zero le = omega arith
sum-twice g h (suc count) le =
    let more = sum-twice g h count (λ flow lt. le flow (omega (arith, lt))) in
    let own = le count (omega arith) in
    omega (arith, more, own)

-- how many entries a journal has at most
abbrev pub most_entries : Setup → ℕ
most_entries setup = 2 * sum_below (flow_size setup) (length setup.items) + length setup.items

pub few-entries : (setup : Setup) (entries : List Entry) → IsLegal setup entries → length entries ≤ most_entries setup
few-entries setup entries legal =
    let all = count-all (length setup.items) entries legal.flows in
    let few = sum-twice (λ flow. length (events_by flow entries)) (flow_size setup) (length setup.items) each in
    omega (arith, all, few)
  where
    each : (flow : ℕ) → flow < length setup.items → length (events_by flow entries) ≤ 2 * flow_size setup flow + 1
    each flow lt =
        let one = counted setup flow entries legal in
        let most = one.most in
        let own = own_events_are_bounded setup entries flow (legal.walks flow lt) in
        omega (arith, most, own)
