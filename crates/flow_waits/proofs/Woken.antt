-- Candidates that are woken stay covered, and so are those that were to be looked after.
use Rattle.std.proofs.Common.{◌≡◌, ◌<◌, ◌⊎◌, inl, inr, ℕ, Bool, true, false, cond, ◌||◌, eqb, List, [], ◌∷◌, length, refl, sym, ap, subst, ◌∙◌}
use Rattle.std.proofs.lemmas.Bool.{cases_eq, eqb-true, eq-eqb}
use Rattle.flux_values.specs.declared.answers.Mode.{Mode}
use Rattle.flux_values.specs.declared.answers.Mode.TheVariants.{Reader, Writer}
use Rattle.flux_model.specs.declared.items.FlowNo.{FlowNo}
use Rattle.flow_model.specs.declared.journals.Key.{Key}
use Rattle.flow_model.specs.declared.journals.Entry.{Entry}
use Rattle.flow_model.specs.declared.journals.Event.TheVariants.{Take}
use Rattle.flow_model.specs.Setup.{Setup}
use Rattle.flow_model.specs.Waits.{StandsAt}
use Rattle.flow_model.specs.Legal.{IsLegal}
use Rattle.flux_laws.specs.Going.{IsBlocked}
use Rattle.flux_laws.specs.Hoisted.{is_writer}
use Rattle.flux_laws.proofs.Members.{In, in-from_contains, contains-from_in}
use Rattle.flux_laws.proofs.Standing.{next-unique, standing-next}
use Rattle.flux_laws.proofs.NextEvents.{next-item}
use Rattle.flux_table.specs.declared.locks.Waiter.{Waiter}
use Rattle.flow_state.specs.Lines.{IsLineAt, StandInOrder}
use Rattle.flow_waits.specs.steps.Staying.{IsFresh}
use Rattle.flow_waits.specs.steps.Waking.{has, parked_at}
use Rattle.flow_waits.specs.steps.Covers.{Pools, IsReady, IsParked, IsBehind, IsCovered, parked_for, StayReady, MovesFirst, WakesFirst, Wakes, served_of, WakesLine}
use Rattle.flow_waits.proofs.Blocked.{writers_block}
use Rattle.flow_waits.proofs.Choosing.{mode_cases}
use Rattle.flow_waits.proofs.Membership.{none_has, more_cases, more_there, more_own, less_at_there, less_at_own, less_at_kept}

-- each parked flow is at a take of its key in its mode
abbrev pub AreFresh : Setup → List Entry → Pools → Type 0
AreFresh setup entries pools = (key : Key) (mode : Mode) (flow : ℕ) → IsParked pools key mode flow
    → IsFresh setup entries flow key mode

-- no parked flow is looked at
abbrev pub AreApart : Pools → Type 0
AreApart pools = (key : Key) (mode : Mode) (flow : ℕ) → IsParked pools key mode flow → IsReady pools flow → ⊥

-- each flow that is looked at is an item's
abbrev pub AllExist : Setup → Pools → Type 0
AllExist setup pools = (flow : ℕ) → IsReady pools flow → flow < length setup.items

-- what covers a flow still does where no fewer flows are looked at, and it is unparked only for that
pub covered-more : (setup : Setup) (entries : List Entry) (old new : Pools) (from flow : ℕ) → StayReady old new
    → ((key : Key) (mode : Mode) → IsParked old key mode flow → IsParked new key mode flow ⊎ IsReady new flow)
    → IsCovered setup entries old from flow → IsCovered setup entries new from flow
covered-more setup entries old new from flow more stays (inl ready) = inl (more flow ready)
covered-more setup entries old new from flow more stays (inr (inl line)) = inr (inl line)
covered-more setup entries old new from flow more stays (inr (inr parking)) = by (stays parking.key parking.mode parking.parked)
  where
    cause : IsBlocked setup entries flow ⊎ IsBehind setup entries old from parking.key parking.mode flow
        → IsBlocked setup entries flow ⊎ IsBehind setup entries new from parking.key parking.mode flow
    cause (inl blocked) = inl blocked
    cause (inr behind) = inr (record {
      other = behind.other;
      ready = more behind.other behind.ready;
      fresh = behind.fresh;
      before = behind.before;
    })

    by : IsParked new parking.key parking.mode flow ⊎ IsReady new flow → IsCovered setup entries new from flow
    by (inr ready) = inl ready
    by (inl parked) = inr (inr (record { key = parking.key; mode = parking.mode; parked = parked; cause = cause parking.cause }))

-- ---- the first of the parked flows

module _ (setup : Setup) (entries : List Entry) (old new : Pools) (key : Key) (mode : Mode) (from : ℕ)
    (wakes : Wakes old new key mode from) where
  pub woken-ready : StayReady old new
  woken-ready flow ready = by wakes.first
    where
      by : WakesFirst old.ready new.ready (parked_for old mode) (parked_for new mode) key from → IsReady new flow
      by (inl (none, same, stay)) = rw same ready
      by (inr (first, moves)) = more_there old.ready new.ready first moves.added flow ready

  pub woken-back : (k : Key) (m : Mode) (flow : ℕ) → IsParked new k m flow → IsParked old k m flow
  woken-back k m flow parked = by (mode_cases mode m)
    where
      here : (mode ≡ m) → WakesFirst old.ready new.ready (parked_for old mode) (parked_for new mode) key from
          → IsParked old k m flow
      here same (inl (none, ready, stay)) = rw (← same, ← stay, same) parked
      here same (inr (first, moves)) =
          subst (λ q. IsParked old k q flow) same (less_at_there (parked_for old mode) (parked_for new mode) key first
          moves.left k flow (subst (λ q. IsParked new k q flow) (sym same) parked))

      by : (mode ≡ m) ⊎ (mode ≡ m → ⊥) → IsParked old k m flow
      by (inl same) = here same wakes.first
      by (inr apart) = ap (λ parks. has (parked_at parks k) flow) (sym (wakes.others m apart)) ∙ parked

  pub woken-kept : (k : Key) (m : Mode) (flow : ℕ) → IsParked old k m flow → IsParked new k m flow ⊎ IsReady new flow
  woken-kept k m flow parked = by (mode_cases mode m)
    where
      here : (mode ≡ m) → WakesFirst old.ready new.ready (parked_for old mode) (parked_for new mode) key from
          → IsParked new k m flow ⊎ IsReady new flow
      here same (inl (none, ready, stay)) =
          inl (subst (λ q. IsParked new k q flow) same
          (ap (λ parks. has (parked_at parks k) flow) stay ∙ subst (λ q. IsParked old k q flow) (sym same) parked))
      here same (inr (first, moves)) = told (less_at_kept (parked_for old mode) (parked_for new mode) key first moves.left
          k flow (subst (λ q. IsParked old k q flow) (sym same) parked))
        where
          told : IsParked new k mode flow ⊎ ((key ≡ k) × (first ≡ flow)) → IsParked new k m flow ⊎ IsReady new flow
          told (inl there) = inl (subst (λ q. IsParked new k q flow) same there)
          told (inr (_, own)) = inr (subst (IsReady new) own (more_own old.ready new.ready first moves.added))

      by : (mode ≡ m) ⊎ (mode ≡ m → ⊥) → IsParked new k m flow ⊎ IsReady new flow
      by (inl same) = here same wakes.first
      by (inr apart) = inl (ap (λ parks. has (parked_at parks k) flow) (wakes.others m apart) ∙ parked)

  pub woken-covered : (flow : ℕ) → IsCovered setup entries old from flow → IsCovered setup entries new from flow
  woken-covered flow covered = covered-more setup entries old new from flow woken-ready (λ k m. woken-kept k m flow)
      covered

  pub woken-fresh : AreFresh setup entries old → AreFresh setup entries new
  woken-fresh fresh k m flow parked = fresh k m flow (woken-back k m flow parked)

  pub woken-apart : AreFresh setup entries old → AreApart old → AreApart new
  woken-apart fresh apart k m flow parked ready = by wakes.first
    where
      own-left : (first : ℕ) → MovesFirst old.ready new.ready (parked_for old mode) (parked_for new mode) key from first
          → first ≡ flow → ⊥
      own-left first moves same =
          let earliest = moves.earliest in
          let one = fresh key mode flow (subst (IsParked old key mode) same earliest.is) in
          let other = fresh k m flow (woken-back k m flow parked) in
          let takes : Take key mode ≡ Take k m = next-unique setup entries flow (Take key mode) (Take k m) one.next
          other.next in
          let key_is : key ≡ k = cc takes in
          let mode_is : mode ≡ m = cc takes in
          less_at_own (parked_for old mode) (parked_for new mode) key first moves.left
          (rw (key_is, same) (subst (λ q. IsParked new k q flow) (sym mode_is) parked))

      by : WakesFirst old.ready new.ready (parked_for old mode) (parked_for new mode) key from → ⊥
      by (inl (none, same, stay)) = apart k m flow (woken-back k m flow parked) (rw same at ready)
      by (inr (first, moves)) = told (more_cases old.ready new.ready first moves.added flow ready)
        where
          told : (first ≡ flow) ⊎ IsReady old flow → ⊥
          told (inl same) = own-left first moves same
          told (inr was) = apart k m flow (woken-back k m flow parked) was

  pub woken-exist : AreFresh setup entries old → AllExist setup old → AllExist setup new
  woken-exist fresh exist flow ready = by wakes.first
    where
      by : WakesFirst old.ready new.ready (parked_for old mode) (parked_for new mode) key from → flow < length setup.items
      by (inl (none, same, stay)) = exist flow (rw same at ready)
      by (inr (first, moves)) = told (more_cases old.ready new.ready first moves.added flow ready)
        where
          told : (first ≡ flow) ⊎ IsReady old flow → flow < length setup.items
          told (inl same) =
              let earliest = moves.earliest in
              let one = fresh key mode first earliest.is in
              let live = one.live in
              subst (λ f. f < length setup.items) same live.item
          told (inr was) = exist flow was

  -- the other flows that are parked there come after it
  pub woken-owed : AreFresh setup entries old → (flow : ℕ) → IsParked old key mode flow
      → IsCovered setup entries new from flow
  woken-owed fresh flow parked = by wakes.first
    where
      by : WakesFirst old.ready new.ready (parked_for old mode) (parked_for new mode) key from
          → IsCovered setup entries new from flow
      by (inl (none, same, stay)) = absurd (none_has (parked_at (parked_for old mode) key) flow none parked)
      by (inr (first, moves)) = told (cases_eq first flow)
        where
          told : (first ≡ flow) ⊎ (first ≡ flow → ⊥) → IsCovered setup entries new from flow
          told (inl same) = inl (subst (IsReady new) same (more_own old.ready new.ready first moves.added))
          told (inr apart) = behind (woken-kept key mode flow parked)
            where
              behind : IsParked new key mode flow ⊎ IsReady new flow → IsCovered setup entries new from flow
              behind (inr ready) = inl ready
              behind (inl there) = let earliest = moves.earliest in inr (inr (record {
                key = key;
                mode = mode;
                parked = there;
                cause = inr (record {
                  other = first;
                  ready = more_own old.ready new.ready first moves.added;
                  fresh = fresh key mode first earliest.is;
                  before = earliest.first flow parked apart;
                });
              }))

-- ---- a line

either : (b c : Bool) → (b || c) ≡ true → (b ≡ true) ⊎ (c ≡ true)
either true c is = inl refl
either false c is = inr is

right : (b c : Bool) → c ≡ true → (b || c) ≡ true
right true c is = refl
right false c is = is

left : (b c : Bool) → b ≡ true → (b || c) ≡ true
left true c is = refl
left false c is = absurd cc

module _ (entries : List Entry) (key : Key) where
  -- who is served waits there
  served-stands : (line : List Waiter) (flow : ℕ) → StandInOrder entries key line → has (served_of line) flow ≡ true
      → (mode : Mode) × (place : ℕ) × StandsAt entries flow key mode place
  served-stands [] flow order is = absurd cc
  served-stands (waiter ∷ line) flow ((place, stands, behind), order) is =
      by (either (eqb flow waiter.flow.0) (has (cond (is_writer waiter.mode) [] (served_of line)) flow) is)
      (served-stands line flow order)
    where
      rest : (b : Bool) → has (cond b [] (served_of line)) flow ≡ true → has (served_of line) flow ≡ true
      rest true there = absurd cc
      rest false there = there

      by : (eqb flow waiter.flow.0 ≡ true) ⊎ (has (cond (is_writer waiter.mode) [] (served_of line)) flow ≡ true)
          → (has (served_of line) flow ≡ true → (mode : Mode) × (at : ℕ) × StandsAt entries flow key mode at)
          → (mode : Mode) × (at : ℕ) × StandsAt entries flow key mode at
      by (inl same) more = (
        waiter.mode,
        place,
        subst (λ (f : ℕ). StandsAt entries f key waiter.mode place)
            (sym (eqb-true flow waiter.flow.0 same)) stands,
      )
      by (inr there) more = more (rest (is_writer waiter.mode) there)

  -- who waits there is served, or waits after a writer
  record IsBehindWriter (place : ℕ) : Type 0 where
    writer : ℕ
    earlier : ℕ
    stands : StandsAt entries writer key Writer earlier
    before : earlier < place

  served-or-behind : (line : List Waiter) (flow : FlowNo) (mode : Mode) (place : ℕ) → StandInOrder entries key line
      → In (record { flow = flow; mode = mode }) line
      → StandsAt entries flow.0 key mode place → (has (served_of line) flow.0 ≡ true) ⊎ IsBehindWriter place
  served-or-behind [] flow mode place order is stands = absurd is
  served-or-behind (waiter ∷ line) flow mode place ((at, stand, behind), order) (inl same) stands =
      inl (left (eqb flow.0 waiter.flow.0) (has (cond (is_writer waiter.mode) [] (served_of line)) flow.0)
      (eq-eqb flow.0 waiter.flow.0 (ap (λ (w : Waiter). w.flow.0) (sym same))))
  served-or-behind (waiter ∷ line) flow mode place ((at, stand, behind), order) (inr there) stands =
      by waiter.mode refl (served-or-behind line flow mode place order there stands)
    where
      by : (m : Mode) → waiter.mode ≡ m → (has (served_of line) flow.0 ≡ true) ⊎ IsBehindWriter place
          → ((eqb flow.0 waiter.flow.0 || has (cond (is_writer m) [] (served_of line)) flow.0) ≡ true) ⊎ IsBehindWriter
          place
      by Writer writes more = inr (record {
        writer = waiter.flow.0;
        earlier = at;
        stands = subst (λ m. StandsAt entries waiter.flow.0 key m at) writes stand;
        before = behind (record { flow = flow; mode = mode }) place
            (contains-from_in line (record { flow = flow; mode = mode }) there) stands;
      })
      by Reader reads (inl served) = inl (right (eqb flow.0 waiter.flow.0) (has (served_of line) flow.0) served)
      by Reader reads (inr writer) = inr writer

module _ (setup : Setup) (entries : List Entry) (legal : IsLegal setup entries) (old new : Pools) (key : Key) (from : ℕ)
    (line : List Waiter)
    (is_line : IsLineAt entries key line) (wakes : WakesLine old new line) where
  pub line-ready : StayReady old new
  line-ready flow ready = wakes.ready_ flow ∙ right (has (served_of line) flow) (has old.ready flow) ready

  line-parks : (mode : Mode) → parked_for new mode ≡ parked_for old mode
  line-parks Reader = wakes.readers_
  line-parks Writer = wakes.writers_

  line-parked : (k : Key) (m : Mode) (flow : ℕ) → IsParked old k m flow → IsParked new k m flow
  line-parked k m flow parked = ap (λ parks. has (parked_at parks k) flow) (line-parks m) ∙ parked

  line-back : (k : Key) (m : Mode) (flow : ℕ) → IsParked new k m flow → IsParked old k m flow
  line-back k m flow parked = ap (λ parks. has (parked_at parks k) flow) (sym (line-parks m)) ∙ parked

  pub line-covered : (flow : ℕ) → IsCovered setup entries old from flow → IsCovered setup entries new from flow
  line-covered flow covered = covered-more setup entries old new from flow line-ready
      (λ k m parked. inl (line-parked k m flow parked)) covered

  pub line-fresh : AreFresh setup entries old → AreFresh setup entries new
  line-fresh fresh k m flow parked = fresh k m flow (line-back k m flow parked)

  pub line-apart : AreFresh setup entries old → AreApart old → AreApart new
  line-apart fresh apart k m flow parked ready = by (either (has (served_of line) flow) (has old.ready flow)
      (sym (wakes.ready_ flow) ∙ ready))
    where
      by : (has (served_of line) flow ≡ true) ⊎ IsReady old flow → ⊥
      by (inl served) =
          let (own, place, stands) = served-stands entries key line flow is_line.order served in
          let f = fresh k m flow (line-back k m flow parked) in
          f.stands_nowhere key own place stands
      by (inr was) = apart k m flow (line-back k m flow parked) was

  pub line-exist : AllExist setup old → AllExist setup new
  line-exist exist flow ready = by (either (has (served_of line) flow) (has old.ready flow)
      (sym (wakes.ready_ flow) ∙ ready))
    where
      by : (has (served_of line) flow ≡ true) ⊎ IsReady old flow → flow < length setup.items
      by (inl served) =
          let (own, place, stands) = served-stands entries key line flow is_line.order served in
          next-item setup entries flow (Take key own) (standing-next setup entries flow key own place legal.waits
          stands)
      by (inr was) = exist flow was

  pub line-owed : (flow : ℕ) (mode : Mode) (place : ℕ) → StandsAt entries flow key mode place
      → IsCovered setup entries new from flow
  line-owed flow mode place stands =
      by (served-or-behind entries key line (record { 0 = flow }) mode place is_line.order
      (in-from_contains line (record { flow = record { 0 = flow }; mode = mode })
      (is_line.all (record { 0 = flow }) mode place stands)) stands)
    where
      by : (has (served_of line) flow ≡ true) ⊎ IsBehindWriter entries key place → IsCovered setup entries new from flow
      by (inl served) = inl (wakes.ready_ flow ∙ left (has (served_of line) flow) (has old.ready flow) served)
      by (inr behind) = inr (inl (record {
        key = key;
        mode = mode;
        place = place;
        stands = stands;
        blocked = writers_block setup entries legal flow behind.writer key mode place behind.earlier stands
            behind.stands behind.before;
      }))
