-- A legal journal has at most about twice as many entries as the sizes of its flows come to: a flow waits once for a take.
use Rattle.std.proofs.Common.{◌≡◌, ◌≤◌, ◌<◌, ◌+◌, ◌*◌, ◌⊎◌, inl, inr, ℕ, zero, suc, Bool, true, false, cond, List, [], ◌∷◌, ◌++◌, length, Option, Some, None, refl, sym, ap, subst, ◌∙◌, append_assoc, arith}
use Rattle.std.specs.List.{AllByRecursion, flat_map, slice_get, sum_by}
use Rattle.std.proofs.lemmas.Bool.{cases_eq}
use Rattle.std.proofs.lemmas.List.{append-nil, length-append}
use Rattle.std.proofs.lemmas.Grind.{flat_map-append}
use Rattle.flux_values.specs.declared.answers.Mode.{Mode}
use Rattle.flux_model.specs.declared.items.FlowNo.{FlowNo}
use Rattle.flux_model.specs.declared.items.Item.{Item}
use Rattle.flow_model.specs.declared.journals.Key.{Key}
use Rattle.flow_model.specs.declared.journals.Event.{Event}
use Rattle.flow_model.specs.declared.journals.Event.TheVariants as events
use Rattle.flow_model.specs.declared.journals.Entry.{Entry}
use Rattle.flow_model.specs.Setup.{Setup, item_of}
use Rattle.flow_model.specs.Events.{Stands, events_by, unless_wait, own_events}
use Rattle.flow_model.specs.Waits.{IsLast, IsNoWaitLast}
use Rattle.flow_model.specs.Legal.{IsLegal}
use Rattle.flux_laws.specs.Growth.{item_size, flow_size, sum_below}
use Rattle.flux_laws.specs.Moves.{IsMove}
use Rattle.flux_laws.proofs.Fronts.{fronts_are_legal}
use Rattle.flux_laws.proofs.LastMoves.{entries_are_moves}
use Rattle.flux_laws.proofs.Growing.{own_events_are_bounded}
use Rattle.flux_laws.proofs.FlowSums.{sum-le, count-by, count-all}
use Rattle.flux_laws.proofs.OwnEvents.{events_by-append, own_events-append, by_itself, by_another}

abbrev is-wait : Event → Bool
is-wait (events.Wait key mode) = true
is-wait (events.Take key mode) = false
is-wait (events.Enter node) = false
is-wait (events.Choose place) = false
is-wait (events.Call made) = false
is-wait (events.Exit node outcome) = false
is-wait (events.Drop key) = false
is-wait (events.End outcome) = false

-- the last of some events is a wait
abbrev ends-waiting : List Event → Bool
ends-waiting [] = false
ends-waiting (event ∷ []) = is-wait event
ends-waiting (event ∷ next ∷ list) = ends-waiting (next ∷ list)

waiting-last : (list : List Event) (event : Event) → ends-waiting (list ++ event ∷ []) ≡ is-wait event
waiting-last [] event = refl
waiting-last (first ∷ []) event = refl
waiting-last (first ∷ next ∷ list) event = waiting-last (next ∷ list) event

abbrev one-if : Bool → ℕ
one-if true = 1
one-if false = 0

-- a flow has one wait at most before each of its other events, and one after them
abbrev AreFew : List Event → Type 0
AreFew list = length list ≤ 2 * length (flat_map unless_wait list) + one-if (ends-waiting list)

few-more : (list : List Event) (event : Event) → AreFew list → (is-wait event ≡ true → ends-waiting list ≡ false) → AreFew (list ++ event ∷ [])
few-more list event few once = by event refl
  where
    own : (e : Event) → length (flat_map unless_wait (list ++ e ∷ [])) ≡ length (flat_map unless_wait list) + length (unless_wait e ++ [])
    own e = ap length (flat_map-append unless_wait list (e ∷ [])) ∙ length-append (flat_map unless_wait list) (unless_wait e ++ [])

    most : (b : Bool) → one-if b ≤ 1
    most true = omega arith
    most false = omega arith

    no-wait : (e : Event) → length (unless_wait e ++ []) ≡ 1 → AreFew (list ++ e ∷ [])
    no-wait e one =
        let all = length-append list (e ∷ []) in
        let rest = own e in
        let last = most (ends-waiting list) in
        let after = most (ends-waiting (list ++ e ∷ [])) in
        omega (arith, few, one, all, rest, last)

    by : (e : Event) → event ≡ e → AreFew (list ++ e ∷ [])
    by (events.Wait key mode) same =
        let before : ends-waiting list ≡ false = once (ap is-wait same) in
        let short : length list ≤ 2 * length (flat_map unless_wait list) + 0 = subst (λ (b : Bool). length list ≤ 2 * length (flat_map unless_wait list) + one-if b) before few in
        let all = length-append list (events.Wait key mode ∷ []) in
        let rest = own (events.Wait key mode) in
        let last : one-if (ends-waiting (list ++ events.Wait key mode ∷ [])) ≡ 1 = ap one-if (waiting-last list (events.Wait key mode)) in
        omega (arith, short, all, rest, last)
    by (events.Take key mode) same = no-wait (events.Take key mode) refl
    by (events.Enter node) same = no-wait (events.Enter node) refl
    by (events.Choose place) same = no-wait (events.Choose place) refl
    by (events.Call made) same = no-wait (events.Call made) refl
    by (events.Exit node outcome) same = no-wait (events.Exit node outcome) refl
    by (events.Drop key) same = no-wait (events.Drop key) refl
    by (events.End outcome) same = no-wait (events.End outcome) refl

-- ---- a flow whose last entry is no wait

-- where the last of a flow's events is a wait, the flow's last entry is one
last-wait : (flow : FlowNo) (entries : List Entry) → ends-waiting (events_by flow.0 entries) ≡ true → (key : Key) × (mode : Mode) × (place : ℕ) × IsLast entries flow (events.Wait key mode) place
last-wait flow [] e = absurd cc
last-wait flow (entry ∷ entries) e = by (last-wait flow entries) (cases_eq entry.flow.0 flow.0) (events_by flow.0 entries) refl
  where
    after-one : (key : Key) × (mode : Mode) × (place : ℕ) × IsLast entries flow (events.Wait key mode) place → (key : Key) × (mode : Mode) × (place : ℕ) × IsLast (entry ∷ entries) flow (events.Wait key mode) place
    after-one (key, mode, place, last) = (
      key,
      mode,
      suc place,
      record { before = entry ∷ last.before; after = last.after; stands = ap (λ (es : List Entry). entry ∷ es) last.stands; last = last.last; at = ap suc last.at },
    )

    own : (entry.flow.0 ≡ flow.0) → (event : Event) → entry.event ≡ event → is-wait event ≡ true → events_by flow.0 entries ≡ [] → (key : Key) × (mode : Mode) × (place : ℕ) × IsLast (entry ∷ entries) flow (events.Wait key mode) place
    own same (events.Wait key mode) is wait none = (
      key,
      mode,
      0,
      record { before = []; after = entries; stands = λ i. record { flow = record { 0 = same i }; event = is i } ∷ entries; last = none; at = refl },
    )
    own same (events.Take key mode) is wait none = absurd cc
    own same (events.Enter node) is wait none = absurd cc
    own same (events.Choose place) is wait none = absurd cc
    own same (events.Call made) is wait none = absurd cc
    own same (events.Exit node outcome) is wait none = absurd cc
    own same (events.Drop key) is wait none = absurd cc
    own same (events.End outcome) is wait none = absurd cc

    split : events_by flow.0 (entry ∷ entries) ≡ events_by flow.0 (entry ∷ []) ++ events_by flow.0 entries
    split = events_by-append flow.0 (entry ∷ []) entries

    by : (ends-waiting (events_by flow.0 entries) ≡ true → (key : Key) × (mode : Mode) × (place : ℕ) × IsLast entries flow (events.Wait key mode) place) → (entry.flow.0 ≡ flow.0) ⊎ (entry.flow.0 ≡ flow.0 → ⊥) → (rest : List Event) → events_by flow.0 entries ≡ rest
        → (key : Key) × (mode : Mode) × (place : ℕ) × IsLast (entry ∷ entries) flow (events.Wait key mode) place
    by further (inr apart) rest is =
        let same : events_by flow.0 (entry ∷ entries) ≡ events_by flow.0 entries = split ∙ ap (λ (es : List Event). es ++ events_by flow.0 entries) (by_another entry.flow flow.0 entry.event apart) in
        after-one (further (sym (ap ends-waiting same) ∙ e))
    by further (inl same) [] is =
        let alone : events_by flow.0 (entry ∷ entries) ≡ entry.event ∷ [] =
        split ∙ ap (λ (es : List Event). es ++ events_by flow.0 entries) (subst (λ (f : ℕ). events_by f (entry ∷ []) ≡ entry.event ∷ []) same (by_itself entry.flow.0 entry.event)) ∙ ap (λ (es : List Event). entry.event ∷ es) is in
        own same entry.event refl (sym (ap ends-waiting alone) ∙ e) is
    by further (inl same) (next ∷ rest) is =
        let more : events_by flow.0 (entry ∷ entries) ≡ entry.event ∷ next ∷ rest =
        split ∙ ap (λ (es : List Event). es ++ events_by flow.0 entries) (subst (λ (f : ℕ). events_by f (entry ∷ []) ≡ entry.event ∷ []) same (by_itself entry.flow.0 entry.event)) ∙ ap (λ (es : List Event). entry.event ∷ es) is in
        after-one (further (ap ends-waiting is ∙ sym (ap ends-waiting more) ∙ e))

not-waiting : (flow : FlowNo) (entries : List Entry) → IsNoWaitLast entries flow → ends-waiting (events_by flow.0 entries) ≡ false
not-waiting flow entries none = by (ends-waiting (events_by flow.0 entries)) refl
  where
    by : (b : Bool) → ends-waiting (events_by flow.0 entries) ≡ b → ends-waiting (events_by flow.0 entries) ≡ false
    by false e = e
    by true e = let (key, mode, place, last) = last-wait flow entries e in absurd (none key mode place last)

-- ---- legal journals

abbrev FlowsAreFew : List Entry → Type 0
FlowsAreFew entries = (flow : ℕ) → AreFew (events_by flow entries)

module _ (setup : Setup) where
  once : (entries : List Entry) (flow : FlowNo) (event : Event) → IsMove setup entries flow event → is-wait event ≡ true → ends-waiting (events_by flow.0 entries) ≡ false
  once entries flow (events.Wait key mode) move wait = not-waiting flow entries move.once
  once entries flow (events.Take key mode) move wait = absurd cc
  once entries flow (events.Enter node) move wait = absurd cc
  once entries flow (events.Choose place) move wait = absurd cc
  once entries flow (events.Call made) move wait = absurd cc
  once entries flow (events.Exit node outcome) move wait = absurd cc
  once entries flow (events.Drop key) move wait = absurd cc
  once entries flow (events.End outcome) move wait = absurd cc

  entry-few : (entries : List Entry) (entry : Entry) → IsMove setup entries entry.flow entry.event → FlowsAreFew entries → FlowsAreFew (entries ++ entry ∷ [])
  entry-few entries entry move few flow = by (cases_eq entry.flow.0 flow)
    where
      split : events_by flow (entries ++ entry ∷ []) ≡ events_by flow entries ++ events_by flow (entry ∷ [])
      split = events_by-append flow entries (entry ∷ [])

      by : (entry.flow.0 ≡ flow) ⊎ (entry.flow.0 ≡ flow → ⊥) → AreFew (events_by flow (entries ++ entry ∷ []))
      by (inl same) =
          let alone : events_by flow (entry ∷ []) ≡ entry.event ∷ [] = subst (λ (f : ℕ). events_by f (entry ∷ []) ≡ entry.event ∷ []) same (by_itself entry.flow.0 entry.event) in
          let last = subst (λ (f : ℕ). is-wait entry.event ≡ true → ends-waiting (events_by f entries) ≡ false) same (once entries entry.flow entry.event move) in
          subst AreFew (sym (split ∙ ap (λ (es : List Event). events_by flow entries ++ es) alone)) (few-more (events_by flow entries) entry.event (few flow) last)
      by (inr apart) =
          let none : events_by flow (entry ∷ []) ≡ [] = by_another entry.flow flow entry.event apart in
          subst AreFew (sym (split ∙ ap (λ (es : List Event). events_by flow entries ++ es) none ∙ append-nil (events_by flow entries))) (few flow)

  more-few : (entries more : List Entry) → IsLegal setup (entries ++ more) → FlowsAreFew entries → FlowsAreFew (entries ++ more)
  more-few entries [] legal few = subst FlowsAreFew (sym (append-nil entries)) few
  more-few entries (entry ∷ more) legal few =
      let same : (entries ++ entry ∷ []) ++ more ≡ entries ++ entry ∷ more = append_assoc entries (entry ∷ []) more in
      let whole : IsLegal setup ((entries ++ entry ∷ []) ++ more) = subst (IsLegal setup) (sym same) legal in
      let front = fronts_are_legal setup (entries ++ entry ∷ []) more whole in
      subst FlowsAreFew same (more-few (entries ++ entry ∷ []) more whole (entry-few entries entry (entries_are_moves setup entries entry.flow entry.event front) few))

  flows-few : (entries : List Entry) → IsLegal setup entries → FlowsAreFew entries
  flows-few entries legal = more-few [] entries legal (λ flow. omega arith)

  -- so many entries
  twice : (size : ℕ → ℕ) (count : ℕ) → sum_below (λ flow. 2 * size flow + 1) count ≡ 2 * sum_below size count + count
  twice size zero = omega arith
  twice size (suc count) = let more = twice size count in omega (arith, more)

  pub entries-bounded : (entries : List Entry) → IsLegal setup entries → length entries ≤ 2 * sum_below (flow_size setup) (length setup.items) + length setup.items
  entries-bounded entries legal =
      let all = count-all (length setup.items) entries legal.flows in
      let le = sum-le (count-by entries) (λ flow. 2 * flow_size setup flow + 1) (length setup.items) (λ flow lt. one flow lt) in
      let both = twice (flow_size setup) (length setup.items) in
      omega (arith, all, le, both)
    where
      most : (b : Bool) → one-if b ≤ 1
      most true = omega arith
      most false = omega arith

      one : (flow : ℕ) → flow < length setup.items → count-by entries flow ≤ 2 * flow_size setup flow + 1
      one flow lt =
          let few = flows-few entries legal flow in
          let own = own_events_are_bounded setup entries flow (legal.walks flow lt) in
          let last = most (ends-waiting (events_by flow entries)) in
          omega (arith, few, own, last)
