-- Blocked flows stay blocked.
use Rattle.std.proofs.Common.{◌≡◌, ◌≢◌, ◌<◌, ◌⊎◌, inl, inr, ℕ, Bool, true, false, cond, ◌||◌, if◌then◌else◌, List, [], ◌∷◌, ◌++◌, length, refl, sym, ap, subst, ◌∙◌, arith}
use Rattle.std.specs.List.{list_any}
use Rattle.std.proofs.lemmas.Bool.{cases_eq}
use Rattle.std.proofs.lemmas.List.{append_cancel_left, append-nil, length-append}
use Rattle.flux_values.specs.declared.answers.Mode.{Mode}
use Rattle.flux_values.specs.declared.answers.Mode.TheVariants.{Writer}
use Rattle.flux_model.specs.declared.items.FlowNo.{FlowNo}
use Rattle.flow_model.specs.declared.journals.Key.{Key}
use Rattle.flow_model.specs.declared.journals.Entry.{Entry}
use Rattle.flow_model.specs.declared.journals.Event.{Event}
use Rattle.flow_model.specs.declared.journals.Event.TheVariants.{Take, Wait, Enter, Choose, Call, Exit, Drop, End}
use Rattle.flow_model.specs.Setup.{Setup}
use Rattle.flow_model.specs.Keys.{same_key}
use Rattle.flux_model.specs.Modes.{conflict}
use Rattle.flow_model.specs.Events.{events_by, own_events, IsNext}
use Rattle.flow_model.specs.Exclusion.{without_first, held_after, modes_held, HoldsKey, holds_against}
use Rattle.flow_model.specs.Waits.{StandsAt, StandsBefore, Blocks, MayWait}
use Rattle.flow_model.specs.Legal.{IsLegal}
use Rattle.flow_model.proofs.Keys.{key_cases, same_key_itself}
use Rattle.flux_laws.specs.Moves.{IsMove}
use Rattle.flux_laws.proofs.OwnEvents.{events_by-append, by_itself, modes_held-own}
use Rattle.flux_laws.proofs.Standing.{next-unique, standing-next}
use Rattle.flux_laws.proofs.Lasting.{last-unique}
use Rattle.flux_laws.proofs.Fronts.{fronts_are_legal}
use Rattle.flux_laws.proofs.LastMoves.{entries_are_moves}
use Rattle.flow_orders.specs.Turns.{IsInLine}
use Rattle.flow_waits.specs.steps.Staying.{BlockedStay, WritersBlock, FreshAreAlike}
use Rattle.flow_waits.proofs.Others.{held-stays, free-stays, next-stays, last-stays, last-back}

-- ---- what the flow of an entry still does to others

-- what is held in conflict stays so, but where the key is dropped
against-more : (key k : Key) (mode own : Mode) (modes : List Mode) → list_any (λ held. conflict held mode) modes ≡ true
    → (b : Bool) → list_any (λ held. conflict held mode) (cond b (own ∷ modes) modes) ≡ true
against-more key k mode own modes against true = by (conflict own mode)
  where
    by : (b : Bool) → (b || list_any (λ held. conflict held mode) modes) ≡ true
    by true = refl
    by false = against
against-more key k mode own modes against false = against

against-stays : (key : Key) (mode : Mode) (modes : List Mode) (event : Event) → event ≢ Drop key
    → list_any (λ held. conflict held mode) modes ≡ true
    → list_any (λ held. conflict held mode) (held_after key modes (event ∷ [])) ≡ true
against-stays key mode modes (Take k own) kept against = against-more key k mode own modes against (same_key k key)
against-stays key mode modes (Drop k) kept against =
    key_cases k key (λ same _. absurd (kept (ap Drop same))) (λ apart _. rw apart against)
against-stays key mode modes (Wait k own) kept against = against
against-stays key mode modes (Enter node) kept against = against
against-stays key mode modes (Choose place) kept against = against
against-stays key mode modes (Call made) kept against = against
against-stays key mode modes (Exit node outcome) kept against = against
against-stays key mode modes (End outcome) kept against = against

-- who takes a key holds it
taken-against : (key : Key) (their mode : Mode) (modes : List Mode) → conflict their mode ≡ true
    → list_any (λ held. conflict held mode) (held_after key modes (Take key their ∷ [])) ≡ true
taken-against key their mode modes against = rw (same_key_itself key, against) refl

pub nothing-left : (list : List Event) (event : Event) (rest : List Event) → list ≡ list ++ event ∷ rest → ⊥
nothing-left list event rest e = by (append_cancel_left list [] (event ∷ rest) (append-nil list ∙ e))
  where
    by : [] ≡ event ∷ rest → ⊥
    by nothing = cc

-- an entry after a flow's own wait is the take
take-follows : (setup : Setup) (entries : List Entry) (flow : FlowNo) (key : Key) (their : Mode) (place : ℕ)
    → StandsAt entries flow.0 key their place
    → IsNext setup entries flow.0 (Take key their) → (event : Event) → IsMove setup entries flow event
    → event ≡ Take key their
take-follows setup entries flow key their place stands next (Wait k mode) move =
    absurd (move.once key their place stands)
take-follows setup entries flow key their place stands next (Call made) move =
    absurd (nothing-left (own_events entries flow.0) (Take key their) next.rest
    (sym (let call = move.next in call.all) ∙ next.next))
take-follows setup entries flow key their place stands next (Take k mode) move =
    next-unique setup entries flow.0 (Take k mode) (Take key their) move.next next
take-follows setup entries flow key their place stands next (Enter node) move =
    next-unique setup entries flow.0 (Enter node) (Take key their) move.next next
take-follows setup entries flow key their place stands next (Choose n) move =
    next-unique setup entries flow.0 (Choose n) (Take key their) move.next next
take-follows setup entries flow key their place stands next (Exit node outcome) move =
    next-unique setup entries flow.0 (Exit node outcome) (Take key their) move.next next
take-follows setup entries flow key their place stands next (Drop k) move =
    next-unique setup entries flow.0 (Drop k) (Take key their) move.next next
take-follows setup entries flow key their place stands next (End outcome) move =
    next-unique setup entries flow.0 (End outcome) (Take key their) move.next next

-- ---- blocked flows

module _ (setup : Setup) (entries : List Entry) (flow : FlowNo) (event : Event)
    (legal : IsLegal setup (entries ++ record { flow = flow; event = event } ∷ [])) where
  before : IsLegal setup entries
  before = fronts_are_legal setup entries (record { flow = flow; event = event } ∷ []) legal

  abbrev more : List Entry
  more = entries ++ record { flow = flow; event = event } ∷ []

  module _ (other : ℕ) (apart : flow.0 ≡ other → ⊥) (key : Key) (mode : Mode) where
    -- by the flow of the entry
    own-blocks : event ≢ Drop key → Blocks entries flow.0 other key mode → Blocks more flow.0 other key mode
    own-blocks kept blocks = record {
      free = free-stays entries flow event other apart key blocks.free;
      apart = apart;
      cause = inl (by blocks.cause);
    }
      where
        stood : (before : StandsBefore entries flow.0 other key mode) → event ≡ Take key before.their
            → holds_against more flow.0 key mode ≡ true
        stood before same = rw (modes_held-own entries flow.0 event key, same)
            (taken-against key before.their mode (modes_held entries flow.0 key) before.against)

        by : (holds_against entries flow.0 key mode ≡ true) ⊎ StandsBefore entries flow.0 other key mode
            → holds_against more flow.0 key mode ≡ true
        by (inl against) = rw (modes_held-own entries flow.0 event key)
            (against-stays key mode (modes_held entries flow.0 key) event kept against)
        by (inr stands) = stood stands (take-follows setup entries flow key stands.their stands.place stands.stands
            (standing-next setup entries flow.0 key stands.their stands.place (let l = before in l.waits) stands.stands)
            event (entries_are_moves setup entries flow event legal))

    -- by another one
    other-blocks : (third : ℕ) → (flow.0 ≡ third → ⊥) → Blocks entries third other key mode
        → Blocks more third other key mode
    other-blocks third elsewhere blocks = record {
      free = free-stays entries flow event other apart key blocks.free;
      apart = blocks.apart;
      cause = by blocks.cause;
    }
      where
        by : (holds_against entries third key mode ≡ true) ⊎ StandsBefore entries third other key mode
            → (holds_against more third key mode ≡ true) ⊎ StandsBefore more third other key mode
        by (inl against) = inl (rw (held-stays entries flow event third elsewhere key) against)
        by (inr stands) = inr (record {
          their = stands.their;
          place = stands.place;
          stands = last-stays entries flow event third elsewhere (Wait key stands.their) stands.place stands.stands;
          against = stands.against;
          first = λ own behind there. stands.first own behind
              (last-back entries flow event other apart (Wait key own) behind there);
        })

    blocks-stay : (third : ℕ) → event ≢ Drop key → Blocks entries third other key mode
        → Blocks more third other key mode
    blocks-stay third kept blocks = by (cases_eq flow.0 third)
      where
        by : (flow.0 ≡ third) ⊎ (flow.0 ≡ third → ⊥) → Blocks more third other key mode
        by (inl same) = subst (λ (f : ℕ). Blocks more f other key mode) same
            (own-blocks kept (subst (λ (f : ℕ). Blocks entries f other key mode) (sym same) blocks))
        by (inr elsewhere) = other-blocks third elsewhere blocks

pub blocked_stay : BlockedStay
blocked_stay setup entries flow event legal other key mode apart next (third, waits) kept =
    let same : Take waits.key waits.mode ≡ Take key mode =
    next-unique setup entries other (Take waits.key waits.mode) (Take key mode) waits.next next in
    let key_is : waits.key ≡ key = cc same in
    let mode_is : waits.mode ≡ mode = cc same in (
      third,
      record {
        key = key;
        mode = mode;
        next = next-stays entries flow event other apart setup (Take key mode) next;
        blocked = blocks-stay setup entries flow event legal other apart key mode third kept
            (rw (key_is, mode_is) at waits.blocked);
      },
    )

-- ---- lines

held_after-wait : (key k : Key) (mode : Mode) (modes : List Mode) (events : List Event)
    → held_after key modes (events ++ Wait k mode ∷ []) ≡ held_after key modes events
held_after-wait key k mode modes [] = refl
held_after-wait key k mode modes (Take q own ∷ a) = held_after-wait key k mode
    (if same_key q key then own ∷ modes else modes) a
held_after-wait key k mode modes (Drop q ∷ a) = held_after-wait key k mode
    (if same_key q key then without_first modes else modes) a
held_after-wait key k mode modes (Wait q own ∷ a) = held_after-wait key k mode modes a
held_after-wait key k mode modes (Enter node ∷ a) = held_after-wait key k mode modes a
held_after-wait key k mode modes (Choose place ∷ a) = held_after-wait key k mode modes a
held_after-wait key k mode modes (Call made ∷ a) = held_after-wait key k mode modes a
held_after-wait key k mode modes (Exit node outcome ∷ a) = held_after-wait key k mode modes a
held_after-wait key k mode modes (End outcome ∷ a) = held_after-wait key k mode modes a

writer-against : (mode : Mode) → conflict Writer mode ≡ true
writer-against mode = refl

-- a flow that waits at a key doesn't hold it
stander-free : (setup : Setup) (entries : List Entry) → IsLegal setup entries
    → (flow : ℕ) (key : Key) (mode : Mode) (place : ℕ) → StandsAt entries flow key mode place
    → HoldsKey entries flow key → ⊥
stander-free setup entries legal flow key mode place stands holds =
    let may = legal.waits stands.before stands.after (record { 0 = flow }) key mode stands.stands in
    let blocked = may.blocked in
    blocked.free (λ none. holds (held none))
  where
    own : events_by flow entries ≡ events_by flow stands.before ++ Wait key mode ∷ []
    own = ap (events_by flow) stands.stands ∙ events_by-append flow stands.before
        (record { flow = record { 0 = flow }; event = Wait key mode } ∷ stands.after)
        ∙ ap (λ es. events_by flow stands.before ++ es)
        (events_by-append flow (record { flow = record { 0 = flow }; event = Wait key mode } ∷ []) stands.after
        ∙ ap (λ es. es ++ events_by flow stands.after) (by_itself flow (Wait key mode)) ∙ ap (λ es. Wait key mode ∷ es)
        stands.last)

    held : modes_held stands.before flow key ≡ [] → modes_held entries flow key ≡ []
    held none = ap (held_after key []) own ∙ held_after-wait key key mode [] (events_by flow stands.before) ∙ none

pub writers_block : WritersBlock
writers_block setup entries legal flow writer key mode place before stands their lt = (
  writer,
  record {
    key = key;
    mode = mode;
    next = standing-next setup entries flow key mode place legal.waits stands;
    blocked = record {
      free = stander-free setup entries legal flow key mode place stands;
      apart = apart;
      cause = inr (record {
        their = Writer;
        place = before;
        stands = their;
        against = writer-against mode;
        first = behind;
      });
    };
  },
)
  where
    apart : writer ≢ flow
    apart same =
        let one = last-unique entries (record { 0 = flow }) (Wait key Writer) (Wait key mode) before place
        (rw same at their) stands in
        let e = one.1 in
        omega (arith, e, lt)

    behind : (own : Mode) (at : ℕ) → StandsAt entries flow key own at → before < at
    behind own at there =
        let one = last-unique entries (record { 0 = flow }) (Wait key own) (Wait key mode) at place there stands in
        let e = one.1 in
        omega (arith, e, lt)

-- a flow that has made its wait is in a line, and is blocked still
module _ (setup : Setup) (before : List Entry) (flow : FlowNo) (key : Key) (mode : Mode)
    (legal : IsLegal setup (before ++ record { flow = flow; event = Wait key mode } ∷ [])) where
  abbrev behind : List Entry
  behind = before ++ record { flow = flow; event = Wait key mode } ∷ []

  stands-last : StandsAt behind flow.0 key mode (length before)
  stands-last = record { before = before; after = []; stands = refl; last = refl; at = refl }

  may : MayWait setup before flow key mode []
  may = legal.waits before [] flow key mode refl

  still-stands : (blocker : ℕ) → (flow.0 ≡ blocker → ⊥) → StandsBefore before blocker flow.0 key mode
      → StandsBefore behind blocker flow.0 key mode
  still-stands blocker apart stands = record {
    their = stands.their;
    place = stands.place;
    stands = last-stays before flow (Wait key mode) blocker apart (Wait key stands.their) stands.place stands.stands;
    against = stands.against;
    first = first;
  }
    where
      inside : stands.place < length before
      inside = let s = stands.stands in
          let split = ap length s.stands ∙ length-append s.before
          (record { flow = record { 0 = blocker }; event = Wait key stands.their } ∷ s.after) in
          omega (arith, split, s.at)

      first : (own : Mode) (at : ℕ) → StandsAt behind flow.0 key own at → stands.place < at
      first own at there =
          let one = last-unique behind flow (Wait key own) (Wait key mode) at (length before) there stands-last in
          let e = one.1 in
          omega (arith, e, inside)

  pub waited-in-line : IsInLine setup behind flow.0
  waited-in-line = let m = may in let blocked = m.blocked in record {
    key = key;
    mode = mode;
    place = length before;
    stands = stands-last;
    blocked = (
      m.blocker,
      record {
        key = key;
        mode = mode;
        next = standing-next setup behind flow.0 key mode (length before) legal.waits stands-last;
        blocked = record {
          free = stander-free setup behind legal flow.0 key mode (length before) stands-last;
          apart = blocked.apart;
          cause = by (λ same. blocked.apart (sym same)) blocked.cause;
        };
      },
    );
  }
    where
      by : (flow.0 ≡ (let m = may in m.blocker) → ⊥)
          → (holds_against before (let m = may in m.blocker) key mode ≡ true)
          ⊎ StandsBefore before (let m = may in m.blocker) flow.0 key mode
          → (holds_against behind (let m = may in m.blocker) key mode ≡ true)
          ⊎ StandsBefore behind (let m = may in m.blocker) flow.0 key mode
      by apart (inl against) = let m = may in
          inl (rw (held-stays before flow (Wait key mode) m.blocker apart key) against)
      by apart (inr stands) = let m = may in inr (still-stands m.blocker apart stands)

-- ---- fresh flows

nothing-against : (modes : List Mode) (mode : Mode) → modes ≡ [] → list_any (λ held. conflict held mode) modes ≡ true
    → ⊥
nothing-against [] mode none against = cc against
nothing-against (held ∷ modes) mode none against = cc none

pub fresh_are_alike : FreshAreAlike
fresh_are_alike setup entries one other key mode own fresh (third, waits) = (
  third,
  record {
    key = key;
    mode = mode;
    next = fresh.next;
    blocked = record { free = fresh.free; apart = apart cause; cause = turned cause };
  },
)
  where
    same : Take waits.key waits.mode ≡ Take key mode
    same = next-unique setup entries one (Take waits.key waits.mode) (Take key mode) waits.next own.next

    blocks : Blocks entries third one key mode
    blocks =
        let key_is : waits.key ≡ key = cc same in
        let mode_is : waits.mode ≡ mode = cc same in
        rw (key_is, mode_is) at waits.blocked

    cause : (holds_against entries third key mode ≡ true) ⊎ StandsBefore entries third one key mode
    cause = let b = blocks in b.cause

    apart : (holds_against entries third key mode ≡ true) ⊎ StandsBefore entries third one key mode → third ≢ other
    apart (inl against) is = fresh.free (λ none. nothing-against (modes_held entries other key) mode none
        (rw is at against))
    apart (inr stands) is = fresh.stands_nowhere key stands.their stands.place (rw is at stands.stands)

    turned : (holds_against entries third key mode ≡ true) ⊎ StandsBefore entries third one key mode
        → (holds_against entries third key mode ≡ true) ⊎ StandsBefore entries third other key mode
    turned (inl against) = inl against
    turned (inr stands) = inr (record {
      their = stands.their;
      place = stands.place;
      stands = stands.stands;
      against = stands.against;
      first = λ mine behind there. absurd (fresh.stands_nowhere key mine behind there);
    })
