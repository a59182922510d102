-- A core that goes round.
use Rattle.std.specs.Bool.{then_some}
use Rattle.std.proofs.Common.{◌≡◌, ◌≢◌, ◌≤◌, ◌+◌, inl, inr, ℕ, Bool, true, false, not, List, [], ◌∷◌, ◌++◌, length, Option, Some, None, refl, sym, subst}
use Rattle.flux_values.specs.Meanings.{LibraryMeaning}
use Rattle.flux_model.specs.declared.items.FlowNo.{FlowNo}
use Rattle.flow_model.specs.declared.journals.Entry.{Entry}
use Rattle.flow_model.specs.Setup.{Setup}
use Rattle.flow_model.specs.Events.{IsLive}
use Rattle.flow_model.specs.Legal.{IsLegal}
use Rattle.flux_laws.proofs.Ends.{none_live_is_whole}
use Rattle.flow_core.specs.States.{CoreState, setup_in}
use Rattle.flow_core.specs.Runs.{SameSetting, GoesOnLegally, GoesToEnd}
use Rattle.flow_core.proofs.Sequels.{same-setup, same-then, goes-on, legally-same}
use Rattle.flow_orders.specs.Turns.{IsBefore, IsFirstFrom, IsInLine}
use Rattle.flow_waits.specs.steps.Covers.{Pools, IsReady, Covers, Lags, StayAwake}
use Rattle.flow_waits.proofs.Orders.{before-later}
use Rattle.flow_waits.proofs.Counting.{most_entries}
use Rattle.flow_waits.proofs.Schedules.{IsScheduling, scheduling-none, scheduling-more, scheduling-few, scheduled, move-longer}
use Rattle.flow_orders.specs.Round.{IsOnTurn, LooksFrom, HasTurn, IsOwnersTurn, IsRound}
use Rattle.rt_event.specs.steps.Owners.{KeepsOn, Stays, IsOwner, Leads, IsOver, MakesOwn, MakesTurn}
use Rattle.rt_event.proofs.Ends.{still-live, still-awake}

-- whose turn it is, or where the next owner is looked for
abbrev pub IsTurnOf : List Entry → ℕ → Option FlowNo → Type 0
IsTurnOf more from None = LooksFrom more from
IsTurnOf more from (Some flow) = IsOnTurn more flow

-- what is kept from entry to entry
pub record IsRounding (setup : Setup) (old new : List Entry) (from : ℕ) (on_turn : Option FlowNo) : Type 0 where
  pub scheduling : IsScheduling (IsOwnersTurn setup old) setup old new
  pub turn : let own = scheduling in IsTurnOf own.more from on_turn

pub rounding-none : (setup : Setup) (entries : List Entry) → IsLegal setup entries
    → IsRounding setup entries entries 0 None
rounding-none setup entries legal = record {
  scheduling = scheduling-none (IsOwnersTurn setup entries) setup entries legal;
  turn = inl (refl, refl);
}

abbrev pub turn_after : Bool → FlowNo → Option FlowNo
turn_after true owner = None
turn_after false owner = Some owner

pub turn-some : (b : Bool) (owner : FlowNo) → then_some (not b) owner ≡ turn_after b owner
turn-some true owner = refl
turn-some false owner = refl

-- the owner is live, and isn't in a line
pub owner-live : (setup : Setup) (entries : List Entry) (pools : Pools) (from : ℕ) (on_turn : Option FlowNo)
    (owner : FlowNo) → IsOwner setup entries pools from on_turn owner → IsLive setup entries owner.0
owner-live setup entries pools from None owner chosen = let first = chosen.first in let can = first.can in can.live
owner-live setup entries pools from (Some flow) owner (same, kept) = kept.live

owner-awake : (setup : Setup) (entries : List Entry) (pools : Pools) (from : ℕ) (on_turn : Option FlowNo)
    (owner : FlowNo) → IsOwner setup entries pools from on_turn owner → IsInLine setup entries owner.0 → ⊥
owner-awake setup entries pools from None owner chosen line = let first = chosen.first in let can =
    first.can in can.free line.blocked
owner-awake setup entries pools from (Some flow) owner (same, kept) line = kept.awake line

owner-ready : (setup : Setup) (entries : List Entry) (pools : Pools) (from : ℕ) (on_turn : Option FlowNo)
    (owner : FlowNo) → IsOwner setup entries pools from on_turn owner → IsReady pools owner.0
owner-ready setup entries pools from None owner chosen = let earliest = chosen.earliest in earliest.is
owner-ready setup entries pools from (Some flow) owner (same, kept) = kept.ready

owner-later : (setup : Setup) (entries : List Entry) (pools : Pools) (from : ℕ) (on_turn : Option FlowNo)
    (owner : FlowNo) → IsOwner setup entries pools from on_turn owner
    → (one other : ℕ) → IsReady pools one → owner.0 ≢ one → IsBefore from one other → IsBefore (owner.0 + 1) one other
owner-later setup entries pools from None owner chosen one other ready apart before =
    let earliest = chosen.earliest in before-later from owner.0 one other (earliest.first one ready apart) before
owner-later setup entries pools from (Some flow) owner (same, kept) one other ready apart before =
    subst (λ n. IsBefore n one other) kept.next before

module _ (setup : Setup) (old entries after : List Entry) (pools : Pools) (from : ℕ) (on_turn : Option FlowNo)
    (owner : FlowNo) (ends : Bool)
    (kept : IsRounding setup old entries from on_turn) (is_owner : IsOwner setup entries pools from on_turn owner)
    (makes : MakesTurn setup entries owner after ends) where
  own : MakesOwn setup entries owner after ends
  own = makes (owner-live setup entries pools from on_turn owner is_owner)
      (owner-awake setup entries pools from on_turn owner is_owner)

  abbrev more : List Entry
  more = let on = kept.scheduling in on.more

  has-turn : HasTurn setup old more owner
  has-turn = by on_turn kept.turn is_owner
    where
      by : (turn : Option FlowNo) → IsTurnOf more from turn → IsOwner setup entries pools from turn owner
          → HasTurn setup old more owner
      by None looks chosen = let on = kept.scheduling in
          inr (from, looks, subst (λ es. IsFirstFrom setup es from owner.0) on.added chosen.first)
      by (Some flow) on (same, _) = inl (subst (IsOnTurn more) same on)

  abbrev longer : List Entry
  longer = let o = own in more ++ record { flow = owner; event = o.event } ∷ []

  turn-next : (b : Bool) → IsOver b (let o = own in o.event) → IsTurnOf longer (owner.0 + 1) (turn_after b owner)
  turn-next true over = let o = own in
      inr (owner, record { front = more; event = o.event; last = refl; over = over }, refl)
  turn-next false on = let o = own in record { front = more; event = o.event; last = refl; on = on }

  pub rounding-more : IsRounding setup old after (owner.0 + 1) (turn_after ends owner)
  rounding-more =
      let o = own in
      record {
        scheduling = scheduling-more (IsOwnersTurn setup old) setup old entries kept.scheduling after owner o.event
            has-turn o.makes;
        turn = turn-next ends o.over;
      }

  pub rounding-longer : length after ≡ length entries + 1
  rounding-longer = let o = own in move-longer setup entries after owner o.event o.makes

  pub rounding-lags : Covers setup entries pools from → Lags setup after pools (owner.0 + 1)
  rounding-lags covers = let o = own in let m = o.makes in record {
    before = entries;
    flow = owner;
    event = o.event;
    added = m.added;
    was = from;
    covers = covers;
    ready = owner-ready setup entries pools from on_turn owner is_owner;
    later = λ one other key mode ready fresh. owner-later setup entries pools from on_turn owner is_owner one
        other ready;
  }

  pub rounding-stays : (told : Pools) → StayAwake setup after pools told → Covers setup after told (owner.0 + 1)
      → Stays setup after told (owner.0 + 1) (turn_after ends owner)
  rounding-stays told ready covers = record { covers = covers; on = by ends (let o = own in o.over) }
    where
      by : (b : Bool) → IsOver b (let o = own in o.event) → KeepsOn setup after told (owner.0 + 1) (turn_after b owner)
      by true over = tt
      by false on = let o = own in let m = o.makes in
          let awake : IsInLine setup after owner.0 → ⊥ = λ line. still-awake setup entries owner o.event on
          (subst (λ es. IsInLine setup es owner.0) m.added line) in
          record {
            live = subst (λ es. IsLive setup es owner.0) (sym m.added)
                (still-live setup entries owner o.event on (owner-live setup entries pools from on_turn owner is_owner));
            awake = awake;
            ready = ready owner.0 (owner-ready setup entries pools from on_turn owner is_owner) awake;
            next = refl;
          }

pub rounded : (setup : Setup) (old new : List Entry) (from : ℕ) (on_turn : Option FlowNo)
    → IsRounding setup old new from on_turn → ((flow : ℕ) → IsLive setup new flow → ⊥) → IsRound setup old new
rounded setup old new from on_turn kept over = scheduled (IsOwnersTurn setup old) setup old new kept.scheduling over

pub rounding-few : (setup : Setup) (old new : List Entry) (from : ℕ) (on_turn : Option FlowNo)
    → IsRounding setup old new from on_turn → length new ≤ most_entries setup
rounding-few setup old new from on_turn kept = scheduling-few (IsOwnersTurn setup old) setup old new kept.scheduling

-- a round that is over has made the journal whole
pub round-whole : {L : Type 0} (meaning : L → LibraryMeaning) (old new : CoreState L)
    → IsRound (setup_in meaning old) old.entries new.entries → GoesOnLegally meaning old new → GoesToEnd meaning old new
round-whole meaning old new round legally =
    let same = legally-same meaning old new legally in
    record {
      legally = legally;
      whole = none_live_is_whole (setup_in meaning new) new.entries legally.legal
          (subst (λ s. (flow : ℕ) → IsLive s new.entries flow → ⊥) (sym (same-setup meaning old new same)) round.over);
    }

-- one entry more of a core that goes round
module _ {L : Type 0} (meaning : L → LibraryMeaning) (start old new : CoreState L) (pools : Pools) (from : ℕ)
    (on_turn : Option FlowNo) (owner : FlowNo) (ends : Bool)
    (same : SameSetting start old) (kept : IsRounding (setup_in meaning start) start.entries old.entries from on_turn)
    (leads : Leads (setup_in meaning old) old.entries pools from on_turn (Some owner)) (stays : SameSetting old new)
    (makes : MakesTurn (setup_in meaning old) old.entries owner new.entries ends) where
  start-owner : IsOwner (setup_in meaning start) old.entries pools from on_turn owner
  start-owner = subst (λ s. IsOwner s old.entries pools from on_turn owner) (same-setup meaning start old same)
      leads.owner

  start-makes : MakesTurn (setup_in meaning start) old.entries owner new.entries ends
  start-makes = subst (λ s. MakesTurn s old.entries owner new.entries ends) (same-setup meaning start old same) makes

  pub core-rounds : IsRounding (setup_in meaning start) start.entries new.entries (owner.0 + 1) (turn_after ends owner)
  core-rounds = rounding-more (setup_in meaning start) start.entries old.entries new.entries pools from on_turn owner
      ends kept start-owner start-makes

  pub core-lags : Lags (setup_in meaning new) new.entries pools (owner.0 + 1)
  core-lags = subst (λ s. Lags s new.entries pools (owner.0 + 1))
      (sym (same-setup meaning start new (same-then start old new same stays)))
      (rounding-lags (setup_in meaning start) start.entries old.entries new.entries pools from on_turn owner ends kept
      start-owner start-makes
      (subst (λ s. Covers s old.entries pools from) (same-setup meaning start old same) leads.covers))

  pub core-stays : (told : Pools) → StayAwake (setup_in meaning new) new.entries pools told
      → Covers (setup_in meaning new) new.entries told (owner.0 + 1)
      → Stays (setup_in meaning new) new.entries told (owner.0 + 1) (turn_after ends owner)
  core-stays told ready covers =
      let both = same-setup meaning start new (same-then start old new same stays) in
      subst (λ s. Stays s new.entries told (owner.0 + 1) (turn_after ends owner)) (sym both)
      (rounding-stays (setup_in meaning start) start.entries old.entries new.entries pools from on_turn owner ends kept
      start-owner start-makes told (subst (λ s. StayAwake s new.entries pools told) both ready)
      (subst (λ s. Covers s new.entries told (owner.0 + 1)) both covers))

  pub core-legal : GoesOnLegally meaning start new
  core-legal =
      let rounds = core-rounds in
      let own = rounds.scheduling in
      goes-on meaning start new (same-then start old new same stays) own.more own.added own.legal

  pub core-longer : length new.entries ≡ length old.entries + 1
  core-longer = rounding-longer (setup_in meaning start) start.entries old.entries new.entries pools from on_turn owner
      ends kept start-owner start-makes
