-- No waits form a circle: classes never fall from a waiting flow to the one that it waits for, and at one key places do.
use Rattle.std.proofs.Common.{◌≡◌, ◌<◌, ◌⊎◌, inl, inr, ℕ, true, List, [], ◌∷◌, ◌++◌, refl, ◌∙◌, arith}
use Rattle.std.specs.List.{list_any}
use Rattle.flux_values.specs.declared.answers.Mode.{Mode}
use Rattle.flow_model.specs.declared.journals.Key.{Key}
use Rattle.flow_model.specs.declared.journals.Entry.{Entry}
use Rattle.flow_model.specs.declared.journals.Event.{Event}
use Rattle.flow_model.specs.declared.journals.Event.TheVariants.{Take}
use Rattle.flow_model.specs.Setup.{Setup}
use Rattle.flux_model.specs.Modes.{conflict}
use Rattle.flux_model.specs.Locks.{declared, AreLocks}
use Rattle.flow_model.specs.Events.{own_events, IsNext}
use Rattle.flow_model.specs.Exclusion.{modes_held, HoldsKey, holds_against}
use Rattle.flow_model.specs.Waits.{StandsAt, StandsBefore, Blocks, WaitsFor, WaitsAreRight, Chain}
use Rattle.flux_laws.specs.Circles.{WaitsNeverCircle}
use Rattle.flux_laws.proofs.Members.{In}
use Rattle.flux_laws.proofs.Stacks.{MayTake, runs-rest}
use Rattle.flux_laws.proofs.Held.{stack-from_held}
use Rattle.flux_laws.proofs.FlowRuns.{keys_of, at_start}
use Rattle.flux_laws.proofs.OnWalk.{AreOnWalk, on_walk-front, on_walk-next, on_walk-runs, stack_after, modes-stack, covered-held}
use Rattle.flux_laws.proofs.Standing.{next-unique, standing-next, waits_right-front}

-- something is held in conflict
some-against : (modes : List Mode) (mode : Mode) → list_any (λ held. conflict held mode) modes ≡ true → (own : Mode) × In own modes
some-against [] mode against = absurd cc
some-against (held ∷ modes) mode against = (held, inl refl)

-- a mode that is held
pub holds-some : (entries : List Entry) (flow : ℕ) (key : Key) (own : Mode) → In own (modes_held entries flow key) → HoldsKey entries flow key
holds-some entries flow key own is none = let e = none in rw e at is

module _ (setup : Setup) (are : AreLocks setup.program setup.locks) (entries : List Entry) where
  -- the next take of a flow is of what it holds in at least that mode, or goes upward
  pub next-take : (flow : ℕ) (key : Key) (mode : Mode) → IsNext setup entries flow (Take key mode) → MayTake (stack_after entries flow) key mode
  next-take flow key mode next =
      let runs = on_walk-runs setup are flow (own_events entries flow ++ Take key mode ∷ []) (on_walk-next setup entries flow (Take key mode) next) in
      let last = runs-rest (keys_of setup flow) (declared setup.program) at_start (own_events entries flow) (Take key mode ∷ []) runs in
      last.1

  -- a flow with a next event is on its walk
  pub next-on_walk : (flow : ℕ) (event : Event) → IsNext setup entries flow event → AreOnWalk setup flow (own_events entries flow)
  next-on_walk flow event next = on_walk-front setup flow (own_events entries flow) (event ∷ []) (on_walk-next setup entries flow event next)

  -- the next take of a flow that doesn't hold the key is above all that the flow holds
  next-above : (flow : ℕ) (key : Key) (mode : Mode) → IsNext setup entries flow (Take key mode) → (HoldsKey entries flow key → ⊥)
      → (held : Key) (own : Mode) → In own (modes_held entries flow held) → held.class.0 < key.class.0
  next-above flow key mode next free held own is = by (next-take flow key mode next)
    where
      on : AreOnWalk setup flow (own_events entries flow)
      on = next-on_walk flow (Take key mode) next

      by : MayTake (stack_after entries flow) key mode → held.class.0 < key.class.0
      by (inl covers) = let (there, there_is, enough) = covered-held setup are entries flow on key mode covers in absurd (free (holds-some entries flow key there there_is))
      by (inr above) = above held own (stack-from_held (stack_after entries flow) held own (rw (modes-stack setup are entries flow on held) at is))

  -- a flow's class is less than that of another; or both are at one key, where the other waits before it
  record IsBehind (flow other : ℕ) (key : Key) : Type 0 where
    mode : Mode
    place : ℕ
    stands : StandsAt entries other key mode place
    first : (own : Mode) (behind : ℕ) → StandsAt entries flow key own behind → place < behind

  abbrev IsAhead : ℕ → ℕ → Key → Key → Type 0
  IsAhead flow other key their = (key.class.0 < their.class.0) ⊎ ((key ≡ their) × IsBehind flow other key)

  ahead-then : (a b c : ℕ) (x y z : Key) → IsAhead a b x y → IsAhead b c y z → IsAhead a c x z
  ahead-then a b c x y z (inl lt) (inl more) = inl (omega (arith, lt, more))
  ahead-then a b c x y z (inl lt) (inr (same, behind)) = inl (rw (← same) lt)
  ahead-then a b c x y z (inr (same, behind)) (inl lt) = inl (rw same lt)
  ahead-then a b c x y z (inr (same, one)) (inr (equal, other)) = inr (
    same ∙ equal,
    record {
      mode = other.mode;
      place = other.place;
      stands = rw same other.stands;
      first = λ own behind stands.
          let lower = other.first one.mode one.place (rw same at one.stands) in
          let upper = one.first own behind stands in
          omega (arith, lower, upper);
    },
  )

  module _ (right : WaitsAreRight setup entries) where
    -- one wait
    wait-ahead : (flow other : ℕ) (key their : Key) (mode their_mode : Mode) → Blocks entries other flow key mode
        → IsNext setup entries other (Take their their_mode) → (HoldsKey entries other their → ⊥) → IsAhead flow other key their
    wait-ahead flow other key their mode their_mode blocks next free = by blocks.cause
      where
        by : (holds_against entries other key mode ≡ true) ⊎ StandsBefore entries other flow key mode → IsAhead flow other key their
        by (inl against) =
            let (own, is) = some-against (modes_held entries other key) mode against in
            inl (next-above other their their_mode next free key own is)
        by (inr before) =
            let own = standing-next setup entries other key before.their before.place right before.stands in
            let same : Take key before.their ≡ Take their their_mode = next-unique setup entries other (Take key before.their) (Take their their_mode) own next in
            inr (cc same, record { mode = before.their; place = before.place; stands = before.stands; first = before.first })

    first-wait : (flow : ℕ) (between : List ℕ) (last : ℕ) → Chain (WaitsFor setup entries) flow between last → (other : ℕ) × WaitsFor setup entries flow other
    first-wait flow [] last waits = (last, waits)
    first-wait flow (next ∷ between) last (waits, more) = (next, waits)

    one-ahead : (flow other : ℕ) (key : Key) (mode : Mode) → IsNext setup entries flow (Take key mode) → WaitsFor setup entries flow other
        → (last : ℕ) (waits : WaitsFor setup entries other last) → IsAhead flow other key waits.key
    one-ahead flow other key mode next own last waits =
        let same : Take own.key own.mode ≡ Take key mode = next-unique setup entries flow (Take own.key own.mode) (Take key mode) own.next next in
        let key_is : own.key ≡ key = cc same in
        rw key_is at (wait-ahead flow other own.key waits.key own.mode waits.mode own.blocked waits.next waits.blocked.free)

    -- a chain of waits, the last of which waits too
    chain-ahead : (flow : ℕ) (between : List ℕ) (last : ℕ) → Chain (WaitsFor setup entries) flow between last → (other : ℕ) (waits : WaitsFor setup entries last other)
        → (key : Key) (mode : Mode) → IsNext setup entries flow (Take key mode) → IsAhead flow last key waits.key
    chain-ahead flow [] last own other waits key mode next = one-ahead flow last key mode next own other waits
    chain-ahead flow (mid ∷ between) last (own, more) other waits key mode next =
        let (x, there) = first-wait mid between last more in
        ahead-then flow mid last key there.key waits.key (one-ahead flow mid key mode next own x there) (chain-ahead mid between last more other waits there.key there.mode there.next)

  -- no chain of waits comes back
  no-circle : WaitsAreRight setup entries → (flow : ℕ) (between : List ℕ) → Chain (WaitsFor setup entries) flow between flow → ⊥
  no-circle right flow between chain = by (first-wait right flow between flow chain)
    where
      by : (other : ℕ) × WaitsFor setup entries flow other → ⊥
      by (other, waits) = around (chain-ahead right flow between flow chain other waits waits.key waits.mode waits.next)
        where
          around : IsAhead flow flow waits.key waits.key → ⊥
          around (inl lt) = omega (arith, lt)
          around (inr (same, behind)) = let lt = behind.first behind.mode behind.place behind.stands in omega (arith, lt)

pub waits_never_circle : WaitsNeverCircle
waits_never_circle setup entries are right before after split flow between chain =
    no-circle setup are before (waits_right-front setup before after (rw split at right)) flow between chain
