-- The walk of a node keeps the stack on which it begins, through however many nested nodes.
use Rattle.std.proofs.Common.{◌≡◌, ◌<◌, ℕ, zero, suc, inl, inr, List, [], ◌∷◌, Option, Some, None, refl, ap, arith}
use Rattle.std.specs.List.{slice_get}
use Rattle.flux_model.specs.declared.programs.Node.{Node}
use Rattle.flux_model.specs.declared.programs.NodeNo.{NodeNo}
use Rattle.flux_model.specs.declared.programs.ClassNo.{ClassNo}
use Rattle.flux_model.specs.declared.programs.Hold.{Hold}
use Rattle.flux_model.specs.declared.programs.Program.{Program}
use Rattle.flow_model.specs.declared.journals.Key.{Key}
use Rattle.flux_model.specs.Children.{IsIn, members, handlers}
use Rattle.flux_model.specs.Nested.{nested, for_node}
use Rattle.flux_model.specs.Locks.{declared, AreRising, AreLocks, IsLeastClosed}
use Rattle.flow_model.specs.Walk.{Given, Walking, lost, enclosed, body_walk, handled, walk_by}
use Rattle.flux_model.proofs.BelowLemmas.{below-member}
use Rattle.flux_model.proofs.LeadingLemmas.{member_led, handler_led}
use Rattle.flux_model.proofs.Hoisting.{least_closed}
use Rattle.flux_laws.proofs.Members.{In, in-from_contains}
use Rattle.flux_laws.proofs.Stacks.{Stack, taken, IsOn, AreCovered}
use Rattle.flux_laws.proofs.Readiness.{with_takes, Rising, Ready, ready-below, covers-own}
use Rattle.flux_laws.proofs.Walking.{IsSafe, inside, fine-then, fine-body, fine-handled, fine-enclosed}

-- ---- classes that rise by their places

place-of : (holds : List Hold) (other : Hold) → In other holds → (k : ℕ) × (slice_get holds k ≡ Some other)
place-of [] other is = absurd is
place-of (hold ∷ holds) other (inl same) = (zero, ap Some same)
place-of (hold ∷ holds) other (inr is) = let (k, at) = place-of holds other is in (suc k, at)

rising-from_places : (holds : List Hold) → AreRising holds → Rising holds
rising-from_places [] rising = tt
rising-from_places (hold ∷ holds) rising = (first, rising-from_places holds (λ low high one other lt at there. rising (suc low) (suc high) one other (omega (arith, lt)) at there))
  where
    first : (other : Hold) → In other holds → hold.class.0 < other.class.0
    first other is = let (k, at) = place-of holds other is in rising 0 (suc k) hold other (omega arith) refl at

on-takes : (key : ClassNo → Key) (st : Stack) (holds : List Hold) → IsOn st → IsOn (with_takes key st holds)
on-takes key st [] on = on
on-takes key st (hold ∷ holds) on = on-takes key (taken (key hold.class) hold.mode ∷ st) holds tt

-- ---- nodes

module _ (p : Program) (given : Given) (are : AreLocks p given.locks) (keyed : (class : ClassNo) → (given.key class).class ≡ class) where
  -- the law of hoisting, at these locks
  abbrev pub laws : IsLeastClosed p given.locks
  laws = least_closed p given.locks are

  -- walks that go through so many nested nodes
  abbrev walks : ℕ → ℕ → Walking
  walks depth = nested (λ values left. lost) (walk_by given) p.nodes depth

  covered : (st : Stack) (number : ℕ) → AreCovered given.key (with_takes given.key st (given.locks number)) (declared p number)
  covered st number hold declares =
      let at = laws.declares number hold declares in
      covers-own given.key keyed st (given.locks number) hold.class at.mode hold.mode
      (in-from_contains (given.locks number) (record { class = hold.class; mode = at.mode }) at.has) at.enough

  module _ (depth : ℕ) (number : ℕ) (st : Stack) (on : IsOn st) (ready : Ready p given.locks laws.closed given.key keyed st (suc depth) number)
      (safe : (m : ℕ) (other : Stack) → IsOn other → Ready p given.locks laws.closed given.key keyed other depth m → IsSafe given.key (declared p) other (walks depth m)) where
    abbrev own : NodeNo
    own = record { 0 = number }

    safe-member : (m : ℕ) → IsIn m (members p number) → IsSafe given.key (declared p) (inside given.key (declared p) keyed st (given.locks number) own) (walks depth m)
    safe-member m is = safe m (inside given.key (declared p) keyed st (given.locks number) own) tt
        (ready-below p given.locks laws.closed given.key keyed depth st number m (below-member p number m is) (ready.1 m (member_led p number m is)))

    safe-handler : (m : ℕ) → IsIn m (handlers p number) → IsSafe given.key (declared p) st (walks depth m)
    safe-handler m is = safe m st on (ready.1 m (handler_led p number m is))

    safe-node : (node : Node) → slice_get p.nodes number ≡ Some node → IsSafe given.key (declared p) st (walk_by given (walks depth) number node)
    safe-node node at values left =
        fine-then given.key (declared p) st st st (enclosed given.key (given.locks number) own (body_walk given (walks depth) node.body own values left))
        (λ ended. handled (walks depth) node.on_fail values ended.outcome ended)
        (fine-enclosed given.key (declared p) keyed st (given.locks number) own on (on-takes given.key st (given.locks number) on)
        (rising-from_places (given.locks number) (let l = are number in l.rising)) ready.0 (covered st number)
        (body_walk given (walks depth) node.body own values left)
        (fine-body given.key (declared p) (inside given.key (declared p) keyed st (given.locks number) own) given (walks depth) node.body own tt refl
        (λ m is. safe-member m (rw at is)) values left))
        (λ ended. fine-handled given.key (declared p) st (walks depth) node.on_fail (λ m is. safe-handler m (rw at is)) values ended.outcome ended)

    safe-found : (found : Option Node) → slice_get p.nodes number ≡ found → IsSafe given.key (declared p) st (for_node (λ values left. lost) (walk_by given (walks depth) number) found)
    safe-found None at values left = record { runs = tt; leaves = on }
    safe-found (Some node) at values left = safe-node node at values left

  -- the walk of a node where its takes may be made
  pub safe-nested : (depth : ℕ) (number : ℕ) (st : Stack) → IsOn st → Ready p given.locks laws.closed given.key keyed st depth number
      → IsSafe given.key (declared p) st (nested (λ values left. lost) (walk_by given) p.nodes depth number)
  safe-nested zero number st on ready values left = record { runs = tt; leaves = on }
  safe-nested (suc depth) number st on ready values left =
      safe-found depth number st on ready (λ m other is own. safe-nested depth m other is own) (slice_get p.nodes number) refl values left
