use Rattle.std.proofs.Common.{◌≡◌, ◌<◌, ◌≤◌, ℕ, false, List, length, sym, subst, arith}
use Rattle.std.specs.List.{AllByRecursion}
use Rattle.std.proofs.lemmas.Bool.Decides.{nat_tests}
use Rattle.nodes_tracker.specs.Calls.{stops}
use Rattle.nodes_tracker.specs.steps.Fields.{AreFew, IsSmall}
use Rattle.nodes_tracker.specs.laws.Sizes.{joined_short}
use Rattle.nodes_tracker.proofs.Places.{moved_few}
use Rattle.nodes_tracker.proofs.calls.announce.Goals as goal
use Rattle.nodes_tracker.proofs.calls.announce.Goals.{else-not-stops-via-then-not-stops+else-len-ge-PEER_LIMIT, else-not-stops-via-else-not-stops}

pub answer-requires-clause-few : goal.answer-requires-clause-few
answer-requires-clause-few c =
    let room : stops c.args.ask.now.action ≡ false → length c.args.others.items < 1000 =
    λ goes. elim c.else-not-stops.branch [
      | else-not-stops-via-then-not-stops+else-len-ge-PEER_LIMIT w ↦ omega
          (arith, w.if-len-ge-PEER_LIMIT.false, w.len.ensures, c.args.others.ok.0)
      | else-not-stops-via-else-not-stops w ↦ absurd
          (let stopped = w.if-not-stops.false in let told = c.stops.ensures in first_of (cc, grind (arith, nat_tests)))
    ] in
    subst AreFew (sym c.in_ok-swarm.ensures)
    (moved_few c.args.ask.now c.args.others.items c.requires.few c.requires.peer room)

pub answer-requires-clause-shown : goal.answer-requires-clause-shown
answer-requires-clause-shown c =
    subst (λ (l : List ℕ). length l ≤ 300) (sym c.in_ok-shown.ensures)
    (joined_short c.deref.result.now (subst (AllByRecursion IsSmall) (sym c.deref.ensures.value) c.requires.few.each))
