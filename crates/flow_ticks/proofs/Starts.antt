-- Up to a tick, two simulations that have done the same start the same calls.
use Rattle.std.proofs.Common.{◌≡◌, ◌≤◌, ◌<◌, ◌+◌, ◌⊎◌, inl, inr, ℕ, Bool, true, false, ◌&&◌, eqb, leb, List, [], ◌∷◌, length, refl, sym, ap, subst, ◌∙◌, arith}
use Rattle.std.specs.List.{AllByRecursion}
use Rattle.std.proofs.lemmas.Bool.{cases_lt, eq-eqb}
use Rattle.std.proofs.lemmas.Bool.Decides.{nat_tests}
use Rattle.flow_model.specs.Setup.{Setup}
use Rattle.flow_model.specs.Events.{IsLive, CallIsNext}
use Rattle.flux_laws.proofs.Members.{In}
use Rattle.flow_orders.specs.declared.runs.Run.{Run}
use Rattle.flow_orders.specs.Costs.{cost_of}
use Rattle.flow_orders.specs.Ticks.{Timed}
use Rattle.flow_orders.specs.Runs.{running_of, starting_from}
use Rattle.flow_orders.specs.Rule.{IsSettled}
use Rattle.flow_ticks.proofs.Counts.{count-some, running-sum, sum-less}
use Rattle.flow_ticks.proofs.Cuts.{bare, IsCut}
use Rattle.flow_ticks.proofs.Moves.{blocked-no_call, one-call}
use Rattle.flow_ticks.proofs.One.{IsSimulated, Runs, running-some, running-two, some-running, IsAtRun, at-run, settled-cut, one-running, lasts-so, run-within, run-some}

each-of : (runs : List Run) (P : Run → Type 0) → ((run : Run) → In run runs → P run) → AllByRecursion P runs
each-of [] P of = tt
each-of (run ∷ runs) P of = (of run (inl refl), each-of runs P (λ r is. of r (inr is)))

both-true : (a b : Bool) → a ≡ true → b ≡ true → (a && b) ≡ true
both-true true b e f = f
both-true false b e f = absurd cc

-- one that starts at a tick, of a flow that isn't lower
starts-some : (runs : List Run) (run : Run) (flow tick : ℕ) → In run runs → run.start ≡ tick → flow ≤ run.flow.0 → 1 ≤ starting_from runs flow tick
starts-some runs run flow tick is same le =
    count-some (λ (r : Run). eqb r.start tick && leb flow r.flow.0) runs run is
    (both-true (eqb run.start tick) (leb flow run.flow.0) (eq-eqb run.start tick same) (let yes : leb flow run.flow.0 ≡ true = grind (arith, nat_tests, le) in yes))

module _ (setup : Setup) (costs : List ℕ) (processors : ℕ) (costly : (node : ℕ) → node < length setup.program.nodes → 1 ≤ cost_of costs (record { 0 = node }))
    (own their : Timed) (mine others : List Run) (sim : IsSimulated setup costs processors own mine) (other_sim : IsSimulated setup costs processors their others)
    (tick : ℕ) (before : Timed) (cut : IsCut tick own before) (their_cut : IsCut tick their before)
    (earlier : (run : Run) → run.start < tick → In run others → In run mine) where
  abbrev at-mine : (run : Run) → In run mine → run.start ≤ tick → tick < run.stop → IsAtRun setup costs processors costly own mine sim before run
  at-mine run is le lt = at-run setup costs processors costly own mine sim tick before cut run is le lt

  abbrev at-other : (run : Run) → In run others → run.start ≤ tick → tick < run.stop → IsAtRun setup costs processors costly their others other_sim before run
  at-other run is le lt = at-run setup costs processors costly their others other_sim tick before their_cut run is le lt

  module _ (run : Run) (is : In run mine) (starts : run.start ≡ tick) where
    goes : tick < run.stop
    goes = let lt = run-some setup costs processors costly own mine sim run is in omega (arith, starts, lt)

    at : IsAtRun setup costs processors costly own mine sim before run
    at = at-mine run is (omega (arith, starts)) goes

    -- a run of the same flow at the same tick is this one
    same-run : (other : Run) → In other others → other.flow.0 ≡ run.flow.0 → other.start ≤ tick → tick < other.stop → In run others
    same-run other there of le lt = by (cases_lt other.start tick)
      where
        by : (other.start < tick) ⊎ (tick ≤ other.start) → In run others
        by (inl early) =
            let mine_too = earlier other early there in
            let two = running-two mine run other tick is mine_too of (omega (arith, starts)) goes le lt (λ (same : run ≡ other). (let e : run.start ≡ other.start = ap (λ (r : Run). r.start) same in omega (arith, e, early, starts))) in
            let own_at = at in
            let one = one-running setup costs processors costly own mine sim tick before cut run.flow.0 own_at.live in
            absurd (omega (arith, two, one))
        by (inr late) =
            let own_at = at in
            let their_at = at-other other there le lt in
            let (node, args) = one-call setup (bare before) run.flow.0 run.node other.node own_at.args their_at.args own_at.next
            (subst (λ (f : ℕ). CallIsNext setup (bare before) f other.node their_at.args) of their_at.next) in
            let start : other.start ≡ run.start = omega (arith, le, late, starts) in
            let stop : other.stop ≡ run.stop =
            lasts-so setup costs processors costly their others other_sim other there ∙ (λ i. start i + cost_of costs (sym node i)) ∙ sym (lasts-so setup costs processors costly own mine sim run is) in
            subst (λ (r : Run). In r others) (λ i. record { flow = record { 0 = of i }; node = sym node i; start = start i; stop = stop i }) there

    -- each flow has no more runs there than here
    no-more : running_of others run.flow.0 tick ≡ 0 → starting_from others run.flow.0 tick ≡ 0 → (flow : ℕ) → running_of others flow tick ≤ running_of mine flow tick
    no-more none passed flow = by (cases_lt 0 (running_of others flow tick))
      where
        some-mine : (other : Run) → other.flow.0 ≡ flow → In other mine → other.start ≤ tick → tick < other.stop → 1 ≤ running_of mine flow tick
        some-mine other of there le lt = subst (λ (f : ℕ). 1 ≤ running_of mine f tick) of (running-some mine other tick there le lt)

        on : (running : Runs others flow tick) → IsAtRun setup costs processors costly their others other_sim before running.run → 1 ≤ running_of mine flow tick
        on running there = when (let r = running.run in cases_lt r.start tick)
          where
            other : Run
            other = running.run

            at-it : CallIsNext setup (bare before) flow running.run.node there.args
            at-it = subst (λ (f : ℕ). CallIsNext setup (bare before) f running.run.node there.args) running.of there.next

            live : IsLive setup (bare before) flow
            live = subst (IsLive setup (bare before)) running.of there.live

            here : (let r = running.run in tick ≤ r.start) → IsSettled setup processors (bare before) mine tick flow → 1 ≤ running_of mine flow tick
            here late (inl (blocked, zero_)) = absurd (blocked-no_call setup (bare before) flow blocked (running.run.node, there.args, at-it))
            here late (inr (inl (call, one))) = omega (arith, one)
            here late (inr (inr (call, zero_, over))) = absurd (lower (cases_lt flow run.flow.0))
              where
                start : running.run.start ≡ tick
                start = let le = running.started in omega (arith, le, late)

                lower : (flow < run.flow.0) ⊎ (run.flow.0 ≤ flow) → ⊥
                lower (inl lt) =
                    let some = starts-some mine run flow tick is starts (omega (arith, lt)) in
                    let zero_ = over.lower in
                    omega (arith, some, zero_)
                lower (inr le) =
                    let of = running.of in
                    let some = starts-some others running.run run.flow.0 tick running.is start (omega (arith, le, of)) in
                    omega (arith, some, passed)

            when : (let r = running.run in (r.start < tick) ⊎ (tick ≤ r.start)) → 1 ≤ running_of mine flow tick
            when (inl early) = some-mine running.run running.of (earlier running.run early running.is) running.started running.goes
            when (inr late) = here late (settled-cut setup costs processors costly own mine sim tick before cut flow live)

        by : (0 < running_of others flow tick) ⊎ (running_of others flow tick ≤ 0) → running_of others flow tick ≤ running_of mine flow tick
        by (inr zero_) = omega (arith, zero_)
        by (inl some) =
            let running = some-running others flow tick (omega (arith, some)) in
            let there = at-other running.run running.is running.started running.goes in
            let one = one-running setup costs processors costly their others other_sim tick before their_cut flow (subst (IsLive setup (bare before)) running.of there.live) in
            let here = on running there in
            omega (arith, one, here)

    -- what starts here at the tick starts there
    pub starts-there : In run others
    starts-there = let own_at = at in by (settled-cut setup costs processors costly their others other_sim tick before their_cut run.flow.0 own_at.live)
      where
        by : IsSettled setup processors (bare before) others tick run.flow.0 → In run others
        by (inl (blocked, zero_)) = let own_at = at in absurd (blocked-no_call setup (bare before) run.flow.0 blocked (run.node, own_at.args, own_at.next))
        by (inr (inl (call, one))) =
            let running = some-running others run.flow.0 tick (omega (arith, one)) in
            same-run running.run running.is running.of running.started running.goes
        by (inr (inr (call, none, over))) =
            let count = length setup.items in
            let here = running-sum tick count mine (each-of mine (λ r. r.flow.0 < count) (λ r there. run-within setup costs processors costly own mine sim r there)) in
            let there = running-sum tick count others (each-of others (λ r. r.flow.0 < count) (λ r is_. run-within setup costs processors costly their others other_sim r is_)) in
            let some = running-some mine run tick is (omega (arith, starts)) goes in
            let less = sum-less (λ flow. running_of others flow tick) (λ flow. running_of mine flow tick) run.flow.0 count (run-within setup costs processors costly own mine sim run is)
            (omega (arith, none, some)) (λ flow lt. no-more none over.lower flow) in
            let few = sim.few tick in
            let taken = over.taken in
            absurd (omega (arith, here, there, less, few, taken))
