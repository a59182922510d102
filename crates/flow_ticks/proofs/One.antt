-- One simulation: which calls its runs are, and what flows are at while they run.
use Rattle.std.proofs.Common.{◌≡◌, ◌≢◌, ◌≤◌, ◌<◌, ◌+◌, ◌-◌, ◌⊎◌, inl, inr, ℕ, Bool, true, false, ◌&&◌, eqb, leb, ltb, List, [], ◌∷◌, ◌++◌, map, length, refl, sym, ap, subst, ◌∙◌, append_assoc, arith}
use Rattle.std.specs.List.{AllByRecursion}
use Rattle.std.proofs.lemmas.Bool.{cases_eq, eq-eqb, eqb-true}
use Rattle.std.proofs.lemmas.Bool.Decides.{nat_tests}
use Rattle.std.proofs.lemmas.List.{append-nil}
use Rattle.flux_values.specs.declared.values.Value.{Value}
use Rattle.flux_model.specs.declared.programs.NodeNo.{NodeNo}
use Rattle.flux_model.specs.declared.items.FlowNo.{FlowNo}
use Rattle.flow_model.specs.declared.journals.CallMade.{CallMade}
use Rattle.flow_model.specs.declared.journals.Event.{Event}
use Rattle.flow_model.specs.declared.journals.Event.TheVariants.{Take, Wait, Enter, Choose, Call, Exit, Drop, End}
use Rattle.flow_model.specs.declared.journals.Entry.{Entry}
use Rattle.flow_model.specs.Setup.{Setup}
use Rattle.flow_model.specs.Events.{events_by, IsLive, CallIsNext}
use Rattle.flow_model.specs.Legal.{IsLegal, IsWhole}
use Rattle.flux_laws.specs.Going.{IsAtCall}
use Rattle.flux_laws.specs.Growth.{IsNoWait}
use Rattle.flux_laws.proofs.Members.{In, in-from_contains, contains-from_in, in-left, in-right, in-either, all-behind, all-front}
use Rattle.flux_laws.proofs.OwnEvents.{events_by-append, by_another}
use Rattle.flux_laws.proofs.Fronts.{fronts_are_legal}
use Rattle.flux_laws.proofs.LastMoves.{entries_are_moves}
use Rattle.flux_laws.proofs.Ends.{whole-ended}
use Rattle.flow_orders.specs.declared.runs.Run.{Run}
use Rattle.flow_orders.specs.Costs.{cost_of}
use Rattle.flow_orders.specs.Ticks.{Timed, at_tick}
use Rattle.flow_orders.specs.Runs.{covers, running_of, NeverMoreRuns, CallEnd, end_of, ends_by, ends_in, IsOneRunACall}
use Rattle.flow_orders.specs.Rule.{IsCallBelow, IsCallsTurn, IsLowestAlone, ComeInTurn, IsSettled, AreSettled}
use Rattle.flow_ticks.proofs.Counts.{count-some, some-count, two-count}
use Rattle.flow_ticks.proofs.Cuts.{bare, bare-append, all-in, among, in-here, AreRising, rising-before, IsCut, cut-at, until-cut, tick-in}
use Rattle.flow_ticks.proofs.Moves.{not-both, call-same, IsEither, either-move, whole-no_move, call-node}

-- a journal with ticks and runs by the rule
pub record IsSimulated (setup : Setup) (costs : List ℕ) (processors : ℕ) (journal : Timed) (runs : List Run) : Type 0 where
  pub legal : IsLegal setup (bare journal)
  pub whole : IsWhole setup (bare journal)
  pub rising : AreRising journal
  pub turns : ComeInTurn setup journal
  pub calls : IsOneRunACall costs journal runs
  pub few : NeverMoreRuns processors runs
  pub settled : AreSettled setup processors journal runs
  pub no_wait : AllByRecursion IsNoWait (bare journal)

and-parts : (a b : Bool) → (a && b) ≡ true → (a ≡ true) × (b ≡ true)
and-parts true b e = (refl, e)
and-parts false b e = absurd cc

both-true : (a b : Bool) → a ≡ true → b ≡ true → (a && b) ≡ true
both-true true b e f = f
both-true false b e f = absurd cc

-- ---- runs of a flow at a tick

pub is-running : Run → ℕ → ℕ → Bool
is-running run flow tick = eqb run.flow.0 flow && covers tick run

pub running-test : (run : Run) (tick : ℕ) → run.start ≤ tick → tick < run.stop → (eqb run.flow.0 run.flow.0 && (leb run.start tick && ltb tick run.stop)) ≡ true
running-test run tick le lt =
    let one : leb run.start tick ≡ true = grind (arith, nat_tests, le) in
    let two : ltb tick run.stop ≡ true = grind (arith, nat_tests, lt) in
    both-true (eqb run.flow.0 run.flow.0) (leb run.start tick && ltb tick run.stop) (eq-eqb run.flow.0 run.flow.0 refl) (both-true (leb run.start tick) (ltb tick run.stop) one two)

pub running-some : (runs : List Run) (run : Run) (tick : ℕ) → In run runs → run.start ≤ tick → tick < run.stop → 1 ≤ running_of runs run.flow.0 tick
running-some runs run tick is le lt = count-some (λ (r : Run). eqb r.flow.0 run.flow.0 && covers tick r) runs run is (running-test run tick le lt)

pub running-two : (runs : List Run) (run other : Run) (tick : ℕ) → In run runs → In other runs → other.flow.0 ≡ run.flow.0 → run.start ≤ tick → tick < run.stop → other.start ≤ tick → tick < other.stop → (run ≡ other → ⊥) → 2 ≤ running_of runs run.flow.0 tick
running-two runs run other tick is too same le lt their_le their_lt apart =
    two-count (λ (r : Run). eqb r.flow.0 run.flow.0 && covers tick r) runs run other is too (running-test run tick le lt)
    (subst (λ (f : ℕ). (eqb other.flow.0 f && covers tick other) ≡ true) same (running-test other tick their_le their_lt)) apart

-- one of a flow that runs
pub record Runs (runs : List Run) (flow tick : ℕ) : Type 0 where
  pub run : Run
  pub is : In run runs
  pub of : run.flow.0 ≡ flow
  pub started : run.start ≤ tick
  pub goes : tick < run.stop

pub some-running : (runs : List Run) (flow tick : ℕ) → 1 ≤ running_of runs flow tick → Runs runs flow tick
some-running runs flow tick some =
    let (run, is, e) = some-count (λ (r : Run). eqb r.flow.0 flow && covers tick r) runs some in
    let parts = and-parts (eqb run.flow.0 flow) (covers tick run) e in
    let within = and-parts (leb run.start tick) (ltb tick run.stop) parts.1 in
    let one : leb run.start tick ≡ true = within.0 in
    let two : ltb tick run.stop ≡ true = within.1 in
    record { run = run; is = is; of = eqb-true run.flow.0 flow parts.0; started = grind (arith, nat_tests, one); goes = grind (arith, nat_tests, two) }

-- ---- members

map-in : {X Y : Type 0} (f : X → Y) (xs : List X) (y : Y) → In y (map f xs) → (x : X) × In x xs × (f x ≡ y)
map-in f [] y is = absurd is
map-in f (x ∷ xs) y (inl same) = (x, inl refl, same)
map-in f (x ∷ xs) y (inr is) = let (z, among_, e) = map-in f xs y is in (z, inr among_, e)

in-map : {X Y : Type 0} (f : X → Y) (xs : List X) (x : X) → In x xs → In (f x) (map f xs)
in-map f [] x is = absurd is
in-map f (y ∷ xs) x (inl same) = inl (ap f same)
in-map f (y ∷ xs) x (inr is) = inr (in-map f xs x is)

abbrev call-at : ℕ → FlowNo → CallMade → ℕ × Entry
call-at tick flow made = (tick, record { flow = flow; event = Call made })

ends-have : (journal : Timed) (tick : ℕ) (flow : FlowNo) (made : CallMade) → In (call-at tick flow made) journal → In (record { flow = flow; node = made.node; tick = tick }) (ends_in journal)
ends-have [] tick flow made is = absurd is
ends-have (x ∷ journal) tick flow made (inl same) =
    in-left (let e : Entry = x.1 in ends_by x.0 e.flow e.event) (ends_in journal) (record { flow = flow; node = made.node; tick = tick })
    (subst (λ (y : ℕ × Entry). In (record { flow = flow; node = made.node; tick = tick }) (let e : Entry = y.1 in ends_by y.0 e.flow e.event)) (sym same) (inl refl))
ends-have (x ∷ journal) tick flow made (inr is) =
    in-right (let e : Entry = x.1 in ends_by x.0 e.flow e.event) (ends_in journal) (record { flow = flow; node = made.node; tick = tick }) (ends-have journal tick flow made is)

-- the call whose end this is
pub record IsCallOf (journal : Timed) (end : CallEnd) : Type 0 where
  pub made : CallMade
  pub node : made.node ≡ end.node
  pub is : In (end.tick, record { flow = end.flow; event = Call made }) journal

end-by : (tick : ℕ) (flow : FlowNo) (event : Event) (end : CallEnd) → In end (ends_by tick flow event) → (made : CallMade) × (made.node ≡ end.node) × (◌≡◌ {A = ℕ × Entry} (tick, record { flow = flow; event = event }) (end.tick, record { flow = end.flow; event = Call made }))
end-by tick flow (Call made) end (inl same) = (made, ap (λ (e : CallEnd). e.node) same, λ i. let e : CallEnd = same i in (e.tick, record { flow = e.flow; event = Call made }))
end-by tick flow (Call made) end (inr is) = absurd is
end-by tick flow (Take key mode) end is = absurd is
end-by tick flow (Wait key mode) end is = absurd is
end-by tick flow (Enter node) end is = absurd is
end-by tick flow (Choose place) end is = absurd is
end-by tick flow (Exit node outcome) end is = absurd is
end-by tick flow (Drop key) end is = absurd is
end-by tick flow (End outcome) end is = absurd is

ends-are : (journal : Timed) (end : CallEnd) → In end (ends_in journal) → IsCallOf journal end
ends-are [] end is = absurd is
ends-are (x ∷ journal) end is = by (in-either (let e : Entry = x.1 in ends_by x.0 e.flow e.event) (ends_in journal) end is) (ends-are journal end)
  where
    by : In end (let e : Entry = x.1 in ends_by x.0 e.flow e.event) ⊎ In end (ends_in journal) → (In end (ends_in journal) → IsCallOf journal end) → IsCallOf (x ∷ journal) end
    by (inl here) more = let (made, node, same) = (let e : Entry = x.1 in end-by x.0 e.flow e.event end here) in record { made = made; node = node; is = inl same }
    by (inr there) more = let rest = more there in record { made = rest.made; node = rest.node; is = inr rest.is }

-- ---- the first entry of a flow

pub record HasFirst (flow : ℕ) (journal : Timed) : Type 0 where
  pub before : Timed
  pub entry : ℕ × Entry
  pub after : Timed
  pub is : journal ≡ before ++ entry ∷ after
  pub of : (let e : Entry = entry.1 in e.flow.0 ≡ flow)
  pub none : events_by flow (bare before) ≡ []

first-of : (flow : ℕ) (journal : Timed) → (events_by flow (bare journal) ≡ []) ⊎ HasFirst flow journal
first-of flow [] = inl refl
first-of flow (x ∷ journal) = by (let e : Entry = x.1 in cases_eq e.flow.0 flow) (first-of flow journal)
  where
    skip : (let e : Entry = x.1 in e.flow.0 ≡ flow → ⊥) → (list : Timed) → events_by flow (bare list) ≡ [] → events_by flow (bare (x ∷ list)) ≡ []
    skip apart list none =
        let e : Entry = x.1 in
        events_by-append flow (e ∷ []) (bare list) ∙ ap (λ (es : List Event). es ++ events_by flow (bare list)) (by_another e.flow flow e.event apart) ∙ none

    by : (let e : Entry = x.1 in (e.flow.0 ≡ flow) ⊎ (e.flow.0 ≡ flow → ⊥)) → (events_by flow (bare journal) ≡ []) ⊎ HasFirst flow journal → (events_by flow (bare (x ∷ journal)) ≡ []) ⊎ HasFirst flow (x ∷ journal)
    by (inl same) more = inr (record { before = []; entry = x; after = journal; is = refl; of = same; none = refl })
    by (inr apart) (inl none) = inl (skip apart journal none)
    by (inr apart) (inr has) = inr (record { before = x ∷ has.before; entry = has.entry; after = has.after; is = ap (λ (j : Timed). x ∷ j) has.is; of = has.of; none = skip apart has.before has.none })

-- ---- one simulation

module _ (setup : Setup) (costs : List ℕ) (processors : ℕ) (costly : (node : ℕ) → node < length setup.program.nodes → 1 ≤ cost_of costs (record { 0 = node })) (journal : Timed) (runs : List Run)
    (sim : IsSimulated setup costs processors journal runs) where
  front-legal : (before after : Timed) → journal ≡ before ++ after → IsLegal setup (bare before)
  front-legal before after is = fronts_are_legal setup (bare before) (bare after) (subst (IsLegal setup) (ap bare is ∙ bare-append before after) sim.legal)

  pub flow-within : (before : Timed) (x : ℕ × Entry) (after : Timed) → journal ≡ before ++ x ∷ after → (let e : Entry = x.1 in e.flow.0 < length setup.items)
  flow-within before x after is =
      let legal = sim.legal in
      (all-behind (λ (e : Entry). e.flow.0 < length setup.items) (bare before) (x.1 ∷ bare after)
      (subst (AllByRecursion (λ (e : Entry). e.flow.0 < length setup.items)) (ap bare is ∙ bare-append before (x ∷ after)) legal.flows)).0

  -- each entry is a call, or an event of its flow's walk
  pub move-at : (before : Timed) (x : ℕ × Entry) (after : Timed) → journal ≡ before ++ x ∷ after → (let e : Entry = x.1 in IsEither setup (bare before) e.flow e.event)
  move-at before x after is =
      let e : Entry = x.1 in
      let same : bare journal ≡ (bare before ++ e ∷ []) ++ bare after = ap bare is ∙ bare-append before (x ∷ after) ∙ sym (append_assoc (bare before) (e ∷ []) (bare after)) in
      let legal = fronts_are_legal setup (bare before ++ e ∷ []) (bare after) (subst (IsLegal setup) same sim.legal) in
      let quiet = (all-behind IsNoWait (bare before) (e ∷ bare after) (subst (AllByRecursion IsNoWait) (ap bare is ∙ bare-append before (x ∷ after)) sim.no_wait)).0 in
      either-move setup (bare before) e.flow e.event quiet (entries_are_moves setup (bare before) e.flow e.event legal)

  -- a flow with a later entry is live
  pub live-at : (before : Timed) (x : ℕ × Entry) (after : Timed) → journal ≡ before ++ x ∷ after → (let e : Entry = x.1 in IsLive setup (bare before) e.flow.0)
  live-at before x after is =
      let e : Entry = x.1 in
      let item = flow-within before x after is in record {
        item = item;
        goes_on = λ outcome ended. whole-no_move setup (bare before) e.flow e.event
            (whole-ended setup (bare before) (front-legal before (x ∷ after) is) e.flow.0 item outcome ended) (move-at before x after is);
      }

  live-front : (before middle : Timed) (flow : ℕ) → IsLive setup (bare (before ++ middle)) flow → IsLive setup (bare before) flow
  live-front before middle flow live = record {
    item = live.item;
    goes_on = λ outcome ended. live.goes_on outcome
        (contains-from_in (events_by flow (bare (before ++ middle))) (End outcome)
        (subst (In (End outcome)) (sym (ap (events_by flow) (bare-append before middle) ∙ events_by-append flow (bare before) (bare middle)))
        (in-left (events_by flow (bare before)) (events_by flow (bare middle)) (End outcome) (in-from_contains (events_by flow (bare before)) (End outcome) ended))));
  }

  pub live-later : (before after : Timed) → journal ≡ before ++ after → (x : ℕ × Entry) → In x after → (let e : Entry = x.1 in IsLive setup (bare before) e.flow.0)
  live-later before after is x there =
      let split = among after x there in
      let whole : journal ≡ (before ++ split.before) ++ x ∷ split.after = is ∙ ap (λ (j : Timed). before ++ j) split.is ∙ sym (append_assoc before split.before (x ∷ split.after)) in
      let e : Entry = x.1 in
      live-front before split.before e.flow.0 (live-at (before ++ split.before) x split.after whole)

  -- before a call of a tick come only calls of lower flows
  pub calls-first : (before : Timed) (tick : ℕ) (flow : FlowNo) (made : CallMade) (after : Timed) → journal ≡ before ++ (tick, record { flow = flow; event = Call made }) ∷ after → AllByRecursion (IsCallBelow flow.0) (at_tick tick before)
  calls-first before tick flow made after is = by (sim.turns before after tick flow (Call made) is) (move-at before (tick, record { flow = flow; event = Call made }) after is)
    where
      by : IsCallsTurn before tick flow (Call made) ⊎ IsLowestAlone setup (bare before) flow.0 → IsEither setup (bare before) flow (Call made) → AllByRecursion (IsCallBelow flow.0) (at_tick tick before)
      by (inl turn) move = turn.first
      by (inr lowest) (inl (own, same, may)) = let goes = lowest.goes in absurd (goes.no_call (own.node, own.args, may.next))
      by (inr lowest) (inr (other, may)) = absurd (other made refl)

  -- no entry of the call's flow at its tick comes before it
  pub call-alone : (before : Timed) (tick : ℕ) (flow : FlowNo) (made : CallMade) (after : Timed) → journal ≡ before ++ (tick, record { flow = flow; event = Call made }) ∷ after
      → (x : ℕ × Entry) → In x before → x.0 ≡ tick → (let e : Entry = x.1 in IsCallBelow flow.0 e)
  call-alone before tick flow made after is x there same = all-in (IsCallBelow flow.0) (at_tick tick before) x.1 (calls-first before tick flow made after is) (tick-in tick before x there same)

  -- ---- runs and calls

  pub record IsRunOf (tick : ℕ) (flow : FlowNo) (made : CallMade) : Type 0 where
    pub run : Run
    pub is : In run runs
    pub flow_ : run.flow ≡ flow
    pub node : run.node ≡ made.node
    pub stop : run.stop ≡ tick
    pub lasts : run.stop ≡ run.start + cost_of costs run.node
    pub some : 1 ≤ cost_of costs run.node

  pub run-of : (before : Timed) (tick : ℕ) (flow : FlowNo) (made : CallMade) (after : Timed) → journal ≡ before ++ (tick, record { flow = flow; event = Call made }) ∷ after → IsRunOf tick flow made
  run-of before tick flow made after is =
      let there : In (call-at tick flow made) journal = subst (In (call-at tick flow made)) (sym is) (in-here before (call-at tick flow made) after) in
      let end = ends-have journal tick flow made there in
      let calls = sim.calls in
      let (run, among_, same) = map-in end_of runs (record { flow = flow; node = made.node; tick = tick }) (subst (In (record { flow = flow; node = made.node; tick = tick })) (sym calls.calls) end) in
      let node : run.node ≡ made.node = ap (λ (e : CallEnd). e.node) same in
      record {
        run = run;
        is = among_;
        flow_ = ap (λ (e : CallEnd). e.flow) same;
        node = node;
        stop = ap (λ (e : CallEnd). e.tick) same;
        lasts = all-in (λ (r : Run). r.stop ≡ r.start + cost_of costs r.node) runs run calls.last among_;
        some = subst (λ (n : NodeNo). 1 ≤ cost_of costs n) (sym node) (by (move-at before (call-at tick flow made) after is));
      }
    where
      by : IsEither setup (bare before) flow (Call made) → 1 ≤ cost_of costs made.node
      by (inl (own, same, may)) =
          let one : ◌≡◌ {A = CallMade} made own = cc in
          subst (λ (m : CallMade). 1 ≤ cost_of costs m.node) (sym one) (costly own.node.0 (call-node setup flow.0 _ own may.right))
      by (inr (other, may)) = absurd (other made refl)

  pub call-of : (run : Run) → In run runs → IsCallOf journal (end_of run)
  call-of run is = let calls = sim.calls in ends-are journal (end_of run) (subst (In (end_of run)) calls.calls (in-map end_of runs run is))

  pub lasts-so : (run : Run) → In run runs → run.stop ≡ run.start + cost_of costs run.node
  lasts-so run is = let calls = sim.calls in all-in (λ (r : Run). r.stop ≡ r.start + cost_of costs r.node) runs run calls.last is

  pub run-within : (run : Run) → In run runs → run.flow.0 < length setup.items
  run-within run is =
      let call = call-of run is in
      let split = among journal (run.stop, record { flow = run.flow; event = Call call.made }) call.is in
      flow-within split.before (run.stop, record { flow = run.flow; event = Call call.made }) split.after split.is

  -- a run takes time
  pub run-some : (run : Run) → In run runs → run.start < run.stop
  run-some run is =
      let call = call-of run is in
      let split = among journal (run.stop, record { flow = run.flow; event = Call call.made }) call.is in
      let own = by split.before call.made (move-at split.before (run.stop, record { flow = run.flow; event = Call call.made }) split.after split.is) in
      let cost : 1 ≤ cost_of costs run.node = subst (λ (n : NodeNo). 1 ≤ cost_of costs n) call.node own in
      let lasts = lasts-so run is in
      omega (arith, cost, lasts)
    where
      by : (before : Timed) (made : CallMade) → IsEither setup (bare before) run.flow (Call made) → 1 ≤ cost_of costs made.node
      by before made (inl (own, same, may)) =
          let one : ◌≡◌ {A = CallMade} made own = cc in
          subst (λ (m : CallMade). 1 ≤ cost_of costs m.node) (sym one) (costly own.node.0 (call-node setup run.flow.0 _ own may.right))
      by before made (inr (other, may)) = absurd (other made refl)

  -- where a live flow is when all of a tick is done
  pub settled-cut : (tick : ℕ) (before : Timed) → IsCut tick journal before → (flow : ℕ) → IsLive setup (bare before) flow → IsSettled setup processors (bare before) runs tick flow
  settled-cut tick before cut flow live =
      let same = until-cut tick journal before cut in
      subst (λ (es : List Entry). IsSettled setup processors es runs tick flow) same (sim.settled tick flow (subst (λ (es : List Entry). IsLive setup es flow) (sym same) live))

  pub one-running : (tick : ℕ) (before : Timed) → IsCut tick journal before → (flow : ℕ) → IsLive setup (bare before) flow → running_of runs flow tick ≤ 1
  one-running tick before cut flow live = by (settled-cut tick before cut flow live)
    where
      by : IsSettled setup processors (bare before) runs tick flow → running_of runs flow tick ≤ 1
      by (inl (blocked, none)) = omega (arith, none)
      by (inr (inl (at, one))) = omega (arith, one)
      by (inr (inr (at, none, passed))) = omega (arith, none)

  -- ---- where a flow is while its call runs

  events-on : (before middle : Timed) (flow : ℕ) → events_by flow (bare middle) ≡ [] → events_by flow (bare (before ++ middle)) ≡ events_by flow (bare before)
  events-on before middle flow none = ap (events_by flow) (bare-append before middle) ∙ events_by-append flow (bare before) (bare middle) ∙ ap (λ (es : List Event). events_by flow (bare before) ++ es) none ∙ append-nil (events_by flow (bare before))

  -- the flow is live, and at the call that runs
  pub record IsAtRun (before : Timed) (run : Run) : Type 0 where
    pub live : IsLive setup (bare before) run.flow.0
    pub args : List Value
    pub next : CallIsNext setup (bare before) run.flow.0 run.node args

  made-next : (before : Timed) (x : ℕ × Entry) (after : Timed) → journal ≡ before ++ x ∷ after → (made : CallMade) → (let e : Entry = x.1 in e.event ≡ Call made) → (let e : Entry = x.1 in CallIsNext setup (bare before) e.flow.0 made.node made.args)
  made-next before x after is made same = by (let e : Entry = x.1 in e.event) same (move-at before x after is)
    where
      by : (event : Event) → event ≡ Call made → (let e : Entry = x.1 in IsEither setup (bare before) e.flow event) → (let e : Entry = x.1 in CallIsNext setup (bare before) e.flow.0 made.node made.args)
      by event same_ (inl (own, is_own, may)) =
          let one : ◌≡◌ {A = CallMade} own made = let both : Call own ≡ Call made = sym is_own ∙ same_ in cc in
          let e : Entry = x.1 in
          subst (λ (m : CallMade). CallIsNext setup (bare before) e.flow.0 m.node m.args) one may.next
      by event same_ (inr (other, may)) = absurd (other made same_)

  -- a later call of the same flow, before the one that runs, would run at one tick with it
  no-other : (tick : ℕ) (before middle between after : Timed) (run : Run) (made : CallMade) (y : ℕ × Entry) → In run runs → run.start ≤ tick → AllByRecursion (λ one. tick < one.0) middle
      → journal ≡ (before ++ middle) ++ y ∷ (between ++ (run.stop, record { flow = run.flow; event = Call made }) ∷ after) → tick < y.0 → (let e : Entry = y.1 in e.flow.0 ≡ run.flow.0)
      → (own : CallMade) → (let e : Entry = y.1 in e.event ≡ Call own) → ⊥
  no-other tick before middle between after run made y is started above laid later of own own_is =
      let e : Entry = y.1 in
      let front = before ++ middle in
      let x : ℕ × Entry = (run.stop, record { flow = run.flow; event = Call made }) in
      let far : journal ≡ (front ++ y ∷ between) ++ x ∷ after = laid ∙ sym (append_assoc front (y ∷ between) (x ∷ after)) in
      let rising = subst AreRising far sim.rising in
      let le : y.0 ≤ run.stop = all-in (λ (z : ℕ × Entry). z.0 ≤ run.stop) (front ++ y ∷ between) y (rising-before (front ++ y ∷ between) x after rising) (in-here front y between) in
      let apart : y.0 ≢ run.stop = λ same. (let below = call-alone (front ++ y ∷ between) run.stop run.flow made after far y (in-here front y between) same in let lt = below.below in omega (arith, lt, of)) in
      let there : journal ≡ front ++ call-at y.0 e.flow own ∷ (between ++ x ∷ after) = subst (λ (event : Event). journal ≡ front ++ (y.0, record { flow = e.flow; event = event }) ∷ (between ++ x ∷ after)) own_is laid in
      let their = run-of front y.0 e.flow own (between ++ x ∷ after) there in
      let other = their.run in
      let w = y.0 - 1 in
      let flow_same : other.flow.0 ≡ run.flow.0 = ap (λ (f : FlowNo). f.0) their.flow_ ∙ of in
      let stops : other.stop ≡ y.0 = their.stop in
      let lasts = their.lasts in
      let some = their.some in
      let two = running-two runs run other w is their.is flow_same (omega (arith, started, later)) (omega (arith, le, apart, later)) (omega (arith, stops, lasts, some)) (omega (arith, stops, later))
      (λ (same : run ≡ other). apart (sym (ap (λ (r : Run). r.stop) same ∙ stops))) in
      let (up_to, cut) = cut-at w journal sim.rising in
      let in_journal : In x journal = subst (In x) (sym far) (in-here (front ++ y ∷ between) x after) in
      let in_after = by up_to cut.after (in-either up_to cut.after x (subst (In x) cut.is in_journal)) (all-in (λ (z : ℕ × Entry). z.0 ≤ w) up_to x cut.below) (omega (arith, le, apart, later)) in
      let live = live-later up_to cut.after cut.is x in_after in
      let one = one-running w up_to cut run.flow.0 live in
      omega (arith, two, one)
    where
      by : (a b : Timed) → In (run.stop, record { flow = run.flow; event = Call made }) a ⊎ In (run.stop, record { flow = run.flow; event = Call made }) b → (In (run.stop, record { flow = run.flow; event = Call made }) a → run.stop ≤ y.0 - 1) → y.0 - 1 < run.stop
          → In (run.stop, record { flow = run.flow; event = Call made }) b
      by a b (inl there) le lt = let h = le there in absurd (omega (arith, h, lt))
      by a b (inr there) le lt = there

  pub at-run : (tick : ℕ) (before : Timed) → IsCut tick journal before → (run : Run) → In run runs → run.start ≤ tick → tick < run.stop → IsAtRun before run
  at-run tick before cut run is started goes =
      let call = call-of run is in
      let x : ℕ × Entry = (run.stop, record { flow = run.flow; event = Call call.made }) in
      let there = later x (in-either before cut.after x (subst (In x) cut.is call.is)) (all-in (λ (z : ℕ × Entry). z.0 ≤ tick) before x cut.below) goes in
      let split = among cut.after x there in
      let live = live-later before cut.after cut.is x there in
      let laid : journal ≡ before ++ (split.before ++ x ∷ split.after) = cut.is ∙ ap (λ (j : Timed). before ++ j) split.is in
      found live call.made call.node split.before split.after laid (all-front (λ (z : ℕ × Entry). tick < z.0) split.before (x ∷ split.after) (subst (AllByRecursion (λ (z : ℕ × Entry). tick < z.0)) split.is cut.above)) (first-of run.flow.0 split.before)
    where
      later : (x : ℕ × Entry) → In x before ⊎ In x cut.after → (In x before → x.0 ≤ tick) → tick < x.0 → In x cut.after
      later x (inl there) le lt = let h = le there in absurd (omega (arith, h, lt))
      later x (inr there) le lt = there

      at-call : IsLive setup (bare before) run.flow.0 → IsAtCall setup (bare before) run.flow.0
      at-call live = by (settled-cut tick before cut run.flow.0 live) (running-some runs run tick is started goes)
        where
          by : IsSettled setup processors (bare before) runs tick run.flow.0 → 1 ≤ running_of runs run.flow.0 tick → IsAtCall setup (bare before) run.flow.0
          by (inl (blocked, none)) some = absurd (omega (arith, none, some))
          by (inr (inl (at, one))) some = at
          by (inr (inr (at, none, passed))) some = at

      found : IsLive setup (bare before) run.flow.0 → (made : CallMade) → made.node ≡ run.node → (middle after : Timed) → journal ≡ before ++ (middle ++ (run.stop, record { flow = run.flow; event = Call made }) ∷ after)
          → AllByRecursion (λ one. tick < one.0) middle → (events_by run.flow.0 (bare middle) ≡ []) ⊎ HasFirst run.flow.0 middle → IsAtRun before run
      found live made node middle after laid above (inl none) =
          let x : ℕ × Entry = (run.stop, record { flow = run.flow; event = Call made }) in
          let far : journal ≡ (before ++ middle) ++ x ∷ after = laid ∙ sym (append_assoc before middle (x ∷ after)) in
          let next = made-next (before ++ middle) x after far made refl in
          record {
            live = live;
            args = made.args;
            next = subst (λ (n : NodeNo). CallIsNext setup (bare before) run.flow.0 n made.args) node
                (call-same setup (bare (before ++ middle)) (bare before) run.flow.0 made.node made.args (events-on before middle run.flow.0 none) next);
          }
      found live made node middle after laid above (inr has) =
          let x : ℕ × Entry = (run.stop, record { flow = run.flow; event = Call made }) in
          let y = has.entry in
          let e : Entry = y.1 in
          let rest = has.after ++ x ∷ after in
          let near : journal ≡ (before ++ has.before) ++ y ∷ rest =
          laid ∙ ap (λ (j : Timed). before ++ (j ++ x ∷ after)) has.is ∙ ap (λ (j : Timed). before ++ j) (append_assoc has.before (y ∷ has.after) (x ∷ after)) ∙ sym (append_assoc before has.before (y ∷ rest)) in
          let above_ = subst (AllByRecursion (λ (z : ℕ × Entry). tick < z.0)) has.is above in
          let later_ = (all-behind (λ (z : ℕ × Entry). tick < z.0) has.before (y ∷ has.after) above_).0 in
          let (node_, args_, call_) = at-call live in
          let moved : CallIsNext setup (bare (before ++ has.before)) run.flow.0 node_ args_ = call-same setup (bare before) (bare (before ++ has.before)) run.flow.0 node_ args_ (sym (events-on before has.before run.flow.0 has.none)) call_ in
          absurd (by y has.of near (all-front (λ (z : ℕ × Entry). tick < z.0) has.before (y ∷ has.after) above_) later_ node_ args_ moved (move-at (before ++ has.before) y rest near))
        where
          by : (y : ℕ × Entry) → (let e : Entry = y.1 in e.flow.0 ≡ run.flow.0) → journal ≡ (before ++ has.before) ++ y ∷ (has.after ++ (run.stop, record { flow = run.flow; event = Call made }) ∷ after)
              → AllByRecursion (λ one. tick < one.0) has.before → tick < y.0 → (node_ : NodeNo) (args_ : List Value) → CallIsNext setup (bare (before ++ has.before)) run.flow.0 node_ args_
              → (let e : Entry = y.1 in IsEither setup (bare (before ++ has.before)) e.flow e.event) → ⊥
          by y of near above_ later_ node_ args_ moved (inl (own, own_is, may)) = no-other tick before has.before has.after after run made y is started above_ near later_ of own own_is
          by y of near above_ later_ node_ args_ moved (inr (other, may)) = let e : Entry = y.1 in
              not-both setup (bare (before ++ has.before)) e.flow.0 e.event node_ args_ may.next (subst (λ (f : ℕ). CallIsNext setup (bare (before ++ has.before)) f node_ args_) (sym of) moved)
