-- The rule of simulated processors has one journal, with one tick for each entry.
use Rattle.std.proofs.Common.{◌≡◌, ◌≤◌, ◌<◌, ◌⊎◌, inl, inr, ℕ, zero, suc, List, [], ◌∷◌, ◌++◌, length, refl, sym, ap, subst, ◌∙◌, append_assoc, arith}
use Rattle.std.specs.List.{AllByRecursion, slice_get}
use Rattle.std.proofs.lemmas.Bool.{cases_eq, cases_lt}
use Rattle.std.proofs.lemmas.List.{append-nil}
use Rattle.flux_model.specs.declared.items.FlowNo.{FlowNo}
use Rattle.flow_model.specs.declared.journals.CallMade.{CallMade}
use Rattle.flow_model.specs.declared.journals.Event.{Event}
use Rattle.flow_model.specs.declared.journals.Event.TheVariants.{Call}
use Rattle.flow_model.specs.declared.journals.Entry.{Entry}
use Rattle.flow_model.specs.Setup.{Setup}
use Rattle.flow_model.specs.CellsAfter.{cells_after}
use Rattle.flow_model.specs.Answers.{IsNodeAnswer}
use Rattle.flow_model.specs.Events.{IsNext, CallIsNext, IsWholePath}
use Rattle.flux_laws.specs.Moves.{MayStep, MayCall}
use Rattle.flux_laws.proofs.Members.{In, in-either}
use Rattle.flux_laws.proofs.Standing.{next-unique}
use Rattle.flow_orders.specs.declared.runs.Run.{Run}
use Rattle.flow_orders.specs.Costs.{cost_of}
use Rattle.flow_orders.specs.Ticks.{Timed}
use Rattle.flow_orders.specs.Rule.{IsCallBelow, IsLowestAlone, GoesAlone, IsTurnAt, IsSettled}
use Rattle.flow_ticks.proofs.Cuts.{bare, all-in, all-both, all-weaker, among, in-here, AreRising, rising-front, rising-after, rising-before, IsCut, cut-at}
use Rattle.flow_ticks.proofs.Moves.{IsOther, IsEither, one-call, one-answer, whole-no_move}
use Rattle.flow_ticks.proofs.One.{IsSimulated, flow-within, move-at, call-alone, run-of, call-of, run-some, settled-cut}
use Rattle.flow_ticks.proofs.Starts.{starts-there}

module _ (setup : Setup) (costs : List ℕ) (processors : ℕ) (costly : (node : ℕ) → node < length setup.program.nodes → 1 ≤ cost_of costs (record { 0 = node })) where
  -- two simulations that have the same entries up to here, and go on no earlier than at a tick
  record GoOn (own their : Timed) (mine others : List Run) (before own_rest their_rest : Timed) : Type 0 where
    sim : IsSimulated setup costs processors own mine
    other : IsSimulated setup costs processors their others
    is : own ≡ before ++ own_rest
    their_is : their ≡ before ++ their_rest

  turned : {own their : Timed} {mine others : List Run} {before own_rest their_rest : Timed} → GoOn own their mine others before own_rest their_rest → GoOn their own others mine before their_rest own_rest
  turned both = record { sim = both.other; other = both.sim; is = both.their_is; their_is = both.is }

  abbrev AreFrom : ℕ → Timed → Type 0
  AreFrom tick rest = AllByRecursion (λ one. tick ≤ one.0) rest

  -- ---- the same starts before the tick

  longer-cut : (tick at : ℕ) → at < tick → (journal before rest front : Timed) → journal ≡ before ++ rest → AreFrom tick rest → IsCut at before front → IsCut at journal front
  longer-cut tick at lt journal before rest front is from cut = record {
    after = cut.after ++ rest;
    is = is ∙ ap (λ (j : Timed). j ++ rest) cut.is ∙ append_assoc front cut.after rest;
    below = cut.below;
    above = all-both (λ (z : ℕ × Entry). at < z.0) cut.after rest cut.above (all-weaker (λ (z : ℕ × Entry). tick ≤ z.0) (λ z. at < z.0) rest (λ z le. omega (arith, lt, le)) from);
  }

  abbrev AreSame : List Run → List Run → ℕ → Type 0
  AreSame mine others tick = (run : Run) → run.start < tick → (In run mine → In run others) × (In run others → In run mine)

  module _ (own their : Timed) (mine others : List Run) (before own_rest their_rest : Timed) (both : GoOn own their mine others before own_rest their_rest) (tick : ℕ) (own_from : AreFrom tick own_rest) (their_from : AreFrom tick their_rest) where
    same-upto : (n : ℕ) → n ≤ tick → AreSame mine others n
    same-upto zero le run lt = absurd (omega (arith, lt))
    same-upto (suc n) le run lt = by (same-upto n (omega (arith, le))) (cases_lt run.start n)
      where
        rising : AreRising before
        rising = let s = both.sim in rising-front before own_rest (subst AreRising both.is s.rising)

        by : AreSame mine others n → (run.start < n) ⊎ (n ≤ run.start) → (In run mine → In run others) × (In run others → In run mine)
        by earlier (inl less) = earlier run less
        by earlier (inr more) =
            let (front, cut) = cut-at n before rising in
            let here = longer-cut tick n (omega (arith, le)) own before own_rest front both.is own_from cut in
            let there = longer-cut tick n (omega (arith, le)) their before their_rest front both.their_is their_from cut in
            let at : run.start ≡ n = omega (arith, lt, more) in (
              λ is. starts-there setup costs processors costly own their mine others both.sim both.other n front here there (λ r l i. (earlier r l).1 i) run is at,
              λ is. starts-there setup costs processors costly their own others mine both.other both.sim n front there here (λ r l i. (earlier r l).0 i) run is at,
            )

    -- a call that comes next here comes there at the same tick
    meet : (flow : FlowNo) (made : CallMade) (rest : Timed) → own_rest ≡ (tick, record { flow = flow; event = Call made }) ∷ rest
        → (other : CallMade) × In (tick, record { flow = flow; event = Call other }) their_rest
    meet flow made rest head =
        let laid : own ≡ before ++ (tick, record { flow = flow; event = Call made }) ∷ rest = both.is ∙ ap (λ (j : Timed). before ++ j) head in
        let one = run-of setup costs processors costly own mine both.sim before tick flow made rest laid in
        let run = one.run in
        let stop : run.stop ≡ tick = one.stop in
        let takes = run-some setup costs processors costly own mine both.sim run one.is in
        let there = (same-upto tick (omega arith) run (omega (arith, stop, takes))).0 one.is in
        let call = call-of setup costs processors costly their others both.other run there in
        let place : ◌≡◌ {A = ℕ × Entry} (run.stop, record { flow = run.flow; event = Call call.made }) (tick, record { flow = flow; event = Call call.made }) = λ i. (stop i, record { flow = one.flow_ i; event = Call call.made }) in
        by laid call.made (in-either before their_rest (tick, record { flow = flow; event = Call call.made })
        (subst (λ (j : Timed). In (tick, record { flow = flow; event = Call call.made }) j) both.their_is (subst (λ (x : ℕ × Entry). In x their) place call.is)))
      where
        by : own ≡ before ++ (tick, record { flow = flow; event = Call made }) ∷ rest → (other : CallMade)
            → In (tick, record { flow = flow; event = Call other }) before ⊎ In (tick, record { flow = flow; event = Call other }) their_rest → (other_ : CallMade) × In (tick, record { flow = flow; event = Call other_ }) their_rest
        by laid other (inr is) = (other, is)
        by laid other (inl is) =
            let below = call-alone setup costs processors costly own mine both.sim before tick flow made rest laid (tick, record { flow = flow; event = Call other }) is refl in
            let lt = below.below in absurd (omega (arith, lt))

  -- ---- what comes next

  -- an event that is no call is the lowest flow's that goes alone
  alone : (own : Timed) (mine : List Run) → IsSimulated setup costs processors own mine → (before : Timed) (x : ℕ × Entry) (rest : Timed) → own ≡ before ++ x ∷ rest → (let e : Entry = x.1 in IsOther e.event) → (let e : Entry = x.1 in IsLowestAlone setup (bare before) e.flow.0)
  alone own mine sim before x rest is other = let e : Entry = x.1 in by (sim.turns before rest x.0 e.flow e.event is)
    where
      by : (let e : Entry = x.1 in IsTurnAt setup before x.0 e.flow e.event) → (let e : Entry = x.1 in IsLowestAlone setup (bare before) e.flow.0)
      by (inl turn) = absurd (other turn.made turn.is)
      by (inr lowest) = lowest

  -- while a flow goes alone, the next entry is of the same tick
  not-later : (own : Timed) (mine : List Run) (sim : IsSimulated setup costs processors own mine) (before : Timed) (x : ℕ × Entry) (rest : Timed) → own ≡ before ++ x ∷ rest → (flow : ℕ) → GoesAlone setup (bare before) flow
      → (tick : ℕ) → AllByRecursion (λ one. one.0 ≤ tick) before → tick < x.0 → ⊥
  not-later own mine sim before x rest is flow goes tick below lt =
      let rising = subst AreRising is sim.rising in
      let cut : IsCut tick own before = record {
        after = x ∷ rest;
        is = is;
        below = below;
        above = (lt, all-weaker (λ (z : ℕ × Entry). x.0 ≤ z.0) (λ z. tick < z.0) rest (λ z le. omega (arith, lt, le)) (rising-after before x rest rising));
      } in
      let can = goes.can in
      by (settled-cut setup costs processors costly own mine sim tick before cut flow can.live)
    where
      by : IsSettled setup processors (bare before) mine tick flow → ⊥
      by (inl (blocked, none)) = let can = goes.can in can.free blocked
      by (inr (inl (call, one))) = goes.no_call call
      by (inr (inr (call, none, over))) = goes.no_call call

  -- a call after an entry of its tick: that one is a call of a lower flow
  call-after : (own : Timed) (mine : List Run) (sim : IsSimulated setup costs processors own mine) (before : Timed) (x : ℕ × Entry) (rest : Timed) → own ≡ before ++ x ∷ rest → (flow : FlowNo) (made : CallMade)
      → In (x.0, record { flow = flow; event = Call made }) rest → (let e : Entry = x.1 in IsCallBelow flow.0 e)
  call-after own mine sim before x rest is flow made there =
      let split = among rest (x.0, record { flow = flow; event = Call made }) there in
      let laid : own ≡ (before ++ x ∷ split.before) ++ (x.0, record { flow = flow; event = Call made }) ∷ split.after =
      is ∙ ap (λ (j : Timed). before ++ x ∷ j) split.is ∙ sym (append_assoc before (x ∷ split.before) ((x.0, record { flow = flow; event = Call made }) ∷ split.after)) in
      call-alone setup costs processors costly own mine sim (before ++ x ∷ split.before) x.0 flow made split.after laid x (in-here before x split.before) refl

  module _ (own their : Timed) (mine others : List Run) (before : Timed) (x y : ℕ × Entry) (own_rest their_rest : Timed) (both : GoOn own their mine others before (x ∷ own_rest) (y ∷ their_rest)) where
    own-rising : AreRising (before ++ x ∷ own_rest)
    own-rising = let s = both.sim in subst AreRising both.is s.rising

    their-rising : AreRising (before ++ y ∷ their_rest)
    their-rising = let s = both.other in subst AreRising both.their_is s.rising

    own-from : AreFrom x.0 (x ∷ own_rest)
    own-from = (omega arith, rising-after before x own_rest own-rising)

    their-from : AreFrom y.0 (y ∷ their_rest)
    their-from = (omega arith, rising-after before y their_rest their-rising)

    from-earlier : (tick at : ℕ) (rest : Timed) → tick ≤ at → AreFrom at rest → AreFrom tick rest
    from-earlier tick at rest le from = all-weaker (λ (z : ℕ × Entry). at ≤ z.0) (λ z. tick ≤ z.0) rest (λ z l. omega (arith, le, l)) from

    -- the call that comes next here comes there, where the next entry there isn't earlier
    meets : (made : CallMade) → (let e : Entry = x.1 in e.event ≡ Call made) → x.0 ≤ y.0 → (let e : Entry = x.1 in (other : CallMade) × In (x.0, record { flow = e.flow; event = Call other }) (y ∷ their_rest))
    meets made is le = let e : Entry = x.1 in
        meet own their mine others before (x ∷ own_rest) (y ∷ their_rest) both x.0 own-from (from-earlier x.0 y.0 (y ∷ their_rest) le their-from) e.flow made own_rest
        (ap (λ (event : Event). (x.0, record { flow = e.flow; event = event }) ∷ own_rest) is)

    -- so it isn't earlier than the next entry there
    not-earlier : (made : CallMade) → (let e : Entry = x.1 in e.event ≡ Call made) → x.0 < y.0 → ⊥
    not-earlier made is lt = let e : Entry = x.1 in
        let (other, there) = meets made is (omega (arith, lt)) in
        let le = all-in (λ (z : ℕ × Entry). y.0 ≤ z.0) (y ∷ their_rest) (x.0, record { flow = e.flow; event = Call other }) their-from there in
        omega (arith, lt, le)

    -- where the next entry here is a call, and there an event that is none
    call-first : (made : CallMade) → (let e : Entry = x.1 in e.event ≡ Call made) → (let e : Entry = y.1 in IsOther e.event) → IsLowestAlone setup (bare before) (let e : Entry = y.1 in e.flow.0)
        → ((other : CallMade) → (let e : Entry = x.1 in In (x.0, record { flow = e.flow; event = Call other }) (y ∷ their_rest)) → ⊥) → ⊥
    call-first made is plain lowest never = by (cases_lt x.0 y.0) (cases_lt y.0 x.0)
      where
        by : (x.0 < y.0) ⊎ (y.0 ≤ x.0) → (y.0 < x.0) ⊎ (x.0 ≤ y.0) → ⊥
        by (inl lt) other = not-earlier made is lt
        by (inr le) (inl lt) = let s = both.sim in
            not-later own mine s before x own_rest both.is (let e : Entry = y.1 in e.flow.0) lowest.goes y.0 (rising-before before y their_rest their-rising) lt
        by (inr le) (inr ge) = let (other, there) = meets made is ge in never other there

  -- the next entries are the same
  module _ (own their : Timed) (mine others : List Run) (before : Timed) (x y : ℕ × Entry) (own_rest their_rest : Timed) (both : GoOn own their mine others before (x ∷ own_rest) (y ∷ their_rest)) where
    abbrev here : Entry
    here = x.1

    abbrev there : Entry
    there = y.1

    together : x.0 ≡ y.0 → here.flow.0 ≡ there.flow.0 → here.event ≡ there.event → x ≡ y
    together tick flow event = λ i. (tick i, record { flow = record { 0 = flow i }; event = event i })

    both-plain : IsOther here.event → MayStep setup (bare before) here.flow here.event → IsOther there.event → MayStep setup (bare before) there.flow there.event → x ≡ y
    both-plain plain may their_plain their_may =
        let sim = both.sim in
        let other = both.other in
        let a = alone own mine sim before x own_rest both.is plain in
        let b = alone their others other before y their_rest both.their_is their_plain in
        let le = a.least there.flow.0 b.goes in
        let ge = b.least here.flow.0 a.goes in
        let flow : here.flow.0 ≡ there.flow.0 = omega (arith, le, ge) in
        let event = next-unique setup (bare before) here.flow.0 here.event there.event may.next (subst (λ (f : ℕ). IsNext setup (bare before) f there.event) (sym flow) their_may.next) in
        let no_earlier : x.0 < y.0 → ⊥ = λ lt. not-later their others other before y their_rest both.their_is here.flow.0 a.goes x.0 (rising-before before x own_rest (own-rising own their mine others before x y own_rest their_rest both)) lt in
        let no_later : y.0 < x.0 → ⊥ = λ lt. not-later own mine sim before x own_rest both.is there.flow.0 b.goes y.0 (rising-before before y their_rest (their-rising own their mine others before x y own_rest their_rest both)) lt in
        together (ticks no_earlier no_later) flow event
      where
        ticks : (x.0 < y.0 → ⊥) → (y.0 < x.0 → ⊥) → x.0 ≡ y.0
        ticks no_earlier no_later = by (cases_lt x.0 y.0) (cases_lt y.0 x.0)
          where
            by : (x.0 < y.0) ⊎ (y.0 ≤ x.0) → (y.0 < x.0) ⊎ (x.0 ≤ y.0) → x.0 ≡ y.0
            by (inl lt) other = absurd (no_earlier lt)
            by (inr le) (inl lt) = absurd (no_later lt)
            by (inr le) (inr ge) = omega (arith, le, ge)

    both-calls : (made other : CallMade) → here.event ≡ Call made → there.event ≡ Call other → MayCall setup (bare before) here.flow made → MayCall setup (bare before) there.flow other → x ≡ y
    both-calls made other is their_is may their_may = by (cases_lt x.0 y.0) (cases_lt y.0 x.0)
      where
        same-flow : x.0 ≡ y.0 → here.flow.0 ≡ there.flow.0 → x ≡ y
        same-flow tick flow =
            let (node, args) = one-call setup (bare before) here.flow.0 made.node other.node made.args other.args may.next (subst (λ (f : ℕ). CallIsNext setup (bare before) f other.node other.args) (sym flow) their_may.next) in
            let same = one-answer setup here.flow.0 (cells_after setup (bare before)) made other node args may.right
            (subst (λ (f : ℕ). IsNodeAnswer setup f (cells_after setup (bare before)) (slice_get setup.program.nodes other.node.0) other) (sym flow) their_may.right) in
            together tick flow (is ∙ ap Call same ∙ sym their_is)

        lower-there : x.0 ≡ y.0 → (here.flow.0 ≡ there.flow.0 → ⊥) → there.flow.0 < here.flow.0
        lower-there tick apart = let (call, is_there) = meets own their mine others before x y own_rest their_rest both made is (omega (arith, tick)) in on call is_there
          where
            on : (call : CallMade) → In (x.0, record { flow = here.flow; event = Call call }) (y ∷ their_rest) → there.flow.0 < here.flow.0
            on call (inl same) = absurd (apart (sym (ap (λ (z : ℕ × Entry). (let e : Entry = z.1 in e.flow.0)) same)))
            on call (inr later) =
                let below = call-after their others both.other before y their_rest both.their_is here.flow call (subst (λ (t : ℕ). In (t, record { flow = here.flow; event = Call call }) their_rest) tick later) in
                below.below

        lower-here : x.0 ≡ y.0 → (here.flow.0 ≡ there.flow.0 → ⊥) → here.flow.0 < there.flow.0
        lower-here tick apart = let (call, is_here) = meets their own others mine before y x their_rest own_rest (turned both) other their_is (omega (arith, tick)) in on call is_here
          where
            on : (call : CallMade) → In (y.0, record { flow = there.flow; event = Call call }) (x ∷ own_rest) → here.flow.0 < there.flow.0
            on call (inl same) = absurd (apart (ap (λ (z : ℕ × Entry). (let e : Entry = z.1 in e.flow.0)) same))
            on call (inr later) =
                let below = call-after own mine both.sim before x own_rest both.is there.flow call (subst (λ (t : ℕ). In (t, record { flow = there.flow; event = Call call }) own_rest) (sym tick) later) in
                below.below

        at-once : x.0 ≡ y.0 → (here.flow.0 ≡ there.flow.0) ⊎ (here.flow.0 ≡ there.flow.0 → ⊥) → x ≡ y
        at-once tick (inl flow) = same-flow tick flow
        at-once tick (inr apart) = let lt = lower-there tick apart in let gt = lower-here tick apart in absurd (omega (arith, lt, gt))

        by : (x.0 < y.0) ⊎ (y.0 ≤ x.0) → (y.0 < x.0) ⊎ (x.0 ≤ y.0) → x ≡ y
        by (inl lt) o = absurd (not-earlier own their mine others before x y own_rest their_rest both made is lt)
        by (inr le) (inl lt) = absurd (not-earlier their own others mine before y x their_rest own_rest (turned both) other their_is lt)
        by (inr le) (inr ge) = at-once (omega (arith, le, ge)) (cases_eq here.flow.0 there.flow.0)

    -- a call here and another event there can't be
    no-call : (made : CallMade) → here.event ≡ Call made → IsOther there.event → ⊥
    no-call made is plain =
        call-first own their mine others before x y own_rest their_rest both made is plain (alone their others both.other before y their_rest both.their_is plain)
        (λ other found. never other found)
      where
        never : (other : CallMade) → In (x.0, record { flow = here.flow; event = Call other }) (y ∷ their_rest) → ⊥
        never other (inl same) = plain other (ap (λ (z : ℕ × Entry). (let e : Entry = z.1 in e.event)) same)
        never other (inr later) = by (cases_lt x.0 y.0) (cases_lt y.0 x.0)
          where
            from : AreFrom y.0 their_rest
            from = rising-after before y their_rest (their-rising own their mine others before x y own_rest their_rest both)

            at-once : x.0 ≡ y.0 → ⊥
            at-once tick =
                let below = call-after their others both.other before y their_rest both.their_is here.flow other (subst (λ (t : ℕ). In (t, record { flow = here.flow; event = Call other }) their_rest) tick later) in
                plain below.made below.is

            by : (x.0 < y.0) ⊎ (y.0 ≤ x.0) → (y.0 < x.0) ⊎ (x.0 ≤ y.0) → ⊥
            by (inl lt) o = let le = all-in (λ (z : ℕ × Entry). y.0 ≤ z.0) their_rest (x.0, record { flow = here.flow; event = Call other }) from later in omega (arith, lt, le)
            by (inr le) (inl lt) =
                not-later own mine both.sim before x own_rest both.is there.flow.0 (let a = alone their others both.other before y their_rest both.their_is plain in a.goes) y.0
                (rising-before before y their_rest (their-rising own their mine others before x y own_rest their_rest both)) lt
            by (inr le) (inr ge) = at-once (omega (arith, le, ge))

  same-head : (own their : Timed) (mine others : List Run) (before : Timed) (x y : ℕ × Entry) (own_rest their_rest : Timed) → GoOn own their mine others before (x ∷ own_rest) (y ∷ their_rest) → x ≡ y
  same-head own their mine others before x y own_rest their_rest both =
      by (move-at setup costs processors costly own mine both.sim before x own_rest both.is) (move-at setup costs processors costly their others both.other before y their_rest both.their_is)
    where
      by : (let e : Entry = x.1 in IsEither setup (bare before) e.flow e.event) → (let e : Entry = y.1 in IsEither setup (bare before) e.flow e.event) → x ≡ y
      by (inl (made, is, may)) (inl (other, their_is, their_may)) = both-calls own their mine others before x y own_rest their_rest both made other is their_is may their_may
      by (inl (made, is, may)) (inr (plain, step)) = absurd (no-call own their mine others before x y own_rest their_rest both made is plain)
      by (inr (plain, step)) (inl (made, is, may)) = absurd (no-call their own others mine before y x their_rest own_rest (turned both) made is plain)
      by (inr (plain, step)) (inr (their_plain, their_step)) = both-plain own their mine others before x y own_rest their_rest both plain step their_plain their_step

  -- ---- all that comes

  over : (own their : Timed) (mine others : List Run) (before : Timed) (y : ℕ × Entry) (rest : Timed) → GoOn own their mine others before [] (y ∷ rest) → ⊥
  over own their mine others before y rest both =
      let e : Entry = y.1 in
      let sim = both.sim in
      let same : own ≡ before = both.is ∙ append-nil before in
      let within = flow-within setup costs processors costly their others both.other before y rest both.their_is in
      let whole = subst (λ (j : Timed). IsWholePath setup (bare j) e.flow.0) same (sim.whole e.flow.0 within) in
      whole-no_move setup (bare before) e.flow e.event whole (move-at setup costs processors costly their others both.other before y rest both.their_is)

  same-rest : (own their : Timed) (mine others : List Run) (before own_rest their_rest : Timed) → GoOn own their mine others before own_rest their_rest → own_rest ≡ their_rest
  same-rest own their mine others before [] [] both = refl
  same-rest own their mine others before [] (y ∷ their_rest) both = absurd (over own their mine others before y their_rest both)
  same-rest own their mine others before (x ∷ own_rest) [] both = absurd (over their own others mine before x own_rest (turned both))
  same-rest own their mine others before (x ∷ own_rest) (y ∷ their_rest) both =
      let head = same-head own their mine others before x y own_rest their_rest both in
      let more = same-rest own their mine others (before ++ x ∷ []) own_rest their_rest (record {
        sim = both.sim;
        other = both.other;
        is = both.is ∙ sym (append_assoc before (x ∷ []) own_rest);
        their_is = both.their_is ∙ ap (λ (z : ℕ × Entry). before ++ z ∷ their_rest) (sym head) ∙ sym (append_assoc before (x ∷ []) their_rest);
      }) in
      λ i. head i ∷ more i

  pub one-journal : (own their : Timed) (mine others : List Run) → IsSimulated setup costs processors own mine → IsSimulated setup costs processors their others → own ≡ their
  one-journal own their mine others sim other = same-rest own their mine others [] own their (record { sim = sim; other = other; is = refl; their_is = refl })
