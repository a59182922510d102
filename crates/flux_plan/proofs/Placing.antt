-- In a verified plan a placed frame has an instruction, and after each step frames are placed.
use Rattle.std.proofs.Common.{◌≡◌, ◌≢◌, inl, inr, ℕ, zero, suc, ◌+◌, ◌^◌, ◌<◌, ◌≤◌, List, [], ◌∷◌, ◌++◌, length, Option, Some, None, refl, sym, ◌∙◌, subst, arith}
use Rattle.std.specs.Prelude.{⊤}
use Rattle.std.specs.List.{slice_get, flat_map, AllByRecursion}
use Rattle.std.proofs.lemmas.Option.{slice_get_within}
use Rattle.flux_model.specs.declared.programs.NodeNo.{NodeNo}
use Rattle.flux_model.specs.declared.programs.ClassNo.{ClassNo}
use Rattle.flux_model.specs.declared.programs.HandleArm.{HandleArm}
use Rattle.flux_model.specs.Leading.{handlers_of}
use Rattle.flux_model.specs.Children.{IsIn}
use Rattle.flux_model.proofs.NodeLists.{in_front, in_behind}
use Rattle.flux_plan.specs.declared.plans.Plan.{Plan}
use Rattle.flux_plan.specs.declared.plans.Segment.{Segment}
use Rattle.flux_plan.specs.declared.plans.Arm.{Arm}
use Rattle.flux_plan.specs.declared.plans.Instr.{Instr}
use Rattle.flux_plan.specs.declared.plans.Instr.TheVariants.{Go, Call, Exit, Handle}
use Rattle.flux_plan.specs.Reading.{Reading, taking, entered, between, within, dropping, handling, closing, whole, read_more, reading_at}
use Rattle.flux_plan.specs.Leading.{led_by, leads_from, IsWay, Reaches}
use Rattle.flux_plan.specs.Faulty.{CantGoOn, IsMisshapen, IsFault, misshapen, into_nothing, IsFaultIn, IsVerified, AreFewArms, IsFew, IsSized}
use Rattle.flux_plan.specs.steps.Placed.{IsPlaced, AreLedOn}
use Rattle.flux_plan.specs.steps.Turns.{IsOpening, StandsAt}
use Rattle.flux_plan.proofs.Readings.{reading_at-next, Goes, take, enter, call, choose, leave, first_go, no_go, go, last_go, drop, handle, return, end_handle, close, goes_on}

-- ---- in a segment whose shape goes on at each place

-- what is at a place, and what has been read with it
pub record GoesOn (segment : Segment) (place : ℕ) (reading : Reading) : Type 0 where
  pub instr : Instr
  pub is : slice_get segment.code place ≡ Some instr
  pub next : Reading
  pub goes : Goes segment.exit place reading instr next
  pub after : reading_at segment (place + 1) ≡ Some next

module _ (segment : Segment) (shaped : (place : ℕ) → IsMisshapen segment place → ⊥) where
  pub shape_goes : (place : ℕ) (reading : Reading) → reading_at segment place ≡ Some reading → reading ≢ whole
      → GoesOn segment place reading
  shape_goes place reading before on = here (slice_get segment.code place) refl
    where
      stops : CantGoOn segment.exit place reading (slice_get segment.code place) → ⊥
      stops cant = shaped place (record { reading = reading; before = before; stops = cant })

      here : (o : Option Instr) → slice_get segment.code place ≡ o → GoesOn segment place reading
      here None at = absurd (stops (rw at on))
      here (Some instr) at = more (read_more segment.exit place reading instr) refl
        where
          more : (o : Option Reading) → read_more segment.exit place reading instr ≡ o → GoesOn segment place reading
          more None e = absurd (stops (rw at e))
          more (Some next) e = record {
            instr = instr;
            is = at;
            next = next;
            goes = goes_on segment.exit place reading instr next e;
            after = reading_at-next segment place reading instr before at ∙ e;
          }

  -- arms begin further on, where they are the next to come
  abbrev pub AreAhead : ℕ → List Arm → List ClassNo → Type 0
  AreAhead place [] classes = ⊤
  AreAhead place (arm ∷ arms) classes = (place ≤ arm.to)
      × (reading_at segment arm.to ≡ Some (between (arm ∷ arms) classes)) × AreAhead place arms classes

  -- the arms that are still to come, and `Exit` after them, are further on
  pub record Ahead (place : ℕ) (arms : List Arm) (classes : List ClassNo) : Type 0 where
    pub at_exit : reading_at segment segment.exit ≡ Some (between [] classes)
    pub further : place ≤ segment.exit
    pub arms_ : AreAhead place arms classes

  lower : (low place : ℕ) (arms : List Arm) (classes : List ClassNo) → low ≤ place → AreAhead place arms classes → AreAhead low arms classes
  lower low place [] classes le ahead = tt
  lower low place (arm ∷ arms) classes le (own, is, ahead) = (omega (arith, own), is, lower low place arms classes le ahead)

  lower_all : (low place : ℕ) (arms : List Arm) (classes : List ClassNo) → low ≤ place → Ahead place arms classes → Ahead low arms classes
  lower_all low place arms classes le ahead = record {
    at_exit = ahead.at_exit;
    further = omega arith;
    arms_ = lower low place arms classes le ahead.arms_;
  }

  with_arm : (place : ℕ) (arm : Arm) (arms : List Arm) (classes : List ClassNo) → reading_at segment place ≡ Some (between (arm ∷ arms) classes) → arm.to ≡ place → Ahead (place + 1) arms classes → Ahead place (arm ∷ arms) classes
  with_arm place arm arms classes before at ahead =
      let low = lower_all place (place + 1) arms classes (omega arith) ahead in
      record {
        at_exit = low.at_exit;
        further = low.further;
        arms_ = (omega arith, subst (λ (n : ℕ). reading_at segment n ≡ Some (between (arm ∷ arms) classes)) (sym at) before, low.arms_);
      }

  -- what is ahead of a reading within a body
  abbrev pub AheadOf : ℕ → Reading → Type 0
  AheadOf place (between arms classes) = Ahead place arms classes
  AheadOf place (within arms classes) = Ahead place arms classes
  AheadOf place reading = ⊤

  by_between : (place : ℕ) (arms : List Arm) (classes : List ClassNo) (instr : Instr) (next : Reading) → reading_at segment place ≡ Some (between arms classes) → Goes segment.exit place (between arms classes) instr next → AheadOf (place + 1) next → Ahead place arms classes
  by_between place [] classes instr next before (leave at) rest = record { at_exit = subst (λ (n : ℕ). reading_at segment n ≡ Some (between [] classes)) (sym at) before; further = omega arith; arms_ = tt }
  by_between place (arm ∷ arms) classes instr next before (first_go at) rest = with_arm place arm arms classes before at rest
  by_between place (arm ∷ arms) classes instr next before (no_go at) rest = with_arm place arm arms classes before at rest

  by_within : (place : ℕ) (arms : List Arm) (classes : List ClassNo) (instr : Instr) (next : Reading) → Goes segment.exit place (within arms classes) instr next → AheadOf (place + 1) next → Ahead (place + 1) arms classes
  by_within place arms classes instr next go rest = rest
  by_within place arms classes instr next last_go rest = rest

  no_fuel : {X : Type 0} (place : ℕ) (reading : Reading) → length segment.code ≤ place + 0 → GoesOn segment place reading → X
  no_fuel place reading le on = let lt = slice_get_within segment.code place on.instr on.is in absurd (omega (arith, lt, le))

  pub ahead : (fuel place : ℕ) (reading : Reading) → length segment.code ≤ place + fuel → reading_at segment place ≡ Some reading → AheadOf place reading
  ahead zero place (between arms classes) le before = no_fuel place (between arms classes) le (shape_goes place (between arms classes) before (λ (e : between arms classes ≡ whole). cc))
  ahead zero place (within arms classes) le before = no_fuel place (within arms classes) le (shape_goes place (within arms classes) before (λ (e : within arms classes ≡ whole). cc))
  ahead zero place reading le before = tt
  ahead (suc fuel) place (between arms classes) le before =
      let on = shape_goes place (between arms classes) before (λ (e : between arms classes ≡ whole). cc) in
      by_between place arms classes on.instr on.next before on.goes (ahead fuel (place + 1) on.next (omega (arith, le)) on.after)
  ahead (suc fuel) place (within arms classes) le before =
      let on = shape_goes place (within arms classes) before (λ (e : within arms classes ≡ whole). cc) in
      lower_all place (place + 1) arms classes (omega arith) (by_within place arms classes on.instr on.next on.goes (ahead fuel (place + 1) on.next (omega (arith, le)) on.after))
  ahead (suc fuel) place reading le before = tt

-- ---- in a verified plan

-- what is led to from somewhere in the code
pub led_from : (code : List Instr) (place led : ℕ) (instr : Instr) → slice_get code place ≡ Some instr → IsIn led (led_by instr) → IsIn led (flat_map led_by code)
led_from [] place led instr at is = absurd cc
led_from (i ∷ code) zero led instr at is = let same : i ≡ instr = cc in in_front led (led_by i) (flat_map led_by code) (rw same is)
led_from (i ∷ code) (suc place) led instr at is = in_behind led (led_by i) (flat_map led_by code) (led_from code place led instr at is)

way_on : (segments : List Segment) (from : ℕ) (others : List ℕ) (to next : ℕ) → IsWay segments from others to → IsIn next (leads_from segments to) → IsWay segments from (others ++ next ∷ []) next
way_on segments from [] to next same is = (rw same is, refl)
way_on segments from (n ∷ others) to next (led, way) is = (led, way_on segments n others to next way is)

-- what is reached reaches all that it leads to
pub reaches_on : (segments : List Segment) (from to next : ℕ) → Reaches segments from to → IsIn next (leads_from segments to) → Reaches segments from next
reaches_on segments from to next reached is = record { between = reached.between ++ next ∷ []; way = way_on segments from reached.between to next reached.way is }

found_below : {X : Type 0} (xs : List X) (n : ℕ) → (length xs ≤ n → ⊥) → (x : X) × (slice_get xs n ≡ Some x)
found_below [] n more = absurd (more (omega arith))
found_below (x ∷ xs) zero more = (x, refl)
found_below (x ∷ xs) (suc n) more = found_below xs n (λ le. more (omega (arith, le)))

module _ (plan : Plan) (verified : IsVerified plan) where
  no_fault : (node place : ℕ) (segment : Segment) → Reaches plan.segments plan.target.0 node → slice_get plan.segments node ≡ Some segment → IsFault plan.segments node segment place → ⊥
  no_fault node place segment reached is fault = verified.none node place (let P : Option Segment → Type 0 = IsFaultIn plan node place in subst P (sym is) (reached, fault))

  module _ (node place : ℕ) (placed : IsPlaced plan node place) where
    pub shaped : (at : ℕ) → IsMisshapen placed.segment at → ⊥
    shaped at is = no_fault node at placed.segment placed.reached placed.is (misshapen is)

    -- a placed frame has an instruction
    pub placed_goes : GoesOn placed.segment place placed.reading
    placed_goes = shape_goes placed.segment shaped place placed.reading placed.before placed.goes_on

    elsewhere : (at : ℕ) (reading : Reading) → reading_at placed.segment at ≡ Some reading → reading ≢ whole → IsPlaced plan node at
    elsewhere at reading before on = record { reached = placed.reached; segment = placed.segment; is = placed.is; reading = reading; before = before; goes_on = on }

    -- what an instruction leads to is placed at its beginning
    pub led_placed : (instr : Instr) (led : ℕ) → slice_get placed.segment.code place ≡ Some instr → IsIn led (led_by instr) → IsPlaced plan led 0
    led_placed instr led at is =
        let in_code : IsIn led (leads_from plan.segments node) = rw placed.is (led_from placed.segment.code place led instr at is) in
        let (segment, found) = found_below plan.segments led (λ le. no_fault node place placed.segment placed.reached placed.is (into_nothing (record { instr = instr; at_ = at; led = led; leads = is; has = le }))) in
        record {
          reached = reaches_on plan.segments plan.target.0 node led placed.reached in_code;
          segment = segment;
          is = found;
          reading = taking [];
          before = refl;
          goes_on = λ (e : taking [] ≡ whole). cc;
        }

    exit_placed : (arms : List Arm) (classes : List ClassNo) (at : ℕ) → Ahead placed.segment shaped at arms classes → IsPlaced plan node placed.segment.exit
    exit_placed arms classes at ahead = elsewhere placed.segment.exit (between [] classes) ahead.at_exit (λ (e : between [] classes ≡ whole). cc)

    arms_placed : (at : ℕ) (arms : List Arm) (classes : List ClassNo) → AreAhead placed.segment shaped at arms classes → AllByRecursion (λ arm. IsPlaced plan node arm.to) arms
    arms_placed at [] classes ahead = tt
    arms_placed at (arm ∷ arms) classes (le, is, ahead) = (elsewhere arm.to (between (arm ∷ arms) classes) is (λ (e : between (arm ∷ arms) classes ≡ whole). cc), arms_placed at arms classes ahead)

    handlers_placed : (arms : List HandleArm) → ((led : ℕ) → IsIn led (handlers_of arms) → IsPlaced plan led 0) → AllByRecursion (λ arm. IsPlaced plan arm.node.0 0) arms
    handlers_placed [] all = tt
    handlers_placed (arm ∷ arms) all = (all arm.node.0 (inl refl), handlers_placed arms (λ led is. all led (inr is)))

    -- where `Handle` is, `EndHandle` and `Return` follow
    past_handling : reading_at placed.segment (place + 1) ≡ Some handling → IsPlaced plan node (place + 2)
    past_handling before = more on.instr on.next on.goes on.after
      where
        on : GoesOn placed.segment (place + 1) handling
        on = shape_goes placed.segment shaped (place + 1) handling before (λ (e : handling ≡ whole). cc)

        more : (instr : Instr) (next : Reading) → Goes placed.segment.exit (place + 1) handling instr next → reading_at placed.segment (place + 1 + 1) ≡ Some next → IsPlaced plan node (place + 2)
        more instr next end_handle after =
            let p : place + 1 + 1 ≡ place + 2 = omega arith in
            elsewhere (place + 2) closing (rw p at after) (λ (e : closing ≡ whole). cc)

    abbrev Led : Instr → Type 0
    Led instr = AreLedOn plan node place placed.segment.exit instr

    on_to : (next : Reading) → reading_at placed.segment (place + 1) ≡ Some next → next ≢ whole → IsPlaced plan node (place + 1)
    on_to next after on = elsewhere (place + 1) next after on

    to_exit : (arms : List Arm) (classes : List ClassNo) → Ahead placed.segment shaped (place + 1) arms classes → IsPlaced plan node placed.segment.exit × (place < placed.segment.exit)
    to_exit arms classes more = (exit_placed arms classes (place + 1) more, omega (arith, more.further))

    ahead_of : (next : Reading) → reading_at placed.segment (place + 1) ≡ Some next → AheadOf placed.segment shaped (place + 1) next
    ahead_of next after = ahead placed.segment shaped (length placed.segment.code) (place + 1) next (omega arith) after

    goes_led : (inner : NodeNo) (arms : List Arm) (classes : List ClassNo) → slice_get placed.segment.code place ≡ Some (Go inner) → reading_at placed.segment (place + 1) ≡ Some (within arms classes) → Led (Go inner)
    goes_led inner arms classes at after =
        let (exit, lt) = to_exit arms classes (ahead_of (within arms classes) after) in
        (exit, lt, on_to (within arms classes) after (λ (e : within arms classes ≡ whole). cc), led_placed (Go inner) inner.0 at (inl refl))

    by_goes : (reading : Reading) (instr : Instr) (next : Reading) → slice_get placed.segment.code place ≡ Some instr → Goes placed.segment.exit place reading instr next → reading_at placed.segment (place + 1) ≡ Some next → Led instr
    by_goes (taking classes) instr next at (take {class = c} below) after = on_to (taking (c ∷ classes)) after (λ (e : taking (c ∷ classes) ≡ whole). cc)
    by_goes (taking classes) instr next at enter after = on_to (entered classes) after (λ (e : entered classes ≡ whole). cc)
    by_goes (entered classes) instr next at call after = on_to (between [] classes) after (λ (e : between [] classes ≡ whole). cc)
    by_goes (entered classes) instr next at (choose {arms = arms}) after =
        let more : Ahead placed.segment shaped (place + 1) arms classes = ahead_of (between arms classes) after in
        let (exit, lt) = to_exit arms classes more in
        (exit, lt, arms_placed (place + 1) arms classes more.arms_)
    by_goes (between [] classes) instr next at (leave e) after = on_to (dropping classes) after (λ (e : dropping classes ≡ whole). cc)
    by_goes (between (arm ∷ arms) classes) instr next at (first_go {node = n} e) after = goes_led n arms classes at after
    by_goes (between (arm ∷ arms) classes) instr next at (no_go e) after = to_exit arms classes (ahead_of (between arms classes) after)
    by_goes (within arms classes) instr next at (go {node = n}) after = goes_led n arms classes at after
    by_goes (within arms classes) instr next at last_go after = to_exit arms classes (ahead_of (between arms classes) after)
    by_goes (dropping (last ∷ classes)) instr next at (drop e) after = on_to (dropping classes) after (λ (e : dropping classes ≡ whole). cc)
    by_goes (dropping []) instr next at (handle {arms = arms}) after = (on_to handling after (λ (e : handling ≡ whole). cc), past_handling after, handlers_placed arms (λ led is. led_placed (Handle arms) led at is))
    by_goes (dropping []) instr next at return after = tt
    by_goes handling instr next at end_handle after = on_to closing after (λ (e : closing ≡ whole). cc)
    by_goes closing instr next at close after = tt
    by_goes whole instr next at none after = elim none [ ]

    -- where the instruction of a placed frame leads to
    pub led_on : AreLedOn plan node place placed.segment.exit placed_goes.instr
    led_on = by_goes placed.reading placed_goes.instr placed_goes.next placed_goes.is placed_goes.goes placed_goes.after

-- a segment begins with `Take` or `Enter`
pub opens : (exit place : ℕ) (instr : Instr) (next : Reading) → Goes exit place (taking []) instr next → IsOpening instr
opens exit place instr next (take below) = tt
opens exit place instr next enter = tt

-- after `Call` comes `Exit`
abbrev pub IsAfterCall : Instr → Instr → Type 0
IsAfterCall Call instr = instr ≡ Exit
IsAfterCall other instr = ⊤

pub exits_after : (exit place at : ℕ) (reading : Reading) (instr : Instr) (next : Reading) (then : Instr) (last : Reading) → Goes exit place reading instr next → Goes exit at next then last → IsAfterCall instr then
exits_after exit place at reading instr next then last call (leave e) = refl
exits_after exit place at reading instr next then last (take below) more = tt
exits_after exit place at reading instr next then last enter more = tt
exits_after exit place at reading instr next then last choose more = tt
exits_after exit place at reading instr next then last (leave e) more = tt
exits_after exit place at reading instr next then last (first_go e) more = tt
exits_after exit place at reading instr next then last (no_go e) more = tt
exits_after exit place at reading instr next then last go more = tt
exits_after exit place at reading instr next then last last_go more = tt
exits_after exit place at reading instr next then last (drop e) more = tt
exits_after exit place at reading instr next then last handle more = tt
exits_after exit place at reading instr next then last return more = tt
exits_after exit place at reading instr next then last end_handle more = tt
exits_after exit place at reading instr next then last close more = tt

all_at : {X : Type 0} (P : X → Type 0) (xs : List X) (n : ℕ) (x : X) → AllByRecursion P xs → slice_get xs n ≡ Some x → P x
all_at P [] n x all is = absurd cc
all_at P (y ∷ xs) zero x (own, all) is = let same : y ≡ x = cc in subst P same own
all_at P (y ∷ xs) (suc n) x (own, all) is = all_at P xs n x all is

module _ (plan : Plan) (verified : IsVerified plan) (node place : ℕ) (placed : IsPlaced plan node place) where
  pub opening : place ≡ 0 → let on = placed_goes plan verified node place placed in IsOpening on.instr
  opening start = by placed.reading refl on.goes
    where
      on : GoesOn placed.segment place placed.reading
      on = placed_goes plan verified node place placed

      first : placed.reading ≡ taking []
      first = let h : Some (taking []) ≡ Some placed.reading = subst (λ (n : ℕ). reading_at placed.segment n ≡ Some placed.reading) start placed.before in cc

      by : (reading : Reading) → placed.reading ≡ reading → Goes placed.segment.exit place reading on.instr on.next → IsOpening on.instr
      by reading same goes =
          let e : reading ≡ taking [] = cc in
          opens placed.segment.exit place on.instr on.next (subst (λ (r : Reading). Goes placed.segment.exit place r on.instr on.next) e goes)

  -- the segment and the instruction of a placed frame
  pub stands_at : IsSized plan → (segment : Segment) (instr : Instr) → slice_get plan.segments node ≡ Some segment → slice_get segment.code place ≡ Some instr → StandsAt plan node place segment.exit instr
  stands_at sized segment instr is at =
      let on = placed_goes plan verified node place placed in
      let own : placed.segment ≡ segment = let h = placed.is in cc in
      let code : slice_get segment.code place ≡ Some on.instr = subst (λ (s : Segment). slice_get s.code place ≡ Some on.instr) own on.is in
      let same : on.instr ≡ instr = cc in
      let led = subst (λ (s : Segment). AreLedOn plan node place s.exit on.instr) own (led_on plan verified node place placed) in
      let few = all_at IsFew plan.segments node segment sized.each is in
      let within = slice_get_within segment.code place instr at in
      record {
        segment = segment;
        is = is;
        exit_ = refl;
        at = at;
        led = subst (λ (i : Instr). AreLedOn plan node place segment.exit i) same led;
        fits = omega (arith, few.code, within);
        few = all_at AreFewArms segment.code place instr few.arms at;
        opens = λ start. subst IsOpening same (opening start);
      }

  pub has_segment : slice_get plan.segments node ≡ None → ⊥
  has_segment none = let h = placed.is in cc

  pub has_instr : (segment : Segment) → slice_get plan.segments node ≡ Some segment → slice_get segment.code place ≡ None → ⊥
  has_instr segment is none =
      let on = placed_goes plan verified node place placed in
      let own : placed.segment ≡ segment = let h = placed.is in cc in
      let code : slice_get segment.code place ≡ Some on.instr = subst (λ (s : Segment). slice_get s.code place ≡ Some on.instr) own on.is in
      cc

  -- the place of a placed frame fits 32 bits
  pub placed_fits : IsSized plan → place < 2 ^ 32
  placed_fits sized =
      let on = placed_goes plan verified node place placed in
      let few = all_at IsFew plan.segments node placed.segment sized.each placed.is in
      let within = slice_get_within placed.segment.code place on.instr on.is in
      omega (arith, few.code, within)
