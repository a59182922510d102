-- What the frames of nodes hold, and what becomes of that at the instruction that comes next.
use Rattle.std.proofs.Common.{◌≡◌, ◌≢◌, ◌⊎◌, inl, inr, ℕ, ◌+◌, ◌-◌, ◌<◌, ◌≤◌, true, false, List, [], ◌∷◌, map, length, Some, refl, sym, ap, ◌∙◌, subst, arith}
use Rattle.std.specs.Prelude.{⊤}
use Rattle.std.specs.List.{slice_get, Contains, AllByRecursion}
use Rattle.std.proofs.lemmas.Bool.{cases_eq, cases_lt, cases_order, cases_Bool, both_ways}
use Rattle.flux_model.specs.declared.programs.NodeNo.{NodeNo}
use Rattle.flux_model.specs.declared.programs.ClassNo.{ClassNo}
use Rattle.flux_model.specs.declared.programs.Hold.{Hold}
use Rattle.flux_model.specs.declared.programs.HandleArm.{HandleArm}
use Rattle.flux_model.specs.Leading.{handlers_of}
use Rattle.flux_model.specs.Children.{IsIn}
use Rattle.flux_model.specs.Modes.{at_least}
use Rattle.flux_model.specs.Locks.{HasAtLeast}
use Rattle.flux_model.proofs.RisingHolds.{contains_first, contains_later, contains_cases, contains_none}
use Rattle.flux_plan.specs.declared.plans.Plan.{Plan}
use Rattle.flux_plan.specs.declared.plans.Segment.{Segment}
use Rattle.flux_plan.specs.declared.plans.Arm.{Arm}
use Rattle.flux_plan.specs.declared.plans.Instr.{Instr}
use Rattle.flux_plan.specs.declared.plans.Instr.TheVariants.{Take, Enter, Choose, Go, Leave, Call, Exit, Drop, Handle, EndHandle, Return}
use Rattle.flux_plan.specs.Reading.{Reading, taking, entered, between, within, dropping, handling, closing, whole, reading_at}
use Rattle.flux_plan.specs.Leading.{led_by, leads_from, takes_of, Reaches, IsOpen}
use Rattle.flux_plan.specs.Faulty.{IsFaultIn, IsVerified, IsMisshapen, not_closed}
use Rattle.flux_plan.specs.steps.Placed.{IsPlaced}
use Rattle.flux_plan.proofs.Readings.{AreBelowOne, Goes, take, enter, call, choose, leave, first_go, no_go, go, last_go, drop, handle, return, end_handle, close}
use Rattle.flux_plan.proofs.Placing.{GoesOn, shape_goes, AreAhead, Ahead, AheadOf, ahead, led_from, shaped, placed_goes, led_placed}
use Rattle.flux_verify.proofs.holding.Segments.{contains_take, take_stands, none_taken}

-- ---- holds

-- a class is above those of all these
abbrev pub IsAboveAll : List Hold → ClassNo → Type 0
IsAboveAll held class = (own : Hold) → Contains held own → own.class.0 < class.0

-- each class is above those after it
abbrev pub AreFalling : List Hold → Type 0
AreFalling [] = ⊤
AreFalling (hold ∷ held) = IsAboveAll held hold.class × AreFalling held

abbrev pub classes_of : List Hold → List ClassNo
classes_of held = map (λ (hold : Hold). hold.class) held

-- a class above the first is above all
pub above_all : (class : ClassNo) (held : List Hold) → AreBelowOne class (classes_of held) → AreFalling held → IsAboveAll held class
above_all class [] below falling own is = absurd (contains_none own is)
above_all class (hold ∷ held) below (above, falling) own is = elim (contains_cases hold held own is) [
  | inl same ↦ rw same below
  | inr later ↦ let lt = above own later in omega (arith, lt, below)
]

-- these have a hold in at least its mode, or they don't
decide_has : (held : List Hold) (hold : Hold) → HasAtLeast held hold ⊎ (HasAtLeast held hold → ⊥)
decide_has [] hold = inr (λ has. contains_none _ has.has)
decide_has (first ∷ held) hold = by (decide_has held hold) (cases_eq first.class.0 hold.class.0) (cases_Bool (at_least first.mode hold.mode))
  where
    later : HasAtLeast held hold → HasAtLeast (first ∷ held) hold
    later has = record { mode = has.mode; has = contains_later first held _ has.has; enough = has.enough }

    here : first.class.0 ≡ hold.class.0 → at_least first.mode hold.mode ≡ true → HasAtLeast (first ∷ held) hold
    here same enough = record {
      mode = first.mode;
      has = subst (λ (n : ℕ). let c : ClassNo = record { 0 = n } in let h : Hold = record { class = c; mode = first.mode } in Contains (first ∷ held) h) same (contains_first first held);
      enough = enough;
    }

    by : HasAtLeast held hold ⊎ (HasAtLeast held hold → ⊥) → (first.class.0 ≡ hold.class.0) ⊎ (first.class.0 ≡ hold.class.0 → ⊥)
        → (at_least first.mode hold.mode ≡ true) ⊎ (at_least first.mode hold.mode ≡ false) → HasAtLeast (first ∷ held) hold ⊎ (HasAtLeast (first ∷ held) hold → ⊥)
    by (inl has) e m = inl (later has)
    by (inr lacks) (inl same) (inl enough) = inl (here same enough)
    by (inr lacks) (inr apart) m = inr (λ has. elim (contains_cases first held _ has.has) [
      | inl is ↦ apart (sym (ap (λ (h : Hold). h.class.0) is))
      | inr more ↦ lacks (record { mode = has.mode; has = more; enough = has.enough })
    ])
    by (inr lacks) (inl same) (inr less) = inr (λ has. elim (contains_cases first held _ has.has) [
      | inl is ↦ both_ways _ less (sym (ap (λ (h : Hold). at_least h.mode hold.mode) is) ∙ has.enough)
      | inr more ↦ lacks (record { mode = has.mode; has = more; enough = has.enough })
    ])

-- a class is above them all, or one of them isn't less
decide_above : (held : List Hold) (class : ClassNo) → IsAboveAll held class ⊎ ((own : Hold) × Contains held own × (class.0 ≤ own.class.0))
decide_above [] class = inl (λ own is. absurd (contains_none own is))
decide_above (first ∷ held) class = by (decide_above held class) (cases_lt first.class.0 class.0)
  where
    by : IsAboveAll held class ⊎ ((own : Hold) × Contains held own × (class.0 ≤ own.class.0)) → (first.class.0 < class.0) ⊎ (class.0 ≤ first.class.0)
        → IsAboveAll (first ∷ held) class ⊎ ((own : Hold) × Contains (first ∷ held) own × (class.0 ≤ own.class.0))
    by more (inr le) = inr (first, contains_first first held, le)
    by (inr (own, is, le)) (inl lt) = inr (own, contains_later first held own is, le)
    by (inl above) (inl lt) = inl (λ own is. elim (contains_cases first held own is) [
      | inl same ↦ rw same lt
      | inr later ↦ above own later
    ])

-- ---- frames

-- what is taken before a place is held
abbrev pub HasTaken : Segment → ℕ → List Hold → Type 0
HasTaken segment place held = (at : ℕ) (hold : Hold) → at < place → slice_get segment.code at ≡ Some (Take hold.class hold.mode) → Contains held hold

-- what is taken anywhere is held
abbrev pub HasAll : Segment → List Hold → Type 0
HasAll segment held = (at : ℕ) (hold : Hold) → slice_get segment.code at ≡ Some (Take hold.class hold.mode) → Contains held hold

-- what is held at a place, by what has been read before it
abbrev pub HeldAt : Segment → ℕ → Reading → List Hold → Type 0
HeldAt segment place (taking classes) held = (classes ≡ classes_of held) × AreFalling held × HasTaken segment place held
HeldAt segment place (entered classes) held = (classes ≡ classes_of held) × HasAll segment held
HeldAt segment place (between arms classes) held = (classes ≡ classes_of held) × HasAll segment held
HeldAt segment place (within arms classes) held = (classes ≡ classes_of held) × HasAll segment held
HeldAt segment place (dropping classes) held = classes ≡ classes_of held
HeldAt segment place handling held = held ≡ []
HeldAt segment place closing held = held ≡ []
HeldAt segment place whole held = held ≡ []

-- a frame at a place of a node's segment holds this, the latest first
pub record Holds (plan : Plan) (node place : ℕ) (held : List Hold) : Type 0 where
  pub placed : IsPlaced plan node place
  pub own : (hold : Hold) → Contains held hold → Contains (takes_of plan.segments node) hold
  pub here : HeldAt placed.segment place placed.reading held

-- what is taken by a node that another reaches is held in at least that mode, or is above all that is held
abbrev pub IsClosedOver : List Segment → ℕ → List Hold → Type 0
IsClosedOver segments node held = (reached : ℕ) → Reaches segments node reached → (hold : Hold)
    → Contains (takes_of segments reached) hold → HasAtLeast held hold ⊎ IsAboveAll held hold.class

-- what becomes of a frame at an instruction
abbrev pub AreKept : Plan → ℕ → ℕ → ℕ → List Hold → Instr → Type 0
AreKept plan node place exit held (Take class mode) = Holds plan node (place + 1) (record { class = class; mode = mode } ∷ held)
AreKept plan node place exit held Enter = Holds plan node (place + 1) held
AreKept plan node place exit held (Choose arms) = Holds plan node exit held × AllByRecursion (λ arm. Holds plan node arm.to held) arms
AreKept plan node place exit held (Go inner) = Holds plan node exit held × Holds plan node (place + 1) held × Holds plan inner.0 0 []
    × IsClosedOver plan.segments inner.0 held × IsIn inner.0 (leads_from plan.segments node)
AreKept plan node place exit held Leave = Holds plan node exit held
AreKept plan node place exit held Call = Holds plan node (place + 1) held
AreKept plan node place exit held Exit = Holds plan node (place + 1) held
AreKept plan node place exit held (Drop class) =
    (hold : Hold) × (rest : List Hold) × (held ≡ hold ∷ rest) × (hold.class ≡ class) × Holds plan node (place + 1) rest
AreKept plan node place exit held (Handle arms) = (held ≡ []) × Holds plan node (place + 1) [] × Holds plan node (place + 2) []
    × AllByRecursion (λ arm. Holds plan arm.node.0 0 [] × IsIn arm.node.0 (leads_from plan.segments node)) arms
AreKept plan node place exit held EndHandle = Holds plan node (place + 1) held
AreKept plan node place exit held Return = held ≡ []

none_from_classes : (held : List Hold) → [] ≡ classes_of held → held ≡ []
none_from_classes [] none = refl
none_from_classes (hold ∷ held) none = absurd cc

handlers_all : (P : ℕ → Type 0) (arms : List HandleArm) → ((led : ℕ) → IsIn led (handlers_of arms) → P led) → AllByRecursion (λ arm. P arm.node.0) arms
handlers_all P [] all = tt
handlers_all P (arm ∷ arms) all = (all arm.node.0 (inl refl), handlers_all P arms (λ led is. all led (inr is)))

-- a frame that is entered holds nothing
pub holds_none : (plan : Plan) (node : ℕ) → IsPlaced plan node 0 → Holds plan node 0 []
holds_none plan node placed = record {
  placed = placed;
  own = λ hold is. absurd (contains_none hold is);
  here = subst (λ (r : Reading). HeldAt placed.segment 0 r []) first (refl, tt, λ at hold lt is. absurd (omega (arith, lt)));
}
  where
    first : taking [] ≡ placed.reading
    first = let h : Some (taking []) ≡ Some placed.reading = placed.before in cc

module _ (plan : Plan) (verified : IsVerified plan) (node place : ℕ) (held : List Hold) (h : Holds plan node place held) where
  abbrev placed : IsPlaced plan node place
  placed = h.placed

  abbrev segment : Segment
  segment = placed.segment

  abbrev is_shaped : (at : ℕ) → IsMisshapen segment at → ⊥
  is_shaped = shaped plan verified node place placed

  abbrev Kept : Instr → Type 0
  Kept instr = AreKept plan node place segment.exit held instr

  -- elsewhere in the segment
  elsewhere : (at : ℕ) (reading : Reading) (now : List Hold) → reading_at segment at ≡ Some reading → reading ≢ whole
      → ((hold : Hold) → Contains now hold → Contains (takes_of plan.segments node) hold) → HeldAt segment at reading now → Holds plan node at now
  elsewhere at reading now before on own here = record {
    placed = record { reached = placed.reached; segment = segment; is = placed.is; reading = reading; before = before; goes_on = on };
    own = own;
    here = here;
  }

  -- what is in the segment is taken, and is led to, by the node
  taken_here : (at : ℕ) (hold : Hold) → slice_get segment.code at ≡ Some (Take hold.class hold.mode) → Contains (takes_of plan.segments node) hold
  taken_here at hold is = rw placed.is (contains_take segment.code at hold is)

  led_here : (at : ℕ) (instr : Instr) (led : ℕ) → slice_get segment.code at ≡ Some instr → IsIn led (led_by instr) → IsIn led (leads_from plan.segments node)
  led_here at instr led is among = rw placed.is (led_from segment.code at led instr is among)

  stands_for : HasAll segment held → (hold : Hold) → Contains (takes_of plan.segments node) hold → Contains held hold
  stands_for all hold is = let (at, stands) = take_stands segment.code hold (rw placed.is at is) in all at hold stands

  -- with all takes held, they are closed at a node that is gone to
  not_open : (inner : NodeNo) → slice_get segment.code place ≡ Some (Go inner) → IsOpen plan.segments node inner.0 → ⊥
  not_open inner at is = verified.none node place
      (let P = IsFaultIn plan node place in subst P (sym placed.is) (placed.reached, not_closed (record { inner = inner; at_ = at; open_ = is })))

  closed_over : (inner : NodeNo) → slice_get segment.code place ≡ Some (Go inner) → HasAll segment held → IsClosedOver plan.segments inner.0 held
  closed_over inner at all reached reaches hold taken = by (decide_has held hold) (decide_above held hold.class)
    where
      by : HasAtLeast held hold ⊎ (HasAtLeast held hold → ⊥) → IsAboveAll held hold.class ⊎ ((own : Hold) × Contains held own × (hold.class.0 ≤ own.class.0))
          → HasAtLeast held hold ⊎ IsAboveAll held hold.class
      by (inl has) above = inl has
      by (inr lacks) (inl above) = inr above
      by (inr lacks) (inr (own, is, le)) = absurd (not_open inner at (record {
        node = reached;
        reached = reaches;
        hold = hold;
        taken = taken;
        own = own;
        takes = h.own own is;
        most = le;
        lacks = λ has. lacks (record { mode = has.mode; has = stands_for all _ has.has; enough = has.enough });
      }))

  -- a take
  with_take : (new : Hold) (classes : List ClassNo) → slice_get segment.code place ≡ Some (Take new.class new.mode) → AreBelowOne new.class classes
      → reading_at segment (place + 1) ≡ Some (taking (new.class ∷ classes)) → HeldAt segment place (taking classes) held → Holds plan node (place + 1) (new ∷ held)
  with_take new classes at below after (same, falling, taken) =
      elsewhere (place + 1) (taking (new.class ∷ classes)) (new ∷ held) after (λ (e : taking (new.class ∷ classes) ≡ whole). cc) own
      (ap (λ (cs : List ClassNo). new.class ∷ cs) same, (above_all new.class held (subst (AreBelowOne new.class) same below) falling, falling), all)
    where
      own : (hold : Hold) → Contains (new ∷ held) hold → Contains (takes_of plan.segments node) hold
      own hold is = elim (contains_cases new held hold is) [
        | inl same ↦ rw same (taken_here place new at)
        | inr later ↦ h.own hold later
      ]

      is_new : (hold : Hold) (there : ℕ) → there ≡ place → slice_get segment.code there ≡ Some (Take hold.class hold.mode) → hold ≡ new
      is_new hold there e is =
          let two : Some (Take hold.class hold.mode) ≡ Some (Take new.class new.mode) = sym is ∙ ap (slice_get segment.code) e ∙ at in
          let class_is : hold.class ≡ new.class = cc in
          let mode_is : hold.mode ≡ new.mode = cc in
          λ i. record { class = class_is i; mode = mode_is i }

      all : HasTaken segment (place + 1) (new ∷ held)
      all there hold lt is = elim (cases_lt there place) [
        | inl low ↦ contains_later new held hold (taken there hold low is)
        | inr le ↦ rw (is_new hold there (omega (arith, lt, le)) is) (contains_first new held)
      ]

  -- after the takes all of them are held
  has_all : (classes : List ClassNo) → slice_get segment.code place ≡ Some Enter → reading_at segment (place + 1) ≡ Some (entered classes)
      → HasTaken segment place held → HasAll segment held
  has_all classes at after taken there hold is = elim (cases_order there place) [
    | inl e ↦ absurd (let two : Some Enter ≡ Some (Take hold.class hold.mode) = sym at ∙ sym (ap (slice_get segment.code) e) ∙ is in cc)
    | inr (inl low) ↦ taken there hold low is
    | inr (inr high) ↦
        let p : there ≡ place + 1 + (there - (place + 1)) = omega (arith, high) in
        absurd (none_taken segment is_shaped (there - (place + 1)) (place + 1) (entered classes) after tt hold.class hold.mode (ap (slice_get segment.code) (sym p) ∙ is))
  ]

  ahead_of : (next : Reading) → reading_at segment (place + 1) ≡ Some next → AheadOf segment is_shaped (place + 1) next
  ahead_of next after = ahead segment is_shaped (length segment.code) (place + 1) next (omega arith) after

  -- at `Exit`
  to_exit : (arms : List Arm) (classes : List ClassNo) → Ahead segment is_shaped (place + 1) arms classes → (classes ≡ classes_of held) × HasAll segment held → Holds plan node segment.exit held
  to_exit arms classes more here = elsewhere segment.exit (between [] classes) held more.at_exit (λ (e : between [] classes ≡ whole). cc) h.own here

  to_arms : (at : ℕ) (arms : List Arm) (classes : List ClassNo) → AreAhead segment is_shaped at arms classes → (classes ≡ classes_of held) × HasAll segment held → AllByRecursion (λ arm. Holds plan node arm.to held) arms
  to_arms at [] classes more here = tt
  to_arms at (arm ∷ arms) classes (le, is, more) here =
      (elsewhere arm.to (between (arm ∷ arms) classes) held is (λ (e : between (arm ∷ arms) classes ≡ whole). cc) h.own here, to_arms at arms classes more here)

  goes : (inner : NodeNo) (arms : List Arm) (classes : List ClassNo) → slice_get segment.code place ≡ Some (Go inner)
      → reading_at segment (place + 1) ≡ Some (within arms classes) → (classes ≡ classes_of held) × HasAll segment held → Kept (Go inner)
  goes inner arms classes at after (same, all) = (
    to_exit arms classes (ahead_of (within arms classes) after) (same, all),
    elsewhere (place + 1) (within arms classes) held after (λ (e : within arms classes ≡ whole). cc) h.own (same, all),
    holds_none plan inner.0 (led_placed plan verified node place placed (Go inner) inner.0 at (inl refl)),
    closed_over inner at all,
    led_here place (Go inner) inner.0 at (inl refl),
  )

  -- a drop
  without_last : (class last : ClassNo) (classes : List ClassNo) (own : List Hold) → held ≡ own → class ≡ last → last ∷ classes ≡ classes_of own
      → reading_at segment (place + 1) ≡ Some (dropping classes) → Kept (Drop class)
  without_last class last classes [] is e same after = absurd cc
  without_last class last classes (hold ∷ rest) is e same after =
      let first : hold.class ≡ class = cc in
      let others : classes ≡ classes_of rest = cc in (
        hold,
        rest,
        is,
        first,
        elsewhere (place + 1) (dropping classes) rest after (λ (e : dropping classes ≡ whole). cc)
            (λ own more. h.own own (rw is (contains_later hold rest own more))) others,
      )

  -- where nothing is held any more
  nothing : (at : ℕ) (reading : Reading) → reading_at segment at ≡ Some reading → reading ≢ whole → HeldAt segment at reading [] → Holds plan node at []
  nothing at reading before on here = elsewhere at reading [] before on (λ hold is. absurd (contains_none hold is)) here

  past_handling : reading_at segment (place + 1) ≡ Some handling → Holds plan node (place + 2) []
  past_handling before = more on.instr on.next on.goes on.after
    where
      on : GoesOn segment (place + 1) handling
      on = shape_goes segment is_shaped (place + 1) handling before (λ (e : handling ≡ whole). cc)

      more : (instr : Instr) (next : Reading) → Goes segment.exit (place + 1) handling instr next → reading_at segment (place + 1 + 1) ≡ Some next → Holds plan node (place + 2) []
      more instr next end_handle after =
          let p : place + 1 + 1 ≡ place + 2 = omega arith in
          nothing (place + 2) closing (rw p at after) (λ (e : closing ≡ whole). cc) refl

  handles : (arms : List HandleArm) → slice_get segment.code place ≡ Some (Handle arms) → reading_at segment (place + 1) ≡ Some handling → held ≡ [] → Kept (Handle arms)
  handles arms at after none = (
    none,
    nothing (place + 1) handling after (λ (e : handling ≡ whole). cc) refl,
    past_handling after,
    handlers_all (λ led. Holds plan led 0 [] × IsIn led (leads_from plan.segments node)) arms
        (λ led is. (holds_none plan led (led_placed plan verified node place placed (Handle arms) led at is), led_here place (Handle arms) led at is)),
  )

  by_goes : (reading : Reading) (instr : Instr) (next : Reading) → slice_get segment.code place ≡ Some instr → Goes segment.exit place reading instr next
      → reading_at segment (place + 1) ≡ Some next → HeldAt segment place reading held → Kept instr
  by_goes (taking classes) instr next at (take {class = c} {mode = m} below) after here = with_take (record { class = c; mode = m }) classes at below after here
  by_goes (taking classes) instr next at enter after (same, falling, taken) =
      elsewhere (place + 1) (entered classes) held after (λ (e : entered classes ≡ whole). cc) h.own (same, has_all classes at after taken)
  by_goes (entered classes) instr next at call after here = elsewhere (place + 1) (between [] classes) held after (λ (e : between [] classes ≡ whole). cc) h.own here
  by_goes (entered classes) instr next at (choose {arms = arms}) after here =
      let more : Ahead segment is_shaped (place + 1) arms classes = ahead_of (between arms classes) after in
      (to_exit arms classes more here, to_arms (place + 1) arms classes more.arms_ here)
  by_goes (between [] classes) instr next at (leave e) after (same, all) = elsewhere (place + 1) (dropping classes) held after (λ (e : dropping classes ≡ whole). cc) h.own same
  by_goes (between (arm ∷ arms) classes) instr next at (first_go {node = n} e) after here = goes n arms classes at after here
  by_goes (between (arm ∷ arms) classes) instr next at (no_go e) after here = to_exit arms classes (ahead_of (between arms classes) after) here
  by_goes (within arms classes) instr next at (go {node = n}) after here = goes n arms classes at after here
  by_goes (within arms classes) instr next at last_go after here = to_exit arms classes (ahead_of (between arms classes) after) here
  by_goes (dropping (last ∷ classes)) instr next at (drop {class = c} e) after here = without_last c last classes held refl e here after
  by_goes (dropping []) instr next at (handle {arms = arms}) after here = handles arms at after (none_from_classes held here)
  by_goes (dropping []) instr next at return after here = none_from_classes held here
  by_goes handling instr next at end_handle after here = elsewhere (place + 1) closing held after (λ (e : closing ≡ whole). cc) h.own here
  by_goes closing instr next at close after here = here
  by_goes whole instr next at none after here = elim none [ ]

  -- what becomes of a frame at the instruction that comes next
  pub kept : let on = placed_goes plan verified node place h.placed in let s = h.placed.segment in AreKept plan node place s.exit held on.instr
  kept = let on = placed_goes plan verified node place placed in by_goes placed.reading on.instr on.next on.is on.goes on.after h.here
