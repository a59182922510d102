-- What the checks of a segment's places answer.
use Rattle.std.proofs.Common.{◌≡◌, ◌↔◌, ◌⊎◌, inl, inr, ◌<◌, ◌≤◌, ◌+◌, ℕ, zero, suc, Bool, true, false, not, ◌&&◌, ◌||◌, eqb, leb, IsTrue, List, [], ◌∷◌, length, get_or, drop, min, Option, Some, None, refl, sym, ap, subst, ◌∙◌, arith}
use Rattle.std.specs.Prelude.{Ok, Err, IfOk}
use Rattle.std.specs.declared.result.Result.{Result}
use Rattle.std.specs.List.{list_any, flat_map, slice_get, Contains}
use Rattle.std.proofs.lemmas.Bool.{cases_order}
use Rattle.std.proofs.lemmas.Bool.Decides.{nat_tests}
use Rattle.std.proofs.lemmas.Option.{slice_get_within, slice_get-get_or}
use Rattle.flux_model.specs.declared.programs.NodeNo.{NodeNo}
use Rattle.flux_model.specs.declared.programs.Hold.{Hold}
use Rattle.flux_model.specs.Modes.{at_least}
use Rattle.flux_model.specs.Locks.{HasAtLeast}
use Rattle.flux_model.specs.Children.{IsIn}
use Rattle.flux_plan.specs.declared.plans.Segment.{Segment}
use Rattle.flux_plan.specs.declared.plans.Instr.{Instr}
use Rattle.flux_plan.specs.declared.plans.Instr.TheVariants.{Take, Go}
use Rattle.flux_plan.specs.Moves.{code_of}
use Rattle.flux_plan.specs.Leading.{led_by, taken_by, takes_of, Reaches, IsOpen}
use Rattle.flux_plan.specs.Faulty.{IsFault, misshapen, into_nothing, into_cycle, not_closed, IsMisshapen}
use Rattle.flux_verify.specs.steps.Checks.{covers, has_past, lacks, lacks_in, lacks_from, lacks_at, IsAstray, HasAstray, IsOpenTo, IsMisled, IsMisledAt, IsFirstPlace, earlier}
use Rattle.flux_verify.specs.steps.Visits.{IsReachedFrom, IsReach}

-- ---- tests of lists

-- an item that passes a test
pub record Passes {X : Type 0} (test : X → Bool) (xs : List X) : Type 0 where
  pub item : X
  pub among : Contains xs item
  pub passes : test item ≡ true

pub any_item : {X : Type 0} (test : X → Bool) (xs : List X) → list_any test xs ≡ true → Passes test xs
any_item test [] e = absurd cc
any_item test (x ∷ xs) e = one (test x) refl (any_item test xs)
  where
    later : Passes test xs → Passes test (x ∷ xs)
    later p = let (k, lt, is) = p.among in record { item = p.item; among = (suc k, omega (arith, lt), is); passes = p.passes }

    one : (t : Bool) → test x ≡ t → (list_any test xs ≡ true → Passes test xs) → Passes test (x ∷ xs)
    one true own more = record { item = x; among = (0, omega arith, refl); passes = own }
    one false own more = later (more (let h : (test x || list_any test xs) ≡ true = e in rw own at h))

pub item_any : {X : Type 0} (test : X → Bool) (xs : List X) (x : X) → Contains xs x → test x ≡ true → list_any test xs ≡ true
item_any test [] x (k, lt, is) own = absurd (omega (arith, lt))
item_any test (y ∷ xs) x (zero, lt, is) own = let e : test y ≡ true = subst (λ z. test z ≡ true) (sym is) own in rw e refl
item_any test (y ∷ xs) x (suc k, lt, is) own = one (test y) (item_any test xs x (k, omega (arith, lt), is) own)
  where
    one : (t : Bool) → list_any test xs ≡ true → (t || list_any test xs) ≡ true
    one true more = refl
    one false more = more

-- an item is at its place
pub item_stands : {X : Type 0} (items xs : List X) (index place : ℕ) (x : X) → items ≡ xs → place ≡ index → index < length items → x ≡ get_or items index x → slice_get xs place ≡ Some x
item_stands items xs index place x same counted lt is = ap (λ (n : ℕ). slice_get xs n) counted ∙ ap (λ ys. slice_get ys index) (sym same) ∙ slice_get-get_or items index x lt ∙ ap Some (sym is)

pub both : (p q : Bool) → (p && q) ≡ true → (p ≡ true) × (q ≡ true)
both true q e = (refl, e)
both false q e = absurd cc

-- ---- takes

-- what is covered is there, in at least its mode
pub covers_it : (takes : List Hold) (hold : Hold) → covers takes hold ≡ true → HasAtLeast takes hold
covers_it takes hold e =
    let found = any_item (λ own. eqb own.class.0 hold.class.0 && at_least own.mode hold.mode) takes e in
    let (same, enough) = both (eqb found.item.class.0 hold.class.0) (at_least found.item.mode hold.mode) found.passes in
    let number : found.item.class.0 ≡ hold.class.0 = grind (arith, nat_tests, same) in
    let is : found.item ≡ record { class = hold.class; mode = found.item.mode } =
    ap (λ (n : ℕ). let h : Hold = record { class = record { 0 = n }; mode = found.item.mode } in h) number in
    record { mode = found.item.mode; has = subst (λ (h : Hold). Contains takes h) is found.among; enough = enough }

pub it_covers : (takes : List Hold) (hold : Hold) → HasAtLeast takes hold → covers takes hold ≡ true
it_covers takes hold has =
    let own : Hold = record { class = hold.class; mode = has.mode } in
    let same : eqb hold.class.0 hold.class.0 ≡ true = grind (arith, nat_tests) in
    item_any (λ own. eqb own.class.0 hold.class.0 && at_least own.mode hold.mode) takes own has.has (rw same has.enough)

-- what is taken by code is what its instructions take
taken_lacks : (takes : List Hold) (code : List Instr) → list_any (lacks_in takes) code ≡ list_any (lacks takes) (flat_map taken_by code)
taken_lacks takes [] = refl
taken_lacks takes (Take class mode ∷ code) = ap (λ (b : Bool). lacks takes (record { class = class; mode = mode }) || b) (taken_lacks takes code)
taken_lacks takes (other ∷ code) = taken_lacks takes code

module _ (segments : List Segment) (takes : List Hold) (inner : ℕ) where
  lacks_open : (visits : List ℕ) (start : NodeNo) → start.0 ≡ inner → IsReach segments (start ∷ []) visits → list_any (lacks_from segments takes) visits ≡ true → IsOpenTo segments takes inner
  lacks_open visits start from reach e =
      let at = any_item (lacks_from segments takes) visits e in
      let found = any_item (lacks takes) (takes_of segments at.item) (sym (taken_lacks takes (code_of (slice_get segments at.item))) ∙ at.passes) in
      let itself : eqb at.item at.item ≡ true = grind (arith, nat_tests) in
      let way = reach.each at.item (item_any (eqb at.item) visits at.item at.among itself) in
      record { node = at.item; reached = reached way way.among; hold = found.item; taken = found.among; lacking = found.passes }
    where
      reached : {n : ℕ} → (way : IsReachedFrom segments (start ∷ []) n) → IsIn way.start (start ∷ []) → Reaches segments inner n
      reached {n} way (inl same) = subst (λ (m : ℕ). Reaches segments m n) (same ∙ from) way.reaches
      reached way (inr none) = absurd none

  open_lacks : (visits : List ℕ) (start : NodeNo) → start.0 ≡ inner → IsReach segments (start ∷ []) visits → IsOpenTo segments takes inner → list_any (lacks_from segments takes) visits ≡ true
  open_lacks visits start from reach is =
      let known = reach.all is.node (record { start = inner; among = inl (sym from); reaches = is.reached }) in
      let at = any_item (eqb is.node) visits known in
      let same : is.node ≡ at.item = grind (arith, nat_tests, at.passes) in
      let here : lacks_from segments takes is.node ≡ true = taken_lacks takes (code_of (slice_get segments is.node)) ∙ item_any (lacks takes) (takes_of segments is.node) is.hold is.taken is.lacking in
      item_any (lacks_from segments takes) visits at.item at.among (subst (λ n. lacks_from segments takes n ≡ true) same here)

  pub tells_open : (visits : List ℕ) (start : NodeNo) (is : Bool) → start.0 ≡ inner → IsReach segments (start ∷ []) visits → is ≡ list_any (lacks_from segments takes) visits → IsTrue is ↔ IsOpenTo segments takes inner
  tells_open visits start is from reach e = (λ so. lacks_open visits start from reach (sym e ∙ so), λ has. e ∙ open_lacks visits start from reach has)

  -- no takes are closed everywhere
  pub closed_without : takes ≡ [] → IsOpenTo segments takes inner → ⊥
  closed_without none is = let e : lacks [] is.hold ≡ true = subst (λ (hs : List Hold). lacks hs is.hold ≡ true) none is.lacking in cc

module _ (segments : List Segment) (outer inner : ℕ) where
  abbrev own_takes : List Hold
  own_takes = takes_of segments outer

  is_open : IsOpenTo segments own_takes inner → IsOpen segments outer inner
  is_open is =
      let (past, uncovered) = both (has_past own_takes is.hold) (not (covers own_takes is.hold)) is.lacking in
      let own = any_item (λ (o : Hold). leb is.hold.class.0 o.class.0) own_takes past in
      record {
        node = is.node;
        reached = is.reached;
        hold = is.hold;
        taken = is.taken;
        own = own.item;
        takes = own.among;
        most = grind (arith, nat_tests, own.passes);
        lacks = λ has. let c = it_covers own_takes is.hold has in let n : not true ≡ true = rw c at uncovered in cc;
      }

  open_is : IsOpen segments outer inner → IsOpenTo segments own_takes inner
  open_is is =
      let past : leb is.hold.class.0 is.own.class.0 ≡ true = grind (arith, nat_tests, is.most) in
      let has : has_past own_takes is.hold ≡ true = item_any (λ (o : Hold). leb is.hold.class.0 o.class.0) own_takes is.own is.takes past in
      let lacking : lacks own_takes is.hold ≡ true = rw has (uncovered (covers own_takes is.hold) refl) in
      record { node = is.node; reached = is.reached; hold = is.hold; taken = is.taken; lacking = lacking }
    where
      uncovered : (t : Bool) → covers own_takes is.hold ≡ t → (true && not t) ≡ true
      uncovered true c = absurd (is.lacks (covers_it own_takes is.hold c))
      uncovered false c = refl

-- from a place on, takes lack one at its node or further on
lacks_step : (segments : List Segment) (takes : List Hold) (nodes : List ℕ) (place : ℕ)
    → list_any (lacks_from segments takes) (drop place nodes) ≡ (lacks_at segments takes (slice_get nodes place) || list_any (lacks_from segments takes) (drop (suc place) nodes))
lacks_step segments takes [] zero = refl
lacks_step segments takes [] (suc place) = refl
lacks_step segments takes (n ∷ nodes) zero = refl
lacks_step segments takes (n ∷ nodes) (suc place) = lacks_step segments takes nodes place

pub lacks_here : (segments : List Segment) (takes : List Hold) (nodes : List ℕ) (place : ℕ) (is : Bool) → is ≡ lacks_at segments takes (slice_get nodes place) → is ≡ true
    → list_any (lacks_from segments takes) (drop place nodes) ≡ list_any (lacks_from segments takes) nodes → true ≡ list_any (lacks_from segments takes) nodes
lacks_here segments takes nodes place is e so from =
    let own : lacks_at segments takes (slice_get nodes place) ≡ true = sym e ∙ so in
    let step = lacks_step segments takes nodes place in
    sym (rw own at step) ∙ from

pub lacks_later : (segments : List Segment) (takes : List Hold) (nodes : List ℕ) (place : ℕ) (is : Bool) → is ≡ lacks_at segments takes (slice_get nodes place) → is ≡ false
    → list_any (lacks_from segments takes) (drop place nodes) ≡ list_any (lacks_from segments takes) nodes → list_any (lacks_from segments takes) (drop (place + 1) nodes) ≡ list_any (lacks_from segments takes) nodes
lacks_later segments takes nodes place is e fails from =
    let own : lacks_at segments takes (slice_get nodes place) ≡ false = sym e ∙ fails in
    let step = lacks_step segments takes nodes place in
    let next : place + 1 ≡ suc place = omega arith in
    rw next (sym (rw own at step) ∙ from)

-- ---- places

module _ (segments : List Segment) (takes : List Hold) (segment : Segment) where
  pub misled_later : (place : ℕ) (instr : Instr) → slice_get segment.code place ≡ Some instr → (IsMisled segments takes instr → ⊥)
      → ((at : ℕ) → IsMisledAt segments takes segment at → place ≤ at) → (at : ℕ) → IsMisledAt segments takes segment at → place + 1 ≤ at
  misled_later place instr here none before at is = one (cases_order at place)
    where
      le : place ≤ at
      le = before at is

      one : (at ≡ place) ⊎ ((at < place) ⊎ (place < at)) → place + 1 ≤ at
      one (inl same) =
          let e : Some is.instr ≡ Some instr = sym is.at_ ∙ ap (slice_get segment.code) same ∙ here in
          let i : is.instr ≡ instr = cc in
          absurd (none (subst (IsMisled segments takes) i is.misled))
      one (inr (inl less)) = absurd (omega (arith, less, le))
      one (inr (inr more)) = omega (arith, more)

  pub misled_end : (place : ℕ) → length segment.code ≤ place → ((at : ℕ) → IsMisledAt segments takes segment at → place ≤ at) → IsFirstPlace (IsMisledAt segments takes segment) None
  misled_end place over before at is =
      let lt = slice_get_within segment.code at is.instr is.at_ in
      let le = before at is in
      absurd (omega (arith, lt, le, over))

module _ (segments : List Segment) (node : ℕ) (segment : Segment) where
  -- a place is faulty where its instruction is misled, or the shape can't go on there
  fault_of : (place : ℕ) → IsMisledAt segments (takes_of segments node) segment place ⊎ IsMisshapen segment place → IsFault segments node segment place
  fault_of place (inr shape) = misshapen shape
  fault_of place (inl is) = one is.misled
    where
      astray : (has : HasAstray segments (led_by is.instr)) → IsAstray segments has.node → IsFault segments node segment place
      astray has (inl nothing) = into_nothing (record { instr = is.instr; at_ = is.at_; led = has.node; leads = has.among; has = nothing })
      astray has (inr cycle) = into_cycle (record { instr = is.instr; at_ = is.at_; led = has.node; leads = has.among; has = cycle })

      one : IsMisled segments (takes_of segments node) is.instr → IsFault segments node segment place
      one (inl has) = astray has has.astray
      one (inr go) = not_closed (record { inner = go.inner; at_ = is.at_ ∙ ap Some go.is; open_ = is_open segments node go.inner.0 go.open_ })

  of_fault : (place : ℕ) → IsFault segments node segment place → IsMisledAt segments (takes_of segments node) segment place ⊎ IsMisshapen segment place
  of_fault place (misshapen shape) = inr shape
  of_fault place (into_nothing to) = inl (record { instr = to.instr; at_ = to.at_; misled = inl (record { node = to.led; among = to.leads; astray = inl to.has }) })
  of_fault place (into_cycle to) = inl (record { instr = to.instr; at_ = to.at_; misled = inl (record { node = to.led; among = to.leads; astray = inr to.has }) })
  of_fault place (not_closed go) = inl (record { instr = Go go.inner; at_ = go.at_; misled = inr (record { inner = go.inner; is = refl; open_ = open_is segments node go.inner.0 go.open_ }) })

  -- the first faulty place is the earlier of the first of both kinds
  pub first_of_both : (misled shape : Option ℕ) → IsFirstPlace (IsMisledAt segments (takes_of segments node) segment) misled → IsFirstPlace (IsMisshapen segment) shape → IsFirstPlace (IsFault segments node segment) (earlier misled shape)
  first_of_both None None no_misled no_shape = λ place fault. one place (of_fault place fault)
    where
      one : (place : ℕ) → IsMisledAt segments (takes_of segments node) segment place ⊎ IsMisshapen segment place → ⊥
      one place (inl is) = no_misled place is
      one place (inr is) = no_shape place is
  first_of_both None (Some s) no_misled (is, first) = (fault_of s (inr is), λ place fault. one place (of_fault place fault))
    where
      one : (place : ℕ) → IsMisledAt segments (takes_of segments node) segment place ⊎ IsMisshapen segment place → s ≤ place
      one place (inl is) = absurd (no_misled place is)
      one place (inr is) = first place is
  first_of_both (Some m) None (is, first) no_shape = (fault_of m (inl is), λ place fault. one place (of_fault place fault))
    where
      one : (place : ℕ) → IsMisledAt segments (takes_of segments node) segment place ⊎ IsMisshapen segment place → m ≤ place
      one place (inl is) = first place is
      one place (inr is) = absurd (no_shape place is)
  first_of_both (Some m) (Some s) (is_m, first_m) (is_s, first_s) = (here (cases_order m s), λ place fault. one place (of_fault place fault))
    where
      here : (m ≡ s) ⊎ ((m < s) ⊎ (s < m)) → IsFault segments node segment (min m s)
      here (inl same) = let e : min m s ≡ m = omega (arith, same) in rw e (fault_of m (inl is_m))
      here (inr (inl less)) = let e : min m s ≡ m = omega (arith, less) in rw e (fault_of m (inl is_m))
      here (inr (inr more)) = let e : min m s ≡ s = omega (arith, more) in rw e (fault_of s (inr is_s))

      one : (place : ℕ) → IsMisledAt segments (takes_of segments node) segment place ⊎ IsMisshapen segment place → min m s ≤ place
      one place (inl is) = let le = first_m place is in omega (arith, le)
      one place (inr is) = let le = first_s place is in omega (arith, le)

-- ---- answers

pub ok_then : {T E : Type 0} (P Q : T → Type 0) (result : Result T E) → ((x : T) → P x → Q x) → IfOk result P → IfOk result Q
ok_then P Q (Ok x) turn has = turn x has
ok_then P Q (Err e) turn has = tt
