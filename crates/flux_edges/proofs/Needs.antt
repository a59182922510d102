-- A node needs a session exactly where it, or a node that it leads to, declares a session constraint.
use Rattle.std.proofs.Common.{◌≡◌, ◌<◌, ◌+◌, ℕ, zero, suc, ◌⊎◌, inl, inr, Bool, true, false, ◌||◌, List, [], ◌∷◌, ◌++◌, length, get_or, Option, Some, None, refl, sym, ap, subst, ◌∙◌, arith}
use Rattle.std.specs.List.{slice_get, list_any, Contains}
use Rattle.std.proofs.lemmas.Bool.{or_left, or_right}
use Rattle.flux_model.specs.declared.programs.Program.{Program}
use Rattle.flux_model.specs.declared.programs.Class.{Class}
use Rattle.flux_model.specs.declared.programs.Hold.{Hold}
use Rattle.flux_model.specs.declared.programs.NodeNo.{NodeNo}
use Rattle.flux_model.specs.declared.programs.Node.{Node}
use Rattle.flux_model.specs.Leading.{leads_to, numbers_of, leads_in}
use Rattle.flux_model.specs.Children.{IsIn}
use Rattle.flux_model.specs.Locks.{declared_on, declared}
use Rattle.flux_model.specs.Nested.{for_node, nested, LooksDown}
use Rattle.flux_model.specs.Ordering.{IsOrder, IsLed, LeadsOn}
use Rattle.flux_model.specs.Soundness.{DeclaresSession}
use Rattle.flux_graph.proofs.Depths.{through-rule}
use Rattle.flux_edges.specs.Sessions.{is_session_class, is_session, needs_by, needs_session}
use Rattle.flux_edges.specs.Unserved.{IsNeeded}

-- ---- tests on lists

either_true : (a b : Bool) → (a || b) ≡ true → (a ≡ true) ⊎ (b ≡ true)
either_true true b e = inl refl
either_true false b e = inr e

some_hold : (test : Hold → Bool) (holds : List Hold) → list_any test holds ≡ true → (hold : Hold) × Contains holds hold × (test hold ≡ true)
some_hold test [] e = absurd cc
some_hold test (h ∷ holds) e = one (either_true (test h) (list_any test holds) e) (some_hold test holds)
  where
    one : (test h ≡ true) ⊎ (list_any test holds ≡ true) → (list_any test holds ≡ true → (hold : Hold) × Contains holds hold × (test hold ≡ true))
        → (hold : Hold) × Contains (h ∷ holds) hold × (test hold ≡ true)
    one (inl own) others = (h, (0, omega arith, refl), own)
    one (inr more) others = let (hold, (k, below, same), is) = others more in (hold, (suc k, omega (arith, below), same), is)

any_hold : (test : Hold → Bool) (holds : List Hold) (hold : Hold) (k : ℕ) → k < length holds → get_or holds k hold ≡ hold → test hold ≡ true → list_any test holds ≡ true
any_hold test [] hold k below same is = absurd (omega (arith, below))
any_hold test (h ∷ holds) hold zero below same is = or_left (test h) (list_any test holds) (ap test same ∙ is)
any_hold test (h ∷ holds) hold (suc k) below same is = or_right (test h) (list_any test holds) (any_hold test holds hold k (omega (arith, below)) same is)

some_led : (test : ℕ → Bool) (led : List NodeNo) → list_any (λ next. test next.0) led ≡ true → (x : ℕ) × IsIn x led × (test x ≡ true)
some_led test [] e = absurd cc
some_led test (n ∷ led) e = one (either_true (test n.0) (list_any (λ next. test next.0) led) e) (some_led test led)
  where
    one : (test n.0 ≡ true) ⊎ (list_any (λ next. test next.0) led ≡ true) → (list_any (λ next. test next.0) led ≡ true → (x : ℕ) × IsIn x led × (test x ≡ true))
        → (x : ℕ) × IsIn x (n ∷ led) × (test x ≡ true)
    one (inl own) others = (n.0, inl refl, own)
    one (inr more) others = let (x, is, holds) = others more in (x, inr is, holds)

any_led : (test : ℕ → Bool) (led : List NodeNo) (x : ℕ) → IsIn x led → test x ≡ true → list_any (λ next. test next.0) led ≡ true
any_led test [] x is holds = absurd is
any_led test (n ∷ led) x (inl same) holds = or_left (test n.0) (list_any (λ next. test next.0) led) (ap test (sym same) ∙ holds)
any_led test (n ∷ led) x (inr is) holds = or_right (test n.0) (list_any (λ next. test next.0) led) (any_led test led x is holds)

any_same : (f g : ℕ → Bool) (led : List NodeNo) → ((x : ℕ) → IsIn x led → f x ≡ g x) → list_any (λ next. f next.0) led ≡ list_any (λ next. g next.0) led
any_same f g [] same = refl
any_same f g (n ∷ led) same =
    let others = any_same f g led (λ x is. same x (inr is)) in
    ap (λ (t : Bool). t || list_any (λ next. f next.0) led) (same n.0 (inl refl)) ∙ ap (λ (t : Bool). g n.0 || t) others

-- the rule looks at nothing but the nodes that a node leads to
pub needs_look_down : (classes : List Class) → LooksDown (needs_by classes)
needs_look_down classes f g number node same = ap (λ (t : Bool). list_any (is_session classes) node.declared || t) (any_same f g (leads_to node) same)

-- marks that are the same at these nodes give the same
pub needs_same : (classes : List Class) (f g : ℕ → Bool) (number : ℕ) (node : Node) → ((x : ℕ) → IsIn x (leads_to node) → f x ≡ g x) → needs_by classes f number node ≡ needs_by classes g number node
needs_same classes f g number node same = needs_look_down classes f g number node same

-- ---- the law

module _ (p : Program) where
  abbrev needs_in : ℕ → ℕ → Bool
  needs_in depth number = nested false (needs_by p.classes) p.nodes depth number

  step : (from next : ℕ) → IsIn next (leads_in p.nodes from) → IsNeeded p next → IsNeeded p from
  step from next is needed = record { node = needed.node; reached = one needed.reached; declares = needed.declares }
    where
      one : (needed.node ≡ next) ⊎ LeadsOn p.nodes next needed.node → (needed.node ≡ from) ⊎ LeadsOn p.nodes from needed.node
      one (inl same) = inr (record { between = []; led = (subst (λ (n : ℕ). IsIn n (leads_in p.nodes from)) (sym same) is, tt) })
      one (inr on) = inr (record { between = record { 0 = next } ∷ on.between; led = (is, on.led) })

  own : (number : ℕ) (node : Node) → slice_get p.nodes number ≡ Some node → list_any (is_session p.classes) node.declared ≡ true → DeclaresSession p number
  own number node at any =
      let (hold, contains, is) = some_hold (is_session p.classes) node.declared any in
      let class = hold.class in
      one hold contains (slice_get p.classes class.0) refl is
    where
      one : (hold : Hold) → Contains node.declared hold → (found : Option Class) → (let class = hold.class in slice_get p.classes class.0 ≡ found) → is_session_class found ≡ true → DeclaresSession p number
      one hold contains None i is = absurd cc
      one hold contains (Some class) i is = record {
        hold = hold;
        declares = subst (λ (n : Option Node). Contains (declared_on n) hold) (sym at) contains;
        class = class;
        is_class = i;
        session = is;
      }

  needed_in : (depth number : ℕ) → needs_in depth number ≡ true → IsNeeded p number
  needed_in zero number e = absurd cc
  needed_in (suc depth) number e = at_node (slice_get p.nodes number) refl e (needed_in depth)
    where
      at_node : (found : Option Node) → slice_get p.nodes number ≡ found → for_node false (needs_by p.classes (needs_in depth) number) found ≡ true
          → ((x : ℕ) → needs_in depth x ≡ true → IsNeeded p x) → IsNeeded p number
      at_node None at e more = absurd cc
      at_node (Some node) at e more = one (either_true (list_any (is_session p.classes) node.declared) (list_any (λ led. needs_in depth led.0) (leads_to node)) e)
        where
          one : (list_any (is_session p.classes) node.declared ≡ true) ⊎ (list_any (λ led. needs_in depth led.0) (leads_to node) ≡ true) → IsNeeded p number
          one (inl declares) = record { node = number; reached = inl refl; declares = own number node at declares }
          one (inr leads) =
              let (next, is, holds) = some_led (needs_in depth) (leads_to node) leads in
              step number next (subst (λ (n : Option Node). IsIn next (numbers_of leads_to n)) (sym at) is) (more next holds)

  -- what needs a session has its reason
  pub needed_from_needs : (number : ℕ) → needs_session p number ≡ true → IsNeeded p number
  needed_from_needs number e = needed_in (length p.nodes) number e

  module _ (order : List NodeNo) (is_order : IsOrder p.nodes order) where
    rule : (number : ℕ) (node : Node) → slice_get p.nodes number ≡ Some node → needs_session p number ≡ needs_by p.classes (needs_session p) number node
    rule = through-rule false (needs_by p.classes) (needs_look_down p.classes) p.nodes order is_order

    declares_needs : (number : ℕ) → DeclaresSession p number → needs_session p number ≡ true
    declares_needs number d = one (slice_get p.nodes number) refl d.declares
      where
        test : is_session p.classes d.hold ≡ true
        test = ap is_session_class d.is_class ∙ d.session

        one : (found : Option Node) → slice_get p.nodes number ≡ found → Contains (declared_on found) d.hold → needs_session p number ≡ true
        one None at contains = absurd (omega (arith, contains.1))
        one (Some node) at contains =
            rule number node at
            ∙ or_left (list_any (is_session p.classes) node.declared) (list_any (λ led. needs_session p led.0) (leads_to node))
            (any_hold (is_session p.classes) node.declared d.hold contains.0 contains.1 contains.2 test)

    leads_needs : (from next : ℕ) → IsIn next (leads_in p.nodes from) → needs_session p next ≡ true → needs_session p from ≡ true
    leads_needs from next is holds = one (slice_get p.nodes from) refl is
      where
        one : (found : Option Node) → slice_get p.nodes from ≡ found → IsIn next (numbers_of leads_to found) → needs_session p from ≡ true
        one None at is = absurd is
        one (Some node) at is =
            rule from node at
            ∙ or_right (list_any (is_session p.classes) node.declared) (list_any (λ led. needs_session p led.0) (leads_to node))
            (any_led (needs_session p) (leads_to node) next is holds)

    led_needs : (from : ℕ) (between : List NodeNo) (to : ℕ) → IsLed p.nodes from (between ++ record { 0 = to } ∷ []) → needs_session p to ≡ true → needs_session p from ≡ true
    led_needs from [] to (is, _) holds = leads_needs from to is holds
    led_needs from (next ∷ between) to (is, more) holds = leads_needs from next.0 is (led_needs next.0 between to more holds)

    -- what has a reason needs a session
    pub needs_from_needed : (number : ℕ) → IsNeeded p number → needs_session p number ≡ true
    needs_from_needed number needed = one needed.reached
      where
        holds : needs_session p needed.node ≡ true
        holds = declares_needs needed.node needed.declares

        one : (needed.node ≡ number) ⊎ LeadsOn p.nodes number needed.node → needs_session p number ≡ true
        one (inl same) = ap (needs_session p) (sym same) ∙ holds
        one (inr on) = led_needs number on.between needed.node on.led holds
