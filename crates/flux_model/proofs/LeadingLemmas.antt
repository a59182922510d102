-- What nodes lead to: members and handlers, below the count of nodes.
use Rattle.std.proofs.Common.{◌≡◌, ◌<◌, ◌≤◌, ℕ, zero, suc, ◌⊎◌, inl, List, [], ◌∷◌, ◌++◌, length, Option, Some, None, refl, arith}
use Rattle.std.specs.List.{slice_get, AllByRecursion}
use Rattle.flux_model.specs.declared.programs.NodeNo.{NodeNo}
use Rattle.flux_model.specs.declared.programs.Node.{Node}
use Rattle.flux_model.specs.declared.programs.Program.{Program}
use Rattle.flux_model.specs.Leading.{members_of, handlers_of, leads_to, numbers_of, leads_in}
use Rattle.flux_model.specs.Numbered.{AreBelow}
use Rattle.flux_model.specs.Children.{IsIn, members, handlers}
use Rattle.flux_model.specs.Ordering.{IsLed, LeadsOn}
use Rattle.flux_model.proofs.NodeLists.{in_front, in_behind, in_either, in-below_count}

-- what a node leads to is a member or a handler
pub led_either : (p : Program) (from x : ℕ) → IsIn x (leads_in p.nodes from)
    → IsIn x (members p from) ⊎ IsIn x (handlers p from)
led_either p from x is = parts (slice_get p.nodes from) is
  where
    parts : (node : Option Node) → IsIn x (numbers_of leads_to node)
        → IsIn x (numbers_of (λ node. members_of node.body) node)
        ⊎ IsIn x (numbers_of (λ node. handlers_of node.on_fail) node)
    parts None is = inl is
    parts (Some node) is = in_either x (members_of node.body) (handlers_of node.on_fail) is

-- a node leads to its members
pub member_led : (p : Program) (from x : ℕ) → IsIn x (members p from)
    → IsIn x (leads_in p.nodes from)
member_led p from x is = part (slice_get p.nodes from) is
  where
    part : (node : Option Node) → IsIn x (numbers_of (λ node. members_of node.body) node)
        → IsIn x (numbers_of leads_to node)
    part None is = is
    part (Some node) is = in_front x (members_of node.body) (handlers_of node.on_fail) is

-- a node leads to its handlers
pub handler_led : (p : Program) (from x : ℕ) → IsIn x (handlers p from)
    → IsIn x (leads_in p.nodes from)
handler_led p from x is = part (slice_get p.nodes from) is
  where
    part : (node : Option Node) → IsIn x (numbers_of (λ node. handlers_of node.on_fail) node)
        → IsIn x (numbers_of leads_to node)
    part None is = is
    part (Some node) is = in_behind x (members_of node.body) (handlers_of node.on_fail) is

-- in numbered programs what is led to is below the count of nodes
pub led-below_count : (count : ℕ) (nodes : List Node) (from x : ℕ)
    → AllByRecursion (λ node. AreBelow count (leads_to node)) nodes → IsIn x (leads_in nodes from)
    → x < count
led-below_count count [] from x all is = absurd is
led-below_count count (node ∷ nodes) zero x (own, all) is =
    in-below_count count x (leads_to node) own is
led-below_count count (node ∷ nodes) (suc from) x (own, all) is =
    led-below_count count nodes from x all is

-- what is no node leads to nothing
pub leads_in-past : (nodes : List Node) (from : ℕ) → length nodes ≤ from → leads_in nodes from ≡ []
leads_in-past [] from le = refl
leads_in-past (node ∷ nodes) zero le = absurd (omega (arith, le))
leads_in-past (node ∷ nodes) (suc from) le = leads_in-past nodes from (omega (arith, le))

-- what leads to something is a node
pub leads-within : (nodes : List Node) (from x : ℕ) → IsIn x (leads_in nodes from)
    → from < length nodes
leads-within [] from x is = absurd is
leads-within (node ∷ nodes) zero x is = omega arith
leads-within (node ∷ nodes) (suc from) x is = omega (arith, leads-within nodes from x is)

-- what leads on to something is a node
pub leads_on-within : (nodes : List Node) (from to : ℕ) → LeadsOn nodes from to
    → from < length nodes
leads_on-within nodes from to on = begins on.between on.led
  where
    begins : (between : List NodeNo) → IsLed nodes from (between ++ record { 0 = to } ∷ [])
        → from < length nodes
    begins [] led = leads-within nodes from to led.0
    begins (m ∷ between) led = leads-within nodes from m.0 led.0
