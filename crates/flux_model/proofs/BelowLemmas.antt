-- What is below a node.
use Rattle.std.proofs.Common.{◌<◌, ℕ, ◌⊎◌, inl, inr, List, [], ◌∷◌, ◌++◌, length, refl, sym, subst}
use Rattle.flux_model.specs.declared.programs.Program.{Program}
use Rattle.flux_model.specs.Leading.{leads_in}
use Rattle.flux_model.specs.Numbered.{IsNumbered}
use Rattle.flux_model.specs.Children.{IsIn, members, handlers, AreHandlers, IsChild, IsWay, IsBelow}
use Rattle.flux_model.proofs.LeadingLemmas.{led_either, member_led, handler_led, led-below_count}

way_then : (p : Program) (from : ℕ) (between : List ℕ) (mid : ℕ) (more : List ℕ) (to : ℕ)
    → IsWay p from between mid → IsWay p mid more to → IsWay p from (between ++ mid ∷ more) to
way_then p from [] mid more to child way = (child, way)
way_then p from (next ∷ between) mid more to (child, first) way =
    (child, way_then p next between mid more to first way)

-- what is below a node that is below another is below that one
pub below-transitive : (p : Program) (a b c : ℕ) → IsBelow p a b → IsBelow p b c → IsBelow p a c
below-transitive p a b c first then = record {
  between = first.between ++ b ∷ then.between;
  way = way_then p a first.between b then.between c first.way then.way;
}

child_member : (p : Program) (parent x : ℕ) → IsIn x (members p parent) → IsChild p parent x
child_member p parent x is = record { member = x; is_member = is; others = []; are_handlers = refl }

-- a node's members are below it
pub below-member : (p : Program) (top x : ℕ) → IsIn x (members p top) → IsBelow p top x
below-member p top x is = record { between = []; way = child_member p top x is }

handlers_then : (p : Program) (from : ℕ) (others : List ℕ) (to x : ℕ) → AreHandlers p from others to
    → IsIn x (handlers p to) → AreHandlers p from (others ++ x ∷ []) x
handlers_then p from [] to x same is =
    (subst (λ (n : ℕ). IsIn x (handlers p n)) (sym same) is, refl)
handlers_then p from (next ∷ others) to x (own, more) is =
    (own, handlers_then p next others to x more is)

way_handler : (p : Program) (from : ℕ) (between : List ℕ) (last x : ℕ) → IsWay p from between last
    → IsIn x (handlers p last) → IsWay p from between x
way_handler p from [] last x child is = record {
  member = child.member;
  is_member = child.is_member;
  others = child.others ++ x ∷ [];
  are_handlers = handlers_then p child.member child.others last x child.are_handlers is;
}
way_handler p from (next ∷ between) last x (child, way) is =
    (child, way_handler p next between last x way is)

-- what a node below another leads to is below that one
pub below-led : (p : Program) (top node x : ℕ) → IsBelow p top node
    → IsIn x (leads_in p.nodes node) → IsBelow p top x
below-led p top node x below is = from (led_either p node x is)
  where
    from : IsIn x (members p node) ⊎ IsIn x (handlers p node) → IsBelow p top x
    from (inl member) = below-transitive p top node x below (below-member p node x member)
    from (inr handler) = record {
      between = below.between;
      way = way_handler p top below.between node x below.way handler;
    }

-- what holds of a node's members, and of all that is led to from where it holds, holds of all
-- that is below the node
pub below-by_leading : (p : Program) (top : ℕ) (Holds : ℕ → Type 0)
    → ((x : ℕ) → IsIn x (members p top) → Holds x)
    → ((x y : ℕ) → Holds x → IsIn y (leads_in p.nodes x) → Holds y)
    → (node : ℕ) → IsBelow p top node → Holds node
below-by_leading p top Holds first more node below = over_way top first below.between node below.way
  where
    over_handlers : (from : ℕ) (others : List ℕ) (to : ℕ) → Holds from
        → AreHandlers p from others to → Holds to
    over_handlers from [] to holds same = subst Holds same holds
    over_handlers from (next ∷ others) to holds (is, handlers) =
        over_handlers next others to (more from next holds (handler_led p from next is)) handlers

    over_child : (from to : ℕ) → ((x : ℕ) → IsIn x (members p from) → Holds x) → IsChild p from to
        → Holds to
    over_child from to first child =
        let holds = first child.member child.is_member in
        over_handlers child.member child.others to holds child.are_handlers

    over_way : (from : ℕ) → ((x : ℕ) → IsIn x (members p from) → Holds x) → (between : List ℕ)
        (to : ℕ) → IsWay p from between to → Holds to
    over_way from first [] to child = over_child from to first child
    over_way from first (next ∷ between) to (child, way) =
        let holds = over_child from next first child in
        over_way next (λ x is. more next x holds (member_led p next x is)) between to way

-- in numbered programs what is below a node is a node
pub below-within : (p : Program) (top node : ℕ) → IsNumbered p → IsBelow p top node
    → node < length p.nodes
below-within p top node numbered below = below-by_leading p top (λ x. x < length p.nodes)
    (λ x is. low top x (member_led p top x is)) (λ x y lt is. low x y is) node below
  where
    low : (from x : ℕ) → IsIn x (leads_in p.nodes from) → x < length p.nodes
    low from x is = led-below_count (length p.nodes) p.nodes from x numbered.nodes is
