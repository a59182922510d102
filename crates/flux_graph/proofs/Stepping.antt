-- Steps into nodes, and what holds of steps as they come and go.
use Rattle.std.proofs.Common.{◌≡◌, ℕ, ◌⊎◌, inl, inr, List, [], ◌∷◌, ◌++◌, Option, Some, refl, sym, ap}
use Rattle.flux_model.specs.declared.programs.NodeNo.{NodeNo}
use Rattle.flux_model.specs.declared.programs.Node.{Node}
use Rattle.flux_model.specs.Children.{IsIn}
use Rattle.flux_model.proofs.NodeLists.{in_front, in_behind, in_either}
use Rattle.flux_graph.specs.declared.steps.Step.{Step}
use Rattle.flux_graph.specs.declared.steps.Step.TheVariants.{Enter, Leave}
use Rattle.flux_model.specs.Leading.{leads_in}
use Rattle.flux_model.specs.Ordering.{AreDistinct}
use Rattle.flux_graph.specs.steps.Searching.{enters, leaves_of}
use Rattle.flux_graph.specs.steps.Search.{HasStep, Covered, AreLed}

-- ---- steps into nodes

-- steps into two lists of nodes
pub enters_append : (a b : List NodeNo) → enters (a ++ b) ≡ enters a ++ enters b
enters_append [] b = refl
enters_append (n ∷ a) b = ap (λ (s : List Step). Enter n ∷ s) (enters_append a b)

-- ---- nodes with a step

-- a node with a step has one among more steps
pub step_before : (x : ℕ) (a b : List Step) → HasStep x a → HasStep x (a ++ b)
step_before x [] b h = absurd h
step_before x (Enter n ∷ a) b (inl e) = inl e
step_before x (Enter n ∷ a) b (inr h) = inr (step_before x a b h)
step_before x (Leave n ∷ a) b (inl e) = inl e
step_before x (Leave n ∷ a) b (inr h) = inr (step_before x a b h)

-- so it has with others before
pub step_behind : (x : ℕ) (a b : List Step) → HasStep x b → HasStep x (a ++ b)
step_behind x [] b h = h
step_behind x (Enter n ∷ a) b h = inr (step_behind x a b h)
step_behind x (Leave n ∷ a) b h = inr (step_behind x a b h)

-- a node with a step has it among the first or the last of them
pub step_either : (x : ℕ) (a b : List Step) → HasStep x (a ++ b) → HasStep x a ⊎ HasStep x b
step_either x [] b h = inr h
step_either x (Enter n ∷ a) b (inl e) = inl (inl e)
step_either x (Enter n ∷ a) b (inr h) = more (step_either x a b h)
  where
    more : HasStep x a ⊎ HasStep x b → HasStep x (Enter n ∷ a) ⊎ HasStep x b
    more (inl h) = inl (inr h)
    more (inr h) = inr h
step_either x (Leave n ∷ a) b (inl e) = inl (inl e)
step_either x (Leave n ∷ a) b (inr h) = more (step_either x a b h)
  where
    more : HasStep x a ⊎ HasStep x b → HasStep x (Leave n ∷ a) ⊎ HasStep x b
    more (inl h) = inl (inr h)
    more (inr h) = inr h

-- each of these nodes has a step into it
pub step_into : (x : ℕ) (nodes : List NodeNo) → IsIn x nodes → HasStep x (enters nodes)
step_into x [] i = absurd i
step_into x (n ∷ nodes) (inl e) = inl e
step_into x (n ∷ nodes) (inr i) = inr (step_into x nodes i)

-- ---- what is covered

-- where each node with one of the old last steps is in the order now, or has one of the new last steps
abbrev pub IsReplaced : List NodeNo → List Step → List Step → Type 0
IsReplaced order old new = (x : ℕ) → HasStep x old → IsIn x order ⊎ HasStep x new

-- what is covered stays so where the last steps are replaced
pub covered_on : (nodes : List Node) (order later : List NodeNo) (s old new : List Step) → ((x : ℕ) → IsIn x order → IsIn x later) → IsReplaced later old new → Covered nodes order (s ++ old) → Covered nodes later new → Covered nodes later (s ++ new)
covered_on nodes order later [] old new grows replaced c n = n
covered_on nodes order later (Enter node ∷ s) old new grows replaced c n = covered_on nodes order later s old new grows replaced c n
covered_on nodes order later (Leave node ∷ s) old new grows replaced (own, c) n = (λ x i. from x (own x i), covered_on nodes order later s old new grows replaced c n)
  where
    last : (x : ℕ) → IsIn x later ⊎ HasStep x new → IsIn x later ⊎ HasStep x (s ++ new)
    last x (inl i) = inl i
    last x (inr h) = inr (step_behind x s new h)

    either : (x : ℕ) → HasStep x s ⊎ HasStep x old → IsIn x later ⊎ HasStep x (s ++ new)
    either x (inl h) = inr (step_before x s new h)
    either x (inr h) = last x (replaced x h)

    from : (x : ℕ) → IsIn x order ⊎ HasStep x (s ++ old) → IsIn x later ⊎ HasStep x (s ++ new)
    from x (inl i) = inl (grows x i)
    from x (inr h) = either x (step_either x s old h)

-- all that the last node to be left leads to is in the order
pub covered_last : (nodes : List Node) (order : List NodeNo) (s : List Step) (node : NodeNo) → Covered nodes order (s ++ Leave node ∷ []) → (x : ℕ) → IsIn x (leads_in nodes node.0) → IsIn x order
covered_last nodes order [] node (own, c) x i = only (own x i)
  where
    only : IsIn x order ⊎ HasStep x [] → IsIn x order
    only (inl i) = i
    only (inr h) = absurd h
covered_last nodes order (Enter n ∷ s) node c x i = covered_last nodes order s node c x i
covered_last nodes order (Leave n ∷ s) node (own, c) x i = covered_last nodes order s node c x i

-- steps into nodes leave nothing to be covered
pub covered_enters : (nodes : List Node) (order into : List NodeNo) → Covered nodes order (enters into)
covered_enters nodes order [] = tt
covered_enters nodes order (n ∷ into) = covered_enters nodes order into

-- ---- what leads to what

-- the node that was entered last
abbrev pub last_of : Option ℕ → List Step → Option ℕ
last_of from [] = from
last_of from (Enter node ∷ steps) = last_of from steps
last_of from (Leave node ∷ steps) = last_of (Some node.0) steps

-- steps that are led are so without the last of them
pub led_front : (nodes : List Node) (from : Option ℕ) (a b : List Step) → AreLed nodes from (a ++ b) → AreLed nodes from a
led_front nodes from [] b l = tt
led_front nodes from (Enter n ∷ a) b (own, l) = (own, led_front nodes from a b l)
led_front nodes from (Leave n ∷ a) b (own, l) = (own, led_front nodes (Some n.0) a b l)

-- the last of them are led from the node that was entered last
pub led_back : (nodes : List Node) (from : Option ℕ) (a b : List Step) → AreLed nodes from (a ++ b) → AreLed nodes (last_of from a) b
led_back nodes from [] b l = l
led_back nodes from (Enter n ∷ a) b (own, l) = led_back nodes from a b l
led_back nodes from (Leave n ∷ a) b (own, l) = led_back nodes (Some n.0) a b l

-- two parts that are led make a whole that is
pub led_join : (nodes : List Node) (from : Option ℕ) (a b : List Step) → AreLed nodes from a → AreLed nodes (last_of from a) b → AreLed nodes from (a ++ b)
led_join nodes from [] b l m = m
led_join nodes from (Enter n ∷ a) b (own, l) m = (own, led_join nodes from a b l m)
led_join nodes from (Leave n ∷ a) b (own, l) m = (own, led_join nodes (Some n.0) a b l m)

-- steps into what a node leads to are led from it
pub led_enters : (nodes : List Node) (node : ℕ) (into : List NodeNo) → ((x : ℕ) → IsIn x into → IsIn x (leads_in nodes node)) → AreLed nodes (Some node) (enters into)
led_enters nodes node [] all = tt
led_enters nodes node (n ∷ into) all = (all n.0 (inl refl), led_enters nodes node into (λ x i. all x (inr i)))

-- ---- what was entered and not left

-- the nodes that are to be left, in two parts
pub leaves_append : (a b : List Step) → leaves_of (a ++ b) ≡ leaves_of a ++ leaves_of b
leaves_append [] b = refl
leaves_append (Enter n ∷ a) b = leaves_append a b
leaves_append (Leave n ∷ a) b = ap (λ (s : List NodeNo). n ∷ s) (leaves_append a b)

-- steps into nodes leave none
pub leaves_enters : (into : List NodeNo) → leaves_of (enters into) ≡ []
leaves_enters [] = refl
leaves_enters (n ∷ into) = leaves_enters into

-- distinct nodes stay so without the last of them
pub distinct_front : (a b : List NodeNo) → AreDistinct (a ++ b) → AreDistinct a
distinct_front [] b d = tt
distinct_front (n ∷ a) b (own, d) = (λ i. own (in_front n.0 a b i), distinct_front a b d)

-- distinct nodes stay so with a new one after them
pub distinct_last : (a : List NodeNo) (node : NodeNo) → AreDistinct a → (IsIn node.0 a → ⊥) → AreDistinct (a ++ node ∷ [])
distinct_last [] node d new = (λ i. i, tt)
distinct_last (n ∷ a) node (own, d) new = (λ i. from (in_either n.0 a (node ∷ []) i), distinct_last a node d (λ i. new (inr i)))
  where
    same : (n.0 ≡ node.0) ⊎ IsIn n.0 [] → ⊥
    same (inl e) = new (inl (sym e))
    same (inr i) = i

    from : IsIn n.0 a ⊎ IsIn n.0 (node ∷ []) → ⊥
    from (inl i) = own i
    from (inr i) = same i

-- the last of distinct nodes isn't among those before it
pub distinct_apart : (a : List NodeNo) (node : NodeNo) → AreDistinct (a ++ node ∷ []) → IsIn node.0 a → ⊥
distinct_apart [] node d i = i
distinct_apart (n ∷ a) node (own, d) (inl e) = own (in_behind n.0 a (node ∷ []) (inl (sym e)))
distinct_apart (n ∷ a) node (own, d) (inr i) = distinct_apart a node d i
