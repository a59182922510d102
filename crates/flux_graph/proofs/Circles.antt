-- Nodes that follow one another in a circle.
use Rattle.std.proofs.Common.{◌≡◌, ℕ, ◌⊎◌, inl, inr, List, [], ◌∷◌, ◌++◌, Option, Some, None, refl, sym, ap, subst, ◌∙◌}
use Rattle.std.specs.Prelude.{⊤}
use Rattle.std.proofs.lemmas.List.{append-nil}
use Rattle.flux_model.specs.declared.programs.NodeNo.{NodeNo}
use Rattle.flux_model.specs.declared.programs.Node.{Node}
use Rattle.flux_model.specs.Children.{IsIn}
use Rattle.flux_graph.specs.declared.steps.Step.{Step}
use Rattle.flux_graph.specs.declared.steps.Step.TheVariants.{Enter, Leave}
use Rattle.flux_graph.specs.declared.ordering.Search.{Search}
use Rattle.flux_model.specs.Leading.{leads_in}
use Rattle.flux_model.specs.Visits.{IsKnown}
use Rattle.flux_model.specs.Ordering.{IsLed, HasCycle}
use Rattle.flux_graph.specs.steps.Searching.{leaves_of}
use Rattle.flux_graph.specs.steps.Search.{FollowsOn, AreLed, Holds, with_step}
use Rattle.flux_graph.proofs.Stepping as stepping
use Rattle.flux_graph.proofs.Stepping.{last_of}
use Rattle.flux_graph.proofs.Finding.{leaves_same}

-- ---- nodes that follow one another

-- the last of these nodes, or the one before them
abbrev pub end_of : ℕ → List NodeNo → ℕ
end_of from [] = from
end_of from (n ∷ a) = end_of n.0 a

led_first : (nodes : List Node) (from : ℕ) (a b : List NodeNo) → IsLed nodes from (a ++ b) → IsLed nodes from a
led_first nodes from [] b l = tt
led_first nodes from (n ∷ a) b (own, l) = (own, led_first nodes n.0 a b l)

led_then : (nodes : List Node) (from : ℕ) (a b : List NodeNo) → IsLed nodes from (a ++ b) → IsLed nodes (end_of from a) b
led_then nodes from [] b l = l
led_then nodes from (n ∷ a) b (own, l) = led_then nodes n.0 a b l

-- two parts that are led make a whole that is
pub led_both : (nodes : List Node) (from : ℕ) (a b : List NodeNo) → IsLed nodes from a → IsLed nodes (end_of from a) b → IsLed nodes from (a ++ b)
led_both nodes from [] b l m = m
led_both nodes from (n ∷ a) b (own, l) m = (own, led_both nodes n.0 a b l m)

end_last : (from : ℕ) (a : List NodeNo) (n : NodeNo) → end_of from (a ++ n ∷ []) ≡ n.0
end_last from [] n = refl
end_last from (m ∷ a) n = end_last m.0 a n

-- each but the first is led to from the one before it
abbrev pub IsPath : List Node → List NodeNo → Type 0
IsPath nodes [] = ⊤
IsPath nodes (n ∷ a) = IsLed nodes n.0 a

-- the nodes that were entered and not left lead from one to the next
pub path_led : (nodes : List Node) (from : ℕ) (s : List Step) → AreLed nodes (Some from) s → IsLed nodes from (leaves_of s)
path_led nodes from [] l = tt
path_led nodes from (Enter n ∷ s) (own, l) = path_led nodes from s l
path_led nodes from (Leave n ∷ s) (own, l) = (own, path_led nodes n.0 s l)

steps_path : (nodes : List Node) (s : List Step) → AreLed nodes None s → IsPath nodes (leaves_of s)
steps_path nodes [] l = tt
steps_path nodes (Enter n ∷ s) (own, l) = steps_path nodes s l
steps_path nodes (Leave n ∷ s) (own, l) = path_led nodes n.0 s l

path_from : (nodes : List Node) (a : List NodeNo) (n : NodeNo) (b : List NodeNo) → IsPath nodes (a ++ n ∷ b) → IsLed nodes n.0 b
path_from nodes [] n b p = p
path_from nodes (m ∷ a) n b p = (led_then nodes m.0 a (n ∷ b) p).1

-- the node that was entered last is the last of those that weren't left
pub last_from : (from : ℕ) (s : List Step) → last_of (Some from) s ≡ Some (end_of from (leaves_of s))
last_from from [] = refl
last_from from (Enter n ∷ s) = last_from from s
last_from from (Leave n ∷ s) = last_from n.0 s

-- the last of these nodes, if there is one
abbrev pub end_option : List NodeNo → Option ℕ
end_option [] = None
end_option (n ∷ a) = Some (end_of n.0 a)

last_none : (s : List Step) → last_of None s ≡ end_option (leaves_of s)
last_none [] = refl
last_none (Enter n ∷ s) = last_none s
last_none (Leave n ∷ s) = last_from n.0 s

end_behind : (from : ℕ) (a : List NodeNo) (n : NodeNo) (b : List NodeNo) → end_of from (a ++ n ∷ b) ≡ end_of n.0 b
end_behind from [] n b = refl
end_behind from (m ∷ a) n b = end_behind m.0 a n b

option_behind : (a : List NodeNo) (n : NodeNo) (b : List NodeNo) → end_option (a ++ n ∷ b) ≡ Some (end_of n.0 b)
option_behind [] n b = refl
option_behind (m ∷ a) n b = ap Some (end_behind m.0 a n b)

-- ---- the first with a number

-- the first node of a number, with what is before and after it
pub record First (x : ℕ) (nodes : List NodeNo) : Type 0 where
  pub front : List NodeNo
  pub node : NodeNo
  pub tail : List NodeNo
  pub is : nodes ≡ front ++ node ∷ tail
  pub same : node.0 ≡ x

-- what is among nodes has a first place there
pub first_of : (x : ℕ) (nodes : List NodeNo) → IsIn x nodes → First x nodes
first_of x [] i = absurd i
first_of x (n ∷ nodes) (inl e) = record { front = []; node = n; tail = nodes; is = refl; same = sym e }
first_of x (n ∷ nodes) (inr i) = later (first_of x nodes i)
  where
    later : First x nodes → First x (n ∷ nodes)
    later f = record { front = n ∷ f.front; node = f.node; tail = f.tail; is = ap (λ (l : List NodeNo). n ∷ l) f.is; same = f.same }

-- ---- the circle that a search finds

-- a step into a node that was entered and not left closes a cycle
pub cycle_found : (nodes : List Node) (s : Search) (node : NodeNo) → Holds nodes (with_step s (Enter node)) → IsKnown node.0 s.entered → (IsKnown node.0 s.done → ⊥) → HasCycle nodes
cycle_found nodes s node h known undone = from (first_of node.0 (leaves_of s.steps) (inside (h.known node.0 known)))
  where
    same : leaves_of (s.steps ++ Enter node ∷ []) ≡ leaves_of s.steps
    same = leaves_same s.steps node ∙ append-nil (leaves_of s.steps)

    inside : IsKnown node.0 s.done ⊎ IsIn node.0 (leaves_of (s.steps ++ Enter node ∷ [])) → IsIn node.0 (leaves_of s.steps)
    inside (inl k) = absurd (undone k)
    inside (inr i) = subst (IsIn node.0) same i

    from : First node.0 (leaves_of s.steps) → HasCycle nodes
    from f = (f.node.0, record { between = f.tail; led = led_both nodes f.node.0 f.tail (f.node ∷ []) (path_from nodes f.front f.node f.tail path) (closes, tt) })
      where
        path : IsPath nodes (f.front ++ f.node ∷ f.tail)
        path = subst (IsPath nodes) f.is (steps_path nodes s.steps (stepping.led_front nodes None s.steps (Enter node ∷ []) h.led))

        follows : FollowsOn nodes (last_of None s.steps) node.0
        follows = (stepping.led_back nodes None s.steps (Enter node ∷ []) h.led).0

        ends : last_of None s.steps ≡ Some (end_of f.node.0 f.tail)
        ends = last_none s.steps ∙ ap end_option f.is ∙ option_behind f.front f.node f.tail

        closes : IsIn f.node.0 (leads_in nodes (end_of f.node.0 f.tail))
        closes = subst (λ (n : ℕ). IsIn n (leads_in nodes (end_of f.node.0 f.tail))) (sym f.same) (subst (λ (o : Option ℕ). FollowsOn nodes o node.0) ends follows)
