-- What holds of a search goes on holding as nodes are entered and left.
use Rattle.std.proofs.Common.{◌≡◌, ◌<◌, ℕ, true, false, Bool, ◌||◌, ◌⊎◌, inl, inr, List, [], ◌∷◌, ◌++◌, length, Option, Some, None, refl, sym, ap, subst, ◌∙◌, eqb, arith, append_assoc}
use Rattle.std.proofs.lemmas.List.{append-nil}
use Rattle.std.specs.List.{list_any, IsDistinct, AllByRecursion}
use Rattle.std.proofs.lemmas.Bool.Decides.{nat_tests}
use Rattle.flux_model.specs.declared.programs.NodeNo.{NodeNo}
use Rattle.flux_model.specs.declared.programs.Node.{Node}
use Rattle.flux_model.specs.Leading.{leads_in}
use Rattle.flux_model.specs.Children.{IsIn}
use Rattle.flux_graph.specs.declared.steps.Step.{Step}
use Rattle.flux_graph.specs.declared.steps.Step.TheVariants.{Enter, Leave}
use Rattle.flux_graph.specs.declared.ordering.Search.{Search}
use Rattle.flux_model.specs.Visits.{IsKnown, with_number}
use Rattle.flux_model.specs.Ordering.{AreDistinct}
use Rattle.flux_graph.specs.steps.Searching.{enters, leaves_of}
use Rattle.flux_graph.specs.steps.Search.{LeadToNodes, HasStep, Covered, FollowsOn, AreLed, Holds, left, entered, with_step}
use Rattle.flux_model.proofs.Visiting.{known_or, known_more, known_new}
use Rattle.flux_model.proofs.LeadingLemmas.{led-below_count}
use Rattle.flux_model.proofs.NodeLists.{in_front, in_behind, in_either}
use Rattle.flux_graph.proofs.Stepping as stepping
use Rattle.flux_graph.proofs.Stepping.{IsReplaced, last_of}
use Rattle.flux_graph.proofs.Finding.{after_more, roots_on, gone, grown, leaves_with, leaves_same}

in_same : (x : ℕ) (a b : List NodeNo) → a ≡ b → IsIn x a → IsIn x b
in_same x a b e i = subst (IsIn x) e i

-- ---- a step that has nothing to do

-- a step into a node that was left is passed over
pub skipped : (nodes : List Node) (s : Search) (node : NodeNo) → Holds nodes (with_step s (Enter node)) → IsKnown node.0 s.done → Holds nodes s
skipped nodes s node h k = record {
  roots = λ x lt. subst (λ (t : List Step). IsIn x s.order ⊎ HasStep x t) (append-nil s.steps) (roots_on nodes s.order s.order s.steps old [] (λ y i. i) replaced h.roots x lt);
  covered = subst (Covered nodes s.order) (append-nil s.steps) (stepping.covered_on nodes s.order s.order s.steps old [] (λ y i. i) replaced h.covered tt);
  led = stepping.led_front nodes None s.steps old h.led;
  leaves = subst AreDistinct same h.leaves;
  after = h.after;
  known = λ x i. kept x (h.known x i);
  done = h.done;
  ordered = h.ordered;
  entered = λ x i. h.entered x (in_same x (leaves_of s.steps) (leaves_of (s.steps ++ old)) (sym same) i);
  apart = λ x i j. h.apart x i (in_same x (leaves_of s.steps) (leaves_of (s.steps ++ old)) (sym same) j);
  unique = h.unique;
  within = h.within;
}
  where
    old : List Step
    old = Enter node ∷ []

    same : leaves_of (s.steps ++ Enter node ∷ []) ≡ leaves_of s.steps
    same = leaves_same s.steps node ∙ append-nil (leaves_of s.steps)

    replaced : (x : ℕ) → HasStep x (Enter node ∷ []) → IsIn x s.order ⊎ HasStep x []
    replaced x i = gone node s.order (h.done node.0 k) x i

    kept : (x : ℕ) → IsKnown x s.done ⊎ IsIn x (leaves_of (s.steps ++ Enter node ∷ [])) → IsKnown x s.done ⊎ IsIn x (leaves_of s.steps)
    kept x (inl i) = inl i
    kept x (inr i) = inr (in_same x (leaves_of (s.steps ++ Enter node ∷ [])) (leaves_of s.steps) same i)

-- ---- a node is left

-- a node is exited, and is in the order
pub node_left : (nodes : List Node) (s : Search) (node : NodeNo) → Holds nodes (with_step s (Leave node)) → Holds nodes (left s node)
node_left nodes s node h = record {
  roots = λ x lt. subst (λ (t : List Step). IsIn x later ⊎ HasStep x t) (append-nil s.steps) (roots_on nodes s.order later s.steps old [] (grown s.order node) replaced h.roots x lt);
  covered = subst (Covered nodes later) (append-nil s.steps) (stepping.covered_on nodes s.order later s.steps old [] (grown s.order node) replaced h.covered tt);
  led = stepping.led_front nodes None s.steps old h.led;
  leaves = stepping.distinct_front (leaves_of s.steps) (node ∷ []) both;
  after = after_more nodes [] s.order node h.after (h.within node.0 (h.entered node.0 inside)) (λ i. i) (λ i. h.apart node.0 i inside) (λ x i. inl (stepping.covered_last nodes s.order s.steps node h.covered x i));
  known = λ x i. kept x (h.known x i);
  done = λ x k. finished x (known_or x s.done node.0 k);
  ordered = λ x i. listed x (in_either x s.order (node ∷ []) i);
  entered = λ x i. h.entered x (back x (in_front x (leaves_of s.steps) (node ∷ []) i));
  apart = λ x i j. other x j (in_either x s.order (node ∷ []) i);
  unique = h.unique;
  within = h.within;
}
  where
    old : List Step
    old = Leave node ∷ []

    later : List NodeNo
    later = s.order ++ node ∷ []

    both : AreDistinct (leaves_of s.steps ++ node ∷ [])
    both = subst AreDistinct (leaves_with s.steps node) h.leaves

    back : (x : ℕ) → IsIn x (leaves_of s.steps ++ node ∷ []) → IsIn x (leaves_of (s.steps ++ Leave node ∷ []))
    back x i = in_same x (leaves_of s.steps ++ node ∷ []) (leaves_of (s.steps ++ Leave node ∷ [])) (sym (leaves_with s.steps node)) i

    inside : IsIn node.0 (leaves_of (s.steps ++ Leave node ∷ []))
    inside = back node.0 (in_behind node.0 (leaves_of s.steps) (node ∷ []) (inl refl))

    replaced : (x : ℕ) → HasStep x (Leave node ∷ []) → IsIn x (s.order ++ node ∷ []) ⊎ HasStep x []
    replaced x (inl e) = inl (in_behind x s.order (node ∷ []) (inl e))
    replaced x (inr i) = absurd i

    own : (x : ℕ) → IsIn x (node ∷ []) → x ≡ node.0
    own x (inl e) = e
    own x (inr i) = absurd i

    stays : (x : ℕ) → IsIn x (leaves_of s.steps) ⊎ IsIn x (node ∷ []) → IsKnown x (with_number s.done node.0) ⊎ IsIn x (leaves_of s.steps)
    stays x (inl i) = inr i
    stays x (inr i) = inl (subst (λ (n : ℕ). IsKnown n (with_number s.done node.0)) (sym (own x i)) (known_new s.done node.0))

    kept : (x : ℕ) → IsKnown x s.done ⊎ IsIn x (leaves_of (s.steps ++ Leave node ∷ [])) → IsKnown x (with_number s.done node.0) ⊎ IsIn x (leaves_of s.steps)
    kept x (inl i) = inl (known_more x s.done node.0 i)
    kept x (inr i) = stays x (in_either x (leaves_of s.steps) (node ∷ []) (in_same x (leaves_of (s.steps ++ Leave node ∷ [])) (leaves_of s.steps ++ node ∷ []) (leaves_with s.steps node) i))

    finished : (x : ℕ) → IsKnown x s.done ⊎ (x ≡ node.0) → IsIn x (s.order ++ node ∷ [])
    finished x (inl k) = grown s.order node x (h.done x k)
    finished x (inr e) = in_behind x s.order (node ∷ []) (inl e)

    listed : (x : ℕ) → IsIn x s.order ⊎ IsIn x (node ∷ []) → IsKnown x s.entered
    listed x (inl i) = h.ordered x i
    listed x (inr i) = subst (λ (n : ℕ). IsKnown n s.entered) (sym (own x i)) (h.entered node.0 inside)

    other : (x : ℕ) → IsIn x (leaves_of s.steps) → IsIn x s.order ⊎ IsIn x (node ∷ []) → ⊥
    other x j (inl i) = h.apart x i (back x (in_front x (leaves_of s.steps) (node ∷ []) j))
    other x j (inr i) = stepping.distinct_apart (leaves_of s.steps) node both (subst (λ (n : ℕ). IsIn n (leaves_of s.steps)) (own x i) j)

-- ---- a node is entered

-- what a search reaches is a node
pub follows_below : (nodes : List Node) (from : Option ℕ) (x : ℕ) → LeadToNodes nodes → FollowsOn nodes from x → x < length nodes
follows_below nodes None x all f = f
follows_below nodes (Some from) x all f = led-below_count (length nodes) nodes from x all f

unlike_more : (v : List ℕ) (m n : ℕ) → AllByRecursion (λ y. eqb m y ≡ false) v → eqb m n ≡ false → AllByRecursion (λ y. eqb m y ≡ false) (v ++ n ∷ [])
unlike_more [] m n all e = (e, tt)
unlike_more (x ∷ v) m n (own, all) e = (own, unlike_more v m n all e)

distinct_snoc : (v : List ℕ) (n : ℕ) → IsDistinct eqb v → list_any (eqb n) v ≡ false → IsDistinct eqb (v ++ n ∷ [])
unfolding IsDistinct
distinct_snoc [] n d e = (tt, tt)
distinct_snoc (m ∷ v) n (own, d) e = parts (eqb n m) (list_any (eqb n) v) refl refl e (distinct_snoc v n d)
  where
    parts : (p q : Bool) → eqb n m ≡ p → list_any (eqb n) v ≡ q → (p || q) ≡ false → (list_any (eqb n) v ≡ false → IsDistinct eqb (v ++ n ∷ [])) → IsDistinct eqb (m ∷ v ++ n ∷ [])
    parts true q i j o more = absurd cc
    parts false true i j o more = absurd cc
    parts false false i j o more = let turned : eqb m n ≡ false = grind (arith, nat_tests, i) in (unlike_more v m n own turned, more j)

-- distinct numbers stay so where one is added
pub distinct_more : (v : List ℕ) (n : ℕ) → IsDistinct eqb v → IsDistinct eqb (with_number v n)
distinct_more v n d = one (list_any (eqb n) v) refl
  where
    one : (t : Bool) → list_any (eqb n) v ≡ t → IsDistinct eqb (with_number v n)
    one true e = rw e d
    one false e = rw e (distinct_snoc v n d e)

-- a new node is entered
pub node_entered : (nodes : List Node) (s : Search) (node : NodeNo) → LeadToNodes nodes → Holds nodes (with_step s (Enter node)) → list_any (eqb node.0) s.entered ≡ false → Holds nodes (entered nodes s node)
node_entered nodes s node all h new = record {
  roots = λ x lt. subst (λ (t : List Step). IsIn x s.order ⊎ HasStep x t) joined (roots_on nodes s.order s.order s.steps old next (λ y i. i) replaced h.roots x lt);
  covered = subst (Covered nodes s.order) joined (stepping.covered_on nodes s.order s.order s.steps old next (λ y i. i) replaced h.covered (λ x i. inr (stepping.step_into x into i), stepping.covered_enters nodes s.order into));
  led = subst (AreLed nodes None) joined (stepping.led_join nodes None s.steps next (stepping.led_front nodes None s.steps old h.led) (follows, stepping.led_enters nodes node.0 into (λ x i. i)));
  leaves = subst AreDistinct (sym same) (stepping.distinct_last (leaves_of s.steps) node (subst AreDistinct before h.leaves) (λ i. unknown (h.entered node.0 (back node.0 i))));
  after = h.after;
  known = λ x k. kept x (known_or x s.entered node.0 k);
  done = h.done;
  ordered = λ x i. known_more x s.entered node.0 (h.ordered x i);
  entered = λ x i. opened x (in_either x (leaves_of s.steps) (node ∷ []) (subst (IsIn x) same i));
  apart = λ x i j. other x i (in_either x (leaves_of s.steps) (node ∷ []) (subst (IsIn x) same j));
  unique = distinct_more s.entered node.0 h.unique;
  within = λ x k. bounded x (known_or x s.entered node.0 k);
}
  where
    old : List Step
    old = Enter node ∷ []

    into : List NodeNo
    into = leads_in nodes node.0

    next : List Step
    next = Leave node ∷ enters into

    joined : (s.steps ++ Leave node ∷ enters (leads_in nodes node.0)) ≡ ((s.steps ++ Leave node ∷ []) ++ enters (leads_in nodes node.0))
    joined = sym (append_assoc s.steps (Leave node ∷ []) (enters into))

    before : leaves_of (s.steps ++ Enter node ∷ []) ≡ leaves_of s.steps
    before = leaves_same s.steps node ∙ append-nil (leaves_of s.steps)

    same : leaves_of ((s.steps ++ Leave node ∷ []) ++ enters (leads_in nodes node.0)) ≡ leaves_of s.steps ++ node ∷ []
    same = stepping.leaves_append (s.steps ++ Leave node ∷ []) (enters into) ∙ rw (stepping.leaves_enters into) (append-nil (leaves_of (s.steps ++ Leave node ∷ [])) ∙ leaves_with s.steps node)

    follows : FollowsOn nodes (last_of None s.steps) node.0
    follows = (stepping.led_back nodes None s.steps old h.led).0

    below : node.0 < length nodes
    below = follows_below nodes (last_of None s.steps) node.0 all follows

    unknown : IsKnown node.0 s.entered → ⊥
    unknown k = differ (sym new ∙ k)
      where
        differ : false ≡ true → ⊥
        differ e = absurd cc

    back : (x : ℕ) → IsIn x (leaves_of s.steps) → IsIn x (leaves_of (s.steps ++ Enter node ∷ []))
    back x i = in_same x (leaves_of s.steps) (leaves_of (s.steps ++ Enter node ∷ [])) (sym before) i

    replaced : (x : ℕ) → HasStep x (Enter node ∷ []) → IsIn x s.order ⊎ HasStep x (Leave node ∷ enters (leads_in nodes node.0))
    replaced x (inl e) = inr (inl e)
    replaced x (inr i) = absurd i

    own : (x : ℕ) → IsIn x (node ∷ []) → x ≡ node.0
    own x (inl e) = e
    own x (inr i) = absurd i

    there : (x : ℕ) → IsIn x (leaves_of s.steps ++ node ∷ []) → IsIn x (leaves_of ((s.steps ++ Leave node ∷ []) ++ enters (leads_in nodes node.0)))
    there x i = subst (IsIn x) (sym same) i

    was : (x : ℕ) → IsKnown x s.done ⊎ IsIn x (leaves_of (s.steps ++ Enter node ∷ [])) → IsKnown x s.done ⊎ IsIn x (leaves_of ((s.steps ++ Leave node ∷ []) ++ enters (leads_in nodes node.0)))
    was x (inl i) = inl i
    was x (inr i) = inr (there x (in_front x (leaves_of s.steps) (node ∷ []) (subst (IsIn x) before i)))

    kept : (x : ℕ) → IsKnown x s.entered ⊎ (x ≡ node.0) → IsKnown x s.done ⊎ IsIn x (leaves_of ((s.steps ++ Leave node ∷ []) ++ enters (leads_in nodes node.0)))
    kept x (inl k) = was x (h.known x k)
    kept x (inr e) = inr (there x (in_behind x (leaves_of s.steps) (node ∷ []) (inl e)))

    opened : (x : ℕ) → IsIn x (leaves_of s.steps) ⊎ IsIn x (node ∷ []) → IsKnown x (with_number s.entered node.0)
    opened x (inl i) = known_more x s.entered node.0 (h.entered x (back x i))
    opened x (inr i) = subst (λ (n : ℕ). IsKnown n (with_number s.entered node.0)) (sym (own x i)) (known_new s.entered node.0)

    other : (x : ℕ) → IsIn x s.order → IsIn x (leaves_of s.steps) ⊎ IsIn x (node ∷ []) → ⊥
    other x i (inl j) = h.apart x i (back x j)
    other x i (inr j) = unknown (subst (λ (n : ℕ). IsKnown n s.entered) (own x j) (h.ordered x i))

    bounded : (x : ℕ) → IsKnown x s.entered ⊎ (x ≡ node.0) → x < length nodes
    bounded x (inl k) = h.within x k
    bounded x (inr e) = subst (λ (n : ℕ). n < length nodes) (sym e) below

-- ---- the last step is taken

-- the search with other steps
abbrev pub without : Search → List Step → Search
without s rest = record { steps = rest; entered = s.entered; done = s.done; order = s.order }

-- the search with its last step taken apart
pub step_taken : (nodes : List Node) (s : Search) (rest : List Step) (step : Step) → s.steps ≡ rest ++ step ∷ [] → Holds nodes s → Holds nodes (with_step (without s rest) step)
step_taken nodes s rest step e h = subst (Holds nodes) same h
  where
    same : s ≡ with_step (without s rest) step
    same = ap (λ (t : List Step). without s t) e

-- a last step that exits a node was taken
pub took_leave : (nodes : List Node) (s new : Search) (rest : List Step) (step : Step) (node : NodeNo) → s.steps ≡ rest ++ step ∷ [] → step ≡ Leave node → new ≡ left (without s rest) node → Holds nodes s → Holds nodes new
took_leave nodes s new rest step node e is gives h = subst (Holds nodes) (sym gives) (node_left nodes (without s rest) node (subst (λ (t : Step). Holds nodes (with_step (without s rest) t)) is (step_taken nodes s rest step e h)))

-- a last step into a node that was left was taken
pub took_known : (nodes : List Node) (s : Search) (rest : List Step) (step : Step) (node : NodeNo) → s.steps ≡ rest ++ step ∷ [] → step ≡ Enter node → IsKnown node.0 s.done → Holds nodes s → Holds nodes (without s rest)
took_known nodes s rest step node e is k h = skipped nodes (without s rest) node (subst (λ (t : Step). Holds nodes (with_step (without s rest) t)) is (step_taken nodes s rest step e h)) k

-- a last step into a node was taken
pub took_enter : (nodes : List Node) (s : Search) (rest : List Step) (step : Step) (node : NodeNo) → s.steps ≡ rest ++ step ∷ [] → step ≡ Enter node → Holds nodes s → Holds nodes (with_step (without s rest) (Enter node))
took_enter nodes s rest step node e is h = subst (λ (t : Step). Holds nodes (with_step (without s rest) t)) is (step_taken nodes s rest step e h)

-- a number that isn't found among numbers isn't among them
pub not_known : (x : ℕ) (v : List ℕ) → list_any (eqb x) v ≡ false → IsKnown x v → ⊥
not_known x v unknown k = differ (sym unknown ∙ k)
  where
    differ : false ≡ true → ⊥
    differ e = absurd cc
