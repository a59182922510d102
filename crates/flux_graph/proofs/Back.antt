-- A search for a way back finds one where there is one, and the lowest number that has one is that of all cycles.
use Rattle.std.proofs.Common.{◌≡◌, ◌<◌, ◌≤◌, ◌+◌, ◌-◌, ℕ, false, ◌⊎◌, inl, inr, List, [], ◌∷◌, ◌++◌, length, Option, Some, None, refl, sym, ap, subst, ◌∙◌, eqb, arith, append_assoc}
use Rattle.std.proofs.lemmas.List.{append-nil}
use Rattle.std.proofs.lemmas.Map.Steps.{length-le_from_distinct_below}
use Rattle.std.specs.List.{list_any}
use Rattle.flux_model.specs.declared.programs.NodeNo.{NodeNo}
use Rattle.flux_model.specs.declared.programs.Node.{Node}
use Rattle.flux_model.specs.Leading.{leads_in}
use Rattle.flux_model.specs.Children.{IsIn}
use Rattle.flux_graph.specs.declared.steps.Step.{Step}
use Rattle.flux_graph.specs.declared.steps.Step.TheVariants.{Enter, Leave}
use Rattle.flux_graph.specs.declared.returning.Return.{Return}
use Rattle.flux_model.specs.Visits.{IsKnown, with_number}
use Rattle.flux_model.specs.Ordering.{AreDistinct, IsLed, LeadsOn, HasCycle, IsLowestCycle}
use Rattle.flux_graph.specs.steps.Searching.{enters, leaves_of}
use Rattle.flux_graph.specs.steps.Search.{LeadToNodes, FollowsOn, AreLed}
use Rattle.flux_graph.specs.steps.Returning.{IsAhead, BeginsWith, moved, and_step, Seeks, IsAfter, IsWayBack}
use Rattle.flux_model.proofs.Visiting.{known_or, known_more, known_new}
use Rattle.std.proofs.Math.Nat.{eq-or-lt_of_le}
use Rattle.std.proofs.lemmas.Bool.{cases_lt}
use Rattle.flux_model.proofs.LeadingLemmas.{leads_on-within}
use Rattle.flux_model.proofs.NodeLists.{in_front, in_either}
use Rattle.flux_graph.proofs.Stepping as stepping
use Rattle.flux_graph.proofs.Stepping.{last_of}
use Rattle.flux_graph.proofs.Finding.{leaves_with, leaves_same}
use Rattle.flux_graph.proofs.Moves.{follows_below, distinct_more, not_known}
use Rattle.flux_graph.proofs.Circles.{end_of, led_both, path_led, last_from}
use Rattle.flux_graph.proofs.Ends.{entered_grows, none_twice, none_known}

-- ---- nodes ahead

ahead_before : (x : ℕ) (a b : List Step) → IsAhead x a → IsAhead x (a ++ b)
ahead_before x [] b h = absurd h
ahead_before x (Enter n ∷ a) b (inl e) = inl e
ahead_before x (Enter n ∷ a) b (inr h) = inr (ahead_before x a b h)
ahead_before x (Leave n ∷ a) b h = ahead_before x a b h

ahead_behind : (x : ℕ) (a b : List Step) → IsAhead x b → IsAhead x (a ++ b)
ahead_behind x [] b h = h
ahead_behind x (Enter n ∷ a) b h = inr (ahead_behind x a b h)
ahead_behind x (Leave n ∷ a) b h = ahead_behind x a b h

ahead_either : (x : ℕ) (a b : List Step) → IsAhead x (a ++ b) → IsAhead x a ⊎ IsAhead x b
ahead_either x [] b h = inr h
ahead_either x (Enter n ∷ a) b (inl e) = inl (inl e)
ahead_either x (Enter n ∷ a) b (inr h) = more (ahead_either x a b h)
  where
    more : IsAhead x a ⊎ IsAhead x b → IsAhead x (Enter n ∷ a) ⊎ IsAhead x b
    more (inl h) = inl (inr h)
    more (inr h) = inr h
ahead_either x (Leave n ∷ a) b h = ahead_either x a b h

ahead_into : (x : ℕ) (into : List NodeNo) → IsIn x into → IsAhead x (enters into)
ahead_into x [] i = absurd i
ahead_into x (n ∷ into) (inl e) = inl e
ahead_into x (n ∷ into) (inr i) = inr (ahead_into x into i)

-- ---- the first step

begins_front : (start : NodeNo) (a b : List Step) → BeginsWith start (a ++ b) → BeginsWith start a
begins_front start [] b e = tt
begins_front start (step ∷ a) b e = e

no_enter : (start node : NodeNo) → Enter node ≡ Leave start → ⊥
no_enter start node e = absurd cc

begins_on : (start node : NodeNo) (a b : List Step) → BeginsWith start (a ++ Enter node ∷ []) → BeginsWith start (a ++ b)
begins_on start node [] b e = absurd (no_enter start node e)
begins_on start node (step ∷ a) b e = e

-- ---- moves

-- a step that exits a node is passed over
pub passed_leave : (nodes : List Node) (start : NodeNo) (s : Return) (node : NodeNo) → Seeks nodes start (and_step s (Leave node)) → Seeks nodes start s
passed_leave nodes start s node h = record {
  led = stepping.led_front nodes None s.steps (Leave node ∷ []) h.led;
  leaves = stepping.distinct_front (leaves_of s.steps) (node ∷ []) (subst AreDistinct (leaves_with s.steps node) h.leaves);
  begins = begins_front start s.steps (Leave node ∷ []) h.begins;
  inside = λ x i. h.inside x (subst (IsIn x) (sym (leaves_with s.steps node)) (in_front x (leaves_of s.steps) (node ∷ []) i));
  covered = λ x y k i. from y (h.covered x y k i);
  unique = h.unique;
  within = h.within;
  started = h.started;
}
  where
    either : (y : ℕ) → IsAhead y s.steps ⊎ IsAhead y (Leave node ∷ []) → (IsKnown y s.entered × (y ≡ start.0 → ⊥)) ⊎ IsAhead y s.steps
    either y (inl a) = inr a
    either y (inr a) = absurd a

    from : (y : ℕ) → (IsKnown y s.entered × (y ≡ start.0 → ⊥)) ⊎ IsAhead y (s.steps ++ Leave node ∷ []) → (IsKnown y s.entered × (y ≡ start.0 → ⊥)) ⊎ IsAhead y s.steps
    from y (inl k) = inl k
    from y (inr a) = either y (ahead_either y s.steps (Leave node ∷ []) a)

-- a step into a node that has been entered is passed over, but for the start
pub passed_known : (nodes : List Node) (start : NodeNo) (s : Return) (node : NodeNo) → Seeks nodes start (and_step s (Enter node)) → (node.0 ≡ start.0 → ⊥) → IsKnown node.0 s.entered → Seeks nodes start s
passed_known nodes start s node h other known = record {
  led = stepping.led_front nodes None s.steps (Enter node ∷ []) h.led;
  leaves = subst AreDistinct same h.leaves;
  begins = begins_front start s.steps (Enter node ∷ []) h.begins;
  inside = λ x i. h.inside x (subst (IsIn x) (sym same) i);
  covered = λ x y k i. from y (h.covered x y k i);
  unique = h.unique;
  within = h.within;
  started = h.started;
}
  where
    same : leaves_of (s.steps ++ Enter node ∷ []) ≡ leaves_of s.steps
    same = leaves_same s.steps node ∙ append-nil (leaves_of s.steps)

    own : (y : ℕ) → y ≡ node.0 → IsKnown y s.entered × (y ≡ start.0 → ⊥)
    own y e = (subst (λ (n : ℕ). IsKnown n s.entered) (sym e) known, λ f. other (sym e ∙ f))

    either : (y : ℕ) → IsAhead y s.steps ⊎ IsAhead y (Enter node ∷ []) → (IsKnown y s.entered × (y ≡ start.0 → ⊥)) ⊎ IsAhead y s.steps
    either y (inl a) = inr a
    either y (inr (inl e)) = inl (own y e)
    either y (inr (inr a)) = absurd a

    from : (y : ℕ) → (IsKnown y s.entered × (y ≡ start.0 → ⊥)) ⊎ IsAhead y (s.steps ++ Enter node ∷ []) → (IsKnown y s.entered × (y ≡ start.0 → ⊥)) ⊎ IsAhead y s.steps
    from y (inl k) = inl k
    from y (inr a) = either y (ahead_either y s.steps (Enter node ∷ []) a)

-- a new node is entered
pub went_on : (nodes : List Node) (start : NodeNo) (s : Return) (node : NodeNo) → LeadToNodes nodes → Seeks nodes start (and_step s (Enter node)) → (node.0 ≡ start.0 → ⊥) → list_any (eqb node.0) s.entered ≡ false → Seeks nodes start (moved nodes s node)
went_on nodes start s node all h other new = record {
  led = subst (AreLed nodes None) joined (stepping.led_join nodes None s.steps next (stepping.led_front nodes None s.steps (Enter node ∷ []) h.led) (follows, stepping.led_enters nodes node.0 into (λ x i. i)));
  leaves = subst AreDistinct (sym same) (stepping.distinct_last (leaves_of s.steps) node (subst AreDistinct before h.leaves) (λ i. not_known node.0 s.entered new (h.inside node.0 (subst (IsIn node.0) (sym before) i))));
  begins = subst (BeginsWith start) joined (begins_on start node s.steps next h.begins);
  inside = λ x i. opened x (in_either x (leaves_of s.steps) (node ∷ []) (subst (IsIn x) same i));
  covered = λ x y k i. from x y i (known_or x s.entered node.0 k);
  unique = distinct_more s.entered node.0 h.unique;
  within = λ x k. bounded x (known_or x s.entered node.0 k);
  started = known_more start.0 s.entered node.0 h.started;
}
  where
    into : List NodeNo
    into = leads_in nodes node.0

    next : List Step
    next = Leave node ∷ enters (leads_in nodes node.0)

    joined : (s.steps ++ Leave node ∷ enters (leads_in nodes node.0)) ≡ ((s.steps ++ Leave node ∷ []) ++ enters (leads_in nodes node.0))
    joined = sym (append_assoc s.steps (Leave node ∷ []) (enters into))

    before : leaves_of (s.steps ++ Enter node ∷ []) ≡ leaves_of s.steps
    before = leaves_same s.steps node ∙ append-nil (leaves_of s.steps)

    same : leaves_of ((s.steps ++ Leave node ∷ []) ++ enters (leads_in nodes node.0)) ≡ leaves_of s.steps ++ node ∷ []
    same = stepping.leaves_append (s.steps ++ Leave node ∷ []) (enters into) ∙ rw (stepping.leaves_enters into) (append-nil (leaves_of (s.steps ++ Leave node ∷ [])) ∙ leaves_with s.steps node)

    follows : FollowsOn nodes (last_of None s.steps) node.0
    follows = (stepping.led_back nodes None s.steps (Enter node ∷ []) h.led).0

    own : (x : ℕ) → IsIn x (node ∷ []) → x ≡ node.0
    own x (inl e) = e
    own x (inr i) = absurd i

    opened : (x : ℕ) → IsIn x (leaves_of s.steps) ⊎ IsIn x (node ∷ []) → IsKnown x (with_number s.entered node.0)
    opened x (inl i) = known_more x s.entered node.0 (h.inside x (subst (IsIn x) (sym before) i))
    opened x (inr i) = subst (λ (n : ℕ). IsKnown n (with_number s.entered node.0)) (sym (own x i)) (known_new s.entered node.0)

    last : (y : ℕ) → IsAhead y s.steps ⊎ IsAhead y (Enter node ∷ []) → (IsKnown y (with_number s.entered node.0) × (y ≡ start.0 → ⊥)) ⊎ IsAhead y ((s.steps ++ Leave node ∷ []) ++ enters (leads_in nodes node.0))
    last y (inl a) = inr (ahead_before y (s.steps ++ Leave node ∷ []) (enters into) (ahead_before y s.steps (Leave node ∷ []) a))
    last y (inr (inl e)) = inl (subst (λ (n : ℕ). IsKnown n (with_number s.entered node.0)) (sym e) (known_new s.entered node.0), λ f. other (sym e ∙ f))
    last y (inr (inr a)) = absurd a

    old : (y : ℕ) → (IsKnown y s.entered × (y ≡ start.0 → ⊥)) ⊎ IsAhead y (s.steps ++ Enter node ∷ []) → (IsKnown y (with_number s.entered node.0) × (y ≡ start.0 → ⊥)) ⊎ IsAhead y ((s.steps ++ Leave node ∷ []) ++ enters (leads_in nodes node.0))
    old y (inl (k, f)) = inl (known_more y s.entered node.0 k, f)
    old y (inr a) = last y (ahead_either y s.steps (Enter node ∷ []) a)

    from : (x y : ℕ) → IsIn y (leads_in nodes x) → IsKnown x s.entered ⊎ (x ≡ node.0) → (IsKnown y (with_number s.entered node.0) × (y ≡ start.0 → ⊥)) ⊎ IsAhead y ((s.steps ++ Leave node ∷ []) ++ enters (leads_in nodes node.0))
    from x y i (inl k) = old y (h.covered x y k i)
    from x y i (inr e) = inr (ahead_behind y (s.steps ++ Leave node ∷ []) (enters into) (ahead_into y into (subst (λ (n : ℕ). IsIn y (leads_in nodes n)) e i)))

    bounded : (x : ℕ) → IsKnown x s.entered ⊎ (x ≡ node.0) → x < length nodes
    bounded x (inl k) = h.within x k
    bounded x (inr e) = subst (λ (n : ℕ). n < length nodes) (sym e) (follows_below nodes (last_of None s.steps) node.0 all follows)

-- ---- the end of the search

-- a step into the start closes a way back
pub way_found : (nodes : List Node) (start : NodeNo) (s : Return) (node : NodeNo) → Seeks nodes start (and_step s (Enter node)) → node.0 ≡ start.0 → IsWayBack nodes start (leaves_of s.steps ++ start ∷ [])
way_found nodes start s node h same = from s.steps h.begins h.led (subst AreDistinct (leaves_same s.steps node ∙ append-nil (leaves_of s.steps)) h.leaves)
  where
    rest_of : (rest : List Step) → AreLed nodes None ((Leave start ∷ rest) ++ Enter node ∷ []) → AreDistinct (leaves_of (Leave start ∷ rest)) → IsWayBack nodes start (leaves_of (Leave start ∷ rest) ++ start ∷ [])
    rest_of rest l d =
        let steps : List Step = Leave start ∷ rest in
        let front = stepping.led_front nodes None steps (Enter node ∷ []) l in
        let back : FollowsOn nodes (last_of (Some start.0) rest) node.0 = (stepping.led_back nodes None steps (Enter node ∷ []) l).0 in
        let ends : IsIn node.0 (leads_in nodes (end_of start.0 (leaves_of rest))) = subst (λ (o : Option ℕ). FollowsOn nodes o node.0) (last_from start.0 rest) back in
        let closes : IsIn start.0 (leads_in nodes (end_of start.0 (leaves_of rest))) = subst (λ (n : ℕ). IsIn n (leads_in nodes (end_of start.0 (leaves_of rest)))) same ends in
        record { others = leaves_of rest; is = refl; led = led_both nodes start.0 (leaves_of rest) (start ∷ []) (path_led nodes start.0 rest front.1) (closes, tt); distinct = d }

    from : (steps : List Step) → BeginsWith start (steps ++ Enter node ∷ []) → AreLed nodes None (steps ++ Enter node ∷ []) → AreDistinct (leaves_of steps) → IsWayBack nodes start (leaves_of steps ++ start ∷ [])
    from [] b l d = absurd (no_enter start node b)
    from (step ∷ rest) b l d = turn (sym b) l d
      where
        turn : Leave start ≡ step → AreLed nodes None ((step ∷ rest) ++ Enter node ∷ []) → AreDistinct (leaves_of (step ∷ rest)) → IsWayBack nodes start (leaves_of (step ∷ rest) ++ start ∷ [])
        turn e l d = subst (λ (t : Step). IsWayBack nodes start (leaves_of (t ∷ rest) ++ start ∷ [])) e (rest_of rest (subst (λ (t : Step). AreLed nodes None ((t ∷ rest) ++ Enter node ∷ [])) (sym e) l) (subst (λ (t : Step). AreDistinct (leaves_of (t ∷ rest))) (sym e) d))

-- where no step is left, there is no way back
pub no_way_back : (nodes : List Node) (start : NodeNo) (s : Return) → Seeks nodes start s → s.steps ≡ [] → LeadsOn nodes start.0 start.0 → ⊥
no_way_back nodes start s h empty w = ends start.0 h.started w.between w.led
  where
    closed : (x y : ℕ) → IsKnown x s.entered → IsIn y (leads_in nodes x) → IsKnown y s.entered × (y ≡ start.0 → ⊥)
    closed x y k i = from (subst (λ (t : List Step). (IsKnown y s.entered × (y ≡ start.0 → ⊥)) ⊎ IsAhead y t) empty (h.covered x y k i))
      where
        from : (IsKnown y s.entered × (y ≡ start.0 → ⊥)) ⊎ IsAhead y [] → IsKnown y s.entered × (y ≡ start.0 → ⊥)
        from (inl k) = k
        from (inr a) = absurd a

    ends : (from : ℕ) → IsKnown from s.entered → (mid : List NodeNo) → IsLed nodes from (mid ++ record { 0 = start.0 } ∷ []) → ⊥
    ends from k [] (i, l) = (closed from start.0 k i).1 refl
    ends from k (n ∷ mid) (i, l) = ends n.0 (closed from n.0 k i).0 mid l

-- ---- the lowest of all

-- a way back is the lowest cycle, where no lower number leads on to itself
pub is_lowest : (nodes : List Node) (start : NodeNo) (path : List NodeNo) → ((x : ℕ) → x < start.0 → LeadsOn nodes x x → ⊥) → IsWayBack nodes start path → IsLowestCycle nodes path
is_lowest nodes start path none w = record {
  cycle = record { first = start; others = w.others; is = w.is; led = w.led; distinct = w.distinct };
  lowest = λ number on. reach number on (cases_lt number start.0);
}
  where
    reach : (number : ℕ) → LeadsOn nodes number number → (number < start.0) ⊎ (start.0 ≤ number) → start.0 ≤ number
    reach number on (inl lt) = absurd (none number lt on)
    reach number on (inr le) = le

-- where no node leads on to itself, there is no cycle
pub none_at_all : (nodes : List Node) (number : ℕ) → length nodes ≤ number → ((x : ℕ) → x < number → LeadsOn nodes x x → ⊥) → HasCycle nodes → ⊥
none_at_all nodes number over none (from, on) = none from (omega (arith, over, leads_on-within nodes from from on)) on

-- one number more that doesn't lead on to itself
pub none_more : (nodes : List Node) (number m : ℕ) → m ≡ number → ((x : ℕ) → x < number → LeadsOn nodes x x → ⊥) → (LeadsOn nodes m m → ⊥) → (x : ℕ) → x < number + 1 → LeadsOn nodes x x → ⊥
none_more nodes number m same none own x lt way = from (eq-or-lt_of_le (omega (arith, lt)))
  where
    from : (x ≡ number) ⊎ (x < number) → ⊥
    from (inl e) = own (subst (λ (n : ℕ). LeadsOn nodes n n) (e ∙ sym same) way)
    from (inr less) = none x less way

-- ---- the beginning

-- the search begins with its start entered
pub begun : (nodes : List Node) (start : NodeNo) → start.0 < length nodes → Seeks nodes start (moved nodes (record { steps = []; entered = [] }) start)
begun nodes start lt = record {
  led = (lt, stepping.led_enters nodes start.0 into (λ x i. i));
  leaves = subst AreDistinct (ap (λ (l : List NodeNo). start ∷ l) (sym (stepping.leaves_enters into))) ((λ i. i), tt);
  begins = refl;
  inside = λ x i. opened x i;
  covered = λ x y k i. from x y i (known_or x [] start.0 k);
  unique = distinct_more [] start.0 none_twice;
  within = λ x k. bounded x (known_or x [] start.0 k);
  started = known_new [] start.0;
}
  where
    into : List NodeNo
    into = leads_in nodes start.0

    opened : (x : ℕ) → (x ≡ start.0) ⊎ IsIn x (leaves_of (enters (leads_in nodes start.0))) → IsKnown x (with_number [] start.0)
    opened x (inl e) = subst (λ (n : ℕ). IsKnown n (with_number [] start.0)) (sym e) (known_new [] start.0)
    opened x (inr i) = absurd (subst (IsIn x) (stepping.leaves_enters into) i)

    from : (x y : ℕ) → IsIn y (leads_in nodes x) → IsKnown x [] ⊎ (x ≡ start.0) → (IsKnown y (with_number [] start.0) × (y ≡ start.0 → ⊥)) ⊎ IsAhead y (enters (leads_in nodes start.0))
    from x y i (inl k) = absurd (none_known x k)
    from x y i (inr e) = inr (ahead_into y into (subst (λ (n : ℕ). IsIn y (leads_in nodes n)) e i))

    bounded : (x : ℕ) → IsKnown x [] ⊎ (x ≡ start.0) → x < length nodes
    bounded x (inl k) = absurd (none_known x k)
    bounded x (inr e) = subst (λ (n : ℕ). n < length nodes) (sym e) lt

-- ---- turns

-- the search without its last steps
abbrev pub before_step : Return → List Step → Return
before_step s rest = record { steps = rest; entered = s.entered }

-- the search with its last step taken apart
pub took : (nodes : List Node) (start : NodeNo) (s : Return) (rest : List Step) (step other : Step) → s.steps ≡ rest ++ step ∷ [] → step ≡ other → Seeks nodes start s → Seeks nodes start (and_step (before_step s rest) other)
took nodes start s rest step other e is h = subst (λ (t : Step). Seeks nodes start (and_step (before_step s rest) t)) is (subst (Seeks nodes start) same h)
  where
    same : s ≡ and_step (before_step s rest) step
    same = ap (λ (t : List Step). before_step s t) e

-- after a turn that enters a node, the search goes on
pub turned_on : (nodes : List Node) (start : NodeNo) (old mid new : Return) (found : Option NodeNo) (node : NodeNo) → LeadToNodes nodes → IsAfter nodes start old mid found → found ≡ Some node → (node.0 ≡ start.0 → ⊥) → new ≡ moved nodes mid node → Seeks nodes start new
turned_on nodes start old mid new found node all after e other gives = from (subst (IsAfter nodes start old mid) e after)
  where
    one : Seeks nodes start (and_step mid (Enter node)) → (node.0 ≡ start.0) ⊎ (list_any (eqb node.0) mid.entered ≡ false) → Seeks nodes start new
    one h (inl same) = absurd (other same)
    one h (inr unknown) = subst (Seeks nodes start) (sym gives) (went_on nodes start mid node all h other unknown)

    from : IsAfter nodes start old mid (Some node) → Seeks nodes start new
    from (h, same, new) = one h new

-- after such a turn fewer nodes are left to be entered
pub turned_less : (nodes : List Node) (start : NodeNo) (old mid new : Return) (found : Option NodeNo) (node : NodeNo) → LeadToNodes nodes → IsAfter nodes start old mid found → found ≡ Some node → (node.0 ≡ start.0 → ⊥) → new ≡ moved nodes mid node
    → length nodes - length new.entered < length nodes - length old.entered
turned_less nodes start old mid new found node all after e other gives = from (subst (IsAfter nodes start old mid) e after)
  where
    one : mid.entered ≡ old.entered → (node.0 ≡ start.0) ⊎ (list_any (eqb node.0) mid.entered ≡ false) → length nodes - length new.entered < length nodes - length old.entered
    one same (inl e) = absurd (other e)
    one same (inr unknown) =
        let h : Seeks nodes start new = turned_on nodes start old mid new found node all after e other gives in
        let now : length new.entered ≡ length mid.entered + 1 = ap (λ (s : Return). length s.entered) gives ∙ entered_grows mid.entered node.0 unknown in
        let was : length mid.entered ≡ length old.entered = ap length same in
        let few : length new.entered ≤ length nodes = length-le_from_distinct_below new.entered (length nodes) h.unique h.within in
        omega (arith, now, was, few)

    from : IsAfter nodes start old mid (Some node) → length nodes - length new.entered < length nodes - length old.entered
    from (h, same, new) = one same new

-- a turn that reaches the start gives a way back
pub turned_back : (nodes : List Node) (start : NodeNo) (old mid : Return) (found : Option NodeNo) (node : NodeNo) → IsAfter nodes start old mid found → found ≡ Some node → node.0 ≡ start.0 → IsWayBack nodes start (leaves_of mid.steps ++ start ∷ [])
turned_back nodes start old mid found node after e same = way_found nodes start mid node (subst (IsAfter nodes start old mid) e after).0 same

-- a last turn shows that there is no way back
pub turned_none : (nodes : List Node) (start : NodeNo) (old mid : Return) (found : Option NodeNo) → IsAfter nodes start old mid found → found ≡ None → LeadsOn nodes start.0 start.0 → ⊥
turned_none nodes start old mid found after e w = from (subst (IsAfter nodes start old mid) e after)
  where
    from : IsAfter nodes start old mid None → ⊥
    from (h, empty) = no_way_back nodes start mid h empty w
