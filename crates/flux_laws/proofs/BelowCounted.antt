-- In numbered programs without cycles the nodes that are counted out as below a node are those that are below it.
use Rattle.std.proofs.Common.{◌≡◌, ◌≤◌, ◌+◌, inl, inr, ◌⊎◌, ℕ, zero, suc, List, [], ◌∷◌, length, Option, Some, None, refl, sym, subst, arith}
use Rattle.std.specs.List.{slice_get, flat_map}
use Rattle.flux_model.specs.declared.programs.Node.{Node}
use Rattle.flux_model.specs.declared.programs.NodeNo.{NodeNo}
use Rattle.flux_model.specs.declared.programs.Program.{Program}
use Rattle.flux_model.specs.Children.{IsIn, IsBelow, members}
use Rattle.flux_model.specs.Leading.{leads_to, leads_in, numbers_of}
use Rattle.flux_model.specs.Nested.{nested, for_node}
use Rattle.flux_model.specs.Numbered.{IsNumbered}
use Rattle.flux_model.specs.Ordering.{HasCycle}
use Rattle.flux_model.proofs.NodeLists.{in_front, in_behind, in_either}
use Rattle.flux_model.proofs.LeadingLemmas.{member_led, led-below_count}
use Rattle.flux_model.proofs.BelowLemmas.{below-member, below-led, below-by_leading}
use Rattle.flux_laws.specs.Hoisted.{reached_by, reached, below_of}
use Rattle.flux_laws.proofs.Trails.{IsTrail, trail-start, trail-more, trail-short}
use Rattle.flux_laws.proofs.Reaching.{Leads, no-return}

-- a number, or one that is reached from it
abbrev pub IsFrom : (ℕ → List NodeNo) → ℕ → ℕ → Type 0
IsFrom more m x = (x ≡ m) ⊎ IsIn x (more m)

-- nodes, each with more after it
abbrev pub spread : (ℕ → List NodeNo) → List NodeNo → List NodeNo
spread more nodes = flat_map (λ node. node ∷ more node.0) nodes

-- what is from one of the nodes is among them all
pub spread-has : (more : ℕ → List NodeNo) (nodes : List NodeNo) (m x : ℕ) → IsIn m nodes → IsFrom more m x → IsIn x (spread more nodes)
spread-has more [] m x is from = absurd is
spread-has more (n ∷ nodes) m x (inl same) from = in_front x (n ∷ more n.0) (spread more nodes) (own (subst (λ (k : ℕ). IsFrom more k x) same from))
  where
    own : IsFrom more n.0 x → IsIn x (n ∷ more n.0)
    own (inl e) = inl e
    own (inr is) = inr is
spread-has more (n ∷ nodes) m x (inr is) from = in_behind x (n ∷ more n.0) (spread more nodes) (spread-has more nodes m x is from)

-- and the other way round
pub spread-only : (more : ℕ → List NodeNo) (nodes : List NodeNo) (x : ℕ) → IsIn x (spread more nodes) → (m : ℕ) × IsIn m nodes × IsFrom more m x
spread-only more [] x is = absurd is
spread-only more (n ∷ nodes) x is = either (spread-only more nodes x) (in_either x (n ∷ more n.0) (spread more nodes) is)
  where
    either : (IsIn x (spread more nodes) → (m : ℕ) × IsIn m nodes × IsFrom more m x) → IsIn x (n ∷ more n.0) ⊎ IsIn x (spread more nodes) → (m : ℕ) × IsIn m (n ∷ nodes) × IsFrom more m x
    either others (inl (inl e)) = (n.0, inl refl, inl e)
    either others (inl (inr i)) = (n.0, inl refl, inr i)
    either others (inr i) = let (m, is_m, from) = others i in (m, inr is_m, from)

-- what nodes lead on to, through as many
abbrev pub deep : List Node → ℕ → ℕ → List NodeNo
deep nodes depth number = nested [] reached_by nodes depth number

-- at one more of depth
deep-has : (nodes : List Node) (depth from m x : ℕ) → IsIn m (leads_in nodes from) → IsFrom (deep nodes depth) m x → IsIn x (deep nodes (suc depth) from)
deep-has nodes depth from m x is way = by (slice_get nodes from) is
  where
    by : (found : Option Node) → IsIn m (numbers_of leads_to found) → IsIn x (for_node [] (reached_by (deep nodes depth) from) found)
    by None is = absurd is
    by (Some node) is = spread-has (deep nodes depth) (leads_to node) m x is way

deep-only : (nodes : List Node) (depth from x : ℕ) → IsIn x (deep nodes (suc depth) from) → (m : ℕ) × IsIn m (leads_in nodes from) × IsFrom (deep nodes depth) m x
deep-only nodes depth from x is = by (slice_get nodes from) is
  where
    by : (found : Option Node) → IsIn x (for_node [] (reached_by (deep nodes depth) from) found) → (m : ℕ) × IsIn m (numbers_of leads_to found) × IsFrom (deep nodes depth) m x
    by None is = absurd is
    by (Some node) is = spread-only (deep nodes depth) (leads_to node) x is

-- what is counted out is below
deep-below : (p : Program) (top depth from x : ℕ) → IsBelow p top from → IsFrom (deep p.nodes depth) from x → IsBelow p top x
deep-below p top depth from x below (inl same) = subst (IsBelow p top) (sym same) below
deep-below p top zero from x below (inr is) = absurd is
deep-below p top (suc depth) from x below (inr is) =
    let (m, led, way) = deep-only p.nodes depth from x is in
    deep-below p top depth m x (below-led p top from m below led) way

pub counted-below : (p : Program) (top x : ℕ) → IsIn x (below_of p top) → IsBelow p top x
counted-below p top x is =
    let (m, member, way) = spread-only (reached p) (members p top) x is in
    deep-below p top (length p.nodes) m x (below-member p top m member) way

-- ---- what is below is counted out

module _ (p : Program) (numbered : IsNumbered p) (acyclic : HasCycle p.nodes → ⊥) where
  -- where the depth is enough for a trail that has come to a node, what a reached one leads to is reached
  deep-more : (depth from : ℕ) (visited : List ℕ) → IsTrail (Leads p.nodes) (length p.nodes) visited from → length p.nodes ≤ length visited + depth
      → (x y : ℕ) → IsFrom (deep p.nodes depth) from x → IsIn y (leads_in p.nodes x) → IsIn y (deep p.nodes depth from)
  deep-more zero from visited trail enough x y way led =
      let short = trail-short (Leads p.nodes) (length p.nodes) visited from trail in absurd (omega (arith, short, enough))
  deep-more (suc depth) from visited trail enough x y (inl same) led =
      deep-has p.nodes depth from y y (subst (λ (n : ℕ). IsIn y (leads_in p.nodes n)) same led) (inl refl)
  deep-more (suc depth) from visited trail enough x y (inr is) led =
      let (m, first, way) = deep-only p.nodes depth from x is in
      let further = trail-more (Leads p.nodes) (length p.nodes) visited from m (no-return p.nodes acyclic) trail first (led-below_count (length p.nodes) p.nodes from m numbered.nodes first) in
      deep-has p.nodes depth from m y first (inr (deep-more depth m (from ∷ visited) further (omega (arith, enough)) x y way led))

  pub below-counted : (top node : ℕ) → IsBelow p top node → IsIn node (below_of p top)
  below-counted top node below = below-by_leading p top (λ x. IsIn x (below_of p top)) first more node below
    where
      first : (x : ℕ) → IsIn x (members p top) → IsIn x (below_of p top)
      first x is = spread-has (reached p) (members p top) x x is (inl refl)

      more : (x y : ℕ) → IsIn x (below_of p top) → IsIn y (leads_in p.nodes x) → IsIn y (below_of p top)
      more x y is led =
          let (m, member, way) = spread-only (reached p) (members p top) x is in
          let within = led-below_count (length p.nodes) p.nodes top m numbered.nodes (member_led p top m member) in
          let trail = trail-start (Leads p.nodes) (length p.nodes) m within in
          spread-has (reached p) (members p top) m y member (inr (deep-more (length p.nodes) m [] trail (omega arith) x y way led))
