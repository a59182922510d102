-- A table that is filled along an order has what each node reaches.
use Rattle.std.proofs.Common.{◌≡◌, ◌<◌, ◌≤◌, ◌+◌, ℕ, inl, inr, List, [], ◌∷◌, ◌++◌, length, get_or, drop, slice_get, slice_set, Option, Some, refl, sym, ap, subst, ◌∙◌}
use Rattle.std.specs.List.{Contains}
use Rattle.std.proofs.lemmas.List.Elements.{Contains-append_left, Contains-append_right, Contains-append_cases}
use Rattle.std.proofs.lemmas.Option.{slice_get_past, slice_get-get_or}
use Rattle.flux_model.specs.declared.programs.Hold.{Hold}
use Rattle.flux_model.specs.declared.programs.Node.{Node}
use Rattle.flux_model.specs.declared.programs.NodeNo.{NodeNo}
use Rattle.flux_model.specs.Leading.{leads_to, leads_in, numbers_of}
use Rattle.flux_model.specs.Children.{IsIn}
use Rattle.flux_model.specs.Ordering.{IsOrder}
use Rattle.flux_model.specs.Locks.{HasAtLeast, declared_on}
use Rattle.flux_model.proofs.LeadingLemmas.{leads_in-past}
use Rattle.flux_model.proofs.RisingHolds.{contains_none}
use Rattle.flux_hoist.specs.Sets.{held_by}
use Rattle.flux_hoist.specs.steps.Joining.{AreJoined, held_by_all}
use Rattle.flux_hoist.specs.steps.Reaching.{IsPath, HasReached, AreReached}
use Rattle.flux_hoist.proofs.Joins.{has_on, in_some, in_all}
use Rattle.flux_hoist.proofs.Filled as filling

module _ (nodes : List Node) where
  abbrev own : ℕ → List Hold
  own number = declared_on (slice_get nodes number)

  -- what a node declares, and what those that it leads to reach, is what it reaches
  joined_reached : (table : List (List Hold)) (number : ℕ) (set : List Hold) → AreJoined [] (own number ++ held_by_all table (leads_in nodes number)) set
      → ((led : ℕ) → IsIn led (leads_in nodes number) → HasReached nodes led (held_by table led)) → HasReached nodes number set
  joined_reached table number set joined known = record {
    above = λ h r. above h r.to r.path r.way r.declares;
    only = λ h c. elim (joined.only h c) [
      | inl none ↦ absurd (contains_none h none)
      | inr some ↦ elim (Contains-append_cases (own number) (held_by_all table (leads_in nodes number)) h some) [
        | inl here ↦ record { to = number; path = []; way = refl; declares = here }
        | inr led ↦
            let found = in_some table (leads_in nodes number) h led in
            let r = (known found.0 found.1).only h found.2 in
            record { to = r.to; path = found.0 ∷ r.path; way = (found.1, r.way); declares = r.declares }
      ]
    ];
  }
    where
      above : (h : Hold) (to : ℕ) (path : List ℕ) → IsPath nodes number path to → Contains (own to) h → HasAtLeast set h
      above h to [] same declares =
          joined.joined h (Contains-append_left (own number) (held_by_all table (leads_in nodes number)) h (subst (λ (n : ℕ). Contains (own n) h) (sym same) declares))
      above h to (next ∷ path) (is, way) declares =
          has_on (held_by table next) set h
          (λ x c. joined.joined x (Contains-append_right (own number) (held_by_all table (leads_in nodes number)) x (in_all table (leads_in nodes number) next x is c)))
          ((known next is).above h (record { to = to; path = path; way = way; declares = declares }))

  -- what is no node leads nowhere
  pub past_path : (number : ℕ) → length nodes ≤ number → (to : ℕ) (path : List ℕ) → IsPath nodes number path to → number ≡ to
  past_path number le to [] same = same
  past_path number le to (next ∷ path) (is, way) = absurd (subst (IsIn next) (leads_in-past nodes number le) is)

  pub past_own : (number : ℕ) → length nodes ≤ number → own number ≡ []
  past_own number le = ap declared_on (slice_get_past nodes number le)

  past_reached : (number : ℕ) → length nodes ≤ number → HasReached nodes number []
  past_reached number le = record {
    above = λ h r. absurd (contains_none h (subst (λ (hs : List Hold). Contains hs h) (past_own number le) (subst (λ (n : ℕ). Contains (own n) h) (sym (past_path number le r.to r.path r.way)) r.declares)));
    only = λ h c. absurd (contains_none h c);
  }

  -- ---- along an order

  abbrev pub IsFilled : List NodeNo → List NodeNo → List (List Hold) → Type 0
  IsFilled order rest table = filling.IsFilled nodes [] (HasReached nodes) order rest table

  -- by a read of the order and of the nodes
  pub reached_step : (order : List NodeNo) (i : ℕ) (d : NodeNo) (node : Node) (table : List (List Hold)) (set : List Hold) → i < length order → IsFilled order (drop i order) table
      → node ≡ get_or nodes (get_or order i d).0 node → AreJoined [] (node.declared ++ held_by_all table (leads_to node)) set
      → IsFilled order (drop (i + 1) order) (slice_set table (get_or order i d).0 set)
  reached_step order i d node table set lt f read joined =
      filling.filled_step nodes [] (HasReached nodes) order i d table set lt f
      (joined_reached table (get_or order i d).0 set (subst (λ (found : Option Node). AreJoined [] (declared_on found ++ held_by_all table (numbers_of leads_to found)) set) (sym at) joined))
    where
      at : slice_get nodes (get_or order i d).0 ≡ Some node
      at = slice_get-get_or nodes (get_or order i d).0 node (filling.filled_within nodes [] (HasReached nodes) order i d table lt f) ∙ ap Some (sym read)

  pub reached_end : (order : List NodeNo) (i : ℕ) (table : List (List Hold)) → IsOrder nodes order → length order ≤ i → IsFilled order (drop i order) table → AreReached nodes table
  reached_end order i table is le f = filling.filled_end nodes [] (HasReached nodes) order i table is le f past_reached
