-- What the locks of one node, and of the nodes one after the other, are.
use Rattle.std.proofs.Common.{◌≡◌, ◌<◌, ◌≤◌, ◌+◌, ℕ, inl, inr, List, [], ◌∷◌, ◌++◌, length, get_or, slice_get, Some, refl, sym, subst, ◌∙◌, arith}
use Rattle.std.specs.List.{Contains}
use Rattle.std.proofs.lemmas.List.{length_push}
use Rattle.std.proofs.lemmas.Option.{slice_get-get_or}
use Rattle.flux_model.specs.declared.programs.ClassNo.{ClassNo}
use Rattle.flux_model.specs.declared.programs.Hold.{Hold}
use Rattle.flux_model.specs.declared.programs.Node.{Node}
use Rattle.flux_model.specs.Leading.{members_of}
use Rattle.flux_model.specs.Locks.{AreRising, HasAtLeast}
use Rattle.flux_constraints.specs.ClassSets.{AreUpTo, IsGreatestOf}
use Rattle.flux_model.proofs.RisingHolds.{contains_none}
use Rattle.flux_hoist.specs.steps.Joining.{AreJoined, IsPassed, IsHoisted, held_by_all}
use Rattle.flux_hoist.specs.steps.Reaching.{AreHoisted}
use Rattle.flux_hoist.proofs.Grown.{grown}
use Rattle.flux_hoist.proofs.Joins.{has_on}

no_rising : AreRising []
no_rising low high first second lt a b = absurd cc

-- a node that declares nothing holds nothing
pub hoisted_none : (own below locks : List Hold) → AreJoined [] own locks → locks ≡ [] → IsHoisted own below locks
hoisted_none own below locks joined none = record {
  rising = joined.rising no_rising;
  has_own = λ h c. joined.joined h c;
  lifted = λ h c passed. absurd (nothing (joined.joined passed.past passed.among));
  only = λ h c. absurd (contains_none h (subst (λ (hs : List Hold). Contains hs h) none c));
}
  where
    nothing : {h : Hold} → HasAtLeast locks h → ⊥
    nothing {h} more = contains_none _ (subst (λ (hs : List Hold). Contains hs (record { class = h.class; mode = more.mode })) none more.has)

-- else it holds what it declares, and what is below up to its greatest class
pub hoisted_some : (own below set under lower locks : List Hold) (class : ClassNo) → AreJoined [] own set → IsGreatestOf set class → AreJoined [] below under
    → AreUpTo under class lower → AreJoined set lower locks → IsHoisted own below locks
hoisted_some own below set under lower locks class first great joined up last = record {
  rising = last.rising (first.rising no_rising);
  has_own = λ h c. has_on set locks h last.kept (first.joined h c);
  lifted = λ h c passed. has_on lower locks h last.joined (low h passed.past (joined.joined h c) passed.least (first.joined passed.past passed.among));
  only = λ h c. elim (last.only h c) [
    | inl old ↦ elim (first.only h old) [ inl none ↦ absurd (contains_none h none) | inr declares ↦ inl declares ]
    | inr more ↦ elim (joined.only h (up.within h more)) [
      | inl none ↦ absurd (contains_none h none)
      | inr there ↦ inr (there, passed_by h (up.low h more))
    ]
  ];
}
  where
    low : (h past : Hold) → HasAtLeast under h → h.class.0 ≤ past.class.0 → HasAtLeast set past → HasAtLeast lower h
    low h past there le own_past =
        let top = great.greatest (record { class = past.class; mode = own_past.mode }) own_past.has in
        record {
          mode = there.mode;
          has = up.has (record { class = h.class; mode = there.mode }) there.has (omega (arith, le, top));
          enough = there.enough;
        }

    passed_by : (h : Hold) → h.class.0 ≤ class.0 → IsPassed own h
    passed_by h le =
        let top : Hold = record { class = class; mode = great.has.0 } in
        elim (first.only top great.has.1) [
          | inl none ↦ absurd (contains_none top none)
          | inr declares ↦ record { past = record { class = class; mode = great.has.0 }; among = declares; least = le }
        ]

-- ---- node after node

pub hoisted_first : (nodes : List Node) (table : List (List Hold)) → AreHoisted nodes table 0 []
hoisted_first nodes table = record { many = refl; each = λ number node lt at. absurd (omega arith) }

-- a set is what the node of a number holds, if there is one
abbrev IsHoistedAt : List Node → List (List Hold) → ℕ → List Hold → Type 0
IsHoistedAt nodes table number set =
    (node : Node) → slice_get nodes number ≡ Some node → IsHoisted node.declared (held_by_all table (members_of node.body)) set

pub hoisted_next : (nodes : List Node) (table sets : List (List Hold)) (count : ℕ) (d : Node) (set : List Hold) → AreHoisted nodes table count sets → count < length nodes
    → IsHoisted (get_or nodes count d).declared (held_by_all table (members_of (get_or nodes count d).body)) set → AreHoisted nodes table (count + 1) (sets ++ set ∷ [])
hoisted_next nodes table sets count d set are lt is = record {
  many = let many = are.many in let longer = length_push sets set in omega (arith, many, longer);
  each = λ number node below at. grown [] (IsHoistedAt nodes table) sets set count are.many (λ k low n e. are.each k n low e) (λ n e. subst (λ (m : Node). IsHoisted m.declared (held_by_all table (members_of m.body)) set) (found n e) is) number below node at;
}
  where
    some_same : (a b : Node) → Some a ≡ Some b → a ≡ b
    some_same a b e = cc

    found : (node : Node) → slice_get nodes count ≡ Some node → get_or nodes count d ≡ node
    found node at = some_same (get_or nodes count d) node (sym (slice_get-get_or nodes count d lt) ∙ at)
