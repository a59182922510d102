-- What is looked up for the report: what nodes declare, and which nodes below them do.
use Rattle.std.proofs.Common.{◌≡◌, ◌↔◌, ◌<◌, ◌≤◌, ◌+◌, ℕ, Bool, true, false, ltb, inl, inr, ◌⊎◌, List, [], ◌∷◌, ◌++◌, length, get_or, slice_get, Option, Some, None, refl, sym, ap, subst, ◌∙◌, arith}
use Rattle.std.specs.List.{Contains}
use Rattle.std.specs.Option.{unwrap_or}
use Rattle.std.proofs.lemmas.Bool.{cases_order}
use Rattle.std.proofs.lemmas.Bool.Decides.{nat_tests}
use Rattle.std.proofs.lemmas.Option.{slice_get_past, slice_get-get_or}
use Rattle.flux_values.specs.declared.answers.Mode.{Mode}
use Rattle.flux_values.specs.declared.answers.Mode.TheVariants.{Reader, Writer}
use Rattle.flux_model.specs.declared.programs.ClassNo.{ClassNo}
use Rattle.flux_model.specs.declared.programs.Hold.{Hold}
use Rattle.flux_model.specs.declared.programs.Node.{Node}
use Rattle.flux_model.specs.declared.programs.NodeNo.{NodeNo}
use Rattle.flux_model.specs.declared.programs.Program.{Program}
use Rattle.flux_model.specs.Leading.{members_of, numbers_of}
use Rattle.flux_model.specs.Children.{members}
use Rattle.flux_model.specs.Locks.{declared_on, HasAtLeast}
use Rattle.flux_model.proofs.BelowLemmas.{below-member}
use Rattle.flux_model.proofs.RisingHolds.{contains_none}
use Rattle.flux_hoist.specs.Sets.{held_by}
use Rattle.flux_hoist.specs.steps.Joining.{AreJoined}
use Rattle.flux_hoist.specs.steps.Lowest.{lowest_among, IsLowest, Finds, AreLowest, IsCausal}
use Rattle.flux_hoist.specs.steps.Declaring.{AreOwn, AreFewer, AreTables, KnowsAll, table_of}
use Rattle.flux_hoist.proofs.Grown.{grown}
use Rattle.flux_constraints.proofs.Joins.{has_itself}
use Rattle.flux_hoist.proofs.Joins.{has_on}
use Rattle.flux_hoist.proofs.Hoisted.{under_below, below_path}
use Rattle.flux_hoist.proofs.LowestNodes.{IsAmong, among_is, lowest_like}

-- ---- what nodes declare

-- an empty list has nothing
pub none_at_least : (hold : Hold) → HasAtLeast [] hold → ⊥
none_at_least hold more = contains_none _ more.has

-- a set that was joined of holds has what they have
joined_like : (own set : List Hold) → AreJoined [] own set → (hold : Hold) → HasAtLeast set hold ↔ HasAtLeast own hold
joined_like own set joined hold = (
  λ more. has_on set own hold (λ x c. elim (joined.only x c) [ inl none ↦ absurd (contains_none x none) | inr is ↦ has_itself own x is ]) more,
  λ more. has_on own set hold joined.joined more,
)

-- a set has what the node of a number declares
abbrev pub IsOwn : List Node → ℕ → List Hold → Type 0
IsOwn nodes number set = (hold : Hold) → HasAtLeast set hold ↔ HasAtLeast (declared_on (slice_get nodes number)) hold

pub own_next : (nodes : List Node) (sets : List (List Hold)) (set : List Hold) (i : ℕ) (d : Node) → i < length nodes → length sets ≡ i → ((number : ℕ) → number < i → IsOwn nodes number (held_by sets number))
    → AreJoined [] (get_or nodes i d).declared set → (number : ℕ) → number < i + 1 → IsOwn nodes number (held_by (sets ++ set ∷ []) number)
own_next nodes sets set i d lt many each joined =
    grown [] (IsOwn nodes) sets set i many each
    (subst (λ (found : Option Node). (hold : Hold) → HasAtLeast set hold ↔ HasAtLeast (declared_on found) hold) (sym (slice_get-get_or nodes i d lt)) (joined_like (get_or nodes i d).declared set joined))

pub own_end : (nodes : List Node) (sets : List (List Hold)) (i : ℕ) → length nodes ≤ i → i ≤ length nodes → length sets ≡ i → ((number : ℕ) → number < i → IsOwn nodes number (held_by sets number)) → AreOwn nodes sets
own_end nodes sets i low high many each number hold = one (ltb number i) refl
  where
    one : (t : Bool) → ltb number i ≡ t → HasAtLeast (held_by sets number) hold ↔ HasAtLeast (declared_on (slice_get nodes number)) hold
    one true e = each number (grind (arith, nat_tests, e)) hold
    one false e =
        let past : i ≤ number = grind (arith, nat_tests, e) in
        let no_set : held_by sets number ≡ [] = ap (λ (found : Option (List Hold)). unwrap_or found []) (slice_get_past sets number (omega (arith, past, many))) in
        let no_node : declared_on (slice_get nodes number) ≡ [] = ap declared_on (slice_get_past nodes number (omega (arith, past, low))) in (
          λ more. absurd (none_at_least hold (subst (λ (hs : List Hold). HasAtLeast hs hold) no_set more)),
          λ more. absurd (none_at_least hold (subst (λ (hs : List Hold). HasAtLeast hs hold) no_node more)),
        )

-- ---- how many classes there are

-- all classes of the first sets are below a count
abbrev pub AreFirstFewer : List (List Hold) → ℕ → ℕ → Type 0
AreFirstFewer sets i count = (number : ℕ) (hold : Hold) → number < i → Contains (held_by sets number) hold → hold.class.0 < count

pub fewer_next : (sets : List (List Hold)) (i : ℕ) (d : List Hold) (count more : ℕ) → i < length sets → AreFirstFewer sets i count → count ≤ more
    → ((hold : Hold) → Contains (get_or sets i d) hold → hold.class.0 < more) → AreFirstFewer sets (i + 1) more
fewer_next sets i d count more lt below le own number hold low c = elim (cases_order number i) [
  | inl same ↦ own hold (subst (λ (hs : List Hold). Contains hs hold) (ap (held_by sets) same ∙ ap (λ (found : Option (List Hold)). unwrap_or found []) (slice_get-get_or sets i d lt)) c)
  | inr (inl less) ↦ let few = below number hold less c in omega (arith, few, le)
  | inr (inr high) ↦ absurd (omega (arith, high, low))
]

-- the classes of one set are below what all are below
pub fewer_here : (sets : List (List Hold)) (i : ℕ) (d : List Hold) (count : ℕ) → i < length sets → AreFewer sets count
    → (hold : Hold) → Contains (get_or sets i d) hold → hold.class.0 < count
fewer_here sets i d count lt fewer hold is =
    fewer i hold (subst (λ (found : Option (List Hold)). Contains (unwrap_or found []) hold) (sym (slice_get-get_or sets i d lt)) is)

pub fewer_end : (sets : List (List Hold)) (i count : ℕ) → length sets ≤ i → AreFirstFewer sets i count → (number : ℕ) (hold : Hold) → Contains (held_by sets number) hold → hold.class.0 < count
fewer_end sets i count le below number hold c = one (ltb number i) refl
  where
    one : (t : Bool) → ltb number i ≡ t → hold.class.0 < count
    one true e = below number hold (grind (arith, nat_tests, e)) c
    one false e =
        let past : i ≤ number = grind (arith, nat_tests, e) in
        absurd (contains_none hold (subst (λ (hs : List Hold). Contains hs hold) (ap (λ (found : Option (List Hold)). unwrap_or found []) (slice_get_past sets number (omega (arith, past, le)))) c))

-- ---- which node below declares a class

pub lowest_below : (p : Program) (number : ℕ) (node : Node) (hold : Hold) (table : List (Option NodeNo)) → slice_get p.nodes number ≡ Some node → AreLowest p.nodes hold table
    → IsLowest (IsCausal p number hold) (lowest_among table None (members_of node.body))
lowest_below p number node hold table at lowest =
    subst (λ (found : Option Node). IsLowest (IsCausal p number hold) (lowest_among table None (numbers_of (λ n. members_of n.body) found))) at
    (lowest_like _ (IsCausal p number hold) (lowest_among table None (members p number)) to from
    (among_is (Finds p.nodes hold) table (λ n. ⊥) None (members p number) (λ n never. never) (λ member is. lowest member)))
  where
    to : (n : ℕ) → ⊥ ⊎ IsAmong (Finds p.nodes hold) (members p number) n → IsCausal p number hold n
    to n (inl never) = absurd never
    to n (inr a) = let f = a.has in (below_path p number a.node f.path n (below-member p number a.node a.is) f.way, f.declares)

    from : (n : ℕ) → IsCausal p number hold n → ⊥ ⊎ IsAmong (Finds p.nodes hold) (members p number) n
    from n (below, declares) =
        let under = under_below p number n below in
        inr (record { node = under.member; is = under.is_member; has = record { path = under.path; way = under.way; declares = declares } })

-- ---- all of it together

pub known_all : (nodes : List Node) (sets : List (List Hold)) (count : ℕ) (own : List (List Hold)) (readers writers : List (List (Option NodeNo))) → AreOwn nodes own → AreFewer sets count
    → AreTables nodes Reader count readers → AreTables nodes Writer count writers → KnowsAll nodes sets (record { own = own; readers = readers; writers = writers })
known_all nodes sets count own readers writers are few read write number = record {
  own = are;
  lowest = λ hold c. of hold.class hold.mode (few number hold c);
}
  where
    of : (class : ClassNo) (mode : Mode) → class.0 < count → AreLowest nodes (record { class = class; mode = mode }) (table_of (record { own = own; readers = readers; writers = writers }) (record { class = class; mode = mode }))
    of class Reader lt = read class lt
    of class Writer lt = write class lt
