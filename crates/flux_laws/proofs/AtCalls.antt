-- A flow whose next event is a call is in the sections of the call's node, under whose keys the call's cells are.
use Rattle.std.proofs.Common.{◌≡◌, ◌≢◌, ◌<◌, ◌≤◌, ◌⊎◌, inl, inr, ℕ, Bool, true, false, cond, List, [], ◌∷◌, ◌++◌, Option, Some, None, refl, sym, ap, subst, ◌∙◌, arith}
use Rattle.std.specs.List.{slice_get, find, Contains}
use Rattle.std.specs.Option.{option_map}
use Rattle.std.specs.declared.cmp.Ordering.{Ordering}
use Rattle.std.specs.declared.cmp.Ordering.TheVariants.{Less, Equal, Greater}
use Rattle.std.specs.Ordering.{nat_cmp, bool_cmp, ordering_then, is_eq}
use Rattle.std.specs.Cmp.Lexicographic.{slice_cmp}
use Rattle.std.proofs.lemmas.List.{append-nil}
use Rattle.std.proofs.lemmas.Bool.{cases_eq, cases_lt}
use Rattle.std.proofs.lemmas.Map.Text.{is_eq-slice_cmp}
use Rattle.std.proofs.lemmas.Slice.Eq.{bytes_eq-Decides}
use Rattle.flux_values.specs.declared.values.Value.{Value}
use Rattle.flux_model.specs.declared.programs.Program.{Program}
use Rattle.flux_model.specs.declared.programs.Class.{Class}
use Rattle.flux_model.specs.declared.programs.ClassNo.{ClassNo}
use Rattle.flux_model.specs.declared.programs.Hold.{Hold}
use Rattle.flux_model.specs.declared.programs.NodeNo.{NodeNo}
use Rattle.flow_model.specs.declared.journals.Entry.{Entry}
use Rattle.flow_model.specs.declared.journals.Key.{Key}
use Rattle.flow_model.specs.Setup.{Setup, item_of}
use Rattle.flux_model.specs.Modes.{class_cmp, AreCanonical}
use Rattle.flux_model.specs.Locks.{declared, AreLocks}
use Rattle.flow_model.specs.Walk.{Walked}
use Rattle.flow_model.specs.Flows.{flow_walk, ending}
use Rattle.flow_model.specs.Events.{events_by, own_events, own_answers, CallIsNext}
use Rattle.flow_model.specs.Exclusion.{open_after, IsInSection}
use Rattle.flow_model.specs.CellsAfter.{is_named, class_named, key_for}
use Rattle.flux_laws.proofs.Members.{In, contains-from_in}
use Rattle.flux_laws.proofs.Stacks.{Stack, begun, taken, opened, IsOpened, run, nodes_in}
use Rattle.flux_laws.proofs.FlowRuns.{at_start, flow-run}
use Rattle.flux_laws.proofs.OnWalk.{AreOnWalk, stack_after, open-stack}

-- ---- the node of a call is open

opened-in : (node : NodeNo) (st : Stack) → IsOpened node st → In node (nodes_in st)
opened-in node [] last = absurd last
opened-in node (begun ∷ st) last = absurd last
opened-in node (taken key mode ∷ st) last = absurd last
opened-in node (opened other ∷ st) last = inl last

module _ (setup : Setup) (are : AreLocks setup.program setup.locks) (entries : List Entry) (flow : ℕ) (node : NodeNo) (args : List Value) (is : CallIsNext setup entries flow node args) where
  call-on_walk : AreOnWalk setup flow (own_events entries flow)
  call-on_walk = record { answers = own_answers entries flow; rest = []; on = is.all ∙ sym (append-nil (own_events entries flow)) }

  call-stack : IsOpened node (stack_after entries flow)
  call-stack =
      let walked : Walked = flow_walk setup flow (own_answers entries flow) in
      let ran = flow-run setup are flow (own_answers entries flow) in
      let stops = is.stops in
      let last : IsOpened node (run at_start walked.events) = rw stops at ran.leaves in
      let same : walked.events ≡ own_events entries flow = sym (append-nil walked.events) ∙ ap (λ stop. walked.events ++ ending stop) (sym is.stops) ∙ is.all in
      subst (λ (list : List _). IsOpened node (run at_start list)) same last

  -- so the flow is in a section on each key of the node's constraints
  pub call-section : (hold : Hold) (key : Key) → Contains (declared setup.program node.0) hold → key_for setup (item_of setup flow) hold.class ≡ Some key
      → IsInSection setup entries flow key hold.mode
  call-section hold key declares on = record {
    node = node;
    inside = contains-from_in (open_after [] (events_by flow entries)) node
        (rw (open-stack setup are entries flow call-on_walk) (opened-in node (stack_after entries flow) call-stack));
    hold = hold;
    declares = declares;
    on = on;
    as_ = refl;
  }

-- ---- classes by their names

-- a class isn't less than itself
not-less : (class : Class) → class_cmp class class ≡ Less → ⊥
not-less class less = by (slice_cmp nat_cmp class.name class.name) (is_eq-slice_cmp class.name class.name ∙ (bytes_eq-Decides class.name class.name).1 refl) less
  where
    tied : (b : Bool) → bool_cmp b b ≡ Less → ⊥
    tied true e = cc
    tied false e = cc

    by : (o : Ordering) → is_eq o ≡ true → ordering_then o (bool_cmp class.session class.session) ≡ Less → ⊥
    by Less e less = cc
    by Equal _ less = tied class.session less
    by Greater e less = cc

-- a name and a scope are of one class
pub one-class : (classes : List Class) → AreCanonical classes → (a b : ℕ) (class : Class) → slice_get classes a ≡ Some class → slice_get classes b ≡ Some class → a ≡ b
one-class classes canonical a b class at there = by (cases_eq a b) (cases_lt a b)
  where
    by : (a ≡ b) ⊎ (a ≡ b → ⊥) → (a < b) ⊎ (b ≤ a) → a ≡ b
    by (inl same) order = same
    by (inr apart) (inl lt) = absurd (not-less class (canonical a b class class lt at there))
    by (inr apart) (inr le) = let ne : a ≢ b = apart in absurd (not-less class (canonical b a class class (omega (arith, le, ne)) there at))

-- the constraint that a name finds
pub record IsFound (p : Program) (node : ℕ) (name : List ℕ) (class : ClassNo) : Type 0 where
  pub hold : Hold
  pub declares : In hold (declared p node)
  pub on : hold.class ≡ class
  pub found : Class
  pub at : slice_get p.classes class.0 ≡ Some found
  pub named : found.name ≡ name

found-in : (p : Program) (name : List ℕ) (class : ClassNo) (holds : List Hold) → option_map (λ hold. hold.class) (find (λ hold. is_named name (slice_get p.classes hold.class.0)) holds) ≡ Some class
    → (hold : Hold) × In hold holds × (hold.class ≡ class) × (is_named name (slice_get p.classes hold.class.0) ≡ true)
found-in p name class [] is = absurd cc
found-in p name class (hold ∷ holds) is = by (is_named name (slice_get p.classes hold.class.0)) refl is (λ more. found-in p name class holds more)
  where
    by : (b : Bool) → is_named name (slice_get p.classes hold.class.0) ≡ b
        → option_map (λ h. h.class) (cond b (Some hold) (find (λ h. is_named name (slice_get p.classes h.class.0)) holds)) ≡ Some class
        → (option_map (λ h. h.class) (find (λ h. is_named name (slice_get p.classes h.class.0)) holds) ≡ Some class
        → (h : Hold) × In h holds × (h.class ≡ class) × (is_named name (slice_get p.classes h.class.0) ≡ true))
        → (h : Hold) × In h (hold ∷ holds) × (h.class ≡ class) × (is_named name (slice_get p.classes h.class.0) ≡ true)
    by true named is more = (hold, inl refl, cc is, named)
    by false named is more = let (h, among, same, there) = more is in (h, inr among, same, there)

-- what a cell's name finds is declared, and of that name
pub class-found : (p : Program) (node : ℕ) (name : List ℕ) (class : ClassNo) → class_named p node name ≡ Some class → IsFound p node name class
class-found p node name class is = told (found-in p name class (declared p node) is)
  where
    told : (hold : Hold) × In hold (declared p node) × (hold.class ≡ class) × (is_named name (slice_get p.classes hold.class.0) ≡ true) → IsFound p node name class
    told (hold, among, same, named) = by (slice_get p.classes hold.class.0) refl named
      where
        by : (found : Option Class) → slice_get p.classes hold.class.0 ≡ found → is_named name found ≡ true → IsFound p node name class
        by None at named = absurd cc
        by (Some found) at named = record {
          hold = hold;
          declares = among;
          on = same;
          found = found;
          at = ap (λ (c : ClassNo). slice_get p.classes c.0) (sym same) ∙ at;
          named = sym ((bytes_eq-Decides name found.name).0 named);
        }
