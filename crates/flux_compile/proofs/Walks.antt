-- The theorem of the compiler: plans of segments as the code writes them run as the walks of their targets.
use Rattle.std.proofs.Common.{◌≡◌, ◌<◌, ℕ, List, [], ◌∷◌, ◌++◌, length, Option, Some, option_map, sym, ap, subst, ◌∙◌}
use Rattle.std.specs.List.{slice_get}
use Rattle.std.proofs.lemmas.List.{append-nil}
use Rattle.flux_values.specs.declared.values.Value.{Value}
use Rattle.flux_values.specs.declared.answers.Answer.{Answer}
use Rattle.flux_model.specs.declared.programs.NodeNo.{NodeNo}
use Rattle.flux_model.specs.declared.programs.Node.{Node}
use Rattle.flux_model.specs.declared.programs.Hold.{Hold}
use Rattle.flux_model.specs.declared.programs.Program.{Program}
use Rattle.flow_model.specs.declared.journals.Outcome.{Outcome}
use Rattle.flow_model.specs.declared.journals.Event.{Event}
use Rattle.flow_model.specs.declared.journals.Event.TheVariants as events
use Rattle.flow_model.specs.Flows.{ending}
use Rattle.flux_model.specs.Locks.{Holds, AreLocks}
use Rattle.flux_model.specs.Ordering.{IsOrder}
use Rattle.flux_model.specs.Leading.{leads_in}
use Rattle.flux_model.specs.Children.{IsIn}
use Rattle.flux_model.specs.Visits.{IsKnown}
use Rattle.flow_model.specs.Walk.{Given, Stop, finished, before_call, nowhere, Walking, walk}
use Rattle.flux_hoist.specs.Sets.{held_by}
use Rattle.flux_plan.specs.declared.plans.Plan.{Plan}
use Rattle.flux_plan.specs.declared.plans.Segment.{Segment}
use Rattle.flux_plan.specs.Machine.{beginning}
use Rattle.flux_plan.specs.Runs.{at_end, at_call, Ran, run, run_step, still, RunsAs, IsPlanOf}
use Rattle.flux_plan.proofs.RunLemmas.{comes-stops, Stops}
use Rattle.flux_compile.specs.steps.Segments.{segment_of, segment_for, segments_of}
use Rattle.flux_compile.proofs.walking.Arriving.{Follows}
use Rattle.flux_compile.proofs.walking.Nodes.{standing, RunsUp}
use Rattle.flux_compile.proofs.walking.Nested.{walks-run}
use Rattle.flux_compile.proofs.soundness.Leads.{segment_at, own_segment}

-- ---- ends

module _ (plan : Plan) (given : Given) (walking : Walking) (values : List Value) (answers : List Answer)
    (up : RunsUp plan.segments given plan.target.0 walking values answers []) where
  ends : (outcome : Outcome) (own : List Value) (left : List Answer)
      → Stops plan.segments given.key given.matches (standing plan.target.0 values [] up.place outcome own) left (events.End outcome ∷ []) at_end
  ends outcome own left =
      (2, ap (run_step (run plan.segments given.key given.matches 1) given.key (standing plan.target.0 values [] up.place outcome own) left) (up.returns outcome own))

  stops : (happened : List Event) (stop : Stop) → Follows plan.segments given.key given.matches (standing plan.target.0 values [] up.place) (beginning plan values) answers happened stop
      → Stops plan.segments given.key given.matches (beginning plan values) answers (happened ++ ending stop) (still stop)
  stops happened (finished ended) arrives =
      comes-stops plan.segments given.key given.matches (beginning plan values) answers happened (standing plan.target.0 values [] up.place ended.outcome arrives.values) ended.left (events.End ended.outcome ∷ []) at_end
      arrives.comes (ends ended.outcome arrives.values ended.left)
  stops happened (before_call node args) there =
      (there.0, there.1 ∙ ap (λ (es : List Event). let r : Ran = record { events = es; standing = at_call node args } in r) (sym (append-nil happened)))
  stops happened nowhere there = absurd there

  -- with the last frame the flow ends, as its walk does
  runs_as : RunsAs plan given values answers (walking values answers)
  runs_as =
      let walked = walking values answers in
      let (n, all) = stops walked.events walked.stop up.runs in
      record { steps = n; same = all }

-- ---- segments of all nodes

-- the segment of a node that flows reach is at its number
segments_of-at : (origins : List ℕ) (sets : List (List Hold)) (nodes : List Node) (number : ℕ) (node : Node)
    → (IsKnown number origins → ⊥) → slice_get nodes number ≡ Some node
    → slice_get (segments_of origins sets nodes) number ≡ Some (segment_of (held_by sets number) node)
segments_of-at origins sets nodes number node other at =
    segment_at origins sets nodes number ∙ ap (option_map (segment_for origins (held_by sets number) number)) at
    ∙ ap Some (own_segment origins (held_by sets number) number node other)

-- segments as the code writes them run as walks, where no flow reaches nodes that items come from
pub segments_run_as_walks : (p : Program) (origins : List ℕ) (sets : List (List Hold)) (order : List NodeNo) (target : NodeNo) (plan : Plan)
    → plan.target ≡ target → plan.segments ≡ segments_of origins sets p.nodes → IsOrder p.nodes order
    → ((locks : Holds) → AreLocks p locks → (node : ℕ) → locks node ≡ held_by sets node)
    → ((from next : ℕ) → IsIn next (leads_in p.nodes from) → IsKnown next origins → ⊥)
    → (IsKnown target.0 origins → ⊥) → target.0 < length p.nodes → IsPlanOf p target plan
segments_run_as_walks p origins sets order target plan same segments ordered locked apart other inside =
    subst (λ (t : NodeNo). IsPlanOf p t plan) same (record {
      runs = λ given locks values answers.
          let are : (number : ℕ) (node : Node) → (IsKnown number origins → ⊥) → slice_get p.nodes number ≡ Some node
          → slice_get plan.segments number ≡ Some (segment_of (given.locks number) node) = λ number node own at.
          ap (λ (ss : List Segment). slice_get ss number) segments ∙ segments_of-at origins sets p.nodes number node own at
          ∙ ap (λ (hs : List Hold). let s : Option Segment = Some (segment_of hs node) in s) (sym (locked given.locks locks number)) in
          let all = walks-run plan.segments given p.nodes (λ number. IsKnown number origins → ⊥) apart are order ordered plan.target.0
          (subst (λ (t : NodeNo). IsKnown t.0 origins → ⊥) (sym same) other)
          (subst (λ (t : NodeNo). t.0 < length p.nodes) (sym same) inside) in
          runs_as plan given (walk given p.nodes plan.target.0) values answers (all values answers []);
    })
