-- Plans, line by line.
use Rattle.std.proofs.Common.{◌≡◌, ℕ, ◌<◌, ◌+◌, List, [], ◌∷◌, ◌++◌, length, take, get_or, slice_get, Option, Some, None, option_map, refl, sym, ap, subst, ◌∙◌, take-suc, add-one}
use Rattle.std.specs.List.{AllByRecursion}
use Rattle.flux_model.specs.declared.programs.SourceLine.{SourceLine}
use Rattle.flux_model.specs.declared.programs.Program.{Program}
use Rattle.flux_model.specs.declared.programs.Node.{Node}
use Rattle.flux_model.specs.declared.programs.Hold.{Hold}
use Rattle.flux_hoist.specs.Sets.{held_by}
use Rattle.flux_plan.specs.declared.plans.Plan.{Plan}
use Rattle.flux_plan.specs.declared.plans.Segment.{Segment}
use Rattle.flux_plan.specs.Runs.{IsPlanOf, AreLinePlans}
use Rattle.flux_compile.specs.Plans.{ShareSegments}
use Rattle.flux_compile.specs.Sources.{empty, AreSourcesEmpty}
use Rattle.flux_compile.specs.steps.Segments.{segment_for, segments_of, origins_of}
use Rattle.flux_compile.proofs.Apart.{all_in, own_known}
use Rattle.flux_compile.proofs.Sound.{found_below}
use Rattle.flux_compile.proofs.soundness.Leads.{segment_at}

all_more : {X : Type 0} (P : X → Type 0) (xs : List X) (x : X) → AllByRecursion P xs → P x → AllByRecursion P (xs ++ x ∷ [])
all_more P [] x all own = (own, tt)
all_more P (y ∷ xs) x (first, all) own = (first, all_more P xs x all own)

plans_more : (p : Program) (lines : List SourceLine) (plans : List Plan) (line : SourceLine) (plan : Plan)
    → AreLinePlans p lines plans → IsPlanOf p line.target plan → AreLinePlans p (lines ++ line ∷ []) (plans ++ plan ∷ [])
plans_more p [] [] line plan are own = (own, tt)
plans_more p [] (first ∷ plans) line plan are own = absurd are
plans_more p (first ∷ lines) [] line plan are own = absurd are
plans_more p (first ∷ lines) (one ∷ plans) line plan (is, are) own = (is, plans_more p lines plans line plan are own)

-- plans of the first lines, all with these segments
pub record ArePlans (p : Program) (segments : List Segment) (lines : List SourceLine) (plans : List Plan) : Type 0 where
  pub own : AreLinePlans p lines plans
  pub shared : AllByRecursion (λ plan. plan.segments ≡ segments) plans

pub no_plans : (p : Program) (segments : List Segment) → ArePlans p segments [] []
no_plans p segments = record { own = tt; shared = tt }

pub next_plan : (p : Program) (segments : List Segment) (lines : List SourceLine) (i : ℕ) (line : SourceLine) (plans : List Plan) (plan : Plan)
    → i < length lines → line ≡ get_or lines i line → ArePlans p segments (take i lines) plans
    → IsPlanOf p line.target plan → plan.segments ≡ segments → ArePlans p segments (take (i + 1) lines) (plans ++ plan ∷ [])
next_plan p segments lines i line plans plan lt is are own same =
    let one_more : take (i + 1) lines ≡ take i lines ++ line ∷ [] =
    ap (λ (n : ℕ). take n lines) (add-one i) ∙ take-suc lines i line lt ∙ ap (λ (l : SourceLine). take i lines ++ l ∷ []) (sym is) in
    subst (λ (ls : List SourceLine). ArePlans p segments ls (plans ++ plan ∷ [])) (sym one_more)
    (record {
      own = plans_more p (take i lines) plans line plan are.own own;
      shared = all_more (λ (q : Plan). q.segments ≡ segments) plans plan are.shared same;
    })

pub share_segments : (segments : List Segment) (plans : List Plan) → AllByRecursion (λ plan. plan.segments ≡ segments) plans → ShareSegments plans
share_segments segments plans all first second a b =
    all_in (λ (q : Plan). q.segments ≡ segments) plans first all a
    ∙ sym (all_in (λ (q : Plan). q.segments ≡ segments) plans second all b)

-- plans with the segments of a program's nodes have an empty one for each node that items come from
pub empty_there : (p : Program) (sets : List (List Hold)) (plans : List Plan)
    → AllByRecursion (λ plan. plan.segments ≡ segments_of (origins_of p.sources) sets p.nodes) plans
    → AllByRecursion (λ line. (line.node.0 < length p.nodes) × (line.target.0 < length p.nodes)) p.sources
    → AreSourcesEmpty p plans
empty_there p sets plans all below plan line is among =
    let origins = origins_of p.sources in
    let same = all_in (λ (q : Plan). q.segments ≡ segments_of origins sets p.nodes) plans plan all is in
    let inside = all_in (λ (l : SourceLine). (l.node.0 < length p.nodes) × (l.target.0 < length p.nodes)) p.sources line below among in
    ap (λ (segments : List Segment). slice_get segments line.node.0) same
    ∙ segment_at origins sets p.nodes line.node.0
    ∙ by (slice_get p.nodes line.node.0) refl inside.0
  where
    by : (found : Option Node) → slice_get p.nodes line.node.0 ≡ found → line.node.0 < length p.nodes
        → option_map (segment_for (origins_of p.sources) (held_by sets line.node.0) line.node.0) found ≡ Some empty
    by None at less = absurd (found_below p.nodes line.node.0 less at)
    by (Some node) at less = rw (own_known p.sources line among) refl
