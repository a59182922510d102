-- The nodes that items come from: no flow reaches them, and their segments are empty.
use Rattle.std.specs.Prelude.{◌≡◌, ℕ, List, [], Some}
use Rattle.std.specs.List.{slice_get, Contains}
use Rattle.flux_model.specs.declared.programs.SourceLine.{SourceLine}
use Rattle.flux_model.specs.declared.programs.Program.{Program}
use Rattle.flux_model.specs.Leading.{leads_in}
use Rattle.flux_model.specs.Children.{IsIn}
use Rattle.flux_plan.specs.declared.plans.Plan.{Plan}
use Rattle.flux_plan.specs.declared.plans.Segment.{Segment}

-- no flow reaches a source's own node: it is no source's target, and no node leads to it. So it is in each program that is
-- sound for a library
pub record AreApart (p : Program) : Type 0 where
  pub targets : (line other : SourceLine) → Contains p.sources line → Contains p.sources other
      → line.node.0 ≡ other.target.0 → ⊥
  pub led : (line : SourceLine) (number : ℕ) → Contains p.sources line
      → IsIn line.node.0 (leads_in p.nodes number) → ⊥

-- the segment without instructions
abbrev pub empty : Segment
empty = record { code = []; exit = 0 }

-- in each plan the own node of each source has an empty segment
abbrev pub AreSourcesEmpty : Program → List Plan → Type 0
AreSourcesEmpty p plans = (plan : Plan) (line : SourceLine) → Contains plans plan → Contains p.sources line
    → slice_get plan.segments line.node.0 ≡ Some empty
