-- What `verify` answers instead of a plan.
use Rattle.std.specs.Prelude.{ℕ, ◌≤◌, ⊤}
use Rattle.flux_plan.specs.declared.plans.Plan.{Plan}
use Rattle.flux_plan.specs.Faulty.{IsFaulty}
use Rattle.flux_verify.specs.declared.verified.VerifyFault.{VerifyFault}
use Rattle.flux_verify.specs.declared.verified.VerifyFault.TheVariants.{Bad, Memory}

-- the lowest node that has a faulty place, and its first such place
pub record IsFirstFault (plan : Plan) (node place : ℕ) : Type 0 where
  pub faulty : IsFaulty plan node place
  pub lowest : (other at : ℕ) → IsFaulty plan other at → node ≤ other
  pub first : (at : ℕ) → IsFaulty plan node at → place ≤ at

-- what `verify` may answer instead of a plan; want of memory may come at any time
abbrev pub IsFaultOf : Plan → VerifyFault → Type 0
IsFaultOf plan (Bad node place) = IsFirstFault plan node.0 place
IsFaultOf plan Memory = ⊤
