-- Plans that share their segments.
use Rattle.std.specs.Prelude.{◌≡◌, List}
use Rattle.std.specs.List.{Contains}
use Rattle.flux_plan.specs.declared.plans.Plan.{Plan}

-- all plans have the same segments
abbrev pub ShareSegments : List Plan → Type 0
ShareSegments plans = (first second : Plan) → Contains plans first → Contains plans second
    → first.segments ≡ second.segments
