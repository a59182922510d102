-- What the fields of a `Local` and its stack mean.
use Rattle.std.specs.Prelude.{◌≡◌, if◌then◌else◌, [], reverse, MatchBool, ⊤}
use Rattle.flow_model.specs.declared.journals.Outcome.TheVariants.{Good}
use Rattle.flux_plan.specs.declared.stacks.Stack.{Stack}
use Rattle.flux_plan.specs.declared.locals.Local.TheInside.{Inside}
use Rattle.flux_plan.specs.Machine.{State, Position, fresh, at}

-- the innermost frame comes last
abbrev pub state_of : Stack → State
state_of s = record { frames = reverse s.frames.items; values = s.values; outcome = s.outcome }

-- before its beginning a flow has just its values
abbrev pub position_of : Inside → Position
position_of l = if l.begun then at (state_of l.stack) else fresh l.stack.values

-- then it has no frames, and all is well
pub record IsBlank (s : Stack) : Type 0 where
  pub frames : s.frames.items ≡ []
  pub outcome : s.outcome ≡ Good

abbrev pub IsLocal : Inside → Type 0
IsLocal l = MatchBool l.begun ⊤ (IsBlank l.stack)
