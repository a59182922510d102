-- The values that a flow carries.
use Rattle.std.specs.Prelude.{List, []}
use Rattle.flux_values.specs.declared.values.Value.{Value}
use Rattle.flux_values.specs.declared.answers.CallResult.{CallResult}
use Rattle.flux_values.specs.declared.answers.CallResult.TheVariants.{Good, Bad}

-- the values of a call that ended well; a failure has none of its own: what a flow has at hand stays as it was then
abbrev pub good_values : CallResult → List Value
good_values (Good values) = values
good_values (Bad code) = []
