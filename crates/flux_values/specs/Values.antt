-- Values and their kinds.
use Rattle.std.specs.Prelude.{ℕ, List, Option, None, Some}
use Rattle.flux_values.specs.declared.values.Kind.{Kind}
use Rattle.flux_values.specs.declared.values.Kind.TheVariants as kinds
use Rattle.flux_values.specs.declared.values.Value.{Value}
use Rattle.flux_values.specs.declared.values.Value.TheVariants.{Int, Bool, Text}

-- the kind of a value
abbrev pub kind_of : Value → Kind
kind_of (Int number) = kinds.Int
kind_of (Bool truth) = kinds.Bool
kind_of (Text bytes) = kinds.Text

-- the text that a value is
abbrev pub text_of : Value → Option (List ℕ)
text_of (Int number) = None
text_of (Bool truth) = None
text_of (Text bytes) = Some bytes
