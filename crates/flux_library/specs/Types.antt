-- The types that every library has.
use Rattle.std.specs.Prelude.{ℕ, ◌||◌, if◌then◌else◌, List, Option, Some, None, codes}
use Rattle.std.specs.Str.{bytes_eq}
use Rattle.flux_values.specs.declared.values.Kind.{Kind}
use Rattle.flux_values.specs.declared.values.Kind.TheVariants as kinds

-- `int` and `long` are numbers, `text` and `char*` are texts
abbrev pub kind_spelled : List ℕ → Option Kind
kind_spelled ty =
    if bytes_eq ty (codes "int") || bytes_eq ty (codes "long") then Some kinds.Int else
    if bytes_eq ty (codes "bool") then Some kinds.Bool else
    if bytes_eq ty (codes "text") || bytes_eq ty (codes "char*") then Some kinds.Text else None
