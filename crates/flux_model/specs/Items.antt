-- Items have the values that their sources give.
use Rattle.std.specs.Prelude.{◌≡◌, ℕ, List, map, Option, Some, None}
use Rattle.std.specs.List.{slice_get, AllByRecursion}
use Rattle.flux_values.specs.declared.values.Kind.{Kind}
use Rattle.flux_values.specs.declared.values.Value.{Value}
use Rattle.flux_values.specs.Values.{kind_of}
use Rattle.flux_values.specs.Reading.{IsValue}
use Rattle.flux_model.specs.declared.programs.Program.{Program}
use Rattle.flux_model.specs.declared.programs.SourceLine.{SourceLine}
use Rattle.flux_model.specs.declared.items.Item.{Item}
use Rattle.flux_model.specs.Kinds.{NodeKinds}

-- values of these kinds: numbers of 64 bits and texts of at most 65,536 bytes among them
pub record AreValues (kinds : List Kind) (values : List Value) : Type 0 where
  pub have : map kind_of values ≡ kinds
  pub each : AllByRecursion IsValue values

-- an item of a source line has values of the kinds that its source gives
abbrev pub IsItemOf : (ℕ → NodeKinds) → Option SourceLine → List Value → Type 0
IsItemOf kinds None values = ⊥
IsItemOf kinds (Some line) values = let from = kinds line.node.0 in AreValues from.outs values

abbrev pub IsItemFor : Program → (ℕ → NodeKinds) → Item → Type 0
IsItemFor p kinds item = IsItemOf kinds (slice_get p.sources item.source.0) item.values
