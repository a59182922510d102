-- The items of a text have the values that their sources give.
use Rattle.std.proofs.Common.{◌≡◌, ℕ, List, [], ◌∷◌, map, Option, Some, None, sym, subst, ◌∙◌}
use Rattle.std.specs.List.{slice_get, filter_map, AllByRecursion}
use Rattle.std.specs.Option.{option_map}
use Rattle.std.proofs.lemmas.Option.{slice_get-map}
use Rattle.flux_values.specs.declared.values.Kind.{Kind}
use Rattle.flux_values.specs.declared.values.Value.{Value}
use Rattle.flux_values.specs.Values.{kind_of}
use Rattle.flux_values.specs.Reading.{IsValue}
use Rattle.flux_model.specs.declared.programs.Program.{Program}
use Rattle.flux_model.specs.declared.programs.SourceLine.{SourceLine}
use Rattle.flux_model.specs.declared.items.Item.{Item}
use Rattle.flux_model.specs.Items.{IsItemOf, IsItemFor}
use Rattle.flux_model.specs.Kinds.{NodeKinds}
use Rattle.flux_model.specs.Locks.{Holds}
use Rattle.flux_items.specs.Spelled.{SpellEach}
use Rattle.flux_items.specs.Items.{IsItemLine, GiveEach, AreItemsOf}
use Rattle.flux_commands.specs.Items.{rules_of}

each_value : (spellings : List (List ℕ)) (values : List Value) → SpellEach spellings values → AllByRecursion IsValue values
each_value [] [] each = tt
each_value [] (value ∷ values) each = absurd each
each_value (spelling ∷ spellings) [] each = absurd each
each_value (spelling ∷ spellings) (value ∷ values) each = let own = each.0 in (own.is_value, each_value spellings values each.1)

module _ (p : Program) (kinds : ℕ → NodeKinds) (locks : Holds) where
  abbrev outs : SourceLine → List Kind
  outs line = let from = kinds line.node.0 in from.outs

  item_fits : (line : List ℕ) (item : Item) → IsItemLine (rules_of p kinds locks) line item → IsItemFor p kinds item
  item_fits line item is = one (slice_get p.sources item.source.0) (sym (slice_get-map outs p.sources item.source.0) ∙ is.kinds)
    where
      one : (found : Option SourceLine) → option_map outs found ≡ Some (map kind_of item.values) → IsItemOf kinds found item.values
      one None e = absurd cc
      one (Some source) e =
          let own : outs source ≡ map kind_of item.values = cc in
          let spelled = is.spelled in record { have = sym own; each = each_value spelled.spellings item.values spelled.each }

  each_fits : (lines : List (List ℕ)) (given : List (Option Item)) → GiveEach (rules_of p kinds locks) lines given → AllByRecursion (IsItemFor p kinds) (filter_map (λ item. item) given)
  each_fits [] [] each = tt
  each_fits [] (one ∷ given) each = absurd each
  each_fits (line ∷ lines) [] each = absurd each
  each_fits (line ∷ lines) (Some item ∷ given) each = (item_fits line item each.0, each_fits lines given each.1)
  each_fits (line ∷ lines) (None ∷ given) each = each_fits lines given each.1

  pub items_fit : (items : List Item) (text : List ℕ) → AreItemsOf (rules_of p kinds locks) items text → AllByRecursion (IsItemFor p kinds) items
  items_fit items text are = let give = are.give in subst (AllByRecursion (IsItemFor p kinds)) (sym give.are) (each_fits _ give.given give.each)
