-- Places of flows that have done nothing. No promise cites it.
use Rattle.std.specs.Prelude.{◌≡◌, false, List, [], ◌∷◌, Some, ⊤}
use Rattle.std.specs.List.{slice_get}
use Rattle.flux_values.specs.Meanings.{LibraryMeaning}
use Rattle.flux_model.specs.declared.programs.Program.{Program}
use Rattle.flux_model.specs.declared.programs.SourceLine.{SourceLine}
use Rattle.flux_model.specs.declared.items.Item.{Item}
use Rattle.flow_model.specs.Keys.{session_number}
use Rattle.flux_plan.specs.Machine.{fresh}
use Rattle.flow_state.specs.declared.places.Place.{Place}

-- an item's flow has just its values
pub record IsFreshPlace (meaning : LibraryMeaning) (p : Program) (item : Item) (place : Place) : Type 0 where
  pub line : SourceLine
  pub is_line : slice_get p.sources item.source.0 ≡ Some line
  pub local : place.local ≡ fresh item.values
  pub session : place.session ≡ session_number meaning line.session item.values
  pub stands : place.stands ≡ false

abbrev pub AreFreshPlaces : LibraryMeaning → Program → List Item → List Place → Type 0
AreFreshPlaces meaning p [] [] = ⊤
AreFreshPlaces meaning p [] (place ∷ places) = ⊥
AreFreshPlaces meaning p (item ∷ items) [] = ⊥
AreFreshPlaces meaning p (item ∷ items) (place ∷ places) =
    IsFreshPlace meaning p item place × AreFreshPlaces meaning p items places
