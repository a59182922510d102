-- The summary of a run: how many items and events, and the total that was counted.
use Rattle.std.specs.Prelude.{◌&&◌, not, ℕ, pos, Bool, true, false, List, ◌++◌, count_by, position, Option, Some, None, codes}
use Rattle.std.specs.Option.{option_map}
use Rattle.std.specs.Str.{bytes_eq}
use Rattle.std.specs.Fmt.{decimal}
use Rattle.std.specs.FinMap.{get}
use Rattle.flux_values.specs.declared.values.Value.{Value}
use Rattle.flux_values.specs.declared.values.Value.TheVariants.{Int}
use Rattle.flux_values.specs.Texts.{printed_value}
use Rattle.flux_model.specs.declared.programs.Class.{Class}
use Rattle.flux_model.specs.declared.programs.Program.{Program}
use Rattle.flow_model.specs.declared.journals.Event.{Event}
use Rattle.flow_model.specs.declared.journals.Event.TheVariants.{Wait}
use Rattle.flow_model.specs.declared.journals.Entry.{Entry}
use Rattle.flow_model.specs.declared.journals.Key.{Key}
use Rattle.flow_model.specs.Keys.{Cells}

-- an event that is no wait
abbrev pub is_step : Event → Bool
is_step (Wait key mode) = false
is_step other = true

-- how many entries are no waits
abbrev pub step_count : List Entry → ℕ
step_count entries = count_by (λ entry. is_step entry.event) entries

-- a class of the whole program that has this name
abbrev pub is_shared : List ℕ → Class → Bool
is_shared name class = bytes_eq class.name name && not class.session

-- its key, where the program has it
abbrev pub shared_key : Program → List ℕ → Option Key
shared_key p name =
    option_map (λ place. record { class = record { 0 = place }; id = None }) (position (is_shared name) p.classes)

-- a value's number; 0 where there is none, or it is of another kind
abbrev pub number_of : Option Value → Value
number_of (Some (Int number)) = Int number
number_of other = Int (pos 0)

-- the number under a name in a key's cell
abbrev pub number_at : Cells → Option Key → List ℕ → Value
number_at cells None name = Int (pos 0)
number_at cells (Some key) name = number_of (get (cells key) name)

-- the name `total` of the cell `counter`
abbrev pub total_in : Program → Cells → Value
total_in p cells = number_at cells (shared_key p (codes "counter")) (codes "total")

-- the three lines of a run of so many items, by its entries and the cells at its end
abbrev pub printed_summary : Program → ℕ → List Entry → Cells → List ℕ
printed_summary p flows entries cells =
    codes "items " ++ decimal flows
    ++ codes "\nevents " ++ decimal (step_count entries)
    ++ codes "\ntotal " ++ printed_value (total_in p cells) ++ codes "\n"
