-- A batch in a log: its number and its items, and the lines of its journal, with the number of bytes that a call emits in
-- place of the bytes.
use Rattle.std.specs.Prelude.{ℕ, List, [], ◌∷◌, ◌++◌, length, codes}
use Rattle.std.specs.List.{flat_map}
use Rattle.std.specs.Fmt.{decimal}
use Rattle.flux_model.specs.declared.programs.Program.{Program}
use Rattle.flow_model.specs.declared.journals.CallMade.{CallMade}
use Rattle.flow_model.specs.declared.journals.Event.{Event}
use Rattle.flow_model.specs.declared.journals.Event.TheVariants.{Take, Wait, Enter, Choose, Call, Exit, Drop, End}
use Rattle.flow_model.specs.declared.journals.Entry.{Entry}
use Rattle.flow_model.specs.declared.journals.Journal.{Journal}
use Rattle.flux_model.specs.declared.items.Item.{Item}
use Rattle.flux_model.specs.Texts.{node_name, printed_values, printed_item}
use Rattle.flow_model.specs.Texts.{printed_result, printed_put, printed_event}

-- how many bytes are emitted, where there are any
abbrev pub printed_sent : List ℕ → List ℕ
printed_sent [] = []
printed_sent (b ∷ bytes) = codes " sent " ++ decimal (length (b ∷ bytes))

abbrev pub logged_call : Program → CallMade → List ℕ
logged_call p made =
    codes "call " ++ node_name p made.node ++ codes " " ++ printed_values made.args ++ codes " " ++ printed_result made.answer.result
    ++ flat_map printed_put made.answer.puts ++ printed_sent made.answer.emits

abbrev pub logged_event : Program → Event → List ℕ
logged_event p (Take key mode) = printed_event p (Take key mode)
logged_event p (Wait key mode) = printed_event p (Wait key mode)
logged_event p (Enter node) = printed_event p (Enter node)
logged_event p (Choose place) = printed_event p (Choose place)
logged_event p (Call made) = logged_call p made
logged_event p (Exit node outcome) = printed_event p (Exit node outcome)
logged_event p (Drop key) = printed_event p (Drop key)
logged_event p (End outcome) = printed_event p (End outcome)

abbrev pub logged_entry : Program → Entry → List ℕ
logged_entry p entry = decimal entry.flow.0 ++ codes " " ++ logged_event p entry.event ++ codes "\n"

abbrev pub printed_log : Program → Journal → List ℕ
printed_log p journal = flat_map (logged_entry p) journal.entries

-- an item's line
abbrev pub item_line : Program → Item → List ℕ
item_line p item = printed_item p item ++ codes "\n"

-- a batch: its number and how many items it has, these, and its journal
abbrev pub batch_line : ℕ → ℕ → List ℕ
batch_line number count = codes "batch " ++ decimal number ++ codes " " ++ decimal count

abbrev pub printed_batch : Program → ℕ → List Item → Journal → List ℕ
printed_batch p number items journal =
    batch_line number (length items) ++ codes "\n" ++ flat_map (item_line p) items ++ printed_log p journal
