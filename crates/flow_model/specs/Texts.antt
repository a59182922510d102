-- How journals are printed.
use Rattle.std.specs.Prelude.{ℕ, List, [], ◌∷◌, ◌++◌, slice_get, Option, Some, None, codes}
use Rattle.std.specs.List.{flat_map}
use Rattle.std.specs.Fmt.{decimal}
use Rattle.flux_values.specs.Texts.{printed_value, printed_text}
use Rattle.flux_values.specs.declared.values.Value.{Value}
use Rattle.flux_values.specs.declared.answers.CallResult.{CallResult}
use Rattle.flux_values.specs.declared.answers.CallResult.TheVariants as results
use Rattle.flux_values.specs.declared.answers.Put.{Put}
use Rattle.flux_model.specs.Texts.{node_name, class_name, printed_values, printed_mode}
use Rattle.flux_model.specs.declared.programs.Program.{Program}
use Rattle.flux_model.specs.declared.programs.NodeNo.{NodeNo}
use Rattle.flow_model.specs.declared.journals.Key.{Key}
use Rattle.flow_model.specs.declared.journals.Outcome.{Outcome}
use Rattle.flow_model.specs.declared.journals.Outcome.TheVariants as outcomes
use Rattle.flow_model.specs.declared.journals.CallMade.{CallMade}
use Rattle.flow_model.specs.declared.journals.Event.{Event}
use Rattle.flow_model.specs.declared.journals.Event.TheVariants.{Take, Wait, Enter, Choose, Call, Exit, Drop, End}
use Rattle.flow_model.specs.declared.journals.Entry.{Entry}
use Rattle.flow_model.specs.declared.journals.Journal.{Journal}

-- a key: its class's name, and for a session class the session's number
abbrev pub printed_session : Option ℕ → List ℕ
printed_session None = []
printed_session (Some number) = codes "@" ++ decimal number

abbrev pub printed_key : Program → Key → List ℕ
printed_key p key = class_name (slice_get p.classes key.class.0) ++ printed_session key.id

-- a call's result, its puts and its emission
abbrev pub printed_result : CallResult → List ℕ
printed_result (results.Good values) = codes "ok " ++ printed_values values
printed_result (results.Bad code) = codes "fail " ++ decimal code

abbrev pub printed_change : Put → Option Value → List ℕ
printed_change put None = codes " cut " ++ put.cell ++ codes " " ++ printed_text put.name
printed_change put (Some value) = codes " put " ++ put.cell ++ codes " " ++ printed_text put.name ++ codes " " ++ printed_value value

abbrev pub printed_put : Put → List ℕ
printed_put put = printed_change put put.value

abbrev pub printed_emission : List ℕ → List ℕ
printed_emission [] = []
printed_emission (b ∷ bytes) = codes " emits " ++ printed_text (b ∷ bytes)

abbrev pub printed_call : Program → CallMade → List ℕ
printed_call p made =
    codes "call " ++ node_name p made.node ++ codes " " ++ printed_values made.args ++ codes " " ++ printed_result made.answer.result
    ++ flat_map printed_put made.answer.puts ++ printed_emission made.answer.emits

-- how a node is left, and how a flow ends
abbrev pub printed_exit : Outcome → List ℕ
printed_exit outcomes.Good = codes "ok"
printed_exit outcomes.Over = codes "over"
printed_exit (outcomes.Bad code) = codes "fail " ++ decimal code

abbrev pub printed_end : Outcome → List ℕ
printed_end outcomes.Good = codes "done"
printed_end outcomes.Over = codes "handled"
printed_end (outcomes.Bad code) = codes "fail " ++ decimal code

abbrev pub printed_event : Program → Event → List ℕ
printed_event p (Take key mode) = codes "take " ++ printed_key p key ++ printed_mode mode
printed_event p (Wait key mode) = codes "wait " ++ printed_key p key ++ printed_mode mode
printed_event p (Enter node) = codes "enter " ++ node_name p node
printed_event p (Choose place) = codes "choose " ++ decimal place
printed_event p (Call made) = printed_call p made
printed_event p (Exit node outcome) = codes "exit " ++ node_name p node ++ codes " " ++ printed_exit outcome
printed_event p (Drop key) = codes "drop " ++ printed_key p key
printed_event p (End outcome) = codes "end " ++ printed_end outcome

-- a line: the flow's number, a space, the event and LF
abbrev pub printed_entry : Program → Entry → List ℕ
printed_entry p entry = decimal entry.flow.0 ++ codes " " ++ printed_event p entry.event ++ codes "\n"

abbrev pub printed_journal : Program → Journal → List ℕ
printed_journal p journal = flat_map (printed_entry p) journal.entries
