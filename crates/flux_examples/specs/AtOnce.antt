-- A call that is made at once, and what is answered of a flow that is blocked: a small core and a small journal.
use Rattle.std.specs.Prelude.{false, List, [], ◌∷◌, Option, Some, None}
use Rattle.flux_values.specs.declared.answers.CallResult.TheVariants as results
use Rattle.flux_values.specs.declared.answers.Mode.TheVariants.{Writer}
use Rattle.flux_values.specs.Meanings.{LibraryMeaning}
use Rattle.flow_model.specs.declared.journals.CallMade.{CallMade}
use Rattle.flow_model.specs.declared.journals.Entry.{Entry}
use Rattle.flow_model.specs.declared.journals.Event.TheVariants.{Take, Enter, Call}
use Rattle.flow_state.specs.declared.inputs.Inputs.{Inputs}
use Rattle.flow_state.specs.declared.readiness.Readiness.TheVariants.{Blocked, Free}
use Rattle.flow_state.specs.Lines.{IsReadiness}
use Rattle.flow_core.specs.declared.cores.AtOnce.TheVariants.{Calling, Called}
use Rattle.flow_core.specs.States.{CoreState}
use Rattle.flow_core.specs.Moves.{HasSteppedAtOnce}
use Rattle.flux_examples.specs.Small.{int, no, answer, both_write, a, by}
use Rattle.flux_examples.specs.Legality.{failing}

-- one flow that has entered its node, whose library node always fails with 1
abbrev pub entered : Option Inputs → List Entry → CoreState LibraryMeaning
entered begun later = record {
  setup = record {
    program = failing.program;
    plans = [];
    items = failing.items;
    opening = [];
    library = failing.meaning;
  };
  entries = by 0 (Enter (no 0)) ∷ later;
  begun = begun ∷ [];
  halted = false;
}

abbrev pub its_inputs : Inputs
its_inputs = record { node = no 0; args = int 7 ∷ []; cells = [] }

abbrev pub its_call : CallMade
its_call = record { node = no 0; args = int 7 ∷ []; answer = answer (results.Bad 1) }

-- its call comes next, and is added with the library's answer
abbrev pub CallIsMade : Type 0
CallIsMade = HasSteppedAtOnce (λ library. library) (entered None []) (entered None (by 0 (Call its_call) ∷ []))
    (record { 0 = 0 }) Called

-- where it is begun, nothing is done
abbrev pub BegunCallWaits : Type 0
BegunCallWaits = HasSteppedAtOnce (λ library. library) (entered (Some its_inputs) []) (entered (Some its_inputs) [])
    (record { 0 = 0 }) Calling

-- and it isn't made a second time, whatever comes of it
abbrev pub BegunCallIsNotMade : Type 0
BegunCallIsNotMade = (new : CoreState LibraryMeaning)
    → HasSteppedAtOnce (λ library. library) (entered (Some its_inputs) []) new (record { 0 = 0 }) Called → ⊥

-- a flow whose key another one holds is blocked there, and has no wait yet; so the answer isn't that it is free
abbrev pub HeldIsBlocked : Type 0
HeldIsBlocked = IsReadiness both_write (by 0 (Take a Writer) ∷ []) 1
    (Blocked (record { key = a; mode = Writer; stands = false }))

abbrev pub HeldIsNotFree : Type 0
HeldIsNotFree = IsReadiness both_write (by 0 (Take a Writer) ∷ []) 1 Free → ⊥
