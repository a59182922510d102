-- The list that a ghost log is seen as. No promise cites it.
use Rattle.std.specs.Prelude.{List, [], ◌∷◌, ◌++◌}
use Rattle.flow_model.specs.declared.journals.Entry.{Entry}
use Rattle.flow_model.specs.declared.journals.Event.TheVariants.{Call}
use Rattle.flow_state.specs.declared.ghost_logs.LastEntry.{LastEntry}
use Rattle.flow_state.specs.declared.ghost_logs.LastEntry.TheVariants as lasts

-- the entries of the log before the last one, and that one
abbrev pub entries_in : LastEntry → List Entry
entries_in lasts.Nothing = []
entries_in (lasts.Entry before entry) = before.value ++ entry.value ∷ []
entries_in (lasts.Call before flow made) = before.value ++ record { flow = flow; event = Call made.value } ∷ []
