-- What the fields of a core mean, and what holds of them. No promise cites it.
use Rattle.std.specs.Prelude.{◌≡◌}
use Rattle.flux_values.specs.Meanings.{LibraryMeaning}
use Rattle.flow_state.specs.States.{FlowState}
use Rattle.flow_core.specs.declared.fields.Fields.{Fields}
use Rattle.flow_core.specs.States.{CoreState, IsKept}

abbrev pub core_of : {L : Type 0} → Fields L → CoreState L
core_of {L} r = let state : FlowState L = r.state in record {
  setup = state.setup;
  entries = state.entries;
  begun = r.begun.items;
  halted = r.halted;
}

-- the journal has the entries that the flows made
pub record AreFields {L : Type 0} (meaning : L → LibraryMeaning) (r : Fields L) : Type 0 where
  pub kept : IsKept meaning (core_of r)
  pub written : let journal = r.journal in let state = r.state in journal.entries ≡ state.entries
