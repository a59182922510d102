-- A core may cross threads where its library may: the prover alone does not look so deep into its fields.
use denote.RattleType.{RattleType}
use denote.Param.Send.{IsSend, IsSync, sendable, view_send}
use denote.Param.SendFields.{declared_send}
use Rattle.std.proofs.Crossing.{send as heap_send, crosses}
use Rattle.flux_values.specs.declared.meanings.Meaning as meaning
use Rattle.flux_values.proofs.lists.List.TheSendSync.{the_send as list_send}
use Rattle.flow_model.proofs.journals.Journal.TheSendSync.{the_send as journal_send}
use Rattle.flux_table.proofs.tables.Table.TheSendSync.{the_send as locks_send}
use Rattle.flux_cells.proofs.kept.Cells.TheSendSync.{the_send as cells_send}
use Rattle.flow_state.proofs.setups.Setup.TheSendSync.{the_send as setup_send}
use Rattle.flow_state.proofs.places.Place.TheSendSync.{the_send as place_send}
use Rattle.flow_state.specs.contracts.made.Made as made
use Rattle.flow_state.specs.contracts.fields.Fields as fields
use Rattle.flow_state.specs.contracts.states.State as state
use Rattle.flow_state.specs.contracts.states.State.TheInside as state_fields
use Rattle.flow_core.proofs.calls.Begun.TheSendSync.{the_send as begun_send}
use Rattle.flow_core.specs.contracts.cores.Core as core
use Rattle.flow_core.specs.contracts.cores.Core.TheInside as core_fields
use Rattle.flow_core.specs.contracts.fields.Fields as inner

made_send : IsSend made.the_row
made_send = search (crosses, sendable) depth 80

module _ (L : RattleType) (m : meaning.Ghosts L.Denot) where
  fields_send : IsSend L → IsSync L → IsSend (fields.the_row L)
  fields_send send sync = declared_send (fields.the_type L) (
    search (heap_send, crosses, sendable) depth 40,
    (
      search (setup_send, sendable) depth 40,
      (
        search (place_send, crosses, sendable) depth 40,
        (
          search (locks_send, sendable) depth 40,
          (
            search (cells_send, sendable) depth 40,
            (
              search sendable depth 40,
              (search (list_send, crosses, sendable) depth 40, (search (made_send, sendable) depth 40, tt)),
            ),
          ),
        ),
      ),
    ),
  )

  state_send : IsSend L → IsSync L → IsSend (state.the_row L m)
  state_send send sync = view_send (state_fields.the_row L m) _ _ _ _ (declared_send (state_fields.the_type L m)
      (fields_send send sync, tt))

  inner_send : IsSend L → IsSync L → IsSend (inner.the_row L m)
  inner_send send sync = declared_send (inner.the_type L m) (
    state_send send sync,
    (
      search (journal_send, sendable) depth 40,
      (
        search (begun_send, crosses, sendable) depth 40,
        (search sendable depth 40, tt),
      ),
    ),
  )

  pub core_send : IsSend L → IsSync L → IsSend (core.the_row L m)
  core_send send sync = view_send (core_fields.the_row L m) _ _ _ _ (declared_send (core_fields.the_type L m)
      (inner_send send sync, tt))
