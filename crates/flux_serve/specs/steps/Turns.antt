-- What a flow's turn leads to. No promise cites it.
use Rattle.std.specs.Prelude.{◌≡◌, true, ⊤}
use Rattle.flux_model.specs.declared.items.FlowNo.{FlowNo}
use Rattle.flux_laws.specs.Growth.{has_ended}
use Rattle.flow_core.specs.States.{CoreState}
use Rattle.flow_turns.specs.Turns.{IsOwnCall}
use Rattle.flux_batches.specs.Replies.{reply_of}
use Rattle.flux_serve.specs.declared.turns.Next.{Next}
use Rattle.flux_serve.specs.declared.turns.Next.TheVariants.{Runs, Replies, Stands}

-- its call; or its reply, where it has its `end`
abbrev pub LeadsTo : {L : Type 0} → CoreState L → FlowNo → Next L → Type 0
LeadsTo core flow (Runs job) = IsOwnCall core flow job
LeadsTo core flow (Replies reply) =
    (has_ended core.entries flow.0 ≡ true) × (reply.items ≡ reply_of flow.0 core.entries)
LeadsTo core flow (Stands stage) = ⊤
