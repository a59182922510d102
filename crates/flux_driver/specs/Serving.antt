-- Serving: how it ends, and what it has done.
use Rattle.std.specs.Prelude.{◌≡◌, ◌⊎◌, ⊤, ℕ, List, [], Option, Some}
use Rattle.flux_library.specs.Documents.{DocMap}
use Rattle.flux_syntax.specs.ProgramOfText.{program_of}
use Rattle.flux_outside.specs.Streams.{WroteOrBroke}
use Rattle.flux_serve.specs.declared.batches.ServeEnd.{ServeEnd}
use Rattle.flux_serve.specs.declared.batches.ServeEnd.TheVariants.{Closed, Counted, Door, Log}
use Rattle.flux_serve.specs.declared.batches.ServeEnd.TheVariants.{Memory}
use Rattle.flux_serve.specs.declared.orders.BatchOrder.{BatchOrder}
use Rattle.flux_serve.specs.declared.orders.BatchOrder.TheVariants as orders
use Rattle.flux_serve.specs.Batches.{Service}
use Rattle.flux_serve.specs.Ends.{Sight, sight_of, HasServed}
use Rattle.flux_serve.specs.AtOnce.{HasServedAtOnce}
use Rattle.flux_doors.specs.Seen.{SeenLink}
use Rattle.flux_cli.specs.declared.replies.Replying.{Replying}
use Rattle.flux_cli.specs.declared.replies.Replying.TheVariants.{AtEnd, AtOnce}
use Rattle.flux_cli.specs.declared.values.Runtime.TheVariants.{Event, EventWithHelpers, Script}
use Rattle.flux_cli.specs.declared.values.Runtime.TheVariants.{PerFlow, Pool}
use Rattle.flux_cli.specs.Forms.{Serving}
use Rattle.flux_cli.specs.Commands.{serve, Spells}
use Rattle.flux_commands.specs.declared.statuses.Status.{Status}
use Rattle.flux_commands.specs.declared.statuses.Status.TheVariants as statuses
use Rattle.flux_driver.specs.Seen.{Seen}
use Rattle.flux_commands.specs.Origins.{named}
use Rattle.flux_commands.specs.Inputs.{HasServable}
use Rattle.flux_commands.specs.Documents.{AreDocs}
use Rattle.flux_commands.specs.Causes.{door_line, write_line}
use Rattle.flux_commands.specs.Answers.{Libraries}

-- the status with which serving ends
abbrev pub end_status : ServeEnd → Status
end_status Closed = statuses.Done
end_status Counted = statuses.Done
end_status Door = statuses.Door
end_status Log = statuses.Write
end_status Memory = statuses.Memory

-- and its line on `err`
abbrev pub end_line : ServeEnd → List ℕ
end_line Closed = []
end_line Counted = []
end_line Door = door_line
end_line Log = write_line
end_line Memory = []

-- an end before which the door may not have been opened
abbrev pub MayBeShut : ServeEnd → Type 0
MayBeShut Closed = ⊥
MayBeShut Counted = ⊥
MayBeShut Door = ⊤
MayBeShut Log = ⊥
MayBeShut Memory = ⊤

-- nothing came: but for the door's failures, what is seen of it is as it was, and so is the log
pub record IsUntouched {L : Type 0} (before after : Sight L) : Type 0 where
  pub to_come : after.to_come ≡ before.to_come
  pub taken_back : after.taken_back ≡ before.taken_back
  pub late : after.late ≡ before.late
  pub log_ : after.log ≡ before.log

-- the door is open at the port; or it is as it was, and nothing came
abbrev pub IsOpened : {L : Type 0} → ServeEnd → ℕ → Option ℕ → Option ℕ → Sight L → Sight L → Type 0
IsOpened end port was is before after =
    (is ≡ Some port) ⊎ (MayBeShut end × (is ≡ was) × IsUntouched before after)

-- the order in which the flows of a batch go on, by the words: by `event` flow after flow, each up
-- to its first call, its wait or its end; by a script as it says; by threads and helpers, and at
-- once, any
abbrev pub order_of : Replying → BatchOrder
order_of (AtEnd Event) = orders.Round
order_of (AtEnd (EventWithHelpers helpers)) = orders.Any
order_of (AtEnd (Script numbers)) = orders.Listed numbers
order_of (AtEnd PerFlow) = orders.Any
order_of (AtEnd (Pool workers)) = orders.Any
order_of (AtOnce workers) = orders.Any

-- what is promised of serving with replies after each batch, or at once; no clause says when one is
-- written, or by how many workers
abbrev pub HasServedBy : {L : Type 0} → Replying → (L → SeenLink) → Service → ℕ → Sight L → Sight L
    → ServeEnd → Type 0
HasServedBy (AtEnd runtime) see service wanted before after end =
    HasServed see service wanted before after end
HasServedBy (AtOnce workers) see service wanted before after end =
    HasServedAtOnce see service wanted before after end

-- a file's program was served:
--   docs, are_docs   with the documents of the folder that the words name;
--   there            the file has a sound program that can be served;
--   end, opened      serving ended so, and the door is open at the port that the words name; or it
--                    was never opened, and nothing came;
--   served           so many batches were served, or fewer, each in the order of the words; with
--                    `--at-once` the next one may have been broken off;
--   said             the end's line is on `err`, or a front of it where `err` failed.
pub record HasServedFile (library : Libraries) (file : List ℕ) (serving : Serving)
    (before after : Seen)
    : Type 0 where
  pub docs : DocMap
  pub are_docs : let told = before.told in AreDocs told.folders serving.docs docs
  pub there : let told = before.told in HasServable (library docs) told.files (named file)
  pub end : ServeEnd
  pub opened : let own = before.door in let later = after.door in
      IsOpened end serving.port own.open_at later.open_at
      (sight_of before.door before.out) (sight_of after.door after.out)
  pub served : let own = there in HasServedBy serving.replying (λ link. link)
      (record {
        program = program_of own.decls;
        framing = own.framing;
        order = order_of serving.replying;
        meaning = library docs;
      })
      serving.batches (sight_of before.door before.out) (sight_of after.door after.out) end
  pub said : WroteOrBroke before.err after.err (end_line end)

-- the words spell `serve`, and it was served
pub record HasServedWords (library : Libraries) (words : List (List ℕ)) (before : Seen)
    (status : Status) (after : Seen) : Type 0 where
  pub file : List ℕ
  pub serving : Serving
  pub spelled : Spells words (serve file serving)
  pub has : HasServedFile library file serving before after
  pub is : let own = has in status ≡ end_status own.end
