-- What `serve` has done, and why it answers 0, from what a call of the program has done.
use Rattle.std.proofs.Common.{◌≡◌, ◌⊎◌, inl, inr, ℕ, List, [], refl, sym, subst, ◌∙◌}
use Rattle.flux_outside.specs.Causes.{Rose}
use Rattle.flux_serve.specs.declared.batches.ServeEnd.{ServeEnd}
use Rattle.flux_serve.specs.declared.batches.ServeEnd.TheVariants.{Closed, Counted, Door, Log, Memory}
use Rattle.flux_cli.specs.Forms.{Serving}
use Rattle.flux_cli.specs.Commands.{Command, serve, Spells}
use Rattle.flux_cli.proofs.OneCommand.{one_command}
use Rattle.flux_commands.specs.declared.statuses.Status.{Status}
use Rattle.flux_commands.specs.declared.statuses.Status.TheVariants as statuses
use Rattle.flux_driver.specs.Seen.{Seen}
use Rattle.flux_commands.specs.Answers.{Libraries, OrMemory}
use Rattle.flux_driver.specs.Serving.{end_status, HasServedFile, HasServedWords}
use Rattle.flux_driver.specs.Top.{HasAnswered, HasDone, Decides}
use Rattle.flux_headline.specs.ServedHeadline.{HasServedOut, ServingIsTrue, ServingIsAnswered}

-- ends with status 0
is_out : (end : ServeEnd) → statuses.Done ≡ end_status end → (end ≡ Closed) ⊎ (end ≡ Counted)
is_out Closed e = inl refl
is_out Counted e = inr refl
is_out Door e = absurd cc
is_out Log e = absurd cc
is_out Memory e = absurd cc

-- what serving a command's file has done
abbrev ServedBy : Libraries → Seen → Seen → Command → Type 0
ServedBy library before after (serve file serving) = HasServedOut library before after file serving
ServedBy library before after other = ⊥

pub serving_true : ServingIsTrue
serving_true library words before after file serving spelled done = by done.answered
  where
    by : HasAnswered library words before statuses.Done after ⊎ HasServedWords library words before statuses.Done after → HasServedOut library before after file serving
    by (inl answered) = absurd (answered.other refl file serving spelled)
    by (inr served) =
        let same = one_command words (serve served.file served.serving) (serve file serving) served.spelled spelled in
        let has = served.has in
        subst (ServedBy library before after) same (record { has = has; ended = is_out has.end served.is })

pub serving_answered : ServingIsAnswered
serving_answered library words before after status file serving spelled tells there none still done =
    decide (done.complete (serve file serving) spelled tells statuses.Done [] [] (record { docs = there.docs; are = there.are_docs; says = (refl, there.there) }, refl))
  where
    no_reading : status ≡ statuses.Read → ⊥
    no_reading read = by (let reading = done.reading in reading.failed read)
      where
        by : (let own = before.store in let later = after.store in Rose own.faults later.faults) ⊎ (let own = before.folder in let later = after.folder in Rose own.faults later.faults) → ⊥
        by (inl store) = none.store store
        by (inr folder) = none.folder folder

    decide : OrMemory status (Decides status statuses.Done) → OrMemory status (status ≡ statuses.Done)
    decide (inr short) = inr short
    decide (inl (inl is)) = inl is
    decide (inl (inr (inl read))) = absurd (no_reading read)
    decide (inl (inr (inr (inl write, is)))) = let writing = done.writing in absurd (none.out (writing.failed write))
    decide (inl (inr (inr (inr door, is)))) = let entrance = done.entrance in absurd (still (entrance.failed door))
