-- What serving has done is what a call of the program has done.
use Rattle.std.proofs.Common.{◌≡◌, ℕ, ◌⊎◌, inl, inr, List, refl, sym, ap, subst}
use Rattle.flux_library.specs.Documents.{DocMap}
use Rattle.std.specs.Prelude.{option_copied}
use Rattle.flux_outside.specs.Causes.{Rose}
use Rattle.flux_outside.specs.Streams.{WroteOrBroke}
use Rattle.flux_syntax.specs.ProgramOfText.{program_of}
use Rattle.flux_model.specs.declared.programs.Program.{Program}
use Rattle.flux_hoist.specs.declared.checked.Checked.{Checked}
use Rattle.flux_doors.specs.declared.framing.Framing.{Framing}
use Rattle.flux_serve.specs.declared.batches.ServeEnd.{ServeEnd}
use Rattle.flux_serve.specs.declared.batches.ServeEnd.TheVariants.{Closed, Counted, Door, Log, Memory}
use Rattle.flux_serve.specs.Batches.{Service}
use Rattle.flux_serve.specs.Ends.{sight_of}
use Rattle.flux_serve.specs.AtOnce.{HasServedAtOnce}
use Rattle.flux_serve.proofs.AtOnceSeen.{at_once_door_rose, at_once_door_same, at_once_log_rose, at_once_log_same}
use Rattle.flux_cli.specs.Forms.{Serving}
use Rattle.flux_cli.specs.Commands.{serve, Spells}
use Rattle.flux_commands.specs.declared.statuses.Status.{Status}
use Rattle.flux_commands.specs.declared.statuses.Status.TheVariants as statuses
use Rattle.flux_commands.specs.declared.services.Service as services
use Rattle.flux_commands.specs.Origins.{named}
use Rattle.flux_doors.specs.Seen.{SeenLink}
use Rattle.flux_driver.specs.Seen.{Seen}
use Rattle.flux_commands.specs.Inputs.{HasServable}
use Rattle.flux_commands.specs.Documents.{AreDocs}
use Rattle.flux_commands.specs.Answers.{Libraries, OrMemory}
use Rattle.flux_driver.specs.Serving.{end_status, end_line, IsOpened, HasServedBy, order_of, HasServedFile}
use Rattle.flux_commands.specs.Asked.{HasAsked}
use Rattle.flux_driver.specs.Top.{MayBreak, AreLater, Decides, IsComplete, HasDone}
use Rattle.flux_commands.specs.Counts.{AreSteady}
use Rattle.flux_commands.specs.Due.{AnswersWords}
use Rattle.flux_commands.specs.Ready.{command_of, IsReady}
use Rattle.flux_driver.proofs.Answered.{asked_then}
use Rattle.flux_driver.proofs.ServedBy.{at_once_of}
use Rattle.flux_commands.proofs.Readied.{has_servable}

-- ---- ends by their statuses

is_log : (end : ServeEnd) → end_status end ≡ statuses.Write → end ≡ Log
is_log Closed e = absurd cc
is_log Counted e = absurd cc
is_log Door e = absurd cc
is_log Log e = refl
is_log Memory e = absurd cc

is_door : (end : ServeEnd) → end_status end ≡ statuses.Door → end ≡ Door
is_door Closed e = absurd cc
is_door Counted e = absurd cc
is_door Door e = refl
is_door Log e = absurd cc
is_door Memory e = absurd cc

no_read : (end : ServeEnd) → end_status end ≡ statuses.Read → ⊥
no_read Closed e = absurd cc
no_read Counted e = absurd cc
no_read Door e = absurd cc
no_read Log e = absurd cc
no_read Memory e = absurd cc

-- an end is an answer to what is due, unless memory was short
answers_due : (end : ServeEnd) (due : Status) → statuses.Done ≡ due → OrMemory (end_status end) (Decides (end_status end) due)
answers_due Closed due e = inl (inl e)
answers_due Counted due e = inl (inl e)
answers_due Door due e = inl (inr (inr (inr refl, sym e)))
answers_due Log due e = inl (inr (inr (inl refl, sym e)))
answers_due Memory due e = inr refl

-- ---- the whole

module _ (library : Libraries) (words : List (List ℕ)) (before after : Seen) (file : List ℕ) (serving : Serving) (spelled : Spells words (serve file serving)) (has : HasServedFile library file serving before after) where
  abbrev own_end : ServeEnd
  own_end = has.end

  abbrev own_service : Service
  own_service = let there = has.there in record { program = program_of there.decls; framing = there.framing; order = order_of serving.replying; meaning = library has.docs }

  -- what is known of it, whenever replies were written
  known : HasServedAtOnce (λ (link : SeenLink). link) own_service serving.batches (sight_of before.door before.out) (sight_of after.door after.out) own_end
  known = at_once_of serving.replying (λ (link : SeenLink). link) serving.batches own_service (sight_of before.door before.out) (sight_of after.door after.out) own_end has.served

  log_counted : end_status own_end ≡ statuses.Write → (let own = before.out in let later = after.out in Rose own.faults later.faults)
  log_counted h = at_once_log_rose (λ (link : SeenLink). link) own_service serving.batches (sight_of before.door before.out) (sight_of after.door after.out) (subst (λ (end : ServeEnd). HasServedAtOnce (λ (link : SeenLink). link) own_service serving.batches (sight_of before.door before.out) (sight_of after.door after.out) end) (is_log own_end h) known)

  log_stands : (MayBreak (end_status own_end) → ⊥) → (let own = before.out in let later = after.out in later.faults ≡ own.faults)
  log_stands other = at_once_log_same (λ (link : SeenLink). link) own_service serving.batches (sight_of before.door before.out) (sight_of after.door after.out) own_end (λ e. other (subst MayBreak (sym (ap end_status e)) tt)) known

  door_counted : end_status own_end ≡ statuses.Door → (let own = before.door in let later = after.door in Rose own.faults later.faults)
  door_counted h = at_once_door_rose (λ (link : SeenLink). link) own_service serving.batches (sight_of before.door before.out) (sight_of after.door after.out) (subst (λ (end : ServeEnd). HasServedAtOnce (λ (link : SeenLink). link) own_service serving.batches (sight_of before.door before.out) (sight_of after.door after.out) end) (is_door own_end h) known)

  door_stands : (end_status own_end ≡ statuses.Door → ⊥) → (let own = before.door in let later = after.door in later.faults ≡ own.faults)
  door_stands other = at_once_door_same (λ (link : SeenLink). link) own_service serving.batches (sight_of before.door before.out) (sight_of after.door after.out) own_end (λ e. other (ap end_status e)) known

  abbrev Asked : Status → Type 0
  Asked status = let folder = before.folder in let folder_after = after.folder in let store = before.store in let store_after = after.store in
      HasAsked library words before.told status folder.asked folder_after.asked store.asked store_after.asked

  abbrev Steady : Type 0
  Steady = let folder = before.folder in let folder_after = after.folder in let store = before.store in let store_after = after.store in
      AreSteady store.faults store_after.faults folder.faults folder_after.faults

  complete_end : AnswersWords library words before.told statuses.Done → IsComplete library words before.told (end_status own_end)
  complete_end due command spells tells other u m d = decide (due command spells tells other u m d)
    where
      decide : (statuses.Done ≡ other) ⊎ ((statuses.Done ≡ statuses.Read) ⊎ (statuses.Done ≡ statuses.Memory)) → OrMemory (end_status own_end) (Decides (end_status own_end) other)
      decide (inl e) = answers_due own_end other e
      decide (inr (inl e)) = absurd cc
      decide (inr (inr e)) = absurd cc

  pub served_done : after.told ≡ before.told → AreLater before after → Asked statuses.Done → Steady → AnswersWords library words before.told statuses.Done → HasDone library words before (end_status own_end) after
  served_done kept later asked same due = record {
    kept = kept;
    later = later;
    asked = asked_then library words before.told statuses.Done (end_status own_end) _ _ _ _ (λ dir stopped. absurd stopped) (λ e. absurd cc) asked;
    answered = inr (record { file = file; serving = serving; spelled = spelled; has = has; is = refl });
    reading = record { failed = λ h. absurd (no_read own_end h); steady = λ other. (same.store_, same.folder_) };
    writing = record { failed = log_counted; steady = log_stands };
    entrance = record { failed = door_counted; steady = door_stands };
    usage = λ none. absurd (none (serve file serving) spelled);
    complete = complete_end due;
  }

-- ---- a program that was ready, and was served

module _ (library : Libraries) (words : List (List ℕ)) (before after : Seen) (service : services.Service) (docs : DocMap) (checked : Checked) (framing : Framing) (ready : let told = before.told in IsReady (library docs) told.files (named service.file.now) checked framing) where
  abbrev there_ : let told = before.told in HasServable (library docs) told.files (named service.file.now)
  there_ = let told = before.told in has_servable (library docs) told.files service.file.now checked framing ready

  own_program : checked.program ≡ (let there = there_ in program_of there.decls)
  unfolding has_servable
  own_program = ready.is

  served_file : (end : ServeEnd) → (let told = before.told in AreDocs told.folders (option_copied service.docs) docs)
      → HasServedBy service.replying (λ (link : SeenLink). link) (record { program = checked.program; framing = framing; order = order_of service.replying; meaning = library docs }) service.batches (sight_of before.door before.out) (sight_of after.door after.out) end
      → (let own = before.door in let later = after.door in IsOpened end service.port own.open_at later.open_at (sight_of before.door before.out) (sight_of after.door after.out)) → WroteOrBroke before.err after.err (end_line end)
      → HasServedFile library service.file.now (record { port = service.port; batches = service.batches; docs = option_copied service.docs; replying = service.replying }) before after
  unfolding has_servable
  served_file end are served opened said = record {
    docs = docs;
    are_docs = are;
    there = there_;
    end = end;
    opened = opened;
    served = subst (λ (p : Program). HasServedBy service.replying (λ (link : SeenLink). link) (record { program = p; framing = framing; order = order_of service.replying; meaning = library docs }) service.batches (sight_of before.door before.out) (sight_of after.door after.out) end) own_program served;
    said = said;
  }

  pub ready_done : (end : ServeEnd) (status : Status) → Spells words (command_of service) → (let told = before.told in AreDocs told.folders (option_copied service.docs) docs)
      → HasServedBy service.replying (λ (link : SeenLink). link) (record { program = checked.program; framing = framing; order = order_of service.replying; meaning = library docs }) service.batches (sight_of before.door before.out) (sight_of after.door after.out) end
      → (let own = before.door in let later = after.door in IsOpened end service.port own.open_at later.open_at (sight_of before.door before.out) (sight_of after.door after.out))
      → WroteOrBroke before.err after.err (end_line end) → after.told ≡ before.told → AreLater before after
      → (let folder = before.folder in let folder_after = after.folder in let store = before.store in let store_after = after.store in HasAsked library words before.told statuses.Done folder.asked folder_after.asked store.asked store_after.asked)
      → (let folder = before.folder in let folder_after = after.folder in let store = before.store in let store_after = after.store in AreSteady store.faults store_after.faults folder.faults folder_after.faults)
      → AnswersWords library words before.told statuses.Done → status ≡ end_status end → HasDone library words before status after
  unfolding served_file
  ready_done end status spelled are served opened said kept later asked same due is =
      subst (λ (s : Status). HasDone library words before s after) (sym is)
      (served_done library words before after service.file.now (record { port = service.port; batches = service.batches; docs = option_copied service.docs; replying = service.replying }) spelled (served_file end are served opened said) kept later asked same due)
