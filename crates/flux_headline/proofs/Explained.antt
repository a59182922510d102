-- Why each status comes, from what a call of the program has done.
use Rattle.std.proofs.Common.{◌≡◌, ◌⊎◌, inl, inr, ℕ, List, refl}
use Rattle.flux_cli.specs.Commands.{Command, Spells, SpellsNone, IsServe}
use Rattle.flux_cli.specs.Commands.{check, plan, format, run, audit, load, serve, help, simulate, swarm}
use Rattle.flux_commands.specs.declared.statuses.Status.{Status}
use Rattle.flux_commands.specs.declared.statuses.Status.TheVariants as statuses
use Rattle.flux_driver.specs.Seen.{Seen}
use Rattle.flux_serve.specs.declared.batches.ServeEnd.{ServeEnd}
use Rattle.flux_serve.specs.declared.batches.ServeEnd.TheVariants as ends
use Rattle.flux_commands.specs.Answers.{Libraries, Decided, Happened, IsAnswer, OrMemory}
use Rattle.flux_driver.specs.Serving.{end_status, HasServedWords}
use Rattle.flux_driver.specs.Top.{HasAnswered, HasDone, Decides, SpellNoServe}
use Rattle.flux_headline.proofs.Answering.{of_command, not_read, not_write}
use Rattle.flux_headline.specs.Explained.{IsCause, IsExplained, StatusesHaveCauses, CausesAreAnswered}
use Rattle.flux_headline.specs.Explained.{NoCommandIsUsage, UsageIsForNoCommand}

-- words that spell no `serve` spell a command that is none
no_serve : (words : List (List ℕ)) (command : Command) → Spells words command → SpellNoServe words
    → IsServe command → ⊥
no_serve words (check file) spelled none is = is
no_serve words (plan file) spelled none is = is
no_serve words (format file) spelled none is = is
no_serve words (run file items options) spelled none is = is
no_serve words (audit file items journal docs) spelled none is = is
no_serve words (load count first runtime) spelled none is = is
no_serve words (serve file serving) spelled none is = none file serving spelled
no_serve words help spelled none is = is
no_serve words (simulate file items simulating) spelled none is = is
no_serve words (swarm file items journal hash docs) spelled none is = is

module _ (library : Libraries) (words : List (List ℕ)) (before after : Seen) (command : Command) where
  abbrev Is : Status → List ℕ → List ℕ → Type 0
  Is status text line = IsCause library command before after status text line

  of_decided : (status : Status) (text line : List ℕ) → Decided library command before.told status text line
      → Is status text line
  of_decided statuses.Done text line decided = decided
  of_decided statuses.No text line decided = decided
  of_decided statuses.Static text line decided = decided
  of_decided statuses.Items text line decided = decided
  of_decided statuses.Missing text line decided = decided
  of_decided statuses.Usage text line decided = absurd decided
  of_decided statuses.Read text line decided = absurd decided
  of_decided statuses.Write text line decided = absurd decided
  of_decided statuses.Door text line decided = absurd decided
  of_decided statuses.NotServed text line decided = decided
  of_decided statuses.Memory text line decided = absurd decided

  of_happened : (status : Status) (text line : List ℕ) → HasDone library words before status after
      → Happened library command before.told status text line → Is status text line
  of_happened statuses.Read text line done (reads, none, said) =
      let reading = done.reading in (reading.failed refl, none, said)
  of_happened statuses.Write text line done (prints, said) =
      let writing = done.writing in (writing.failed refl, prints, said)
  of_happened statuses.Done text line done happened = absurd happened
  of_happened statuses.No text line done happened = absurd happened
  of_happened statuses.Static text line done happened = absurd happened
  of_happened statuses.Items text line done happened = absurd happened
  of_happened statuses.Missing text line done happened = absurd happened
  of_happened statuses.Usage text line done happened = absurd happened
  of_happened statuses.Door text line done happened = absurd happened
  of_happened statuses.NotServed text line done happened = absurd happened
  of_happened statuses.Memory text line done happened = absurd happened

  short : (status : Status) (text line : List ℕ) → IsAnswer library words before.told status text line
      → status ≡ statuses.Memory → Spells words command → Is status text line
  short statuses.Memory text line (inl usage) memory spelled = absurd (usage.0 command spelled)
  short statuses.Memory text line (inr (inl commands)) memory spelled = elim commands.cause [
    | inl decided ↦ absurd decided
    | inr happened ↦ absurd happened
  ]
  short statuses.Memory text line (inr (inr (memory, none, silent))) own spelled = (none, silent)
  short other text line answer memory spelled = absurd cc

  cause_of : (status : Status) → Spells words command → HasDone library words before status after
      → HasAnswered library words before status after → IsExplained library command before after status
  cause_of status spelled done answered =
      let text = answered.text in
      let line = answered.line in
      record {
        text = text;
        line = line;
        cause = elim (of_command library words before.told command spelled status text line answered.cause) [
          | inl (inl decided) ↦ of_decided status text line decided
          | inl (inr happened) ↦ of_happened status text line done happened
          | inr memory ↦ short status text line answered.cause memory spelled
        ];
        out = answered.out;
        err = answered.err;
        door = answered.door;
        other = λ e. no_serve words command spelled (answered.other e);
      }

pub statuses_have_causes : StatusesHaveCauses
statuses_have_causes library words before after status command spelled done = either done.answered
  where
    either : HasAnswered library words before status after ⊎ HasServedWords library words before status after
        → IsExplained library command before after status ⊎ HasServedWords library words before status after
    either (inl answered) = inl (cause_of library words before after command status spelled done answered)
    either (inr served) = inr served

pub causes_are_answered : CausesAreAnswered
causes_are_answered library words before after status due text line command spelled tells decided rose shut done =
    settled (done.complete command spelled tells due text line decided)
  where
    settled : OrMemory status (Decides status due) → OrMemory status (status ≡ due)
    settled (inl (inl same)) = inl same
    settled (inl (inr (inl read))) = absurd (not_read library words before after status rose done read)
    settled (inl (inr (inr (inl write, due)))) = absurd (not_write library words before after status rose done write)
    settled (inl (inr (inr (inr door, due)))) = let entrance = done.entrance in absurd (shut (entrance.failed door))
    settled (inr memory) = inr memory

pub no_command_is_usage : NoCommandIsUsage
no_command_is_usage library words before after status none done = done.usage none

pub usage_is_for_no_command : UsageIsForNoCommand
usage_is_for_no_command library words before after done = either done.answered
  where
    no_end : (end : ServeEnd) → statuses.Usage ≡ end_status end → ⊥
    no_end ends.Closed e = absurd cc
    no_end ends.Counted e = absurd cc
    no_end ends.Door e = absurd cc
    no_end ends.Log e = absurd cc
    no_end ends.Memory e = absurd cc

    of_answer : (text line : List ℕ) → IsAnswer library words before.told statuses.Usage text line → SpellsNone words
    of_answer text line (inl usage) = usage.0
    of_answer text line (inr (inl commands)) = elim commands.cause [
      | inl decided ↦ absurd decided
      | inr happened ↦ absurd happened
    ]
    of_answer text line (inr (inr (memory, none, silent))) = absurd cc

    either : HasAnswered library words before statuses.Usage after
        ⊎ HasServedWords library words before statuses.Usage after → SpellsNone words
    either (inl answered) = of_answer answered.text answered.line answered.cause
    either (inr served) = let has = served.has in absurd (no_end has.end served.is)
