-- A call that was run.
use Rattle.std.specs.Prelude.{MatchBool}
use Rattle.std.proofs.Common.{◌≡◌, inl, inr, Bool, true, false, Result, Ok, Err, ap, subst}
use Rattle.std.specs.Prelude.{IfOk}
use Rattle.flux_values.specs.Meanings.{LibraryMeaning}
use Rattle.flux_model.specs.declared.items.FlowNo.{FlowNo}
use Rattle.flow_core.specs.States.{CoreState, JobState, DoneState}
use Rattle.flow_core.specs.Moves.{HasFinished}
use Rattle.flow_core.specs.Runs.{GoesOn}
use Rattle.flow_turns.specs.Turns.{IsAnswerTo, TakesAnswer}
use Rattle.flow_turns.specs.Workers.{WasRun}

module _ {L E : Type 0} (meaning : L → LibraryMeaning) (base found left : CoreState L) (job : JobState L)
    (on : GoesOn base found) where
  pub was-run : (flow : FlowNo) → flow ≡ job.flow → (goes : Bool) (made : Result (DoneState L) E)
      → IfOk made (IsAnswerTo job)
      → MatchBool goes (TakesAnswer meaning found left flow made) (left ≡ record found { halted = true })
      → WasRun meaning base job left
  was-run flow same true (Ok done) is (finish, finished) = inl (record {
    found = found;
    on = on;
    answer = done.answer;
    finish = finish;
    finished = subst (λ inputs. HasFinished meaning found left job.flow inputs done.answer finish) is.inputs_
        (subst (λ f. HasFinished meaning found left f done.inputs done.answer finish) same finished);
  })
  was-run flow same true (Err want) is never = absurd never
  was-run flow same false made is halted = inr (ap (λ c. c.halted) halted)
