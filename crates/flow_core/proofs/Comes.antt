-- Each step comes wherever its cause is.
use Rattle.std.proofs.Common.{◌≡◌, ◌<◌, true, List, length, Option, Some, None, Result, Ok, Err, refl, sym, ap, ◌∙◌}
use Rattle.std.specs.Prelude.{IsSome, IfOk}
use Rattle.std.specs.Option.{is_some}
use Rattle.std.proofs.lemmas.Bool.{false≢true}
use Rattle.flux_values.specs.declared.values.Value.{Value}
use Rattle.flux_values.specs.Meanings.{LibraryMeaning}
use Rattle.flux_model.specs.declared.programs.NodeNo.{NodeNo}
use Rattle.flux_model.specs.declared.items.FlowNo.{FlowNo}
use Rattle.flow_model.specs.declared.journals.Event.{Event}
use Rattle.flow_model.specs.declared.journals.Event.TheVariants as events
use Rattle.flow_model.specs.Setup.{Setup}
use Rattle.flow_model.specs.Events.{IsNext, CallIsNext}
use Rattle.flux_laws.specs.Growth.{has_ended}
use Rattle.flux_laws.specs.Going.{IsBlocked, IsAtCall}
use Rattle.flow_core.specs.declared.cores.Step.{Step}
use Rattle.flow_core.specs.declared.cores.Step.TheVariants.{Ended, Calling, Waits, Job, Went}
use Rattle.flow_core.specs.States.{CoreState, setup_in, begun_by, IsKept}
use Rattle.flow_core.specs.declared.cores.AtOnce.{AtOnce}
use Rattle.flow_core.specs.declared.cores.AtOnce.TheVariants as at_once
use Rattle.flow_core.specs.Moves.{HasStepped, ComesWherever, HasSteppedAtOnce, ComesAtOnceWherever}
use Rattle.flow_state.proofs.Tables.{not-both}
use Rattle.flow_state.proofs.Ended.{next-goes_on, call-goes_on}

some-of : {X : Type 0} (o : Option X) → IsSome o → (x : X) × (o ≡ Some x)
some-of None is = absurd (false≢true is)
some-of (Some x) is = (x, refl)

module _ {L : Type 0} (meaning : L → LibraryMeaning) (old new : CoreState L) (flow : FlowNo) (kept : IsKept meaning old)
    (within : flow.0 < length old.setup.items) where
  abbrev setup : Setup
  setup = setup_in meaning old

  abbrev HasEnded : Type 0
  HasEnded = has_ended old.entries flow.0 ≡ true

  -- with a next event there is neither an end nor a call
  next-no_end : (event : Event) → IsNext setup old.entries flow.0 event → HasEnded → ⊥
  next-no_end event next ended = next-goes_on setup old.entries kept.legal flow.0 within event next ended

  call-no_end : (node : NodeNo) (args : List Value) → CallIsNext setup old.entries flow.0 node args → HasEnded → ⊥
  call-no_end node args call ended = call-goes_on setup old.entries kept.legal flow.0 within node args call ended

  begun-call : IsSome (begun_by old flow.0) → IsAtCall setup old.entries flow.0
  begun-call some = let (inputs, is) = some-of (begun_by old flow.0) some in let begun =
      kept.calls flow.0 inputs is in (inputs.node, inputs.args, begun.next)

  not-at_both : (event : Event) → IsNext setup old.entries flow.0 event → IsAtCall setup old.entries flow.0 → ⊥
  not-at_both event next (node, args, call) = not-both setup old.entries flow.0 event node args next call

  blocked-no_call : IsBlocked setup old.entries flow.0 → IsAtCall setup old.entries flow.0 → ⊥
  blocked-no_call (other, waits) at = not-at_both (events.Take waits.key waits.mode) waits.next at

  blocked-no_end : IsBlocked setup old.entries flow.0 → HasEnded → ⊥
  blocked-no_end (other, waits) ended = next-no_end (events.Take waits.key waits.mode) waits.next ended

  at_call-no_end : IsAtCall setup old.entries flow.0 → HasEnded → ⊥
  at_call-no_end (node, args, call) ended = call-no_end node args call ended

  pub comes-wherever : (step : Step L) → HasStepped meaning old new flow step → ComesWherever meaning old flow step
  comes-wherever Ended (ended, same) = record {
    ended = λ e. refl;
    calling = λ some. absurd (at_call-no_end (begun-call some) ended);
    waits = λ blocked. absurd (blocked-no_end blocked ended);
    job = λ at idle. absurd (at_call-no_end at ended);
  }
  comes-wherever Calling (some, same) = record {
    ended = λ ended. absurd (at_call-no_end (begun-call some) ended);
    calling = λ e. refl;
    waits = λ blocked. absurd (blocked-no_call blocked (begun-call some));
    job = λ at idle. absurd (false≢true (sym (ap (λ o. is_some o) idle) ∙ some));
  }
  comes-wherever (Waits key holder) waited = record {
    ended = λ ended. absurd (next-no_end (events.Take key waited.mode) waited.next ended);
    calling = λ some. absurd (not-at_both (events.Take key waited.mode) waited.next (begun-call some));
    waits = λ blocked. tt;
    job = λ at idle. absurd (not-at_both (events.Take key waited.mode) waited.next at);
  }
  comes-wherever (Job job) begins =
      let begun = begins.begins in
      let inputs = begins.inputs in
      let next = begun.next in
      record {
        ended = λ ended. absurd (call-no_end inputs.node inputs.args next.next ended);
        calling = λ some. absurd (false≢true (sym (ap (λ o. is_some o) begun.idle) ∙ some));
        waits = λ blocked. absurd (blocked-no_call blocked (inputs.node, inputs.args, next.next));
        job = λ at idle. tt;
      }
  comes-wherever Went (event, made) =
      let may = made.may in
      record {
        ended = λ ended. absurd (next-no_end event may.next ended);
        calling = λ some. absurd (not-at_both event may.next (begun-call some));
        waits = λ blocked. absurd (may.free blocked);
        job = λ at idle. absurd (not-at_both event may.next at);
      }

  pub comes-if_ok : {E : Type 0} (r : Result (Step L) E) → IfOk r (HasStepped meaning old new flow)
      → IfOk r (ComesWherever meaning old flow)
  comes-if_ok (Ok step) h = comes-wherever step h
  comes-if_ok (Err e) h = tt

  -- each step at once, too
  at_once-wherever : (step : AtOnce) → HasSteppedAtOnce meaning old new flow step
      → ComesAtOnceWherever meaning old flow step
  at_once-wherever at_once.Ended has = let comes = comes-wherever Ended has in record {
    ended = λ e. refl;
    calling = λ some. let e = comes.calling some in absurd cc;
    waits = comes.waits;
    called = λ at idle. absurd (comes.job at idle);
  }
  at_once-wherever at_once.Calling has = let comes = comes-wherever Calling has in record {
    ended = λ is. let e = comes.ended is in absurd cc;
    calling = λ e. refl;
    waits = comes.waits;
    called = λ at idle. absurd (comes.job at idle);
  }
  at_once-wherever (at_once.Waits key holder) has = let comes = comes-wherever (Waits key holder) has in record {
    ended = λ is. let e = comes.ended is in absurd cc;
    calling = λ some. let e = comes.calling some in absurd cc;
    waits = λ blocked. tt;
    called = λ at idle. absurd (comes.job at idle);
  }
  at_once-wherever at_once.Called (made, makes) =
      let may = makes.may in
      record {
        ended = λ ended. absurd (call-no_end made.node made.args may.next ended);
        calling = λ some. absurd (false≢true (sym (ap (λ o. is_some o) makes.idle) ∙ some));
        waits = λ blocked. absurd (blocked-no_call blocked (made.node, made.args, may.next));
        called = λ at idle. refl;
      }
  at_once-wherever at_once.Went has = let comes = comes-wherever Went has in record {
    ended = λ is. let e = comes.ended is in absurd cc;
    calling = λ some. let e = comes.calling some in absurd cc;
    waits = comes.waits;
    called = λ at idle. absurd (comes.job at idle);
  }

  pub at_once-if_ok : {E : Type 0} (r : Result AtOnce E) → IfOk r (HasSteppedAtOnce meaning old new flow)
      → IfOk r (ComesAtOnceWherever meaning old flow)
  at_once-if_ok (Ok step) h = at_once-wherever step h
  at_once-if_ok (Err e) h = tt
