-- What a flow's own steps add, and how they end.
use Rattle.std.proofs.Common.{◌≡◌, inl, inr, Bool, List, [], ◌∷◌, ◌++◌, Result, Ok, Err, refl, sym, ap, ◌∙◌, append_assoc}
use Rattle.std.specs.Prelude.{IfOk, OnErr}
use Rattle.std.specs.List.{AllByRecursion}
use Rattle.std.proofs.lemmas.List.{append-nil}
use Rattle.flux_values.specs.declared.answers.Answer.{Answer}
use Rattle.flux_values.specs.Meanings.{LibraryMeaning}
use Rattle.flux_model.specs.declared.items.FlowNo.{FlowNo}
use Rattle.flow_model.specs.declared.journals.Entry.{Entry}
use Rattle.flow_model.specs.declared.journals.Event.{Event}
use Rattle.flow_model.specs.declared.journals.Event.TheVariants as events
use Rattle.flow_state.specs.declared.inputs.Inputs.{Inputs}
use Rattle.flow_core.specs.declared.cores.Step.{Step}
use Rattle.flow_core.specs.declared.cores.Step.TheVariants as steps
use Rattle.flow_core.specs.declared.cores.Finish.{Finish}
use Rattle.flow_core.specs.declared.cores.Finish.TheVariants as finishes
use Rattle.flow_core.specs.States.{CoreState}
use Rattle.flow_core.specs.Runs.{GoesOn, LeavesOthers}
use Rattle.flow_core.specs.Moves.{HasStepped, HasFinished}
use Rattle.flow_turns.specs.Turns.{AddsOwn}

abbrev Owns : FlowNo → List Entry → Type 0
Owns flow = AllByRecursion (λ entry. entry.flow ≡ flow)

owns-then : (flow : FlowNo) (one other : List Entry) → Owns flow one → Owns flow other → Owns flow (one ++ other)
owns-then flow [] other own own' = own'
owns-then flow (entry ∷ one) other (first, own) own' = (first, owns-then flow one other own own')

module _ {L : Type 0} where
  pub adds-none : (core : CoreState L) (flow : FlowNo) → AddsOwn core core flow
  adds-none core flow = record {
    setup_ = refl;
    more = [];
    added = sym (append-nil core.entries);
    own = tt;
    others = λ other apart. refl;
  }

  pub adds-then : (a b c : CoreState L) (flow : FlowNo) → AddsOwn a b flow → AddsOwn b c flow → AddsOwn a c flow
  adds-then a b c flow one other = record {
    setup_ = other.setup_ ∙ one.setup_;
    more = one.more ++ other.more;
    added = other.added ∙ ap (λ es. es ++ other.more) one.added ∙ append_assoc a.entries one.more other.more;
    own = owns-then flow one.more other.more one.own other.own;
    others = λ f apart. other.others f apart ∙ one.others f apart;
  }

  pub adds-halted : (old new : CoreState L) (flow : FlowNo) (halted : Bool) → AddsOwn old new flow
      → AddsOwn old (record new { halted = halted }) flow
  adds-halted old new flow halted adds = record {
    setup_ = adds.setup_;
    more = adds.more;
    added = adds.added;
    own = adds.own;
    others = adds.others;
  }

  pub adds-on : (old new : CoreState L) (flow : FlowNo) → AddsOwn old new flow → GoesOn old new
  adds-on old new flow adds = record { setup_ = adds.setup_; more = adds.more; added = adds.added }

  -- the entries stay, or one of the flow comes
  data Grows (old new : CoreState L) (flow : FlowNo) : Type 0 where
    same : new.entries ≡ old.entries → Grows old new flow
    grown : (event : Event) → new.entries ≡ old.entries ++ record { flow = flow; event = event } ∷ []
        → Grows old new flow

  adds-grown : (old new : CoreState L) (flow : FlowNo) → LeavesOthers old new flow → Grows old new flow
      → AddsOwn old new flow
  adds-grown old new flow leaves (same is) = let setting = leaves.setting in record {
    setup_ = setting.setup_;
    more = [];
    added = is ∙ sym (append-nil old.entries);
    own = tt;
    others = leaves.others;
  }
  adds-grown old new flow leaves (grown event is) = let setting = leaves.setting in record {
    setup_ = setting.setup_;
    more = record { flow = flow; event = event } ∷ [];
    added = is;
    own = (refl, tt);
    others = leaves.others;
  }

  module _ (meaning : L → LibraryMeaning) (old new : CoreState L) (flow : FlowNo) where
    grows-step : (step : Step L) → HasStepped meaning old new flow step → Grows old new flow
    grows-step steps.Ended (ended, is) = same (ap (λ c. c.entries) is)
    grows-step steps.Calling (begun, is) = same (ap (λ c. c.entries) is)
    grows-step (steps.Waits key holder) waited = elim waited.noted [
      | inl adds ↦ grown (events.Wait key waited.mode) (ap (λ c. c.entries) adds.new_)
      | inr stood ↦ same (ap (λ c. c.entries) stood.2)
    ]
    grows-step (steps.Job job) has = let begins = has.begins in same (ap (λ c. c.entries) begins.new_)
    grows-step steps.Went (event, makes) = grown event (ap (λ c. c.entries) makes.new_)

    pub adds-step : (step : Step L) → HasStepped meaning old new flow step → LeavesOthers old new flow
        → AddsOwn old new flow
    adds-step step stepped leaves = adds-grown old new flow leaves (grows-step step stepped)

    grows-finish : (inputs : Inputs) (answer : Answer) (done : Finish)
        → HasFinished meaning old new flow inputs answer done → Grows old new flow
    grows-finish inputs answer finishes.Went finished =
        grown (events.Call finished.made) (ap (λ c. c.entries) finished.new_)
    grows-finish inputs answer finishes.Late (late, is) = same (ap (λ c. c.entries) is)

    pub adds-finish : (inputs : Inputs) (answer : Answer) (done : Finish)
        → HasFinished meaning old new flow inputs answer done → LeavesOthers old new flow → AddsOwn old new flow
    adds-finish inputs answer done finished leaves =
        adds-grown old new flow leaves (grows-finish inputs answer done finished)

    pub adds-finished : {E : Type 0} (inputs : Inputs) (answer : Answer) (done : Result Finish E)
        → IfOk done (HasFinished meaning old new flow inputs answer) → OnErr done (new ≡ old)
        → LeavesOthers old new flow → AddsOwn old new flow
    adds-finished inputs answer (Ok done) ok err leaves = adds-finish inputs answer done ok leaves
    adds-finished inputs answer (Err e) ok err leaves = adds-grown old new flow leaves (same (ap (λ c. c.entries) err))
