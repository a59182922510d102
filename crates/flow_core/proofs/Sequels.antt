-- What a core's calls leave: the same setup, the old entries in front, and the begun calls of other flows.
use Rattle.std.proofs.Common.{◌≡◌, ◌≢◌, ◌⊎◌, inl, inr, ℕ, List, [], ◌∷◌, ◌++◌, Option, Some, None, Result, Ok, Err, refl, sym, ap, subst, ◌∙◌, append_assoc}
use Rattle.std.specs.Prelude.{IfOk, OnOk, OnErr}
use Rattle.std.specs.List.{slice_get, slice_set}
use Rattle.std.specs.Option.{option_flatten}
use Rattle.std.proofs.lemmas.List.{append-nil}
use Rattle.flux_values.specs.declared.answers.Answer.{Answer}
use Rattle.flux_values.specs.Meanings.{LibraryMeaning}
use Rattle.flux_model.specs.declared.items.FlowNo.{FlowNo}
use Rattle.flow_model.specs.Legal.{IsLegal}
use Rattle.flow_model.specs.declared.journals.Entry.{Entry}
use Rattle.flow_model.specs.declared.journals.Event.{Event}
use Rattle.flow_model.specs.declared.journals.Event.TheVariants.{Wait, Call}
use Rattle.flow_state.specs.declared.inputs.Inputs.{Inputs}
use Rattle.flow_state.specs.States.{setup_by}
use Rattle.flow_state.specs.Calls.{made_of}
use Rattle.flow_core.specs.declared.cores.Finish.TheVariants.{Went}
use Rattle.flow_core.specs.declared.cores.Step.{Step}
use Rattle.flow_core.specs.declared.cores.AtOnce.{AtOnce}
use Rattle.flow_core.specs.States.{CoreState, setup_in, begun_by}
use Rattle.flow_core.specs.Moves.{with_entry, HasStepped, HasSteppedAtOnce, FinishesCall}
use Rattle.flow_core.specs.Runs.{SameSetting, LeavesOthers, GoesOn, GoesOnLegally}
use Rattle.flow_core.specs.Laws.{IsMoveOf, made_event, added_wait, begun_call, ended_call, made_call}
use Rattle.flow_core.proofs.LegalRuns.{steps_are_moves, steps_at_once_are_moves, finishes_are_moves}
use Rattle.flow_state.proofs.Sets.{get-replaced_other}

pub on-same : {L : Type 0} (old : CoreState L) → GoesOn old old
on-same old = record { setup_ = refl; more = []; added = sym (append-nil old.entries) }

pub same-itself : {L : Type 0} (core : CoreState L) → SameSetting core core
same-itself core = record { setup_ = refl; halted_ = refl }

pub same-then : {L : Type 0} (a b c : CoreState L) → SameSetting a b → SameSetting b c → SameSetting a c
same-then a b c one other = record { setup_ = other.setup_ ∙ one.setup_; halted_ = other.halted_ ∙ one.halted_ }

-- journals are judged by the same
pub same-setup : {L : Type 0} (meaning : L → LibraryMeaning) (old new : CoreState L) → SameSetting old new
    → setup_in meaning new ≡ setup_in meaning old
same-setup meaning old new same = ap (setup_by meaning) same.setup_

pub leaves-same : {L : Type 0} (old : CoreState L) (flow : FlowNo) → LeavesOthers old old flow
leaves-same old flow = record { setting = record { setup_ = refl; halted_ = refl }; others = λ other apart. refl }

pub leaves-then : {L : Type 0} (a b c : CoreState L) (flow : FlowNo) → LeavesOthers a b flow → LeavesOthers b c flow
    → LeavesOthers a c flow
leaves-then a b c flow one other = record {
  setting = same-then a b c one.setting other.setting;
  others = λ f apart. other.others f apart ∙ one.others f apart;
}

-- ---- cores that go on

pub goes-on : {L : Type 0} (meaning : L → LibraryMeaning) (old new : CoreState L) → SameSetting old new
    → (more : List Entry) → new.entries ≡ old.entries ++ more → IsLegal (setup_in meaning old) new.entries
    → GoesOnLegally meaning old new
goes-on meaning old new same more added legal = record {
  on = record { setup_ = same.setup_; more = more; added = added };
  legal = subst (λ setup. IsLegal setup new.entries) (sym (same-setup meaning old new same)) legal;
  halted_ = same.halted_;
}

-- the setting of a core that has gone on
pub legally-same : {L : Type 0} (meaning : L → LibraryMeaning) (old new : CoreState L) → GoesOnLegally meaning old new
    → SameSetting old new
legally-same meaning old new legally = let on = legally.on in record { setup_ = on.setup_; halted_ = legally.halted_ }

pub legally-then : {L : Type 0} (meaning : L → LibraryMeaning) (a b c : CoreState L) → GoesOnLegally meaning a b
    → GoesOnLegally meaning b c → GoesOnLegally meaning a c
legally-then meaning a b c one other = let first = one.on in let last = other.on in record {
  on = record {
    setup_ = last.setup_ ∙ first.setup_;
    more = first.more ++ last.more;
    added = last.added ∙ ap (λ es. es ++ last.more) first.added ∙ append_assoc a.entries first.more last.more;
  };
  legal = other.legal;
  halted_ = other.halted_ ∙ one.halted_;
}

-- ---- moves

module _ {L : Type 0} (meaning : L → LibraryMeaning) (old new : CoreState L) (flow : FlowNo) where
  on-entry : (event : Event) → GoesOn old (with_entry old flow event)
  on-entry event = record { setup_ = refl; more = record { flow = flow; event = event } ∷ []; added = refl }

  on-move : IsMoveOf meaning old new flow → GoesOn old new
  on-move (made_event event makes) = subst (GoesOn old) (sym makes.new_) (on-entry event)
  on-move (added_wait key mode adds) = subst (GoesOn old) (sym adds.new_) (on-entry (Wait key mode))
  on-move (begun_call inputs begins) = subst (GoesOn old) (sym begins.new_)
      (record { setup_ = refl; more = []; added = sym (append-nil old.entries) })
  on-move (ended_call inputs answer ends) = subst (GoesOn old) (sym ends.new_) (record {
    setup_ = refl;
    more = record { flow = flow; event = Call (made_of inputs answer) } ∷ [];
    added = refl;
  })
  on-move (made_call made makes) = subst (GoesOn old) (sym makes.new_) (on-entry (Call made))

  others-stay : (call : Option Inputs) (other : ℕ) → flow.0 ≢ other
      → option_flatten (slice_get (slice_set old.begun flow.0 call) other) ≡ begun_by old other
  others-stay call other apart = ap option_flatten (get-replaced_other old.begun flow.0 other call apart)

  leaves-move : IsMoveOf meaning old new flow → LeavesOthers old new flow
  leaves-move (made_event event makes) = subst (λ core. LeavesOthers old core flow) (sym makes.new_)
      (record { setting = record { setup_ = refl; halted_ = refl }; others = λ other apart. refl })
  leaves-move (added_wait key mode adds) = subst (λ core. LeavesOthers old core flow) (sym adds.new_)
      (record { setting = record { setup_ = refl; halted_ = refl }; others = λ other apart. refl })
  leaves-move (begun_call inputs begins) = subst (λ core. LeavesOthers old core flow) (sym begins.new_)
      (record { setting = record { setup_ = refl; halted_ = refl }; others = others-stay (Some inputs) })
  leaves-move (ended_call inputs answer ends) = subst (λ core. LeavesOthers old core flow) (sym ends.new_)
      (record { setting = record { setup_ = refl; halted_ = refl }; others = others-stay None })
  leaves-move (made_call made makes) = subst (λ core. LeavesOthers old core flow) (sym makes.new_)
      (record { setting = record { setup_ = refl; halted_ = refl }; others = λ other apart. refl })

  on-moves : (new ≡ old) ⊎ IsMoveOf meaning old new flow → GoesOn old new
  on-moves (inl same) = subst (GoesOn old) (sym same) (on-same old)
  on-moves (inr move) = on-move move

  leaves-moves : (new ≡ old) ⊎ IsMoveOf meaning old new flow → LeavesOthers old new flow
  leaves-moves (inl same) = subst (λ core. LeavesOthers old core flow) (sym same) (leaves-same old flow)
  leaves-moves (inr move) = leaves-move move

  -- after a step, and where there was no memory for one
  pub step-on : {E : Type 0} (r : Result (Step L) E) → IfOk r (HasStepped meaning old new flow)
      → OnErr r (new ≡ old) → GoesOn old new
  step-on (Ok step) ok err = on-moves (steps_are_moves meaning old new flow step ok)
  step-on (Err e) ok err = on-moves (inl err)

  pub step-leaves : {E : Type 0} (r : Result (Step L) E) → IfOk r (HasStepped meaning old new flow)
      → OnErr r (new ≡ old) → LeavesOthers old new flow
  step-leaves (Ok step) ok err = leaves-moves (steps_are_moves meaning old new flow step ok)
  step-leaves (Err e) ok err = leaves-moves (inl err)

  -- after a step at once
  pub at_once-on : {E : Type 0} (r : Result AtOnce E) → IfOk r (HasSteppedAtOnce meaning old new flow)
      → OnErr r (new ≡ old) → GoesOn old new
  at_once-on (Ok step) ok err = on-moves (steps_at_once_are_moves meaning old new flow step ok)
  at_once-on (Err e) ok err = on-moves (inl err)

  pub at_once-leaves : {E : Type 0} (r : Result AtOnce E) → IfOk r (HasSteppedAtOnce meaning old new flow)
      → OnErr r (new ≡ old) → LeavesOthers old new flow
  at_once-leaves (Ok step) ok err = leaves-moves (steps_at_once_are_moves meaning old new flow step ok)
  at_once-leaves (Err e) ok err = leaves-moves (inl err)

  -- after a finished call
  module _ (inputs : Inputs) (answer : Answer) where
    pub finish-on : {E : Type 0} (r : Result Unit E) → OnOk r (FinishesCall meaning old new flow inputs answer)
        → OnErr r (new ≡ old) → GoesOn old new
    finish-on (Ok done) ok err = on-moves (finishes_are_moves meaning old new flow inputs answer Went ok)
    finish-on (Err e) ok err = on-moves (inl err)

    pub finish-leaves : {E : Type 0} (r : Result Unit E) → OnOk r (FinishesCall meaning old new flow inputs answer)
        → OnErr r (new ≡ old) → LeavesOthers old new flow
    finish-leaves (Ok done) ok err = leaves-moves (finishes_are_moves meaning old new flow inputs answer Went ok)
    finish-leaves (Err e) ok err = leaves-moves (inl err)
