-- What a step makes of the lowest flow that can go on: its next event, or its begun call.
use Rattle.std.proofs.Common.{◌≡◌, ◌∷◌, ◌++◌, [], ℕ, List, Result, Ok, Err, OnOk, sym, ap, subst, ◌∙◌}
use Rattle.std.specs.Option.{is_some}
use Rattle.std.proofs.lemmas.Bool.{false≢true}
use Rattle.flux_values.specs.Meanings.{LibraryMeaning}
use Rattle.flux_model.specs.declared.items.FlowNo.{FlowNo}
use Rattle.flow_model.specs.declared.journals.Key.{Key}
use Rattle.flow_core.specs.declared.cores.Step.{Step}
use Rattle.flow_core.specs.declared.cores.Step.TheVariants.{Ended, Calling, Waits, Job, Went}
use Rattle.flow_core.specs.States.{CoreState, JobState, setup_in, IsKept}
use Rattle.flow_core.specs.Moves.{HasStepped, HasWaited, HasBegun}
use Rattle.flow_waits.specs.Idle.{IsFirstIdle}
use Rattle.flow_waits.specs.steps.Waking.{IsMore}
use Rattle.flow_waits.proofs.Turning.{ended-over}
use Rattle.flux_simulate.specs.declared.clock.Clock.{Clock}
use Rattle.flux_simulate.specs.steps.Calls.{HasStarted}
use Rattle.flux_simulate.specs.steps.Ticking.{Goes}
use Rattle.flux_simulate.proofs.Going.{event-goes, event-started, begin-goes, begin-started}

-- what follows from a call that came to its end
on-ok : {T E : Type 0} (result : Result T E) (P Q : Type 0) → (P → Q) → OnOk result P → OnOk result Q
on-ok (Ok value) P Q gives is = gives is
on-ok (Err e) P Q gives is = tt

pub always : {T E : Type 0} (result : Result T E) (Q : Type 0) → Q → OnOk result Q
always (Ok value) Q is = is
always (Err e) Q is = tt

module _ {L : Type 0} (meaning : L → LibraryMeaning) (core new : CoreState L) (flow : FlowNo)
    (first : IsFirstIdle meaning core 0 flow) (step : Step L) (has : HasStepped meaning core new flow step) where
  pub never-ended : step ≡ Ended → ⊥
  never-ended is =
      let (ended, same) = subst (HasStepped meaning core new flow) is has in
      let idle = first.is in
      let can = idle.can in
      ended-over (setup_in meaning core) core.entries flow.0 ended can.live

  pub never-calling : step ≡ Calling → ⊥
  never-calling is =
      let (some, same) = subst (HasStepped meaning core new flow) is has in
      let idle = first.is in
      false≢true (sym (ap (λ call. is_some call) idle.idle) ∙ some)

  pub never-waits : (key : Key) (holder : FlowNo) → step ≡ Waits key holder → ⊥
  never-waits key holder is =
      let waited : HasWaited meaning core new flow key holder = subst (HasStepped meaning core new flow) is has in
      let idle = first.is in
      let can = idle.can in
      can.free (holder.0, record { key = key; mode = waited.mode; next = waited.next; blocked = waited.blocked })

  module _ (clock : Clock) (kept : IsKept meaning core) (goes : Goes meaning core clock) where
    pub went-goes : step ≡ Went → Goes meaning new (record clock { at = clock.at ++ clock.tick ∷ [] })
    went-goes is =
        let (event, makes) = subst (HasStepped meaning core new flow) is has in
        event-goes meaning core new clock flow kept goes first event makes

    pub went-started : step ≡ Went → HasStarted core new
    went-started is =
        let (event, makes) = subst (HasStepped meaning core new flow) is has in
        event-started meaning core new clock flow kept goes first event makes

    begun : (job : JobState L) → step ≡ Job job → HasBegun meaning core new flow job
    begun job is = subst (HasStepped meaning core new flow) is has

    pub job-goes : (job : JobState L) → step ≡ Job job → (waiting : List ℕ) → IsMore clock.waiting waiting flow.0
        → Goes meaning new (record clock { waiting = waiting })
    job-goes job is waiting more =
        let call = begun job is in
        begin-goes meaning core new clock flow kept goes first call.inputs call.begins waiting more

    pub job-started : (job : JobState L) → step ≡ Job job → HasStarted core new
    job-started job is =
        let call = begun job is in
        begin-started meaning core new clock flow kept goes first call.inputs call.begins

    -- what was noted of it
    pub went-noted : {T E : Type 0} (noted now : Clock) (added result : Result T E) → step ≡ Went → result ≡ added
        → now ≡ noted → OnOk added (noted ≡ record clock { at = clock.at ++ clock.tick ∷ [] })
        → OnOk result (Goes meaning new now)
    went-noted {T} {E} noted now added result is result_is now_is ok =
        subst (λ (r : Result T E). OnOk r (Goes meaning new now)) (sym result_is)
        (on-ok added (noted ≡ record clock { at = clock.at ++ clock.tick ∷ [] }) (Goes meaning new now)
        (λ same. subst (λ (k : Clock). Goes meaning new k) (sym same ∙ sym now_is) (went-goes is)) ok)

    pub job-noted : {T E : Type 0} (waiting : List ℕ) (now : Clock) (added result : Result T E) (job : JobState L)
        → step ≡ Job job → result ≡ added → now ≡ record clock { waiting = waiting }
        → OnOk added (IsMore clock.waiting waiting flow.0) → OnOk result (Goes meaning new now)
    job-noted {T} {E} waiting now added result job is result_is now_is ok =
        subst (λ (r : Result T E). OnOk r (Goes meaning new now)) (sym result_is)
        (on-ok added (IsMore clock.waiting waiting flow.0) (Goes meaning new now)
        (λ more. subst (λ (k : Clock). Goes meaning new k) (sym now_is) (job-goes job is waiting more)) ok)
