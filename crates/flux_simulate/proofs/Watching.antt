-- The flows that are looked at, and those that are set aside, from step to step.
use Rattle.std.proofs.Common.{◌≡◌, ◌⊎◌, inl, inr, ℕ, Bool, true, false, not, ◌||◌, ◌&&◌, eqb, List, [], ◌∷◌, ◌++◌, Some, None, Result, OnOk, refl, sym, ap, subst, ◌∙◌}
use Rattle.std.specs.Prelude.{IsSome}
use Rattle.std.specs.Option.{is_some, option_flatten}
use Rattle.std.proofs.lemmas.Bool.{eqb-true, eqb-false, false≢true, cases_eq}
use Rattle.std.proofs.lemmas.Result.{on_ok_weaker}
use Rattle.flux_values.specs.Meanings.{LibraryMeaning}
use Rattle.flux_model.specs.declared.items.FlowNo.{FlowNo}
use Rattle.flow_model.specs.declared.journals.CallMade.{CallMade}
use Rattle.flow_model.specs.declared.journals.Entry.{Entry}
use Rattle.flow_model.specs.declared.journals.Event.{Event}
use Rattle.flow_model.specs.declared.journals.Event.TheVariants.{Call}
use Rattle.flow_model.specs.Legal.{IsLegal}
use Rattle.flow_state.specs.declared.inputs.Inputs.{Inputs}
use Rattle.flow_state.proofs.Sets.{get-replaced_other}
use Rattle.flow_core.specs.declared.cores.Step.{Step}
use Rattle.flow_core.specs.declared.cores.Step.TheVariants.{Job, Went}
use Rattle.flow_core.specs.States.{CoreState, JobState, setup_in, begun_by}
use Rattle.flow_core.specs.Moves.{with_entry, with_begun, MakesEvent, BeginsCall, FinishesCall, HasBegun, HasStepped}
use Rattle.flow_waits.specs.steps.Waking.{has}
use Rattle.flow_waits.specs.steps.Covers.{Pools, IsReady, Covers, Lags}
use Rattle.flow_waits.specs.steps.Aside.{beside, Parted, LooksAgain}
use Rattle.flow_waits.proofs.Aside.{HasSame, has-both, covers-same, call-ready, call-keeps}
use Rattle.flux_simulate.specs.steps.Calls.{EndsBegun}
use Rattle.flux_simulate.specs.steps.Ticking.{Watches}
use Rattle.flux_simulate.proofs.Steps.{always}

-- all that are looked at
abbrev pub watched_by : Parted → Pools
watched_by parted = beside parted.pools parted.aside

module _ {L : Type 0} (meaning : L → LibraryMeaning) (old new : CoreState L) (flow : FlowNo) (parted : Parted)
    (watches : Watches meaning old parted) where
  -- ---- an event

  module _ (event : Event) (makes : MakesEvent meaning old new flow event) where
    pub event-lags : IsReady (watched_by parted) flow.0
        → Lags (setup_in meaning new) new.entries (watched_by parted) 0
    event-lags ready =
        subst (λ (c : CoreState L). Lags (setup_in meaning c) c.entries (watched_by parted) 0) (sym makes.new_) (record {
          before = old.entries;
          flow = flow;
          event = event;
          added = refl;
          was = 0;
          covers = watches.covers;
          ready = ready;
          later = λ one other key mode there fresh apart before. before;
        })

    pub event-watched : (parted' : Parted) → parted'.aside ≡ parted.aside
        → Covers (setup_in meaning new) new.entries (watched_by parted') 0 → Watches meaning new parted'
    event-watched parted' same covers = record {
      covers = covers;
      begun = λ other there. subst (λ (c : CoreState L). IsSome (begun_by c other)) (sym makes.new_)
          (watches.begun other (ap (λ aside. has aside other) (sym same) ∙ there));
    }

  -- ---- a call that is begun

  pub begin-watched : (inputs : Inputs) → BeginsCall meaning old new flow inputs → Watches meaning new parted
  begin-watched inputs begins =
      subst (λ (c : CoreState L). Watches meaning c parted) (sym begins.new_) (record {
        covers = watches.covers;
        begun = λ other there. by other there (cases_eq flow.0 other);
      })
    where
      by : (other : ℕ) → has parted.aside other ≡ true → (flow.0 ≡ other) ⊎ (flow.0 ≡ other → ⊥)
          → IsSome (begun_by (with_begun old flow (Some inputs)) other)
      by other there (inl same) = absurd (false≢true (sym (ap (λ call. is_some call)
          (subst (λ f. begun_by old f ≡ None) same begins.idle)) ∙ watches.begun other there))
      by other there (inr apart) = subst (λ call. IsSome (option_flatten call))
          (sym (get-replaced_other old.begun flow.0 other (Some inputs) apart)) (watches.begun other there)

  -- ---- a call that is finished

  module _ (legal : IsLegal (setup_in meaning new) new.entries) (ends : EndsBegun meaning old new flow)
      (parted' : Parted) (again : LooksAgain parted parted' flow.0) where
    abbrev finish : FinishesCall meaning old new flow ends.inputs ends.answer
    finish = ends.ends

    abbrev made : CallMade
    made = finish.made

    abbrev later : List Entry
    later = old.entries ++ record { flow = flow; event = Call made } ∷ []

    legal' : IsLegal (setup_in meaning old) later
    legal' = subst (λ (c : CoreState L). IsLegal (setup_in meaning c) c.entries) finish.new_ legal

    there : IsReady (watched_by parted) flow.0
    there = call-ready (setup_in meaning old) old.entries flow made (watched_by parted) 0 watches.covers legal'

    abbrev ready : Parted → List ℕ
    ready p = let pools = p.pools in pools.ready

    members : (other : ℕ) → has (parted'.aside ++ ready parted') other ≡ has (parted.aside ++ ready parted) other
    members other = has-both parted'.aside (ready parted') other ∙ (λ i. again.less other i || again.more other i)
        ∙ by (eqb flow.0 other) refl ∙ sym (has-both parted.aside (ready parted) other)
      where
        by : (own : Bool) → eqb flow.0 other ≡ own
            → ((not own && has parted.aside other) || (own || has (ready parted) other))
            ≡ (has parted.aside other || has (ready parted) other)
        by false e = refl
        by true e = sym (sym (has-both parted.aside (ready parted) other)
            ∙ subst (λ f. has (parted.aside ++ ready parted) f ≡ true) (eqb-true flow.0 other e) there)

    same : HasSame (watched_by parted) (watched_by parted')
    same = record { ready_ = members; readers_ = again.readers_; writers_ = again.writers_ }

    begun : (other : ℕ) → has parted'.aside other ≡ true → (own : Bool) → eqb flow.0 other ≡ own
        → IsSome (begun_by (with_begun (with_entry old flow (Call made)) flow None) other)
    begun other is true e = absurd (false≢true (ap (λ b. not b && has parted.aside other) (sym e)
        ∙ sym (again.less other) ∙ is))
    begun other is false e = subst (λ call. IsSome (option_flatten call))
        (sym (get-replaced_other old.begun flow.0 other None (eqb-false flow.0 other e)))
        (watches.begun other (ap (λ b. not b && has parted.aside other) (sym e) ∙ sym (again.less other) ∙ is))

    pub finish-watched : Watches meaning new parted'
    finish-watched = subst (λ (c : CoreState L). Watches meaning c parted') (sym finish.new_) (record {
      covers = covers-same (setup_in meaning old) later (watched_by parted) (watched_by parted') 0 same
          (call-keeps (setup_in meaning old) old.entries flow made (watched_by parted) 0 watches.covers legal');
      begun = λ other is. begun other is (eqb flow.0 other) refl;
    })

  -- ---- a step

  module _ (step : Step L) (has_stepped : HasStepped meaning old new flow step) where
    pub went-lags : step ≡ Went → IsReady (watched_by parted) flow.0
        → Lags (setup_in meaning new) new.entries (watched_by parted) 0
    went-lags is ready =
        let (event, makes) = subst (HasStepped meaning old new flow) is has_stepped in
        event-lags event makes ready

    pub went-watched : step ≡ Went → (parted' : Parted) → parted'.aside ≡ parted.aside
        → Covers (setup_in meaning new) new.entries (watched_by parted') 0 → Watches meaning new parted'
    went-watched is parted' same covers =
        let (event, makes) = subst (HasStepped meaning old new flow) is has_stepped in
        event-watched event makes parted' same covers

    pub job-watched : (job : JobState L) → step ≡ Job job → Watches meaning new parted
    job-watched job is =
        let call : HasBegun meaning old new flow job = subst (HasStepped meaning old new flow) is has_stepped in
        begin-watched call.inputs call.begins

    -- and of what was noted
    pub went-kept : {T E : Type 0} → step ≡ Went → (noted now : Parted) (added result : Result T E) → result ≡ added
        → now ≡ noted → noted.aside ≡ parted.aside
        → OnOk added (Covers (setup_in meaning new) new.entries (watched_by noted) 0) → OnOk result (Watches meaning new now)
    went-kept {T} {E} is noted now added result result_is now_is same ok =
        subst (λ (r : Result T E). OnOk r (Watches meaning new now)) (sym result_is)
        (on_ok_weaker added (λ covers. subst (Watches meaning new) (sym now_is) (went-watched is noted same covers)) ok)

    pub job-kept : {T E : Type 0} (job : JobState L) → step ≡ Job job → (now : Parted) → now ≡ parted
        → (result : Result T E) → OnOk result (Watches meaning new now)
    job-kept job is now now_is result =
        always result (Watches meaning new now) (subst (Watches meaning new) (sym now_is) (job-watched job is))
