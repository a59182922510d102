-- Runs that follow walks: after some steps a run has made a walk's events, and is where that stops.
use Rattle.std.proofs.Common.{◌≡◌, List, [], ◌∷◌, ◌++◌, refl, sym, ap, ◌∙◌}
use Rattle.std.proofs.lemmas.List.{append-nil}
use Rattle.flux_values.specs.declared.values.Value.{Value}
use Rattle.flux_values.specs.declared.answers.Answer.{Answer}
use Rattle.flux_model.specs.declared.programs.ClassNo.{ClassNo}
use Rattle.flow_model.specs.declared.journals.Key.{Key}
use Rattle.flow_model.specs.declared.journals.Outcome.{Outcome}
use Rattle.flow_model.specs.declared.journals.Outcome.TheVariants.{Good, Over, Bad}
use Rattle.flow_model.specs.declared.journals.Event.{Event}
use Rattle.flow_model.specs.Walk.{Ended, Stop, finished, before_call, nowhere, Walked, following, then}
use Rattle.flux_plan.specs.declared.plans.Segment.{Segment}
use Rattle.flux_plan.specs.Machine.{State, Act, silent, acts, Matches, step}
use Rattle.flux_plan.specs.Runs.{event_of, at_call, Ran, run, run_step}
use Rattle.flux_plan.proofs.RunLemmas.{so_far, Comes, Stops, comes-then, comes-stops}

-- values at hand are those of an end, where all went well
abbrev pub Agree : Outcome → List Value → List Value → Type 0
Agree Good values own = values ≡ own
Agree Over values own = Unit {0}
Agree (Bad code) values own = Unit {0}

-- the state of an outcome, and of values at hand
abbrev pub Goal : Type 0
Goal = Outcome → List Value → State

module _ (segments : List Segment) (key : ClassNo → Key) (matches : Matches) where
  -- a run reaches the state of an end
  pub record Arrives (goal : Goal) (state : State) (answers : List Answer) (events : List Event) (ended : Ended) : Type 0 where
    pub values : List Value
    pub agree : Agree ended.outcome values ended.values
    pub comes : Comes segments key matches state answers events (goal ended.outcome values) ended.left

  abbrev pub Follows : Goal → State → List Answer → List Event → Stop → Type 0
  Follows goal state answers events (finished ended) = Arrives goal state answers events ended
  Follows goal state answers events (before_call node args) = Stops segments key matches state answers events (at_call node args)
  Follows goal state answers events nowhere = ⊥

  -- a run makes a walk's events; where that is finished, it reaches the state of its end, and else it halts there
  abbrev pub RunsTo : Goal → State → List Answer → Walked → Type 0
  RunsTo goal state answers walked = Follows goal state answers walked.events walked.stop

  -- ---- single steps

  pub comes-still : (state : State) (answers : List Answer) → Comes segments key matches state answers [] state answers
  comes-still state answers = (0, refl)

  pub comes-silent : (state next : State) (answers : List Answer) → step segments matches state ≡ silent next → Comes segments key matches state answers [] next answers
  comes-silent state next answers made = (1, ap (run_step (run segments key matches 0) key state answers) made)

  pub comes-acts : (state next : State) (answers : List Answer) (act : Act) → step segments matches state ≡ acts act next
      → Comes segments key matches state answers (event_of key act ∷ []) next answers
  comes-acts state next answers act made = (1, ap (run_step (run segments key matches 0) key state answers) made)

  -- ---- one after another

  -- what a run reaches goes on
  pub comes-follows : (goal : Goal) (state : State) (answers : List Answer) (before : List Event) (next : State) (left : List Answer) (events : List Event) (stop : Stop)
      → Comes segments key matches state answers before next left → Follows goal next left events stop → Follows goal state answers (before ++ events) stop
  comes-follows goal state answers before next left events (finished ended) comes follows = record {
    values = follows.values;
    agree = follows.agree;
    comes = comes-then segments key matches state answers before next left events (goal ended.outcome follows.values) ended.left comes follows.comes;
  }
  comes-follows goal state answers before next left events (before_call node args) comes follows =
      comes-stops segments key matches state answers before next left events (at_call node args) comes follows
  comes-follows goal state answers before next left events nowhere comes follows = absurd follows

  -- after a silent step
  pub follows-silent : (goal : Goal) (state next : State) (answers : List Answer) (walked : Walked)
      → step segments matches state ≡ silent next → RunsTo goal next answers walked → RunsTo goal state answers walked
  follows-silent goal state next answers walked made runs =
      comes-follows goal state answers [] next answers walked.events walked.stop (comes-silent state next answers made) runs

  -- one walk after another
  pub follows-then : (mid goal : Goal) (state : State) (answers : List Answer) (walked : Walked) (next : Ended → Walked)
      → RunsTo mid state answers walked
      → ((ended : Ended) (values : List Value) → Agree ended.outcome values ended.values → RunsTo goal (mid ended.outcome values) ended.left (next ended))
      → RunsTo goal state answers (then walked next)
  follows-then mid goal state answers walked next runs more = by walked.stop runs
    where
      by : (stop : Stop) → Follows mid state answers walked.events stop
          → let m = following next stop in Follows goal state answers (walked.events ++ m.events) m.stop
      by (finished ended) arrives =
          comes-follows goal state answers walked.events (mid ended.outcome arrives.values) ended.left (next ended).events (next ended).stop
          arrives.comes (more ended arrives.values arrives.agree)
      by (before_call node args) stops =
          (stops.0, stops.1 ∙ ap (λ (es : List Event). let r : Ran = record { events = es; standing = at_call node args } in r) (sym (append-nil walked.events)))
      by nowhere follows = absurd follows

  -- a walk, and then steps without events
  pub follows-on : (mid goal : Goal) (state : State) (answers : List Answer) (walked : Walked) → RunsTo mid state answers walked
      → ((outcome : Outcome) (values : List Value) (left : List Answer) → Comes segments key matches (mid outcome values) left [] (goal outcome values) left)
      → RunsTo goal state answers walked
  follows-on mid goal state answers walked runs more = by walked.stop runs
    where
      by : (stop : Stop) → Follows mid state answers walked.events stop → Follows goal state answers walked.events stop
      by (finished ended) arrives =
          let (n, all) = comes-then segments key matches state answers walked.events (mid ended.outcome arrives.values) ended.left [] (goal ended.outcome arrives.values) ended.left arrives.comes (more ended.outcome arrives.values ended.left) in
          record {
            values = arrives.values;
            agree = arrives.agree;
            comes = (n, all ∙ ap (λ (es : List Event). so_far es (goal ended.outcome arrives.values) ended.left) (append-nil walked.events));
          }
      by (before_call node args) stops = stops
      by nowhere follows = absurd follows
