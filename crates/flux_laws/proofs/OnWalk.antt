-- A flow that follows its walk: its stack, and what it holds and has entered by that.
use Rattle.std.proofs.Common.{◌≡◌, ℕ, true, List, [], ◌∷◌, ◌++◌, sym, subst, ◌∙◌, append_assoc}
use Rattle.flux_values.specs.declared.answers.Mode.{Mode}
use Rattle.flux_values.specs.declared.answers.Answer.{Answer}
use Rattle.flow_model.specs.declared.journals.Key.{Key}
use Rattle.flow_model.specs.declared.journals.Entry.{Entry}
use Rattle.flow_model.specs.declared.journals.Event.{Event}
use Rattle.flow_model.specs.Setup.{Setup}
use Rattle.flux_model.specs.Modes.{at_least}
use Rattle.flux_model.specs.Locks.{declared, AreLocks}
use Rattle.flow_model.specs.Flows.{flow_events}
use Rattle.flow_model.specs.Events.{events_by, own_events, own_answers, FollowsWalk, IsNext}
use Rattle.flow_model.specs.Exclusion.{modes_held, open_after, IsInSection}
use Rattle.flux_laws.proofs.Members.{In, in-from_contains}
use Rattle.flux_laws.proofs.Stacks.{Stack, run, Runs, Covers, modes_in, nodes_in, runs-front, held-run, open-run, good-run, good-open}
use Rattle.flux_laws.proofs.Held.{held-from_stack}
use Rattle.flux_laws.proofs.FlowRuns.{keys_of, key_for-is, at_start, flow-run}
use Rattle.flux_laws.proofs.OwnEvents.{own_events-append, held_after-own, open_after-own}

-- events that begin a flow's walk on some answers
pub record AreOnWalk (setup : Setup) (flow : ℕ) (events : List Event) : Type 0 where
  pub answers : List Answer
  pub rest : List Event
  pub on : flow_events setup flow answers ≡ events ++ rest

-- a front of them does too
pub on_walk-front : (setup : Setup) (flow : ℕ) (a b : List Event) → AreOnWalk setup flow (a ++ b) → AreOnWalk setup flow a
on_walk-front setup flow a b are = record { answers = are.answers; rest = b ++ are.rest; on = are.on ∙ append_assoc a b are.rest }

-- those of a flow that follows its walk
pub on_walk-follows : (setup : Setup) (entries : List Entry) (flow : ℕ) → FollowsWalk setup entries flow → AreOnWalk setup flow (own_events entries flow)
on_walk-follows setup entries flow follows = record { answers = own_answers entries flow; rest = follows.rest; on = follows.prefix }

-- those of a front of a journal
pub on_walk-journal_front : (setup : Setup) (before after : List Entry) (flow : ℕ) → AreOnWalk setup flow (own_events (before ++ after) flow) → AreOnWalk setup flow (own_events before flow)
on_walk-journal_front setup before after flow are =
    on_walk-front setup flow (own_events before flow) (own_events after flow) (subst (AreOnWalk setup flow) (own_events-append flow before after) are)

-- and with its next event
pub on_walk-next : (setup : Setup) (entries : List Entry) (flow : ℕ) (event : Event) → IsNext setup entries flow event → AreOnWalk setup flow (own_events entries flow ++ event ∷ [])
on_walk-next setup entries flow event is = record {
  answers = own_answers entries flow;
  rest = is.rest;
  on = is.next ∙ sym (append_assoc (own_events entries flow) (event ∷ []) is.rest);
}

-- what a flow has taken and entered by its own events
abbrev pub stack_after : List Entry → ℕ → Stack
stack_after entries flow = run at_start (own_events entries flow)

module _ (setup : Setup) (are : AreLocks setup.program setup.locks) where
  -- they run from the start
  pub on_walk-runs : (flow : ℕ) (events : List Event) → AreOnWalk setup flow events → Runs (keys_of setup flow) (declared setup.program) at_start events
  on_walk-runs flow events on =
      let walked = flow-run setup are flow on.answers in
      runs-front (keys_of setup flow) (declared setup.program) at_start events on.rest (let r = walked.runs in let e = on.on in rw e at r)

  module _ (entries : List Entry) (flow : ℕ) (on : AreOnWalk setup flow (own_events entries flow)) where
    runs : Runs (keys_of setup flow) (declared setup.program) at_start (own_events entries flow)
    runs = on_walk-runs flow (own_events entries flow) on

    -- what it holds of a key is what its stack has of it
    pub modes-stack : (key : Key) → modes_held entries flow key ≡ modes_in key (stack_after entries flow)
    modes-stack key = sym (held_after-own key [] (events_by flow entries)) ∙ held-run (keys_of setup flow) (declared setup.program) key at_start (own_events entries flow) runs

    -- the nodes that it has entered and not left are those of its stack
    pub open-stack : open_after [] (events_by flow entries) ≡ nodes_in (stack_after entries flow)
    open-stack = sym (open_after-own [] (events_by flow entries)) ∙ open-run (keys_of setup flow) (declared setup.program) at_start (own_events entries flow) runs

    -- what its stack covers, it holds
    pub covered-held : (key : Key) (mode : Mode) → Covers (stack_after entries flow) key mode → (own : Mode) × In own (modes_held entries flow key) × (at_least own mode ≡ true)
    covered-held key mode covers = (covers.own, rw (modes-stack key) (held-from_stack (stack_after entries flow) key covers.own covers.held), covers.enough)

    -- while a node is open, the flow holds each class that the node declares, in at least the mode
    pub section-held : (key : Key) (mode : Mode) → IsInSection setup entries flow key mode → (own : Mode) × In own (modes_held entries flow key) × (at_least own mode ≡ true)
    section-held key mode section =
        let is_open : In section.node (nodes_in (stack_after entries flow)) = rw open-stack at (in-from_contains (open_after [] (events_by flow entries)) section.node section.inside) in
        let good = good-run (keys_of setup flow) (declared setup.program) at_start (own_events entries flow) runs tt in
        let covers = good-open (keys_of setup flow) (declared setup.program) (stack_after entries flow) section.node good is_open section.hold section.declares in
        let key_is : keys_of setup flow section.hold.class ≡ key = key_for-is setup flow section.hold.class key section.on in
        covered-held key mode (subst (Covers (stack_after entries flow) key) section.as_ (rw key_is at covers))
