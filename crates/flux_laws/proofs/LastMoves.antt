-- The last entry of a legal journal may be next after those before it.
use Rattle.std.proofs.Common.{◌≡◌, ◌<◌, ◌⊎◌, inl, inr, ℕ, true, false, List, [], ◌∷◌, ◌++◌, length, refl, sym, ap, subst, ◌∙◌, append_assoc, arith}
use Rattle.std.proofs.lemmas.List.{append-nil, append_cancel_left}
use Rattle.flux_values.specs.declared.values.Value.{Value}
use Rattle.flux_values.specs.declared.answers.Answer.{Answer}
use Rattle.flux_values.specs.declared.answers.Mode.{Mode}
use Rattle.flux_model.specs.declared.programs.NodeNo.{NodeNo}
use Rattle.flow_model.specs.declared.journals.CallMade.{CallMade}
use Rattle.flux_model.specs.declared.items.FlowNo.{FlowNo}
use Rattle.flow_model.specs.declared.journals.Key.{Key}
use Rattle.flow_model.specs.declared.journals.Entry.{Entry}
use Rattle.flow_model.specs.declared.journals.Event.{Event}
use Rattle.flow_model.specs.declared.journals.Event.TheVariants.{Take, Wait, Enter, Choose, Call, Exit, Drop, End}
use Rattle.flow_model.specs.Setup.{Setup}
use Rattle.flow_model.specs.Walk.{Stop, finished, before_call, nowhere, Walked}
use Rattle.flow_model.specs.Flows.{flow_walk, ending, with_end, flow_events}
use Rattle.flow_model.specs.Events.{events_by, own_events, own_answers, FollowsWalk, IsNext, CallIsNext}
use Rattle.flow_model.specs.Exclusion.{holds_against}
use Rattle.flow_model.specs.Waits.{StandsAt, StandsBefore, Blocks, MayPass}
use Rattle.flow_model.specs.Legal.{IsLegal}
use Rattle.flux_laws.specs.Going.{IsBlocked}
use Rattle.flux_laws.specs.Moves.{MayStep, EntriesAreMoves}
use Rattle.flux_laws.proofs.Members.{all-behind, IsBehind, IsFurther, fronts}
use Rattle.flux_laws.proofs.Conflicts.{conflict-turned}
use Rattle.flux_laws.proofs.Apart.{stands-front}
use Rattle.flux_laws.proofs.Standing.{next-unique}
use Rattle.flux_laws.proofs.Answering.{answers_in, call_with, GoesOn, Uses, Stopped}
use Rattle.flux_laws.proofs.NextEvents.{IsPlain, answers-own, own_events-more, own_answers-more, flow-uses, next-no_call}
use Rattle.flux_laws.proofs.Fronts.{no_call-further}

module _ (setup : Setup) (entries : List Entry) (flow : FlowNo) (event : Event) (legal : IsLegal setup (entries ++ record { flow = flow; event = event } ∷ [])) where
  last-item : flow.0 < length setup.items
  last-item = let all = all-behind (λ entry. entry.flow.0 < length setup.items) entries (record { flow = flow; event = event } ∷ []) legal.flows in all.0

  last-follows : FollowsWalk setup (entries ++ record { flow = flow; event = event } ∷ []) flow.0
  last-follows = legal.walks flow.0 last-item

  -- an event that is neither a wait nor a call was next
  last-next : IsPlain event → IsNext setup entries flow.0 event
  last-next plain =
      let events_are = own_events-more entries flow.0 event ∙ ap (λ es. own_events entries flow.0 ++ es) plain.own in
      let answers_are = own_answers-more entries flow.0 event ∙ ap (λ as_. own_answers entries flow.0 ++ as_) plain.quiet ∙ append-nil (own_answers entries flow.0) in
      let follows = last-follows in
      record {
        rest = follows.rest;
        next = ap (flow_events setup flow.0) (sym answers_are) ∙ follows.prefix ∙ ap (λ es. es ++ follows.rest) events_are ∙ append_assoc (own_events entries flow.0) (event ∷ []) follows.rest;
      }

-- a take was free
last-free : (setup : Setup) (entries : List Entry) (flow : FlowNo) (key : Key) (mode : Mode) → IsLegal setup (entries ++ record { flow = flow; event = Take key mode } ∷ [])
    → (other : ℕ) → Blocks entries other flow.0 key mode → ⊥
last-free setup entries flow key mode legal other blocks = by blocks.cause
  where
    by : (holds_against entries other key mode ≡ true) ⊎ StandsBefore entries other flow.0 key mode → ⊥
    by (inl against) =
        let ex = legal.excludes in
        let none : holds_against entries other key mode ≡ false = ex.takes entries [] flow key mode refl other blocks.apart in
        unlike none against
      where
        unlike : holds_against entries other key mode ≡ false → holds_against entries other key mode ≡ true → ⊥
        unlike nothing something = cc
    by (inr before) = passed (let whole = stands.stands in rw (← whole) at kept)
      where
        stands : StandsAt entries other key before.their before.place
        stands = before.stands

        kept : MayPass (stands.before ++ record { flow = record { 0 = other }; event = Wait key before.their } ∷ stands.after) flow.0 key (length stands.before)
        kept =
            let last : Entry = record { flow = flow; event = Take key mode } in
            let may = legal.waits stands.before (stands.after ++ last ∷ []) (record { 0 = other }) key before.their
            (stands-front entries (last ∷ []) stands.before stands.after (record { 0 = other }) (Wait key before.their) stands.stands) in
            may.kept stands.after [] flow mode refl (λ (e : flow.0 ≡ other). blocks.apart (sym e)) stands.last (conflict-turned mode before.their ∙ before.against)

        passed : MayPass entries flow.0 key (length stands.before) → ⊥
        passed (inl holds) = absurd (blocks.free holds)
        passed (inr (own, place, lt, there)) =
            let behind = before.first own place there in
            let at = stands.at in
            omega (arith, lt, behind, at)

-- so its flow wasn't blocked
last-unblocked : (setup : Setup) (entries : List Entry) (flow : FlowNo) (event : Event) → IsLegal setup (entries ++ record { flow = flow; event = event } ∷ [])
    → IsNext setup entries flow.0 event → IsBlocked setup entries flow.0 → ⊥
last-unblocked setup entries flow event legal next (other, waits) =
    let same : event ≡ Take waits.key waits.mode = next-unique setup entries flow.0 event (Take waits.key waits.mode) next waits.next in
    last-free setup entries flow waits.key waits.mode (subst (λ (e : Event). IsLegal setup (entries ++ record { flow = flow; event = e } ∷ [])) same legal) other waits.blocked

last-step : (setup : Setup) (entries : List Entry) (flow : FlowNo) (event : Event) → IsPlain event → IsLegal setup (entries ++ record { flow = flow; event = event } ∷ [])
    → MayStep setup entries flow event
last-step setup entries flow event plain legal =
    let next = last-next setup entries flow event legal plain in
    record { next = next; free = last-unblocked setup entries flow event legal next }

-- ---- a call

-- where a walk with one answer more goes on with a call, it stopped before that call; or it had a call without an answer
module _ (made : CallMade) (left : List Answer) (walked longer : Walked) (uses : Uses made.answer [] left walked longer)
    (list rest : List Event) (own : answers_in list ≡ left) (on : with_end longer ≡ list ++ Call made ∷ rest) where
  abbrev IsCallNext : Stop → Type 0
  IsCallNext stop = ((walked.events ++ ending stop ≡ list) × (stop ≡ before_call made.node made.args))
      ⊎ ((after : List Event) × (walked.events ++ ending stop ≡ list ++ Call made ∷ after))

  call-before : (node : NodeNo) (args : List Value) → uses.unused ≡ [] → GoesOn walked.events (call_with node args made.answer) longer.events → IsCallNext (before_call node args)
  call-before node args none goes = by (fronts walked.events (call_with node args made.answer ∷ (goes.rest ++ ending longer.stop)) list (Call made ∷ rest) joined)
    where
      joined : walked.events ++ call_with node args made.answer ∷ (goes.rest ++ ending longer.stop) ≡ list ++ Call made ∷ rest
      joined = sym (append_assoc walked.events (call_with node args made.answer ∷ goes.rest) (ending longer.stop)) ∙ ap (λ es. es ++ ending longer.stop) (sym goes.whole) ∙ on

      used : left ≡ answers_in walked.events
      used = uses.used ∙ ap (λ as_. answers_in walked.events ++ as_) none ∙ append-nil (answers_in walked.events)

      behind : (further : List Event) → list ≡ walked.events ++ further → IsCallNext (before_call node args)
      behind [] is =
          let same : call_with node args made.answer ∷ (goes.rest ++ ending longer.stop) ≡ Call made ∷ rest =
          append_cancel_left walked.events (call_with node args made.answer ∷ (goes.rest ++ ending longer.stop)) (Call made ∷ rest)
          (joined ∙ ap (λ es. es ++ Call made ∷ rest) (is ∙ append-nil walked.events)) in
          let call : call_with node args made.answer ≡ Call made = cc same in
          inl (sym is, called call)
        where
          called : call_with node args made.answer ≡ Call made → before_call node args ≡ before_call made.node made.args
          called e = let c : ◌≡◌ {A = CallMade} (record { node = node; args = args; answer = made.answer }) made = cc e in ap (λ (m : CallMade). before_call m.node m.args) c
      behind (event ∷ further) is =
          let same : call_with node args made.answer ∷ (goes.rest ++ ending longer.stop) ≡ event ∷ (further ++ Call made ∷ rest) =
          append_cancel_left walked.events (call_with node args made.answer ∷ (goes.rest ++ ending longer.stop)) (event ∷ (further ++ Call made ∷ rest))
          (joined ∙ ap (λ es. es ++ Call made ∷ rest) is ∙ append_assoc walked.events (event ∷ further) (Call made ∷ rest)) in
          let call : event ≡ call_with node args made.answer = cc same in
          absurd (no_call-further list walked.events left (record { node = node; args = args; answer = made.answer }) further own used (is ∙ ap (λ x. walked.events ++ x ∷ further) call))

      by : IsBehind walked.events list ⊎ IsFurther list walked.events → IsCallNext (before_call node args)
      by (inl b) = behind b.rest b.is
      by (inr f) =
          let same : f.next ∷ (f.rest ++ call_with node args made.answer ∷ (goes.rest ++ ending longer.stop)) ≡ Call made ∷ rest =
          append_cancel_left list (f.next ∷ (f.rest ++ call_with node args made.answer ∷ (goes.rest ++ ending longer.stop))) (Call made ∷ rest)
          (sym (append_assoc list (f.next ∷ f.rest) (call_with node args made.answer ∷ (goes.rest ++ ending longer.stop)))
          ∙ ap (λ es. es ++ call_with node args made.answer ∷ (goes.rest ++ ending longer.stop)) (sym f.is) ∙ joined) in
          let call : f.next ≡ Call made = cc same in
          inr (f.rest, append-nil walked.events ∙ f.is ∙ ap (λ x. list ++ x ∷ f.rest) call)

  call-at : (stop : Stop) → Stopped made.answer [] uses.unused walked longer stop → IsCallNext stop
  call-at (finished ended) (same_left, same_events, same_stop) = inr (rest, sym (λ i. same_events i ++ ending (same_stop i)) ∙ on)
  call-at (before_call node args) (none, goes) = call-before node args none goes
  call-at nowhere (same_events, same_stop) = inr (rest, sym (λ i. same_events i ++ ending (same_stop i)) ∙ on)

last-call : (setup : Setup) (entries : List Entry) (flow : FlowNo) (made : CallMade) → IsLegal setup (entries ++ record { flow = flow; event = Call made } ∷ [])
    → CallIsNext setup entries flow.0 made.node made.args
last-call setup entries flow made legal = by (call-at made (own_answers entries flow.0) walked longer uses (own_events entries flow.0) follows.rest (answers-own (events_by flow.0 entries)) on walked.stop uses.stopped)
  where
    follows : FollowsWalk setup (entries ++ record { flow = flow; event = Call made } ∷ []) flow.0
    follows = last-follows setup entries flow (Call made) legal

    walked : Walked
    walked = flow_walk setup flow.0 (own_answers entries flow.0)

    longer : Walked
    longer = flow_walk setup flow.0 (own_answers entries flow.0 ++ made.answer ∷ [])

    uses : Uses made.answer [] (own_answers entries flow.0) walked longer
    uses = flow-uses setup flow.0 made.answer [] (own_answers entries flow.0)

    on : with_end longer ≡ own_events entries flow.0 ++ Call made ∷ follows.rest
    on = ap (flow_events setup flow.0) (sym (own_answers-more entries flow.0 (Call made))) ∙ follows.prefix
        ∙ ap (λ es. es ++ follows.rest) (own_events-more entries flow.0 (Call made)) ∙ append_assoc (own_events entries flow.0) (Call made ∷ []) follows.rest

    by : ((with_end walked ≡ own_events entries flow.0) × (walked.stop ≡ before_call made.node made.args)) ⊎ ((after : List Event) × (with_end walked ≡ own_events entries flow.0 ++ Call made ∷ after))
        → CallIsNext setup entries flow.0 made.node made.args
    by (inl (all, stops)) = record { all = all; stops = stops }
    by (inr (after, next)) = absurd (next-no_call setup entries flow.0 made (record { rest = after; next = next }))

pub entries_are_moves : EntriesAreMoves
entries_are_moves setup entries flow (Wait key mode) legal =
    let may = legal.waits entries [] flow key mode refl in
    record { next = may.next; blocked = (may.blocker, record { key = key; mode = mode; next = may.next; blocked = may.blocked }); once = may.once }
entries_are_moves setup entries flow (Call made) legal = record { next = last-call setup entries flow made legal; right = legal.answers entries [] flow made refl }
entries_are_moves setup entries flow (Take key mode) legal = last-step setup entries flow (Take key mode) (record { own = refl; quiet = refl }) legal
entries_are_moves setup entries flow (Enter node) legal = last-step setup entries flow (Enter node) (record { own = refl; quiet = refl }) legal
entries_are_moves setup entries flow (Choose place) legal = last-step setup entries flow (Choose place) (record { own = refl; quiet = refl }) legal
entries_are_moves setup entries flow (Exit node outcome) legal = last-step setup entries flow (Exit node outcome) (record { own = refl; quiet = refl }) legal
entries_are_moves setup entries flow (Drop key) legal = last-step setup entries flow (Drop key) (record { own = refl; quiet = refl }) legal
entries_are_moves setup entries flow (End outcome) legal = last-step setup entries flow (End outcome) (record { own = refl; quiet = refl }) legal
