-- A journal is legal by its parts, and stays so with one entry more that keeps each.
use Rattle.std.proofs.Common.{◌≡◌, ◌≢◌, ◌⊎◌, inl, inr, ℕ, true, false, List, [], ◌∷◌, ◌++◌, length, sym, ap, ◌∙◌}
use Rattle.std.specs.List.{slice_get, flat_map}
use Rattle.std.proofs.lemmas.List.{append-nil}
use Rattle.flux_values.specs.declared.answers.Mode.{Mode}
use Rattle.flow_model.specs.declared.journals.CallMade.{CallMade}
use Rattle.flux_model.specs.declared.items.FlowNo.{FlowNo}
use Rattle.flow_model.specs.declared.journals.Key.{Key}
use Rattle.flow_model.specs.declared.journals.Entry.{Entry}
use Rattle.flow_model.specs.declared.journals.Event.{Event}
use Rattle.flow_model.specs.declared.journals.Event.TheVariants.{Take, Wait, Call}
use Rattle.flow_model.specs.Setup.{Setup}
use Rattle.flux_model.specs.Modes.{conflict}
use Rattle.flow_model.specs.CellsAfter.{cells_after}
use Rattle.flow_model.specs.Answers.{AreAnswersRight, IsNodeAnswer}
use Rattle.flow_model.specs.Events.{unless_wait, answer_in, events_by, own_events, own_answers, FollowsWalk, Stands}
use Rattle.flow_model.specs.Exclusion.{holds_against, TakesExclude}
use Rattle.flow_model.specs.Waits.{MayPass, IsNotOvertaken, MayWait, WaitsAreRight}
use Rattle.flux_laws.specs.Parts.{PartsMakeLegal}
use Rattle.flux_laws.proofs.Members.{IsEnd, InFront, end_or_front}
use Rattle.flux_laws.proofs.Apart.{TakeExcludes}
use Rattle.flux_laws.proofs.OwnEvents.{own_events-append, own_answers-append, by_another}
use Rattle.flux_laws.proofs.Overlaps.{sections_never_conflict}
use Rattle.flux_laws.proofs.Waiting.{waits_never_circle}

pub parts_make_legal : PartsMakeLegal
parts_make_legal setup entries parts = record {
  locks = parts.locks;
  flows = parts.flows;
  walks = parts.walks;
  answers = parts.answers;
  excludes = record { takes = parts.takes; sections = sections_never_conflict setup entries parts.locks parts.walks parts.takes };
  waits = parts.waits;
  free = waits_never_circle setup entries parts.locks parts.waits;
}

-- ---- one entry more

-- after another flow's entry a flow is still on its walk
pub follows-other : (setup : Setup) (entries : List Entry) (flow : FlowNo) (event : Event) (other : ℕ) → (flow.0 ≡ other → ⊥)
    → FollowsWalk setup entries other → FollowsWalk setup (entries ++ record { flow = flow; event = event } ∷ []) other
follows-other setup entries flow event other apart follows =
    let none = by_another flow other event apart in
    let events_same : own_events (entries ++ record { flow = flow; event = event } ∷ []) other ≡ own_events entries other =
    own_events-append other entries (record { flow = flow; event = event } ∷ [])
    ∙ ap (λ es. own_events entries other ++ flat_map unless_wait es) none ∙ append-nil (own_events entries other) in
    let answers_same : own_answers (entries ++ record { flow = flow; event = event } ∷ []) other ≡ own_answers entries other =
    own_answers-append other entries (record { flow = flow; event = event } ∷ [])
    ∙ ap (λ es. own_answers entries other ++ flat_map answer_in es) none ∙ append-nil (own_answers entries other) in
    record { rest = follows.rest; prefix = rw (events_same, answers_same) follows.prefix }

-- where there is a conflicting wait, the entry passes only where it may
abbrev pub EntryPasses : List Entry → Entry → Type 0
EntryPasses entries entry = (before rest : List Entry) (flow : FlowNo) (key : Key) (mode their : Mode) → Stands entries before flow (Wait key mode) rest
    → entry.event ≡ Take key their → entry.flow.0 ≢ flow.0 → events_by flow.0 rest ≡ [] → conflict their mode ≡ true
    → MayPass entries entry.flow.0 key (length before)

module _ (setup : Setup) (entries : List Entry) (entry : Entry) where
  -- answers stay right
  pub answers-more : AreAnswersRight setup entries
      → ((made : CallMade) → entry.event ≡ Call made → IsNodeAnswer setup entry.flow.0 (cells_after setup entries) (slice_get setup.program.nodes made.node.0) made)
      → AreAnswersRight setup (entries ++ entry ∷ [])
  answers-more right own before after flow made stands = by (end_or_front entries entry before (record { flow = flow; event = Call made }) after stands)
    where
      by : IsEnd entries entry before (record { flow = flow; event = Call made }) after ⊎ InFront entries entry before (record { flow = flow; event = Call made }) after
          → IsNodeAnswer setup flow.0 (cells_after setup before) (slice_get setup.program.nodes made.node.0) made
      by (inl end) =
          let flow_is : entry.flow ≡ flow = ap (λ (e : Entry). e.flow) end.same in
          let whole = end.whole in
          rw (flow_is, whole) at (own made (ap (λ (e : Entry). e.event) end.same))
      by (inr front) = right before front.rest flow made front.front

  -- takes stay apart
  pub takes-more : TakesExclude entries → TakeExcludes entries entry → TakesExclude (entries ++ entry ∷ [])
  takes-more excludes own before after flow key mode stands other ne = by (end_or_front entries entry before (record { flow = flow; event = Take key mode }) after stands)
    where
      by : IsEnd entries entry before (record { flow = flow; event = Take key mode }) after ⊎ InFront entries entry before (record { flow = flow; event = Take key mode }) after
          → holds_against before other key mode ≡ false
      by (inl end) =
          let whole = end.whole in
          rw whole at (own key mode (ap (λ (e : Entry). e.event) end.same) other (λ (e : other ≡ entry.flow.0). ne (e ∙ ap (λ (x : Entry). x.flow.0) end.same)))
      by (inr front) = excludes before front.rest flow key mode front.front other ne

  -- nobody overtakes by the entry
  kept-more : EntryPasses entries entry → (before after : List Entry) (flow : FlowNo) (key : Key) (mode : Mode)
      → (front : InFront entries entry before (record { flow = flow; event = Wait key mode }) after)
      → IsNotOvertaken before flow key mode front.rest → IsNotOvertaken before flow key mode after
  kept-more passes before after flow key mode front kept between rest other their stands ne none against =
      by (end_or_front front.rest entry between (record { flow = other; event = Take key their }) rest (sym front.after_is ∙ stands))
    where
      by : IsEnd front.rest entry between (record { flow = other; event = Take key their }) rest ⊎ InFront front.rest entry between (record { flow = other; event = Take key their }) rest
          → MayPass (before ++ record { flow = flow; event = Wait key mode } ∷ between) other.0 key (length before)
      by (inl end) =
          let whole = end.whole in
          let split = front.front in
          let flow_is : entry.flow ≡ other = ap (λ (e : Entry). e.flow) end.same in
          rw (split, whole, flow_is) at
          (passes before front.rest flow key mode their front.front (ap (λ (e : Entry). e.event) end.same) (λ (e : entry.flow.0 ≡ flow.0). ne (ap (λ (f : FlowNo). f.0) (sym flow_is) ∙ e))
          (ap (events_by flow.0) whole ∙ none) against)
      by (inr more) = kept between more.rest other their more.front ne none against

  -- waits stay right
  pub waits-more : WaitsAreRight setup entries → ((key : Key) (mode : Mode) → entry.event ≡ Wait key mode → MayWait setup entries entry.flow key mode []) → EntryPasses entries entry
      → WaitsAreRight setup (entries ++ entry ∷ [])
  waits-more right own passes before after flow key mode stands = by (end_or_front entries entry before (record { flow = flow; event = Wait key mode }) after stands)
    where
      by : IsEnd entries entry before (record { flow = flow; event = Wait key mode }) after ⊎ InFront entries entry before (record { flow = flow; event = Wait key mode }) after
          → MayWait setup before flow key mode after
      by (inl end) =
          let flow_is : entry.flow ≡ flow = ap (λ (e : Entry). e.flow) end.same in
          let whole = end.whole in
          let none = end.none in
          rw none (rw (flow_is, whole) at (own key mode (ap (λ (e : Entry). e.event) end.same)))
      by (inr front) =
          let may = right before front.rest flow key mode front.front in
          record { next = may.next; blocker = may.blocker; blocked = may.blocked; once = may.once; kept = kept-more passes before after flow key mode front may.kept }
