-- Flows that wait at a key: what they do next.
use Rattle.std.proofs.Common.{◌≡◌, ℕ, List, [], ◌∷◌, ◌++◌, sym, ap, ◌∙◌}
use Rattle.std.specs.List.{flat_map}
use Rattle.std.proofs.lemmas.List.{append_cancel_left, append-nil}
use Rattle.flux_values.specs.declared.answers.Mode.{Mode}
use Rattle.flow_model.specs.declared.journals.Key.{Key}
use Rattle.flow_model.specs.declared.journals.Entry.{Entry}
use Rattle.flow_model.specs.declared.journals.Event.{Event}
use Rattle.flow_model.specs.declared.journals.Event.TheVariants.{Take, Wait}
use Rattle.flow_model.specs.Setup.{Setup}
use Rattle.flow_model.specs.Events.{unless_wait, answer_in, events_by, own_events, own_answers, IsNext}
use Rattle.flow_model.specs.Waits.{StandsAt, WaitsAreRight}
use Rattle.flux_laws.proofs.OwnEvents.{events_by-append, by_itself, own_events-append, own_answers-append}
use Rattle.flux_laws.proofs.Apart.{stands-front}

-- a flow has one next event
pub next-unique : (setup : Setup) (entries : List Entry) (flow : ℕ) (a b : Event) → IsNext setup entries flow a → IsNext setup entries flow b → a ≡ b
next-unique setup entries flow a b one other =
    let same : a ∷ one.rest ≡ b ∷ other.rest = append_cancel_left (own_events entries flow) (a ∷ one.rest) (b ∷ other.rest) (sym one.next ∙ other.next) in
    cc

-- entries after which a flow has the same events and answers leave its next event as it was
next-same : (setup : Setup) (before after : List Entry) (flow : ℕ) (event : Event) → own_events after flow ≡ [] → own_answers after flow ≡ []
    → IsNext setup before flow event → IsNext setup (before ++ after) flow event
next-same setup before after flow event none no_answers is =
    let events_same : own_events (before ++ after) flow ≡ own_events before flow =
    own_events-append flow before after ∙ ap (λ es. own_events before flow ++ es) none ∙ append-nil (own_events before flow) in
    let answers_same : own_answers (before ++ after) flow ≡ own_answers before flow =
    own_answers-append flow before after ∙ ap (λ es. own_answers before flow ++ es) no_answers ∙ append-nil (own_answers before flow) in
    record { rest = is.rest; next = rw (events_same, answers_same) is.next }

-- the events of a wait and of nothing after it
wait-only : (flow : ℕ) (key : Key) (mode : Mode) (after : List Entry) → events_by flow after ≡ []
    → events_by flow (record { flow = record { 0 = flow }; event = Wait key mode } ∷ after) ≡ Wait key mode ∷ []
wait-only flow key mode after none =
    events_by-append flow (record { flow = record { 0 = flow }; event = Wait key mode } ∷ []) after
    ∙ ap (λ es. es ++ events_by flow after) (by_itself flow (Wait key mode)) ∙ ap (λ es. Wait key mode ∷ es) none

-- a flow that waits at a key in a mode takes it in that mode next
pub standing-next : (setup : Setup) (entries : List Entry) (flow : ℕ) (key : Key) (mode : Mode) (place : ℕ) → WaitsAreRight setup entries
    → StandsAt entries flow key mode place → IsNext setup entries flow (Take key mode)
standing-next setup entries flow key mode place right stands =
    let may = right stands.before stands.after (record { 0 = flow }) key mode stands.stands in
    let wait = wait-only flow key mode stands.after stands.last in
    let rest = record { flow = record { 0 = flow }; event = Wait key mode } ∷ stands.after in
    let whole = stands.stands in
    rw whole (next-same setup stands.before rest flow (Take key mode) (ap (flat_map unless_wait) wait) (ap (flat_map answer_in) wait) may.next)

-- waits that are right are so in each front
pub waits_right-front : (setup : Setup) (before after : List Entry) → WaitsAreRight setup (before ++ after) → WaitsAreRight setup before
waits_right-front setup before after right a b flow key mode stands =
    let may = right a (b ++ after) flow key mode (stands-front before after a b flow (Wait key mode) stands) in
    record {
      next = may.next;
      blocker = may.blocker;
      blocked = may.blocked;
      once = may.once;
      kept = λ between rest other their there. may.kept between (rest ++ after) other their (stands-front b after between rest other (Take key their) there);
    }
