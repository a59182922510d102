-- The events of one flow in a journal that goes on, and what they leave held and open.
use Rattle.std.proofs.Common.{◌≡◌, ℕ, Bool, true, false, cond, if◌then◌else◌, eqb, ◌⊎◌, inl, inr, List, [], ◌∷◌, ◌++◌, refl, ap, ◌∙◌}
use Rattle.std.specs.List.{flat_map}
use Rattle.std.proofs.lemmas.Grind.{flat_map-append}
use Rattle.std.proofs.lemmas.Bool.{eqb-true, eq-eqb, ne_eqb}
use Rattle.flux_values.specs.declared.answers.Mode.{Mode}
use Rattle.flux_model.specs.declared.programs.NodeNo.{NodeNo}
use Rattle.flux_model.specs.declared.items.FlowNo.{FlowNo}
use Rattle.flow_model.specs.declared.journals.Key.{Key}
use Rattle.flow_model.specs.declared.journals.Entry.{Entry}
use Rattle.flow_model.specs.declared.journals.Event.{Event}
use Rattle.flow_model.specs.declared.journals.Event.TheVariants.{Take, Wait, Enter, Choose, Call, Exit, Drop, End}
use Rattle.flow_model.specs.Events.{unless_wait, answer_in, events_by, own_events, own_answers, Stands}
use Rattle.flow_model.specs.Keys.{same_key}
use Rattle.flow_model.specs.Exclusion.{without_first, held_after, modes_held, open_after}
use Rattle.flux_laws.proofs.Members.{In, in-either}

-- ---- entries one after another

-- the events of a flow
pub events_by-append : (flow : ℕ) (a b : List Entry) → events_by flow (a ++ b) ≡ events_by flow a ++ events_by flow b
events_by-append flow [] b = refl
events_by-append flow (entry ∷ a) b = by (eqb entry.flow.0 flow) (events_by-append flow a b)
  where
    by : (own : Bool) → events_by flow (a ++ b) ≡ events_by flow a ++ events_by flow b
        → cond own (entry.event ∷ events_by flow (a ++ b)) (events_by flow (a ++ b)) ≡ cond own (entry.event ∷ events_by flow a) (events_by flow a) ++ events_by flow b
    by true e = ap (λ es. entry.event ∷ es) e
    by false e = e

-- its own events
pub own_events-append : (flow : ℕ) (a b : List Entry) → own_events (a ++ b) flow ≡ own_events a flow ++ own_events b flow
own_events-append flow a b = ap (flat_map unless_wait) (events_by-append flow a b) ∙ flat_map-append unless_wait (events_by flow a) (events_by flow b)

-- its own answers
pub own_answers-append : (flow : ℕ) (a b : List Entry) → own_answers (a ++ b) flow ≡ own_answers a flow ++ own_answers b flow
own_answers-append flow a b = ap (flat_map answer_in) (events_by-append flow a b) ∙ flat_map-append answer_in (events_by flow a) (events_by flow b)

-- ---- one entry

-- an entry of the flow
pub by_itself : (flow : ℕ) (event : Event) → events_by flow (record { flow = record { 0 = flow }; event = event } ∷ []) ≡ event ∷ []
by_itself flow event = ap (λ (b : Bool). cond b (event ∷ []) []) (eq-eqb flow flow refl)

-- an entry of another
pub by_another : (flow : FlowNo) (other : ℕ) (event : Event) → (flow.0 ≡ other → ⊥) → events_by other (record { flow = flow; event = event } ∷ []) ≡ []
by_another flow other event apart = ap (λ (b : Bool). cond b (event ∷ []) []) (ne_eqb flow.0 other apart)

-- ---- what is held and open

-- modes held after events one after another
held_after-append : (key : Key) (modes : List Mode) (a b : List Event) → held_after key modes (a ++ b) ≡ held_after key (held_after key modes a) b
held_after-append key modes [] b = refl
held_after-append key modes (Take k mode ∷ a) b = held_after-append key (if same_key k key then mode ∷ modes else modes) a b
held_after-append key modes (Drop k ∷ a) b = held_after-append key (if same_key k key then without_first modes else modes) a b
held_after-append key modes (Wait k mode ∷ a) b = held_after-append key modes a b
held_after-append key modes (Enter node ∷ a) b = held_after-append key modes a b
held_after-append key modes (Choose place ∷ a) b = held_after-append key modes a b
held_after-append key modes (Call made ∷ a) b = held_after-append key modes a b
held_after-append key modes (Exit node outcome ∷ a) b = held_after-append key modes a b
held_after-append key modes (End outcome ∷ a) b = held_after-append key modes a b

-- waits change neither
pub held_after-own : (key : Key) (modes : List Mode) (events : List Event) → held_after key modes (flat_map unless_wait events) ≡ held_after key modes events
held_after-own key modes [] = refl
held_after-own key modes (Take k mode ∷ a) = held_after-own key (if same_key k key then mode ∷ modes else modes) a
held_after-own key modes (Drop k ∷ a) = held_after-own key (if same_key k key then without_first modes else modes) a
held_after-own key modes (Wait k mode ∷ a) = held_after-own key modes a
held_after-own key modes (Enter node ∷ a) = held_after-own key modes a
held_after-own key modes (Choose place ∷ a) = held_after-own key modes a
held_after-own key modes (Call made ∷ a) = held_after-own key modes a
held_after-own key modes (Exit node outcome ∷ a) = held_after-own key modes a
held_after-own key modes (End outcome ∷ a) = held_after-own key modes a

-- nor what is open
pub open_after-own : (nodes : List NodeNo) (events : List Event) → open_after nodes (flat_map unless_wait events) ≡ open_after nodes events
open_after-own nodes [] = refl
open_after-own nodes (Take k mode ∷ a) = open_after-own nodes a
open_after-own nodes (Drop k ∷ a) = open_after-own nodes a
open_after-own nodes (Wait k mode ∷ a) = open_after-own nodes a
open_after-own nodes (Enter node ∷ a) = open_after-own (node ∷ nodes) a
open_after-own nodes (Choose place ∷ a) = open_after-own nodes a
open_after-own nodes (Call made ∷ a) = open_after-own nodes a
open_after-own nodes (Exit node outcome ∷ a) = open_after-own (without_first nodes) a
open_after-own nodes (End outcome ∷ a) = open_after-own nodes a

-- what is held after one entry more
pub modes_held-own : (entries : List Entry) (flow : ℕ) (event : Event) (key : Key)
    → modes_held (entries ++ record { flow = record { 0 = flow }; event = event } ∷ []) flow key ≡ held_after key (modes_held entries flow key) (event ∷ [])
modes_held-own entries flow event key =
    ap (held_after key []) (events_by-append flow entries (record { flow = record { 0 = flow }; event = event } ∷ []) ∙ ap (λ es. events_by flow entries ++ es) (by_itself flow event))
    ∙ held_after-append key [] (events_by flow entries) (event ∷ [])

pub modes_held-other : (entries : List Entry) (flow : FlowNo) (event : Event) (other : ℕ) (key : Key) → (flow.0 ≡ other → ⊥)
    → modes_held (entries ++ record { flow = flow; event = event } ∷ []) other key ≡ modes_held entries other key
modes_held-other entries flow event other key apart =
    ap (held_after key []) (events_by-append other entries (record { flow = flow; event = event } ∷ []) ∙ ap (λ es. events_by other entries ++ es) (by_another flow other event apart))
    ∙ held_after-append key [] (events_by other entries) []

-- ---- where an event is

in-unless_wait : (event other : Event) → In other (unless_wait event) → event ≡ other
in-unless_wait (Wait key mode) other is = absurd is
in-unless_wait (Take key mode) other (inl same) = same
in-unless_wait (Take key mode) other (inr is) = absurd is
in-unless_wait (Enter node) other (inl same) = same
in-unless_wait (Enter node) other (inr is) = absurd is
in-unless_wait (Choose place) other (inl same) = same
in-unless_wait (Choose place) other (inr is) = absurd is
in-unless_wait (Call made) other (inl same) = same
in-unless_wait (Call made) other (inr is) = absurd is
in-unless_wait (Exit node outcome) other (inl same) = same
in-unless_wait (Exit node outcome) other (inr is) = absurd is
in-unless_wait (Drop key) other (inl same) = same
in-unless_wait (Drop key) other (inr is) = absurd is
in-unless_wait (End outcome) other (inl same) = same
in-unless_wait (End outcome) other (inr is) = absurd is

-- own events are events
pub in-from_own : (event : Event) (list : List Event) → In event (flat_map unless_wait list) → In event list
in-from_own event [] is = absurd is
in-from_own event (first ∷ list) is = by (in-either (unless_wait first) (flat_map unless_wait list) event is) (λ more. in-from_own event list more)
  where
    by : In event (unless_wait first) ⊎ In event (flat_map unless_wait list) → (In event (flat_map unless_wait list) → In event list) → In event (first ∷ list)
    by (inl here) more = inl (in-unless_wait first event here)
    by (inr there) more = inr (more there)

-- a flow's event is among the entries
pub stands-in : (entries : List Entry) (flow : ℕ) (event : Event) → In event (events_by flow entries)
    → (before : List Entry) × (after : List Entry) × Stands entries before (record { 0 = flow }) event after
stands-in [] flow event is = absurd is
stands-in (entry ∷ entries) flow event is = by (eqb entry.flow.0 flow) refl is (λ more. stands-in entries flow event more)
  where
    further : (before : List Entry) × (after : List Entry) × Stands entries before (record { 0 = flow }) event after
        → (before : List Entry) × (after : List Entry) × Stands (entry ∷ entries) before (record { 0 = flow }) event after
    further (before, after, stands) = (entry ∷ before, after, ap (λ es. entry ∷ es) stands)

    by : (own : Bool) → eqb entry.flow.0 flow ≡ own → In event (cond own (entry.event ∷ events_by flow entries) (events_by flow entries))
        → (In event (events_by flow entries) → (before : List Entry) × (after : List Entry) × Stands entries before (record { 0 = flow }) event after)
        → (before : List Entry) × (after : List Entry) × Stands (entry ∷ entries) before (record { 0 = flow }) event after
    by true own (inl same) more = ([], entries, λ i. record { flow = record { 0 = eqb-true entry.flow.0 flow own i }; event = same i } ∷ entries)
    by true own (inr is) more = further (more is)
    by false own is more = further (more is)
