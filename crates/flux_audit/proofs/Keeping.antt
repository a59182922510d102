-- A journal is legal exactly where each entry keeps the rules.
use Rattle.std.proofs.Common.{◌≡◌, ◌<◌, ◌⊎◌, inl, inr, ℕ, true, false, List, [], ◌∷◌, ◌++◌, length, refl, sym, subst, ◌∙◌, append_assoc}
use Rattle.std.proofs.lemmas.List.{append-nil, append_cancel_left}
use Rattle.flux_values.specs.declared.answers.Mode.{Mode}
use Rattle.flux_model.specs.declared.items.FlowNo.{FlowNo}
use Rattle.flow_model.specs.declared.journals.Key.{Key}
use Rattle.flow_model.specs.declared.journals.Entry.{Entry}
use Rattle.flow_model.specs.declared.journals.Event.{Event}
use Rattle.flow_model.specs.declared.journals.Event.TheVariants.{Take, Wait, Enter, Choose, Call, Exit, Drop, End}
use Rattle.flow_model.specs.Setup.{Setup}
use Rattle.flow_model.specs.Walk.{Stop, finished, before_call, nowhere, Walked}
use Rattle.flow_model.specs.Flows.{flow_walk, ending, HasEnded}
use Rattle.flow_model.specs.Events.{events_by, own_events, own_answers, IsNext, IsWholePath}
use Rattle.flow_model.specs.Exclusion.{holds_against}
use Rattle.flow_model.specs.Waits.{StandsBefore, Blocks}
use Rattle.flow_model.specs.Legal.{IsLegal}
use Rattle.flux_laws.specs.Going.{IsBlocked}
use Rattle.flux_laws.specs.Moves.{MayStep, IsMove}
use Rattle.flux_laws.proofs.Members.{In, in-right, contains-from_in, all-behind}
use Rattle.flux_laws.proofs.OwnEvents.{in-from_own}
use Rattle.flux_laws.proofs.Added.{moves_are_legal, nothing_is_legal}
use Rattle.flux_laws.proofs.Fronts.{fronts_are_legal}
use Rattle.flux_laws.proofs.LastMoves.{entries_are_moves}
use Rattle.flux_audit.specs.declared.verdicts.Rule.{Rule}
use Rattle.flux_audit.specs.declared.verdicts.Rule.TheVariants as rules
use Rattle.flux_audit.specs.Rules.{IsOnPath, IsAnswered, IsHeld, IsOutOfTurn, HasCause, Keeps, Breaks}
use Rattle.flux_audit.specs.Laws.{EachKeeps, RulesMakeLegal, LegalKeepsRules, WholeHasEnds}

-- a rule isn't kept and broken
pub not_both : (setup : Setup) (before : List Entry) (flow : FlowNo) (event : Event) (rule : Rule)
    → Keeps setup before flow event rule → Breaks setup before flow event rule → ⊥
not_both setup before flow event rules.Head keeps breaks = breaks
not_both setup before flow event rules.Text keeps breaks = breaks
not_both setup before flow event rules.Flow keeps breaks = breaks keeps
not_both setup before flow event rules.Path keeps breaks = breaks keeps
not_both setup before flow event rules.Answer keeps breaks = breaks keeps
not_both setup before flow event rules.Hold keeps breaks = keeps breaks
not_both setup before flow event rules.Turn keeps breaks = keeps breaks
not_both setup before flow event rules.Wait keeps breaks = breaks keeps
not_both setup before flow event rules.Short keeps breaks = breaks

-- a flow has one next event
pub next_once : (setup : Setup) (entries : List Entry) (flow : ℕ) (a b : Event)
    → IsNext setup entries flow a → IsNext setup entries flow b → a ≡ b
next_once setup entries flow a b one other =
    let same : a ∷ one.rest ≡ b ∷ other.rest =
    append_cancel_left (own_events entries flow) (a ∷ one.rest) (b ∷ other.rest) (sym one.next ∙ other.next) in
    cc

-- ---- from rules to moves

-- a flow whose next event is this one isn't blocked, where it keeps the rules of takes
pub free_by : (setup : Setup) (before : List Entry) (flow : FlowNo) (event : Event) → IsNext setup before flow.0 event
    → (IsHeld before flow event → ⊥) → (IsOutOfTurn before flow event → ⊥) → IsBlocked setup before flow.0 → ⊥
free_by setup before flow event next unheld turn (other, waits) = by blocked.cause
  where
    same : event ≡ Take waits.key waits.mode
    same = next_once setup before flow.0 event (Take waits.key waits.mode) next waits.next

    blocked : Blocks before other flow.0 waits.key waits.mode
    blocked = waits.blocked

    unheld_there : IsHeld before flow (Take waits.key waits.mode) → ⊥
    unheld_there = subst (λ (e : Event). IsHeld before flow e → ⊥) same unheld

    turn_there : IsOutOfTurn before flow (Take waits.key waits.mode) → ⊥
    turn_there = subst (λ (e : Event). IsOutOfTurn before flow e → ⊥) same turn

    by : (holds_against before other waits.key waits.mode ≡ true) ⊎ StandsBefore before other flow.0 waits.key waits.mode → ⊥
    by (inl against) = unheld_there (other, blocked.apart, against)
    by (inr ahead) = turn_there (blocked.free, (other, blocked.apart, ahead))

abbrev KeepsAll : Setup → List Entry → FlowNo → Event → Type 0
KeepsAll setup before flow event = (rule : Rule) → Keeps setup before flow event rule

-- an event that is next, and is neither a wait nor a call
step_by : (setup : Setup) (before : List Entry) (flow : FlowNo) (event : Event) → IsNext setup before flow.0 event
    → KeepsAll setup before flow event → MayStep setup before flow event
step_by setup before flow event next keeps =
    record { next = next; free = free_by setup before flow event next (keeps rules.Hold) (keeps rules.Turn) }

pub keeping_moves : (setup : Setup) (before : List Entry) (flow : FlowNo) (event : Event)
    → KeepsAll setup before flow event → IsMove setup before flow event
keeping_moves setup before flow (Wait key mode) keeps =
    let path = keeps rules.Path in
    let cause = keeps rules.Wait in
    record {
      next = path.0;
      blocked = (cause.0, record { key = key; mode = mode; next = path.0; blocked = cause.1 });
      once = path.1;
    }
keeping_moves setup before flow (Call made) keeps = record { next = keeps rules.Path; right = keeps rules.Answer }
keeping_moves setup before flow (Take key mode) keeps = step_by setup before flow (Take key mode) (keeps rules.Path) keeps
keeping_moves setup before flow (Enter node) keeps = step_by setup before flow (Enter node) (keeps rules.Path) keeps
keeping_moves setup before flow (Choose place) keeps =
    step_by setup before flow (Choose place) (keeps rules.Path) keeps
keeping_moves setup before flow (Exit node outcome) keeps =
    step_by setup before flow (Exit node outcome) (keeps rules.Path) keeps
keeping_moves setup before flow (Drop key) keeps = step_by setup before flow (Drop key) (keeps rules.Path) keeps
keeping_moves setup before flow (End outcome) keeps = step_by setup before flow (End outcome) (keeps rules.Path) keeps

-- after entries that keep the rules a journal goes on legally
pub goes_on : (setup : Setup) (before after : List Entry) → IsLegal setup before
    → EachKeeps setup (before ++ after) → IsLegal setup (before ++ after)
goes_on setup before [] legal keeps = subst (IsLegal setup) (sym (append-nil before)) legal
goes_on setup before (entry ∷ after) legal keeps =
    let moved : IsLegal setup (before ++ entry ∷ []) = moves_are_legal setup before entry.flow entry.event legal
    (keeping_moves setup before entry.flow entry.event (keeps before after entry.flow entry.event refl)) in
    let whole : (before ++ entry ∷ []) ++ after ≡ before ++ entry ∷ after = append_assoc before (entry ∷ []) after in
    subst (IsLegal setup) whole (goes_on setup (before ++ entry ∷ []) after moved (subst (EachKeeps setup) (sym whole) keeps))

pub rules_make_legal : RulesMakeLegal
rules_make_legal setup entries locks keeps = goes_on setup [] entries (nothing_is_legal setup locks) keeps

-- ---- from legal journals to rules

module _ (setup : Setup) (before : List Entry) (flow : FlowNo) (event : Event)
    (legal : IsLegal setup (before ++ record { flow = flow; event = event } ∷ [])) where
  last_flow : flow.0 < length setup.items
  last_flow =
      let all = all-behind (λ entry. entry.flow.0 < length setup.items) before (record { flow = flow; event = event } ∷ []) legal.flows in
      all.0

  last_move : IsMove setup before flow event
  last_move = entries_are_moves setup before flow event legal

path_of : (setup : Setup) (before : List Entry) (flow : FlowNo) (event : Event) → IsMove setup before flow event
    → IsOnPath setup before flow event
path_of setup before flow (Take key mode) move = move.next
path_of setup before flow (Wait key mode) move = (move.next, move.once)
path_of setup before flow (Enter node) move = move.next
path_of setup before flow (Choose place) move = move.next
path_of setup before flow (Call made) move = move.next
path_of setup before flow (Exit node outcome) move = move.next
path_of setup before flow (Drop key) move = move.next
path_of setup before flow (End outcome) move = move.next

answered_of : (setup : Setup) (before : List Entry) (flow : FlowNo) (event : Event) → IsMove setup before flow event
    → IsAnswered setup before flow event
answered_of setup before flow (Take key mode) move = tt
answered_of setup before flow (Wait key mode) move = tt
answered_of setup before flow (Enter node) move = tt
answered_of setup before flow (Choose place) move = tt
answered_of setup before flow (Call made) move = move.right
answered_of setup before flow (Exit node outcome) move = tt
answered_of setup before flow (Drop key) move = tt
answered_of setup before flow (End outcome) move = tt

unheld_of : (setup : Setup) (before : List Entry) (flow : FlowNo) (event : Event)
    → IsLegal setup (before ++ record { flow = flow; event = event } ∷ []) → IsHeld before flow event → ⊥
unheld_of setup before flow (Take key mode) legal (other, apart, against) =
    let ex = legal.excludes in
    let none : holds_against before other key mode ≡ false = ex.takes before [] flow key mode refl other apart in
    unlike none against
  where
    unlike : holds_against before other key mode ≡ false → holds_against before other key mode ≡ true → ⊥
    unlike nothing something = cc
unheld_of setup before flow (Wait key mode) legal held = held
unheld_of setup before flow (Enter node) legal held = held
unheld_of setup before flow (Choose place) legal held = held
unheld_of setup before flow (Call made) legal held = held
unheld_of setup before flow (Exit node outcome) legal held = held
unheld_of setup before flow (Drop key) legal held = held
unheld_of setup before flow (End outcome) legal held = held

in_turn_of : (setup : Setup) (before : List Entry) (flow : FlowNo) (event : Event) → IsMove setup before flow event
    → IsOutOfTurn before flow event → ⊥
in_turn_of setup before flow (Take key mode) move (free, (other, apart, ahead)) = move.free (
  other,
  record {
    key = key;
    mode = mode;
    next = move.next;
    blocked = record { free = free; apart = apart; cause = inr ahead };
  },
)
in_turn_of setup before flow (Wait key mode) move out = out
in_turn_of setup before flow (Enter node) move out = out
in_turn_of setup before flow (Choose place) move out = out
in_turn_of setup before flow (Call made) move out = out
in_turn_of setup before flow (Exit node outcome) move out = out
in_turn_of setup before flow (Drop key) move out = out
in_turn_of setup before flow (End outcome) move out = out

cause_of : (setup : Setup) (before : List Entry) (flow : FlowNo) (event : Event) → IsMove setup before flow event
    → HasCause before flow event
cause_of setup before flow (Take key mode) move = tt
cause_of setup before flow (Wait key mode) move = by move.blocked
  where
    by : IsBlocked setup before flow.0 → HasCause before flow (Wait key mode)
    by (other, waits) =
        let same : Take key mode ≡ Take waits.key waits.mode =
        next_once setup before flow.0 (Take key mode) (Take waits.key waits.mode) move.next waits.next in
        let keys : waits.key ≡ key = cc in
        let modes : waits.mode ≡ mode = cc in (
          other,
          subst (λ (k : Key). Blocks before other flow.0 k mode) keys
              (subst (λ (m : Mode). Blocks before other flow.0 waits.key m) modes waits.blocked),
        )
cause_of setup before flow (Enter node) move = tt
cause_of setup before flow (Choose place) move = tt
cause_of setup before flow (Call made) move = tt
cause_of setup before flow (Exit node outcome) move = tt
cause_of setup before flow (Drop key) move = tt
cause_of setup before flow (End outcome) move = tt

-- the last entry of a legal journal keeps the rules
pub last_keeps : (setup : Setup) (before : List Entry) (flow : FlowNo) (event : Event)
    → IsLegal setup (before ++ record { flow = flow; event = event } ∷ []) → KeepsAll setup before flow event
last_keeps setup before flow event legal rules.Head = tt
last_keeps setup before flow event legal rules.Text = tt
last_keeps setup before flow event legal rules.Flow = last_flow setup before flow event legal
last_keeps setup before flow event legal rules.Path =
    path_of setup before flow event (last_move setup before flow event legal)
last_keeps setup before flow event legal rules.Answer =
    answered_of setup before flow event (last_move setup before flow event legal)
last_keeps setup before flow event legal rules.Hold = unheld_of setup before flow event legal
last_keeps setup before flow event legal rules.Turn =
    in_turn_of setup before flow event (last_move setup before flow event legal)
last_keeps setup before flow event legal rules.Wait =
    cause_of setup before flow event (last_move setup before flow event legal)
last_keeps setup before flow event legal rules.Short = tt

pub legal_keeps_rules : LegalKeepsRules
legal_keeps_rules setup entries legal before after flow event stands =
    let last : Entry = record { flow = flow; event = event } in
    let front : IsLegal setup ((before ++ last ∷ []) ++ after) =
    subst (IsLegal setup) (stands ∙ sym (append_assoc before (last ∷ []) after)) legal in
    last_keeps setup before flow event (fronts_are_legal setup (before ++ last ∷ []) after front)

-- ---- whole journals

-- the `end` of a finished walk
end_in : (stop : Stop) → HasEnded stop → (outcome : _) × In (End outcome) (ending stop)
end_in (finished ended) is = (ended.outcome, inl refl)
end_in (before_call node args) is = absurd is
end_in nowhere is = absurd is

pub whole_has_ends : WholeHasEnds
whole_has_ends setup entries whole flow live =
    let path : IsWholePath setup entries flow = whole flow live.item in
    let walked : Walked = flow_walk setup flow (own_answers entries flow) in
    let (outcome, is) = end_in walked.stop path.finished in
    let there : In (End outcome) (own_events entries flow) = subst (In (End outcome)) (sym path.all)
    (in-right walked.events (ending walked.stop) (End outcome) is) in
    live.goes_on outcome (contains-from_in (events_by flow entries) (End outcome)
    (in-from_own (End outcome) (events_by flow entries) there))
