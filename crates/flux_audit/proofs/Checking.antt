-- What is found of an entry and of a line.
use Rattle.std.proofs.Common.{◌≡◌, ◌<◌, ◌≤◌, inl, inr, ℕ, true, false, List, length, Option, Some, None, Result, Ok, Err, IfOk, is_some, sym, ap, subst, ◌∙◌, arith}
use Rattle.std.proofs.lemmas.Bool.{cases_order}
use Rattle.std.specs.List.{slice_get}
use Rattle.flux_values.specs.Meanings.{LibraryMeaning}
use Rattle.flux_values.specs.declared.values.Value.{Value}
use Rattle.flux_values.specs.declared.answers.Answer.{Answer}
use Rattle.flux_values.specs.declared.answers.Mode.{Mode}
use Rattle.flux_model.specs.declared.items.FlowNo.{FlowNo}
use Rattle.flux_model.specs.declared.programs.Node.{Node}
use Rattle.flux_model.specs.declared.programs.NodeNo.{NodeNo}
use Rattle.flux_model.specs.declared.programs.Body.{Body}
use Rattle.flux_model.specs.declared.programs.Body.TheVariants.{Concrete, Abstract}
use Rattle.flux_model.specs.Names.{IsNamed}
use Rattle.flow_model.specs.declared.journals.CallMade.{CallMade}
use Rattle.flow_model.specs.declared.journals.Key.{Key}
use Rattle.flow_model.specs.declared.journals.Entry.{Entry}
use Rattle.flow_model.specs.declared.journals.Event.{Event}
use Rattle.flow_model.specs.declared.journals.Event.TheVariants as events
use Rattle.flow_model.specs.Setup.{Setup}
use Rattle.flow_model.specs.Keys.{Cells}
use Rattle.flow_model.specs.CellsAfter.{cells_after}
use Rattle.flow_model.specs.Answers.{IsBodyAnswer, IsNodeAnswer}
use Rattle.flux_table.specs.Blockers.{IsLowestOf}
use Rattle.flow_model.specs.Events.{IsNext, CallIsNext}
use Rattle.flow_model.specs.Waits.{IsNoWaitLast}
use Rattle.flux_journal.specs.Spelled.{IsEntryLine}
use Rattle.flow_state.specs.declared.coming.Coming.{Coming}
use Rattle.flow_state.specs.declared.coming.Coming.TheVariants.{Take, Enter, Choose, Call, Exit, Drop, End, Ended}
use Rattle.flow_state.specs.Coming.{event_of, IsComing, Comes}
use Rattle.flow_state.specs.declared.inputs.Inputs.{Inputs}
use Rattle.flow_state.specs.States.{FlowState, setup_at}
use Rattle.flow_state.specs.Calls.{IsAnswerOf, IsNextCall, made_of}
use Rattle.flow_state.specs.Blockers.{IsHeldBy, IsAhead}
use Rattle.flow_state.specs.Moves.{MayMake, Makes, with_entry}
use Rattle.flow_state.proofs.Agreeing.{answers-agree}
use Rattle.flux_audit.specs.declared.verdicts.Rule.{Rule}
use Rattle.flux_audit.specs.declared.verdicts.Rule.TheVariants as rules
use Rattle.flux_audit.specs.Rules.{IsOnPath, IsAnswered, IsHeld, HasCause, Keeps, Breaks}
use Rattle.flux_audit.specs.Verdicts.{SpellsBroken, LineBreaks, rank}
use Rattle.flux_audit.specs.steps.Lines.{IsFirstOfLine}
use Rattle.flux_audit.specs.steps.Checks.{IsPlain, IsFirstOfEntry, IsChecked, IsLineChecked}
use Rattle.flux_audit.proofs.Keeping.{next_once, free_by}
use Rattle.flux_audit.proofs.Passing.{line_keeps_one}

-- ---- the first rule

module _ (setup : Setup) (before : List Entry) (flow : FlowNo) where
  pub first_flow : (event : Event) → (flow.0 < length setup.items → ⊥) → IsFirstOfEntry setup before flow event rules.Flow
  first_flow event none = record { breaks = none; kept = by }
    where
      by : (its : Rule) → rank its < 3 → Keeps setup before flow event its
      by rules.Head lt = tt
      by rules.Text lt = tt
      by rules.Flow lt = absurd (omega (arith, lt))
      by rules.Path lt = absurd (omega (arith, lt))
      by rules.Answer lt = absurd (omega (arith, lt))
      by rules.Hold lt = absurd (omega (arith, lt))
      by rules.Turn lt = absurd (omega (arith, lt))
      by rules.Wait lt = absurd (omega (arith, lt))
      by rules.Short lt = absurd (omega (arith, lt))

  module _ (item : flow.0 < length setup.items) where
    pub first_path : (event : Event) → (IsOnPath setup before flow event → ⊥) → IsFirstOfEntry setup before flow event rules.Path
    first_path event none = record { breaks = none; kept = by }
      where
        by : (its : Rule) → rank its < 4 → Keeps setup before flow event its
        by rules.Head lt = tt
        by rules.Text lt = tt
        by rules.Flow lt = item
        by rules.Path lt = absurd (omega (arith, lt))
        by rules.Answer lt = absurd (omega (arith, lt))
        by rules.Hold lt = absurd (omega (arith, lt))
        by rules.Turn lt = absurd (omega (arith, lt))
        by rules.Wait lt = absurd (omega (arith, lt))
        by rules.Short lt = absurd (omega (arith, lt))

    pub first_answer : (event : Event) → IsOnPath setup before flow event → (IsAnswered setup before flow event → ⊥)
        → IsFirstOfEntry setup before flow event rules.Answer
    first_answer event path none = record { breaks = none; kept = by }
      where
        by : (its : Rule) → rank its < 5 → Keeps setup before flow event its
        by rules.Head lt = tt
        by rules.Text lt = tt
        by rules.Flow lt = item
        by rules.Path lt = path
        by rules.Answer lt = absurd (omega (arith, lt))
        by rules.Hold lt = absurd (omega (arith, lt))
        by rules.Turn lt = absurd (omega (arith, lt))
        by rules.Wait lt = absurd (omega (arith, lt))
        by rules.Short lt = absurd (omega (arith, lt))

    pub first_hold : (key : Key) (mode : Mode) → IsNext setup before flow.0 (events.Take key mode) → (other : ℕ)
        → IsHeldBy before other flow.0 key mode → IsFirstOfEntry setup before flow (events.Take key mode) rules.Hold
    first_hold key mode next other held = record { breaks = (other, held.apart, held.against); kept = by }
      where
        by : (its : Rule) → rank its < 6 → Keeps setup before flow (events.Take key mode) its
        by rules.Head lt = tt
        by rules.Text lt = tt
        by rules.Flow lt = item
        by rules.Path lt = next
        by rules.Answer lt = tt
        by rules.Hold lt = absurd (omega (arith, lt))
        by rules.Turn lt = absurd (omega (arith, lt))
        by rules.Wait lt = absurd (omega (arith, lt))
        by rules.Short lt = absurd (omega (arith, lt))

    -- no flow holds a take's key in conflict
    unheld : (key : Key) (mode : Mode) → ((other : ℕ) → IsHeldBy before other flow.0 key mode → ⊥)
        → IsHeld before flow (events.Take key mode) → ⊥
    unheld key mode none (other, apart, against) = none other (record { apart = apart; against = against })

    pub first_turn : (key : Key) (mode : Mode) → IsNext setup before flow.0 (events.Take key mode)
        → ((other : ℕ) → IsHeldBy before other flow.0 key mode → ⊥) → (other : ℕ) → IsAhead before other flow.0 key mode
        → IsFirstOfEntry setup before flow (events.Take key mode) rules.Turn
    first_turn key mode next none other ahead =
        record { breaks = (ahead.free, (other, ahead.apart, ahead.before)); kept = by }
      where
        by : (its : Rule) → rank its < 7 → Keeps setup before flow (events.Take key mode) its
        by rules.Head lt = tt
        by rules.Text lt = tt
        by rules.Flow lt = item
        by rules.Path lt = next
        by rules.Answer lt = tt
        by rules.Hold lt = unheld key mode none
        by rules.Turn lt = absurd (omega (arith, lt))
        by rules.Wait lt = absurd (omega (arith, lt))
        by rules.Short lt = absurd (omega (arith, lt))

    pub first_wait : (key : Key) (mode : Mode) → IsNext setup before flow.0 (events.Take key mode)
        → IsNoWaitLast before flow → (HasCause before flow (events.Wait key mode) → ⊥)
        → IsFirstOfEntry setup before flow (events.Wait key mode) rules.Wait
    first_wait key mode next once none = record { breaks = none; kept = by }
      where
        by : (its : Rule) → rank its < 8 → Keeps setup before flow (events.Wait key mode) its
        by rules.Head lt = tt
        by rules.Text lt = tt
        by rules.Flow lt = item
        by rules.Path lt = (next, once)
        by rules.Answer lt = tt
        by rules.Hold lt = λ held. held
        by rules.Turn lt = λ out. out
        by rules.Wait lt = absurd (omega (arith, lt))
        by rules.Short lt = absurd (omega (arith, lt))

    -- a take of a key that no flow holds against it, and before which none waits, may be made
    pub may_take : (key : Key) (mode : Mode) → IsNext setup before flow.0 (events.Take key mode)
        → ((other : ℕ) → IsHeldBy before other flow.0 key mode → ⊥)
        → ((other : ℕ) → IsAhead before other flow.0 key mode → ⊥) → MayMake setup before flow
    may_take key mode next none free = record {
      event = events.Take key mode;
      may = record {
        next = next;
        free = free_by setup before flow (events.Take key mode) next (unheld key mode none)
            (λ (holds_none, (other, apart, ahead)). free other (record { free = holds_none; apart = apart; before = ahead }));
      };
    }

-- ---- what comes

-- what comes where this is a flow's next event
abbrev coming_of : Event → Coming
coming_of (events.Take key mode) = Take key mode
coming_of (events.Wait key mode) = Ended
coming_of (events.Enter node) = Enter node
coming_of (events.Choose place) = Choose place
coming_of (events.Call made) = Ended
coming_of (events.Exit node outcome) = Exit node outcome
coming_of (events.Drop key) = Drop key
coming_of (events.End outcome) = End outcome

back : (coming : Coming) (event : Event) → event_of coming ≡ Some event → coming ≡ coming_of event
back (Take key mode) event is = let same : events.Take key mode ≡ event = cc in ap coming_of same
back (Enter node) event is = let same : events.Enter node ≡ event = cc in ap coming_of same
back (Choose number) event is = let same : events.Choose number ≡ event = cc in ap coming_of same
back (Call node) event is = absurd cc
back (Exit node outcome) event is = let same : events.Exit node outcome ≡ event = cc in ap coming_of same
back (Drop key) event is = let same : events.Drop key ≡ event = cc in ap coming_of same
back (End outcome) event is = let same : events.End outcome ≡ event = cc in ap coming_of same
back Ended event is = absurd cc

module _ (setup : Setup) (before : List Entry) (flow : FlowNo) where
  -- another event is off the path
  pub off_next : (actual coming : Coming) (event : Event) → Comes setup before flow.0 actual → (actual ≡ coming → ⊥)
      → event_of coming ≡ Some event → IsNext setup before flow.0 event → ⊥
  off_next actual coming event comes other is next =
      other (back actual event (comes.event event next) ∙ sym (back coming event is))

  plain_path : (coming : Coming) (event : Event) → IsPlain coming → event_of coming ≡ Some event
      → IsOnPath setup before flow event → IsNext setup before flow.0 event
  plain_path (Take key mode) event plain is path = absurd plain
  plain_path (Enter node) event plain is path =
      let same : event ≡ events.Enter node = cc in
      subst (IsNext setup before flow.0) (sym same) (subst (IsOnPath setup before flow) same path)
  plain_path (Choose number) event plain is path =
      let same : event ≡ events.Choose number = cc in
      subst (IsNext setup before flow.0) (sym same) (subst (IsOnPath setup before flow) same path)
  plain_path (Call node) event plain is path = absurd plain
  plain_path (Exit node outcome) event plain is path =
      let same : event ≡ events.Exit node outcome = cc in
      subst (IsNext setup before flow.0) (sym same) (subst (IsOnPath setup before flow) same path)
  plain_path (Drop key) event plain is path =
      let same : event ≡ events.Drop key = cc in
      subst (IsNext setup before flow.0) (sym same) (subst (IsOnPath setup before flow) same path)
  plain_path (End outcome) event plain is path =
      let same : event ≡ events.End outcome = cc in
      subst (IsNext setup before flow.0) (sym same) (subst (IsOnPath setup before flow) same path)
  plain_path Ended event plain is path = absurd plain

  pub off_path : (actual coming : Coming) (event : Event) → IsPlain coming → Comes setup before flow.0 actual
      → (actual ≡ coming → ⊥) → event_of coming ≡ Some event → IsOnPath setup before flow event → ⊥
  off_path actual coming event plain comes other is path =
      off_next actual coming event comes other is (plain_path coming event plain is path)

  -- what comes is next
  pub next_of : (coming : Coming) (event : Event) → IsComing setup before flow.0 coming → event_of coming ≡ Some event
      → IsNext setup before flow.0 event
  next_of (Take key mode) event comes is = subst (IsNext setup before flow.0) (let same : events.Take key mode ≡ event = cc in same) comes
  next_of (Enter node) event comes is = subst (IsNext setup before flow.0) (let same : events.Enter node ≡ event = cc in same) comes
  next_of (Choose number) event comes is = subst (IsNext setup before flow.0) (let same : events.Choose number ≡ event = cc in same) comes
  next_of (Call node) event comes is = absurd cc
  next_of (Exit node outcome) event comes is = subst (IsNext setup before flow.0) (let same : events.Exit node outcome ≡ event = cc in same) comes
  next_of (Drop key) event comes is = subst (IsNext setup before flow.0) (let same : events.Drop key ≡ event = cc in same) comes
  next_of (End outcome) event comes is = subst (IsNext setup before flow.0) (let same : events.End outcome ≡ event = cc in same) comes
  next_of Ended event comes is = absurd cc

  -- and may be made
  pub may_plain : (coming : Coming) → IsPlain coming → IsComing setup before flow.0 coming → MayMake setup before flow
  may_plain (Take key mode) plain comes = absurd plain
  may_plain (Enter node) plain comes = record {
    event = events.Enter node;
    may = record { next = comes; free = free_by setup before flow (events.Enter node) comes (λ x. x) (λ x. x) };
  }
  may_plain (Choose number) plain comes = record {
    event = events.Choose number;
    may = record { next = comes; free = free_by setup before flow (events.Choose number) comes (λ x. x) (λ x. x) };
  }
  may_plain (Call node) plain comes = absurd plain
  may_plain (Exit node outcome) plain comes = record {
    event = events.Exit node outcome;
    may = record { next = comes; free = free_by setup before flow (events.Exit node outcome) comes (λ x. x) (λ x. x) };
  }
  may_plain (Drop key) plain comes = record {
    event = events.Drop key;
    may = record { next = comes; free = free_by setup before flow (events.Drop key) comes (λ x. x) (λ x. x) };
  }
  may_plain (End outcome) plain comes = record {
    event = events.End outcome;
    may = record { next = comes; free = free_by setup before flow (events.End outcome) comes (λ x. x) (λ x. x) };
  }
  may_plain Ended plain comes = absurd plain

-- ---- answers

abbrev made_by : NodeNo → List Value → Answer → CallMade
made_by node args answer = record { node = node; args = args; answer = answer }

module _ (setup : Setup) (flow : ℕ) (cells : Cells) (node : NodeNo) (args : List Value) (a b : Answer) where
  once_body : (body : Body) → IsBodyAnswer setup flow cells body (made_by node args a)
      → IsBodyAnswer setup flow cells body (made_by node args b) → a ≡ b
  once_body (Concrete name) one two = one ∙ sym two
  once_body (Abstract cases) one two = absurd one

  once_node : (found : Option Node) → IsNodeAnswer setup flow cells found (made_by node args a)
      → IsNodeAnswer setup flow cells found (made_by node args b) → a ≡ b
  once_node None one two = absurd one
  once_node (Some found) one two = once_body found.body one two

  -- a call has one right answer
  pub answer_once : IsNodeAnswer setup flow cells (slice_get setup.program.nodes node.0) (made_by node args a)
      → IsNodeAnswer setup flow cells (slice_get setup.program.nodes node.0) (made_by node args b) → a ≡ b
  answer_once one two = once_node (slice_get setup.program.nodes node.0) one two

-- ---- lines

module _ (setup : Setup) (named : IsNamed setup.program) (before : List Entry) (line : List ℕ) where
  pub first_text : ((entry : Entry) → IsEntryLine setup.program line entry → ⊥) → IsFirstOfLine setup before line rules.Text
  first_text none = record { breaks = none; first = by }
    where
      by : (its : Rule) → LineBreaks setup before line its → 2 ≤ rank its
      by rules.Head breaks = absurd breaks
      by rules.Text breaks = omega arith
      by rules.Flow breaks = omega arith
      by rules.Path breaks = omega arith
      by rules.Answer breaks = omega arith
      by rules.Hold breaks = omega arith
      by rules.Turn breaks = omega arith
      by rules.Wait breaks = omega arith
      by rules.Short breaks = omega arith

  -- what an entry breaks first, its line breaks first
  pub first_spelled : (entry : Entry) (rule : Rule) → IsEntryLine setup.program line entry
      → IsFirstOfEntry setup before entry.flow entry.event rule → IsFirstOfLine setup before line rule
  first_spelled entry rule spells is = record {
    breaks = at rule is.breaks;
    first = λ its breaks. elim (cases_order (rank rule) (rank its)) as (λ _. rank rule ≤ rank its) [
      | inl same ↦ omega (arith, same)
      | inr differ ↦ elim differ as (λ _. rank rule ≤ rank its) [
        | inl less ↦ omega (arith, less)
        | inr more ↦ absurd (line_keeps_one setup named before line entry spells its (is.kept its more) breaks)
      ]
    ];
  }
    where
      spelled : (r : Rule) → Breaks setup before entry.flow entry.event r → SpellsBroken setup before line r
      spelled r breaks = record { entry = entry; spells = spells; breaks = breaks }

      at : (r : Rule) → Breaks setup before entry.flow entry.event r → LineBreaks setup before line r
      at rules.Head breaks = absurd breaks
      at rules.Text breaks = absurd breaks
      at rules.Flow breaks = spelled rules.Flow breaks
      at rules.Path breaks = spelled rules.Path breaks
      at rules.Answer breaks = spelled rules.Answer breaks
      at rules.Hold breaks = spelled rules.Hold breaks
      at rules.Turn breaks = spelled rules.Turn breaks
      at rules.Wait breaks = spelled rules.Wait breaks
      at rules.Short breaks = absurd breaks

-- ---- what the state's calls tell

-- the lowest of flows, where there is one
pub lowest_some : (Is : ℕ → Type 0) (told : Option FlowNo) → IsLowestOf Is told → true ≡ is_some told
    → (other : ℕ) × Is other
lowest_some Is None lowest some = absurd cc
lowest_some Is (Some other) lowest some = (other.0, lowest.0)

-- and none
pub lowest_none : (Is : ℕ → Type 0) (told : Option FlowNo) → IsLowestOf Is told → false ≡ is_some told
    → (other : ℕ) → Is other → ⊥
lowest_none Is None lowest none = lowest
lowest_none Is (Some other) lowest none = absurd cc

-- the event that was made is the one that was next
pub made_is : {L : Type 0} (meaning : L → LibraryMeaning) (old new : FlowState L) (flow : FlowNo) (event : Event)
    → Makes meaning old new flow → IsNext (setup_at meaning old) old.entries flow.0 event
    → new ≡ with_entry old flow event
made_is meaning old new flow event makes next =
    let adds = makes.adds in
    let may = adds.may in
    let same : makes.event ≡ event =
    next_once (setup_at meaning old) old.entries flow.0 makes.event event may.next next in
    subst (λ (e : Event). new ≡ with_entry old flow e) same adds.new_

-- ---- calls

-- the call that comes next is on this node
pub same_node : (setup : Setup) (before : List Entry) (flow : FlowNo) (coming : Coming) (node own : NodeNo)
    (args : List Value) → Comes setup before flow.0 coming → coming ≡ Call own
    → CallIsNext setup before flow.0 node args → node ≡ own
same_node setup before flow coming node own args comes is next =
    let both : Call node ≡ Call own = sym (comes.call node args next) ∙ is in
    cc both

module _ (setup : Setup) (entries : List Entry) (flow : ℕ) (inputs : Inputs) (made : CallMade) (answer : Answer)
    (nodes : inputs.node ≡ made.node) (args : inputs.args ≡ made.args) where
  -- so is the call that a line tells
  pub next_call : CallIsNext setup entries flow inputs.node inputs.args → CallIsNext setup entries flow made.node made.args
  next_call next = subst (λ (n : NodeNo). CallIsNext setup entries flow n made.args) nodes
      (subst (λ (a : List Value). CallIsNext setup entries flow inputs.node a) args next)

  -- the library's answer is the only right one
  pub right_answer : IsNextCall setup entries flow inputs → IsAnswerOf setup.meaning setup.program inputs answer
      → IsNodeAnswer setup flow (cells_after setup entries) (slice_get setup.program.nodes made.node.0) made
      → answer ≡ made.answer
  right_answer next right told =
      let cells = cells_after setup entries in
      let agree = answers-agree setup entries flow inputs answer next in
      let there : IsNodeAnswer setup flow cells (slice_get setup.program.nodes inputs.node.0) (made_of inputs answer) = agree.0 right in
      let moved : IsNodeAnswer setup flow cells (slice_get setup.program.nodes made.node.0)
      (record { node = made.node; args = made.args; answer = answer }) =
      subst (λ (n : NodeNo). IsNodeAnswer setup flow cells (slice_get setup.program.nodes n.0)
      (record { node = n; args = made.args; answer = answer })) nodes
      (subst (λ (a : List Value). IsNodeAnswer setup flow cells (slice_get setup.program.nodes inputs.node.0)
      (record { node = inputs.node; args = a; answer = answer })) args there) in
      answer_once setup flow cells made.node made.args answer made.answer moved told

  pub same_made : answer ≡ made.answer → made_of inputs answer ≡ made
  same_made same =
      ap (λ (n : NodeNo). record { node = n; args = inputs.args; answer = answer }) nodes
      ∙ ap (λ (a : List Value). record { node = made.node; args = a; answer = answer }) args
      ∙ ap (λ (b : Answer). record { node = made.node; args = made.args; answer = b }) same

-- ---- a line's entry

pub if_ok : {X E : Type 0} (P Q : X → Type 0) (r : Result X E) → ((x : X) → P x → Q x) → IfOk r P → IfOk r Q
if_ok P Q (Ok x) to is = to x is
if_ok P Q (Err e) to is = tt

-- what is found of an entry is found of its line
pub checked_line : {L : Type 0} (meaning : L → LibraryMeaning) (old new : FlowState L) (line : List ℕ) (entry : Entry)
    → IsNamed old.setup.program → IsEntryLine old.setup.program line entry → (found : Option Rule)
    → IsChecked meaning old new entry.flow entry.event found → IsLineChecked meaning old new line found
checked_line meaning old new line entry named spells None made = record { entry = entry; spells = spells; made = made }
checked_line meaning old new line entry named spells (Some rule) is =
    first_spelled (setup_at meaning old) named old.entries line entry rule spells is
