-- An audit goes on from line to line, and ends.
use Rattle.std.proofs.Common.{◌≡◌, ◌≤◌, ◌+◌, ◌-◌, ◌||◌, ℕ, zero, suc, Bool, true, false, cond, List, [], ◌∷◌, ◌++◌, length, inl, inr, refl, sym, ap, subst, ◌∙◌, arith}
use Rattle.std.specs.List.{list_any}
use Rattle.std.proofs.lemmas.Bool.{cases_order}
use Rattle.flux_values.specs.Meanings.{LibraryMeaning}
use Rattle.flux_model.specs.Names.{IsNamed}
use Rattle.flux_model.specs.declared.programs.Program.{Program}
use Rattle.flow_model.specs.declared.journals.Entry.{Entry}
use Rattle.flow_model.specs.declared.journals.Event.{Event}
use Rattle.flow_model.specs.declared.journals.Event.TheVariants.{End}
use Rattle.flow_model.specs.declared.journals.Outcome.{Outcome}
use Rattle.flow_model.specs.Setup.{Setup}
use Rattle.flow_model.specs.Events.{events_by, IsLive}
use Rattle.flow_model.specs.Legal.{IsLegal}
use Rattle.flux_laws.specs.Growth.{is_end, has_ended}
use Rattle.flux_laws.proofs.Members.{In, in-from_contains, contains-from_in}
use Rattle.flux_laws.proofs.Growing.{ended-in}
use Rattle.flux_journal.specs.Spelled.{IsEntryLine}
use Rattle.flux_journal.specs.Journals.{is_headed, head_count, AreEntryLines}
use Rattle.flow_state.specs.States.{SetupState, FlowState, setup_by, setup_at, IsLegalState}
use Rattle.flow_state.proofs.Ended.{one_live, live_in, none-all}
use Rattle.flux_audit.specs.declared.verdicts.Rule.{Rule}
use Rattle.flux_audit.specs.declared.verdicts.Rule.TheVariants as rules
use Rattle.flux_audit.specs.declared.verdicts.Verdict.TheVariants.{Yes}
use Rattle.flux_audit.specs.Verdicts.{HasHeadFor, BreaksAt, rank, IsNotLater, IsFirstBroken, HasVerdict}
use Rattle.flux_audit.specs.declared.heads.Opened.{Opened}
use Rattle.flux_audit.specs.steps.Lines.{IsPassedTo, IsFirstOfLine, IsOpened}
use Rattle.flux_audit.specs.steps.Checks.{IsLineMade, IsJudgedTo}
use Rattle.flux_audit.proofs.Keeping.{last_keeps}
use Rattle.flux_audit.proofs.Passing.{passed_none, passed_more, first_broken, number_fits, short_at, true_text}

-- ---- a text without its head line

ranked_some : (rule : Rule) → 1 ≤ rank rule
ranked_some rules.Head = omega arith
ranked_some rules.Text = omega arith
ranked_some rules.Flow = omega arith
ranked_some rules.Path = omega arith
ranked_some rules.Answer = omega arith
ranked_some rules.Hold = omega arith
ranked_some rules.Turn = omega arith
ranked_some rules.Wait = omega arith
ranked_some rules.Short = omega arith

at_some : (setup : Setup) (text : List ℕ) (number : ℕ) (rule : Rule) → BreaksAt setup text number rule → 1 ≤ number
at_some setup text number rules.Head breaks = omega (arith, breaks.first)
at_some setup text number rules.Text breaks = omega (arith, breaks.place)
at_some setup text number rules.Flow breaks = omega (arith, breaks.place)
at_some setup text number rules.Path breaks = omega (arith, breaks.place)
at_some setup text number rules.Answer breaks = omega (arith, breaks.place)
at_some setup text number rules.Hold breaks = omega (arith, breaks.place)
at_some setup text number rules.Turn breaks = omega (arith, breaks.place)
at_some setup text number rules.Wait breaks = omega (arith, breaks.place)
at_some setup text number rules.Short breaks = omega (arith, breaks.place)

pub head_first : (setup : Setup) (text : List ℕ) → (HasHeadFor (length setup.items) text → ⊥)
    → IsFirstBroken setup text 1 rules.Head
head_first setup text none = record {
  breaks = record { first = refl; other = none };
  first = λ other its breaks. elim (cases_order 1 other) as (λ _. IsNotLater 1 rules.Head other its) [
    | inl same ↦ inr (same, ranked_some its)
    | inr differ ↦ elim differ as (λ _. IsNotLater 1 rules.Head other its) [
      | inl less ↦ inl less
      | inr more ↦ absurd (omega (arith, more, at_some setup text other its breaks))
    ]
  ];
}

-- ---- one line more

module _ {L : Type 0} (meaning : L → LibraryMeaning) (setup : SetupState L) (named : IsNamed setup.program) (text : List ℕ) where
  pub judged_more : (line : List ℕ) (left : List (List ℕ)) (old new : FlowState L) (number : ℕ)
      → IsJudgedTo meaning setup text (line ∷ left) old number → IsLineMade meaning old new line
      → IsLegalState meaning new → IsJudgedTo meaning setup text left new (number + 1)
  judged_more line left old new number judged made kept = record {
    same = same;
    passed = subst (λ (es : List Entry). IsPassedTo own text left es (number + 1)) (sym entries)
        (passed_more own named text line left old.entries number judged.passed made.entry spells
        (last_keeps own old.entries (let e = made.entry in e.flow) (let e = made.entry in e.event) legal));
  }
    where
      own : Setup
      own = setup_by meaning setup

      same : new.setup ≡ setup
      same = ap (λ (s : FlowState L). s.setup) made.made ∙ judged.same

      entries : new.entries ≡ old.entries ++ made.entry ∷ []
      entries = ap (λ (s : FlowState L). s.entries) made.made

      legal : IsLegal own (old.entries ++ made.entry ∷ [])
      legal = subst (IsLegal own) entries (subst (λ (s : SetupState L). IsLegal (setup_by meaning s) new.entries) same kept.legal)

      spells : IsEntryLine setup.program line made.entry
      spells = subst (λ (s : SetupState L). IsEntryLine s.program line made.entry) judged.same made.spells

-- ---- the end

ended_there : (list : List Event) (outcome : Outcome) → In (End outcome) list → list_any is_end list ≡ true
ended_there [] outcome is = absurd is
ended_there (event ∷ list) outcome (inl same) = ap (λ (e : Event). is_end e || list_any is_end list) same
ended_there (event ∷ list) outcome (inr is) = by (is_end event) (ended_there list outcome is)
  where
    by : (b : Bool) → list_any is_end list ≡ true → (b || list_any is_end list) ≡ true
    by true e = refl
    by false e = e

unlike : (b : Bool) → b ≡ false → b ≡ true → ⊥
unlike b first second = cc

module _ (setup : Setup) (entries : List Entry) where
  pub not_live : live_in entries (length setup.items) ≡ 0 → (flow : ℕ) → IsLive setup entries flow → ⊥
  not_live none flow live =
      let (outcome, is) = ended-in (events_by flow entries) (none-all entries flow (length setup.items) live.item none) in
      live.goes_on outcome (contains-from_in (events_by flow entries) (End outcome) is)

  -- the highest of so many flows that hasn't ended
  open_below : (count : ℕ) → count ≤ length setup.items → 1 ≤ live_in entries count → (flow : ℕ) × IsLive setup entries flow
  open_below zero le some = absurd (omega (arith, some))
  open_below (suc count) le some = by (has_ended entries count) refl (open_below count)
    where
      by : (b : Bool) → has_ended entries count ≡ b
          → (count ≤ length setup.items → 1 ≤ live_in entries count → (flow : ℕ) × IsLive setup entries flow)
          → (flow : ℕ) × IsLive setup entries flow
      by true is further =
          let none : one_live entries count ≡ 0 = ap (λ (b : Bool). cond b 0 1) is in
          further (omega (arith, le)) (omega (arith, some, none))
      by false is further = (
        count,
        record {
          item = omega (arith, le);
          goes_on = λ outcome there.
              let ended = ended_there (events_by count entries) outcome
              (in-from_contains (events_by count entries) (End outcome) there) in
              unlike (has_ended entries count) is ended;
        },
      )

  pub some_live : 1 ≤ live_in entries (length setup.items) → (flow : ℕ) × IsLive setup entries flow
  some_live some = open_below (length setup.items) (omega arith) some

same_length : (p : Program) (lines : List (List ℕ)) (entries : List Entry) → AreEntryLines p lines entries
    → length lines ≡ length entries
same_length p [] [] are = refl
same_length p [] (e ∷ entries) are = absurd are
same_length p (l ∷ lines) [] are = absurd are
same_length p (l ∷ lines) (e ∷ entries) are = let more = same_length p lines entries are.1 in omega (arith, more)

pub verdict_yes : (setup : Setup) → IsNamed setup.program → (text : List ℕ) (entries : List Entry) (number first : ℕ)
    → first ≡ head_count (is_headed text) + 1 → IsPassedTo setup text [] entries number → IsLegal setup entries
    → live_in entries (length setup.items) ≡ 0 → HasVerdict setup text (Yes (number - first))
verdict_yes setup named text entries number first is passed legal none = (
  record { entries = entries },
  true_text setup named text entries number passed legal (not_live setup entries none),
  omega (arith, is, passed.place, same_length setup.program passed.before entries passed.spelled),
)

-- ---- the audit's steps

module _ {L : Type 0} (meaning : L → LibraryMeaning) (setup : SetupState L) (named : IsNamed setup.program) (text : List ℕ) where
  abbrev own : Setup
  own = setup_by meaning setup

  pub judged_none : (flows : ℕ) (opened : Opened) (state : FlowState L) → flows ≡ length setup.items → IsOpened flows text opened
      → state.setup ≡ setup → state.entries ≡ [] → IsJudgedTo meaning setup text opened.lines state opened.first
  judged_none flows opened state count is same fresh = record {
    same = same;
    passed = subst (λ (es : List Entry). IsPassedTo own text opened.lines es opened.first) (sym fresh)
        (subst (λ (ls : List (List ℕ)). IsPassedTo own text ls [] opened.first) (sym is.lines_)
        (passed_none own named text (subst (λ (n : ℕ). HasHeadFor n text) count is.head) opened.first is.first_));
  }

  pub judged_broken : (line : List ℕ) (left : List (List ℕ)) (state : FlowState L) (number : ℕ)
      → IsJudgedTo meaning setup text (line ∷ left) state number → (rule : Rule)
      → IsFirstOfLine (setup_at meaning state) state.entries line rule → IsFirstBroken own text number rule
  judged_broken line left state number judged rule is =
      first_broken own named text line left state.entries number judged.passed rule
      (subst (λ (s : SetupState L). IsFirstOfLine (setup_by meaning s) state.entries line rule) judged.same is)

  pub judged_fits : (line : List ℕ) (left : List (List ℕ)) (state : FlowState L) (number : ℕ)
      → IsJudgedTo meaning setup text (line ∷ left) state number → number ≤ length text
  judged_fits line left state number judged = number_fits own named text line left state.entries number judged.passed

  pub judged_short : (state : FlowState L) (number : ℕ) → IsJudgedTo meaning setup text [] state number
      → 1 ≤ live_in state.entries (length state.setup.items) → IsFirstBroken own text number rules.Short
  judged_short state number judged some =
      let live = some_live own state.entries
      (subst (λ (s : SetupState L). 1 ≤ live_in state.entries (length s.items)) judged.same some) in
      short_at own named text state.entries number judged.passed live.0 live.1

  pub judged_yes : (state : FlowState L) (number first : ℕ) → IsJudgedTo meaning setup text [] state number
      → first ≡ head_count (is_headed text) + 1 → IsLegalState meaning state
      → live_in state.entries (length state.setup.items) ≡ 0 → HasVerdict own text (Yes (number - first))
  judged_yes state number first judged is kept none = verdict_yes own named text state.entries number first is judged.passed
      (subst (λ (s : SetupState L). IsLegal (setup_by meaning s) state.entries) judged.same kept.legal)
      (subst (λ (s : SetupState L). live_in state.entries (length s.items) ≡ 0) judged.same none)

  pub judged_from : (left : List (List ℕ)) (state : FlowState L) (number first : ℕ) → IsJudgedTo meaning setup text left state number
      → first ≡ head_count (is_headed text) + 1 → first ≤ number
  judged_from left state number first judged is = let passed = judged.passed in omega (arith, is, passed.place)
