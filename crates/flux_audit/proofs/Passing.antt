-- Lines that are passed one after the other, and the first that breaks a rule.
use Rattle.std.proofs.Common.{◌≡◌, ◌≤◌, ◌+◌, inl, inr, ℕ, Bool, true, false, List, [], ◌∷◌, ◌++◌, length, drop, refl, sym, ap, subst, ◌∙◌, append_assoc, arith}
use Rattle.std.proofs.lemmas.Bool.{cases_order}
use Rattle.std.proofs.lemmas.List.{append-nil, length-append, length-drop}
use Rattle.std.proofs.lemmas.Option.{slice_get_within}
use Rattle.flux_model.specs.declared.programs.Program.{Program}
use Rattle.flux_model.specs.Names.{IsNamed}
use Rattle.flow_model.specs.declared.journals.Entry.{Entry}
use Rattle.flow_model.specs.declared.journals.Journal.{Journal}
use Rattle.flow_model.specs.Setup.{Setup}
use Rattle.flow_model.specs.Events.{IsLive}
use Rattle.flow_model.specs.Legal.{IsLegal}
use Rattle.flux_journal.specs.Formats.{head_line}
use Rattle.flux_journal.specs.Spelled.{IsEntryLine}
use Rattle.flux_journal.specs.Journals.{lines_of, is_headed, head_count, event_lines, AreEntryLines}
use Rattle.flux_journal.proofs.Once.{entry_once}
use Rattle.flux_journal.proofs.Journaled.{entries_once, lines_more, lines_few}
use Rattle.flux_laws.proofs.Ends.{none_live_is_whole}
use Rattle.flux_audit.specs.declared.verdicts.Rule.{Rule}
use Rattle.flux_audit.specs.declared.verdicts.Rule.TheVariants as rules
use Rattle.flux_audit.specs.Rules.{Keeps, Breaks}
use Rattle.flux_audit.specs.Verdicts.{FitsHead, HasHeadFor, IsTrueText, SpellsBroken, LineBreaks, HasBroken, BreaksAt, rank, IsNotLater, IsFirstBroken}
use Rattle.flux_audit.specs.steps.Lines.{IsPassedTo, IsFirstOfLine, IsAmong}
use Rattle.flux_audit.proofs.Keeping.{not_both, legal_keeps_rules, whole_has_ends}

-- ---- places of lines

-- lists that are the same, with fronts of one length
same_parts : {X : Type 0} (a b : List X) (x y : X) (c d : List X) → length a ≡ length b
    → a ++ x ∷ c ≡ b ++ y ∷ d → (a ≡ b) × (x ≡ y)
same_parts [] [] x y c d len e = (refl, cc)
same_parts [] (z ∷ b) x y c d len e = absurd (omega (arith, len))
same_parts (w ∷ a) [] x y c d len e = absurd (omega (arith, len))
same_parts (w ∷ a) (z ∷ b) x y c d len e =
    let heads : w ≡ z = cc in
    let tails : a ++ x ∷ c ≡ b ++ y ∷ d = cc in
    let s = same_parts a b x y c d (omega (arith, len)) tails in
    (ap (λ k. k ∷ a) heads ∙ ap (λ l. z ∷ l) s.0, s.1)

-- a line's number is at most the number of lines
number_within : (text : List ℕ) (before : List (List ℕ)) (line : List ℕ) (after : List (List ℕ))
    → event_lines text ≡ before ++ line ∷ after
    → head_count (is_headed text) + length before + 1 ≤ length (lines_of text)
number_within text before line after are = omega (
  arith,
  ap length are,
  length-append before (line ∷ after),
  length-drop (head_count (is_headed text)) (lines_of text),
)

-- where the head fits, there are at least as many lines as it takes
head_within : (flows : ℕ) (text : List ℕ) → HasHeadFor flows text → head_count (is_headed text) ≤ length (lines_of text)
head_within flows text fits = by (is_headed text) fits
  where
    by : (t : Bool) → FitsHead t flows (lines_of text) → head_count t ≤ length (lines_of text)
    by true h =
        let lt = slice_get_within (lines_of text) 0 (head_line flows (length (drop 1 (lines_of text)))) h in
        omega (arith, lt)
    by false h = omega arith

-- ---- the next line

module _ (setup : Setup) (named : IsNamed setup.program) where
  abbrev KeepsAll : List Entry → Entry → Type 0
  KeepsAll before entry = (rule : Rule) → Keeps setup before entry.flow entry.event rule

  -- a line whose entry keeps a rule doesn't break it
  module _ (before : List Entry) (line : List ℕ) (entry : Entry) (spells : IsEntryLine setup.program line entry) where
    spelled_keeps : (rule : Rule) → Keeps setup before entry.flow entry.event rule → SpellsBroken setup before line rule → ⊥
    spelled_keeps rule keeps broken =
        let same : broken.entry ≡ entry = entry_once setup.program named line broken.entry entry broken.spells spells in
        not_both setup before entry.flow entry.event rule keeps
        (subst (λ (e : Entry). Breaks setup before e.flow e.event rule) same broken.breaks)

    pub line_keeps_one : (rule : Rule) → Keeps setup before entry.flow entry.event rule
        → LineBreaks setup before line rule → ⊥
    line_keeps_one rules.Head keeps breaks = breaks
    line_keeps_one rules.Text keeps breaks = breaks entry spells
    line_keeps_one rules.Flow keeps breaks = spelled_keeps rules.Flow keeps breaks
    line_keeps_one rules.Path keeps breaks = spelled_keeps rules.Path keeps breaks
    line_keeps_one rules.Answer keeps breaks = spelled_keeps rules.Answer keeps breaks
    line_keeps_one rules.Hold keeps breaks = spelled_keeps rules.Hold keeps breaks
    line_keeps_one rules.Turn keeps breaks = spelled_keeps rules.Turn keeps breaks
    line_keeps_one rules.Wait keeps breaks = spelled_keeps rules.Wait keeps breaks
    line_keeps_one rules.Short keeps breaks = breaks

    pub line_keeps : KeepsAll before entry → (rule : Rule) → LineBreaks setup before line rule → ⊥
    line_keeps keeps rule breaks = line_keeps_one rule (keeps rule) breaks

  module _ (text line : List ℕ) (left : List (List ℕ)) (entries : List Entry) (number : ℕ)
      (passed : IsPassedTo setup text (line ∷ left) entries number) where
    -- the line's number can be counted to
    pub number_fits : number ≤ length text
    number_fits = omega (arith, passed.place, number_within text passed.before line left passed.are, lines_few text)

    broken_here : (rule : Rule) → HasBroken setup text number rule → LineBreaks setup entries line rule
    broken_here rule broken =
        let p : Program = setup.program in
        let len : length passed.before ≡ length broken.before = omega (arith, passed.place, broken.place) in
        let same = same_parts passed.before broken.before line broken.line left broken.after len (sym passed.are ∙ broken.lines) in
        let one : broken.entries ≡ entries = entries_once p named passed.before broken.entries entries
        (subst (λ (ls : List (List ℕ)). AreEntryLines p ls broken.entries) (sym same.0) broken.spelled) passed.spelled in
        subst (λ (es : List Entry). LineBreaks setup es line rule) one
        (subst (λ (l : List ℕ). LineBreaks setup broken.entries l rule) (sym same.1) broken.breaks)

    -- what is broken at the next line's number is broken by that line
    breaks_here : (rule : Rule) → BreaksAt setup text number rule → LineBreaks setup entries line rule
    breaks_here rules.Head breaks = breaks.other passed.head
    breaks_here rules.Text breaks = broken_here rules.Text breaks
    breaks_here rules.Flow breaks = broken_here rules.Flow breaks
    breaks_here rules.Path breaks = broken_here rules.Path breaks
    breaks_here rules.Answer breaks = broken_here rules.Answer breaks
    breaks_here rules.Hold breaks = broken_here rules.Hold breaks
    breaks_here rules.Turn breaks = broken_here rules.Turn breaks
    breaks_here rules.Wait breaks = broken_here rules.Wait breaks
    breaks_here rules.Short breaks =
        omega (arith, breaks.place, passed.place, number_within text passed.before line left passed.are)

    -- the line is passed where its entry keeps the rules
    pub passed_more : (entry : Entry) → IsEntryLine setup.program line entry → KeepsAll entries entry
        → IsPassedTo setup text left (entries ++ entry ∷ []) (number + 1)
    passed_more entry spells keeps = record {
      head = passed.head;
      before = passed.before ++ line ∷ [];
      are = passed.are ∙ sym (append_assoc passed.before (line ∷ []) left);
      spelled = lines_more setup.program passed.before (line ∷ []) entries (entry ∷ []) passed.spelled (spells, tt);
      place = omega (arith, passed.place, length-append passed.before (line ∷ []));
      none = λ other its breaks. elim (cases_order other number) as (λ _. number + 1 ≤ other) [
        | inl same ↦ absurd (line_keeps entries line entry spells keeps its
            (breaks_here its (subst (λ (n : ℕ). BreaksAt setup text n its) same breaks)))
        | inr differ ↦ elim differ as (λ _. number + 1 ≤ other) [
          | inl less ↦ omega (arith, less, passed.none other its breaks)
          | inr more ↦ omega (arith, more)
        ]
      ];
    }

    here : (rule : Rule) → LineBreaks setup entries line rule → HasBroken setup text number rule
    here rule breaks = record {
      before = passed.before;
      line = line;
      after = left;
      lines = passed.are;
      entries = entries;
      spelled = passed.spelled;
      place = passed.place;
      breaks = breaks;
    }

    at_number : (rule : Rule) → LineBreaks setup entries line rule → BreaksAt setup text number rule
    at_number rules.Head breaks = absurd breaks
    at_number rules.Text breaks = here rules.Text breaks
    at_number rules.Flow breaks = here rules.Flow breaks
    at_number rules.Path breaks = here rules.Path breaks
    at_number rules.Answer breaks = here rules.Answer breaks
    at_number rules.Hold breaks = here rules.Hold breaks
    at_number rules.Turn breaks = here rules.Turn breaks
    at_number rules.Wait breaks = here rules.Wait breaks
    at_number rules.Short breaks = absurd breaks

    -- or it is the first that breaks one
    pub first_broken : (rule : Rule) → IsFirstOfLine setup entries line rule → IsFirstBroken setup text number rule
    first_broken rule is = record {
      breaks = at_number rule is.breaks;
      first = λ other its breaks. elim (cases_order number other) as (λ _. IsNotLater number rule other its) [
        | inl same ↦ inr (same, is.first its (breaks_here its (subst (λ (n : ℕ). BreaksAt setup text n its) (sym same) breaks)))
        | inr differ ↦ elim differ as (λ _. IsNotLater number rule other its) [
          | inl less ↦ inl less
          | inr more ↦ absurd (omega (arith, more, passed.none other its breaks))
        ]
      ];
    }

  -- ---- no line is left

  module _ (text : List ℕ) (entries : List Entry) (number : ℕ) (passed : IsPassedTo setup text [] entries number) where
    all_spelled : AreEntryLines setup.program (event_lines text) entries
    all_spelled = subst (λ (ls : List (List ℕ)). AreEntryLines setup.program ls entries)
        (sym (passed.are ∙ append-nil passed.before)) passed.spelled

    last_number : number ≡ length (lines_of text) + 1
    last_number = omega (
      arith,
      passed.place,
      ap length (passed.are ∙ append-nil passed.before),
      length-drop (head_count (is_headed text)) (lines_of text),
      head_within (length setup.items) text passed.head,
    )

    none_there : (rule : Rule) → HasBroken setup text number rule → ⊥
    none_there rule broken = omega (arith, last_number, broken.place, number_within text broken.before broken.line broken.after broken.lines)

    -- only that it is short can be said there
    only_short : (rule : Rule) → BreaksAt setup text number rule → rank rules.Short ≤ rank rule
    only_short rules.Head breaks = absurd (breaks.other passed.head)
    only_short rules.Text breaks = absurd (none_there rules.Text breaks)
    only_short rules.Flow breaks = absurd (none_there rules.Flow breaks)
    only_short rules.Path breaks = absurd (none_there rules.Path breaks)
    only_short rules.Answer breaks = absurd (none_there rules.Answer breaks)
    only_short rules.Hold breaks = absurd (none_there rules.Hold breaks)
    only_short rules.Turn breaks = absurd (none_there rules.Turn breaks)
    only_short rules.Wait breaks = absurd (none_there rules.Wait breaks)
    only_short rules.Short breaks = omega arith

    pub short_at : (flow : ℕ) → IsLive setup entries flow → IsFirstBroken setup text number rules.Short
    short_at flow live = record {
      breaks = record { entries = entries; spelled = all_spelled; flow = flow; live = live; place = last_number };
      first = λ other its breaks. elim (cases_order number other) as (λ _. IsNotLater number rules.Short other its) [
        | inl same ↦ inr (same, only_short its (subst (λ (n : ℕ). BreaksAt setup text n its) (sym same) breaks))
        | inr differ ↦ elim differ as (λ _. IsNotLater number rules.Short other its) [
          | inl less ↦ inl less
          | inr more ↦ absurd (omega (arith, more, passed.none other its breaks))
        ]
      ];
    }

    pub true_text : IsLegal setup entries → ((flow : ℕ) → IsLive setup entries flow → ⊥)
        → IsTrueText setup text (record { entries = entries })
    true_text legal none = record {
      reads = record { head = passed.head; lines = all_spelled };
      legal = legal;
      whole = none_live_is_whole setup entries legal none;
    }

  -- ---- at the beginning

  -- each number of a line is at least that of the first line of events
  module _ (text : List ℕ) (head : HasHeadFor (length setup.items) text) where
    from_first : (other : ℕ) (its : Rule) → BreaksAt setup text other its → head_count (is_headed text) + 1 ≤ other
    from_first other rules.Head breaks = absurd (breaks.other head)
    from_first other rules.Text breaks = omega (arith, breaks.place)
    from_first other rules.Flow breaks = omega (arith, breaks.place)
    from_first other rules.Path breaks = omega (arith, breaks.place)
    from_first other rules.Answer breaks = omega (arith, breaks.place)
    from_first other rules.Hold breaks = omega (arith, breaks.place)
    from_first other rules.Turn breaks = omega (arith, breaks.place)
    from_first other rules.Wait breaks = omega (arith, breaks.place)
    from_first other rules.Short breaks = omega (arith, breaks.place, head_within (length setup.items) text head)

    pub passed_none : (number : ℕ) → number ≡ head_count (is_headed text) + 1
        → IsPassedTo setup text (event_lines text) [] number
    passed_none number is = record {
      head = head;
      before = [];
      are = refl;
      spelled = tt;
      place = omega (arith, is);
      none = λ other its breaks. omega (arith, is, from_first other its breaks);
    }

  -- ---- true texts break no rule

  among : (before : List (List ℕ)) (line : List ℕ) (after : List (List ℕ)) (entries : List Entry)
      → AreEntryLines setup.program (before ++ line ∷ after) entries → IsAmong setup.program before line entries
  among [] line after [] are = absurd are
  among [] line after (entry ∷ entries) are =
      record { front = []; entry = entry; back = entries; are = refl; spelled = tt; spells = are.0 }
  among (first ∷ before) line after [] are = absurd are
  among (first ∷ before) line after (entry ∷ entries) are =
      let more = among before line after entries are.1 in record {
        front = entry ∷ more.front;
        entry = more.entry;
        back = more.back;
        are = ap (λ (es : List Entry). entry ∷ es) more.are;
        spelled = (are.0, more.spelled);
        spells = more.spells;
      }

  module _ (text : List ℕ) (journal : Journal) (true_ : IsTrueText setup text journal) where
    unbroken : (number : ℕ) (rule : Rule) → HasBroken setup text number rule → ⊥
    unbroken number rule broken =
        let reads = true_.reads in
        let it = among broken.before broken.line broken.after journal.entries
        (subst (λ (ls : List (List ℕ)). AreEntryLines setup.program ls journal.entries) broken.lines reads.lines) in
        let one : broken.entries ≡ it.front =
        entries_once setup.program named broken.before broken.entries it.front broken.spelled it.spelled in
        line_keeps it.front broken.line it.entry it.spells
        (legal_keeps_rules setup journal.entries true_.legal it.front it.back it.entry.flow it.entry.event it.are) rule
        (subst (λ (es : List Entry). LineBreaks setup es broken.line rule) one broken.breaks)

    pub true_unbroken : (number : ℕ) (rule : Rule) → BreaksAt setup text number rule → ⊥
    true_unbroken number rules.Head breaks = let reads = true_.reads in breaks.other reads.head
    true_unbroken number rules.Text breaks = unbroken number rules.Text breaks
    true_unbroken number rules.Flow breaks = unbroken number rules.Flow breaks
    true_unbroken number rules.Path breaks = unbroken number rules.Path breaks
    true_unbroken number rules.Answer breaks = unbroken number rules.Answer breaks
    true_unbroken number rules.Hold breaks = unbroken number rules.Hold breaks
    true_unbroken number rules.Turn breaks = unbroken number rules.Turn breaks
    true_unbroken number rules.Wait breaks = unbroken number rules.Wait breaks
    true_unbroken number rules.Short breaks =
        let reads = true_.reads in
        let one : breaks.entries ≡ journal.entries =
        entries_once setup.program named (event_lines text) breaks.entries journal.entries breaks.spelled reads.lines in
        whole_has_ends setup journal.entries true_.whole breaks.flow
        (subst (λ (es : List Entry). IsLive setup es breaks.flow) one breaks.live)

  -- a text is that of one journal
  pub true_once : (text : List ℕ) (a b : Journal) → IsTrueText setup text a → IsTrueText setup text b
      → a.entries ≡ b.entries
  true_once text a b one two =
      let first = one.reads in
      let second = two.reads in
      entries_once setup.program named (event_lines text) a.entries b.entries first.lines second.lines
