-- What is printed of a legal and whole journal is upheld.
use Rattle.std.proofs.Common.{◌≡◌, ◌<◌, ◌^◌, ℕ, Bool, true, false, ◌&&◌, eqb, List, [], ◌∷◌, ◌++◌, length, take, drop, Some, codes, refl, sym, ap, ◌∙◌, subst, append_assoc, arith}
use Rattle.std.specs.List.{slice_get}
use Rattle.std.specs.Cmp.Lexicographic.{pointwise}
use Rattle.std.specs.Str.Parse.{AllDigits}
use Rattle.std.specs.Fmt.{decimal}
use Rattle.std.proofs.lemmas.Bool.Decides.{nat_tests}
use Rattle.std.proofs.lemmas.Fmt.{decimal_is_IsNumeral}
use Rattle.std.proofs.lemmas.Str.Parse.{digit_from_value}
use Rattle.flux_model.specs.declared.programs.Program.{Program}
use Rattle.flux_model.specs.Names.{IsNamed}
use Rattle.flow_model.specs.declared.journals.Entry.{Entry}
use Rattle.flow_model.specs.declared.journals.Journal.{Journal}
use Rattle.flow_model.specs.Setup.{Setup}
use Rattle.flow_model.specs.Legal.{IsLegal, IsWhole}
use Rattle.flow_model.specs.Texts.{printed_event, printed_journal}
use Rattle.flux_journal.specs.Formats.{head_mark, head_line, printed_journal_2}
use Rattle.flux_journal.specs.Entries.{AreEntriesOf}
use Rattle.flux_journal.specs.Journals.{lines_of, is_headed, head_count, event_lines, AreEntryLines, ReadsAs}
use Rattle.flux_journal.specs.steps.Cuts.{HasNone}
use Rattle.flux_journal.proofs.Worded.{clean_by}
use Rattle.flux_journal.proofs.Clean.{both_clean, decimal_clean}
use Rattle.flux_journal.proofs.Journaled.{line_first}
use Rattle.flux_journal.proofs.Printed.{printed_reads, printed_reads_2}
use Rattle.flux_audit.specs.Verdicts.{FitsHead, HasHeadFor}
use Rattle.flux_upheld.specs.Laws.{CanBeRead, LegalIsReadable, LegalIsBounded, AreUpheld, LegalIsUpheld}
use Rattle.flux_upheld.proofs.Readable.{AreReadable, legal-readable}
use Rattle.flux_upheld.proofs.Counted.{entries-bounded}

pub legal_is_readable : LegalIsReadable
legal_is_readable setup entries can legal =
    let read = legal-readable setup can.kinds can.sound can.lawful can.printable can.items_ can.few can.opening_ entries legal in
    read.are

pub legal_is_bounded : LegalIsBounded
legal_is_bounded setup entries legal = entries-bounded setup entries legal

-- ---- format 1 has no head

not-headed : (d : ℕ) (rest : List ℕ) → eqb 102 d ≡ false → is_headed (d ∷ rest) ≡ false
not-headed d rest other = ap (λ (t : Bool). t && pointwise eqb (drop 1 head_mark) (take 11 rest)) other

digit-first : (ds rest : List ℕ) → 0 < length ds → AllDigits 10 ds → is_headed (ds ++ rest) ≡ false
digit-first [] rest some all = absurd (omega arith)
digit-first (d ∷ ds) rest some all = let r = digit_from_value d all.0 in not-headed d (ds ++ rest) (grind (arith, nat_tests))

no-head : (p : Program) (entries : List Entry) → AreEntriesOf p entries → is_headed (printed_journal p (record { entries = entries })) ≡ false
no-head p [] all = refl
no-head p (entry ∷ entries) all =
    let flow = all.0.flow in
    let n = entry.flow.0 in
    let d = decimal_is_IsNumeral n (omega (arith, flow)) in
    let event = printed_event p entry.event in
    let rest = printed_journal p (record { entries = entries }) in
    let laid : printed_journal p (record { entries = entry ∷ entries }) ≡ decimal n ++ (codes " " ++ (event ++ (codes "\n" ++ rest))) =
    append_assoc ((decimal n ++ codes " ") ++ event) (codes "\n") rest ∙ append_assoc (decimal n ++ codes " ") event (codes "\n" ++ rest) ∙ append_assoc (decimal n) (codes " ") (event ++ (codes "\n" ++ rest)) in
    ap is_headed laid ∙ digit-first (decimal n) (codes " " ++ (event ++ (codes "\n" ++ rest))) d.0.0 d.0.1

-- ---- format 2 has its own

entry-lines : (p : Program) (lines : List (List ℕ)) (entries : List Entry) → AreEntryLines p lines entries → length lines ≡ length entries
entry-lines p [] [] are = refl
entry-lines p [] (entry ∷ entries) are = absurd are
entry-lines p (line ∷ lines) [] are = absurd are
entry-lines p (line ∷ lines) (entry ∷ entries) are = let more = entry-lines p lines entries are.1 in omega (arith, more)

head-clean : (flows events : ℕ) → flows < 2 ^ 32 → events < 2 ^ 64 → HasNone 10 (head_line flows events)
head-clean flows events small fits =
    both_clean 10 ((codes "flux journal 2 flows " ++ decimal flows) ++ codes " events ") (decimal events)
    (both_clean 10 (codes "flux journal 2 flows " ++ decimal flows) (codes " events ")
    (both_clean 10 (codes "flux journal 2 flows ") (decimal flows) (clean_by 10 (codes "flux journal 2 flows ") refl) (decimal_clean flows (omega arith)))
    (clean_by 10 (codes " events ") refl))
    (decimal_clean events fits)

module _ (setup : Setup) (journal : Journal) (can : CanBeRead setup) (named : IsNamed setup.program) (legal : IsLegal setup journal.entries) (whole : IsWhole setup journal.entries) (fits : length journal.entries < 2 ^ 64) where
  abbrev p : Program
  p = setup.program

  abbrev flows : ℕ
  flows = length setup.items

  are : AreEntriesOf setup.program journal.entries
  are = legal_is_readable setup journal.entries can legal

  abbrev text : List ℕ
  text = printed_journal setup.program journal

  unheaded : is_headed (printed_journal setup.program journal) ≡ false
  unheaded = no-head setup.program journal.entries are

  reads : ReadsAs setup.program (printed_journal setup.program journal) journal
  reads = printed_reads setup.program journal named are

  many : length (lines_of (printed_journal setup.program journal)) ≡ length journal.entries
  many = entry-lines setup.program (lines_of text) journal.entries (subst (λ (b : Bool). AreEntryLines setup.program (drop (head_count b) (lines_of text)) journal.entries) unheaded reads.lines)

  first-line : lines_of (printed_journal_2 setup.program flows journal) ≡ head_line flows (length journal.entries) ∷ lines_of text
  first-line =
      let head = head_line flows (length journal.entries) in
      let first = line_first (printed_journal_2 setup.program flows journal) head text
      (record { none = head-clean flows (length journal.entries) can.few fits; laid = append_assoc head (codes "\n") text }) in
      first.lines

  head-fits : HasHeadFor flows (printed_journal_2 setup.program flows journal)
  head-fits = rw first-line (rw many refl)

  pub are-upheld : AreUpheld setup journal
  are-upheld =
      let second = printed_reads_2 setup.program journal flows named are fits can.few in
      record {
        one = (
          journal,
          record {
            reads = record { head = subst (λ (b : Bool). FitsHead b flows (lines_of text)) (sym unheaded) tt; lines = reads.lines };
            legal = legal;
            whole = whole;
          },
          refl,
        );
        two = (journal, record { reads = record { head = head-fits; lines = second.lines }; legal = legal; whole = whole }, refl);
      }

pub legal_is_upheld : LegalIsUpheld
legal_is_upheld setup journal can named legal whole fits = are-upheld setup journal can named legal whole fits
