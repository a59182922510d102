-- The printed text of a journal reads as it.
use Rattle.std.proofs.Common.{◌≡◌, ℕ, ◌<◌, ◌^◌, Bool, true, false, ◌&&◌, eqb, List, [], ◌∷◌, ◌++◌, length, map, take, drop, Option, Some, None, codes, refl, sym, ap, ◌∙◌, subst, append_assoc, arith}
use Rattle.std.specs.List.{AllByRecursion, flat_map}
use Rattle.std.specs.Cmp.Lexicographic.{pointwise}
use Rattle.std.specs.Str.Parse.{AllDigits}
use Rattle.std.specs.Fmt.{decimal}
use Rattle.std.proofs.lemmas.Bool.Decides.{nat_tests}
use Rattle.std.proofs.lemmas.List.{length-map}
use Rattle.std.proofs.lemmas.Fmt.{decimal_is_IsNumeral}
use Rattle.std.proofs.lemmas.Str.Parse.{digit_from_value}
use Rattle.flux_values.specs.declared.values.Value.{Value}
use Rattle.flux_values.specs.declared.values.Value.TheVariants as values
use Rattle.flux_values.specs.declared.answers.CallResult.{CallResult}
use Rattle.flux_values.specs.declared.answers.CallResult.TheVariants as results
use Rattle.flux_values.specs.declared.answers.Put.{Put}
use Rattle.flux_values.specs.declared.texts.TheConstants.{EMISSION_LIMIT}
use Rattle.flux_values.specs.Reading.{IsValue, EndsBefore, NoDigitFirst}
use Rattle.flux_values.specs.Texts.{printed_value, printed_text}
use Rattle.flux_spelling.proofs.Causes.{printed_spells, printed_text_spells}
use Rattle.flux_model.specs.declared.programs.Program.{Program}
use Rattle.flow_model.specs.declared.journals.CallMade.{CallMade}
use Rattle.flow_model.specs.declared.journals.Event.{Event}
use Rattle.flow_model.specs.declared.journals.Event.TheVariants as events
use Rattle.flow_model.specs.declared.journals.Entry.{Entry}
use Rattle.flow_model.specs.declared.journals.Journal.{Journal}
use Rattle.flux_model.specs.Names.{IsNamed}
use Rattle.flux_model.specs.Texts.{node_name, printed_values}
use Rattle.flow_model.specs.Texts.{printed_result, printed_change, printed_put, printed_emission, printed_call, printed_event, printed_entry, printed_journal}
use Rattle.flux_journal.specs.Formats.{head_mark, head_line, printed_journal_2}
use Rattle.flux_journal.specs.Entries.{IsTextOf, IsResult, IsPutOf, IsCallOf, IsEventOf, IsEntryOf, AreEntriesOf, IsValueOrNone}
use Rattle.flux_journal.specs.Spelled.{BeginEach, BeginsValue, BeginsNext, BeginClosed, BeginValues, BeginsResult, BeginsChange, BeginsPut, IsEmission, IsEventText, IsEntryLine}
use Rattle.flux_journal.specs.Journals.{lines_of, is_headed, HasHead, AreEntryLines, ReadsAs}
use Rattle.flux_journal.specs.steps.Cuts.{HasNone}
use Rattle.flux_journal.specs.steps.Listed.{listed}
use Rattle.flux_journal.proofs.ValueLists.{more, listed_more}
use Rattle.flux_journal.proofs.Worded.{clean_by}
use Rattle.flux_journal.proofs.Clean.{both_clean, decimal_clean, event_clean}
use Rattle.flux_journal.proofs.Journaled.{line_first, reads_by}

-- ---- values

-- what may follow a value in a list
ends_more : (v : Value) (vs : List Value) (tail : List ℕ) → EndsBefore v (more vs ++ (codes ")" ++ tail))
ends_more (values.Int n) [] tail = refl
ends_more (values.Int n) (w ∷ vs) tail = refl
ends_more (values.Bool b) vs tail = tt
ends_more (values.Text t) vs tail = tt

value_begins : (v : Value) (rest : List ℕ) → IsValue v → EndsBefore v rest → BeginsValue (printed_value v ++ rest) v rest
value_begins v rest is ends = record { spelling = printed_value v; spells = printed_spells v is; ends = ends; laid = refl }

more_begin : (vs : List Value) (tail : List ℕ) → AllByRecursion IsValue vs → BeginEach BeginsNext (more vs ++ (codes ")" ++ tail)) vs (codes ")" ++ tail)
more_begin [] tail all = refl
more_begin (v ∷ vs) tail all = record {
  rest = more vs ++ (codes ")" ++ tail);
  part = record {
    rest = printed_value v ++ (more vs ++ (codes ")" ++ tail));
    laid = ap (λ (t : List ℕ). codes ", " ++ t) (append_assoc (printed_value v) (more vs) (codes ")" ++ tail));
    then_ = value_begins v (more vs ++ (codes ")" ++ tail)) all.0 (ends_more v vs tail);
  };
  then_ = more_begin vs tail all.1;
}

closed_begin : (vs : List Value) (tail : List ℕ) → AllByRecursion IsValue vs → BeginClosed (listed vs ++ (codes ")" ++ tail)) vs tail
closed_begin [] tail all = refl
closed_begin (v ∷ vs) tail all = record {
  rest = more vs ++ (codes ")" ++ tail);
  part = subst (λ (t : List ℕ). BeginsValue t v (more vs ++ (codes ")" ++ tail))) (sym (ap (λ (t : List ℕ). t ++ (codes ")" ++ tail)) (listed_more v vs) ∙ append_assoc (printed_value v) (more vs) (codes ")" ++ tail)))
      (value_begins v (more vs ++ (codes ")" ++ tail)) all.0 (ends_more v vs tail));
  then_ = more_begin vs tail all.1;
}

values_begin : (vs : List Value) (tail : List ℕ) → AllByRecursion IsValue vs → BeginValues (printed_values vs ++ tail) vs tail
values_begin vs tail all = record {
  rest = listed vs ++ (codes ")" ++ tail);
  laid = ap (λ (t : List ℕ). codes "(" ++ t) (append_assoc (listed vs) (codes ")") tail);
  then_ = closed_begin vs tail all;
}

-- ---- calls

result_begins : (r : CallResult) (tail : List ℕ) → IsResult r → NoDigitFirst tail → BeginsResult (printed_result r ++ tail) r tail
result_begins (results.Good vs) tail is ends = record { rest = printed_values vs ++ tail; laid = refl; then_ = values_begin vs tail is }
result_begins (results.Bad code) tail is ends = record { rest = decimal code ++ tail; laid = refl; then_ = record { small = is; ends = ends; laid = refl } }

ends_tail : (v : Value) (tail : List ℕ) → NoDigitFirst tail → EndsBefore v tail
ends_tail (values.Int n) tail ends = ends
ends_tail (values.Bool b) tail ends = tt
ends_tail (values.Text t) tail ends = tt

removed_laid : (c n t : List ℕ) → ((c ++ codes " ") ++ n) ++ t ≡ (c ++ codes " ") ++ (n ++ t)
removed_laid c n t = append_assoc (c ++ codes " ") n t

set_laid : (c n v t : List ℕ) → ((((c ++ codes " ") ++ n) ++ codes " ") ++ v) ++ t ≡ (c ++ codes " ") ++ (n ++ (codes " " ++ (v ++ t)))
set_laid c n v t =
    append_assoc (((c ++ codes " ") ++ n) ++ codes " ") v t
    ∙ append_assoc ((c ++ codes " ") ++ n) (codes " ") (v ++ t)
    ∙ append_assoc (c ++ codes " ") n (codes " " ++ (v ++ t))

change_begins : (p : Program) (put : Put) (v : Option Value) (tail : List ℕ) → IsPutOf p put → IsValueOrNone v → NoDigitFirst tail → BeginsChange (printed_change put v ++ tail) put.cell put.name v tail
change_begins p put None tail is value ends =
    let name = is.name in
    record {
      rest = ((put.cell ++ codes " ") ++ printed_text put.name) ++ tail;
      laid = refl;
      then_ = record { rest = printed_text put.name ++ tail; laid = removed_laid put.cell (printed_text put.name) tail; then_ = value_begins (values.Text put.name) tail (name.each, name.few) tt };
    }
change_begins p put (Some v) tail is value ends =
    let name = is.name in
    record {
      rest = ((((put.cell ++ codes " ") ++ printed_text put.name) ++ codes " ") ++ printed_value v) ++ tail;
      laid = refl;
      then_ = record {
        rest = printed_text put.name ++ (codes " " ++ (printed_value v ++ tail));
        laid = set_laid put.cell (printed_text put.name) (printed_value v) tail;
        then_ = record {
          rest = codes " " ++ (printed_value v ++ tail);
          part = value_begins (values.Text put.name) (codes " " ++ (printed_value v ++ tail)) (name.each, name.few) tt;
          then_ = record { rest = printed_value v ++ tail; laid = refl; then_ = value_begins v tail value (ends_tail v tail ends) };
        };
      };
    }

-- what follows a result, or a change
change_ends : (put : Put) (v : Option Value) (tail : List ℕ) → NoDigitFirst (printed_change put v ++ tail)
change_ends put None tail = refl
change_ends put (Some v) tail = refl

emission_ends : (bytes : List ℕ) → NoDigitFirst (printed_emission bytes)
emission_ends [] = tt
emission_ends (b ∷ bytes) = refl

puts_end : (puts : List Put) (bytes : List ℕ) → NoDigitFirst (flat_map printed_put puts ++ printed_emission bytes)
puts_end [] bytes = emission_ends bytes
puts_end (put ∷ puts) bytes =
    subst NoDigitFirst (sym (append_assoc (printed_put put) (flat_map printed_put puts) (printed_emission bytes))) (change_ends put put.value (flat_map printed_put puts ++ printed_emission bytes))

puts_begin : (p : Program) (puts : List Put) (bytes : List ℕ) → AllByRecursion (IsPutOf p) puts → BeginEach (BeginsPut p) (flat_map printed_put puts ++ printed_emission bytes) puts (printed_emission bytes)
puts_begin p [] bytes all = refl
puts_begin p (put ∷ puts) bytes all =
    let is = all.0 in
    let tail = flat_map printed_put puts ++ printed_emission bytes in
    record {
      rest = tail;
      part = subst (λ (t : List ℕ). BeginsPut p t put tail) (sym (append_assoc (printed_put put) (flat_map printed_put puts) (printed_emission bytes)))
          (record { cell = is.cell; change = change_begins p put put.value tail is is.value (puts_end puts bytes) });
      then_ = puts_begin p puts bytes all.1;
    }

emission_is : (bytes : List ℕ) → IsTextOf EMISSION_LIMIT bytes → IsEmission (printed_emission bytes) bytes
emission_is [] is = refl
emission_is (b ∷ bytes) is = record { rest = printed_text (b ∷ bytes); laid = refl; then_ = (printed_text_spells (b ∷ bytes) is.each, is) }

call_laid : (h v s r q e : List ℕ) → ((((h ++ v) ++ s) ++ r) ++ q) ++ e ≡ h ++ (v ++ (s ++ (r ++ (q ++ e))))
call_laid h v s r q e = simp append_assoc

call_reads : (p : Program) (made : CallMade) → IsCallOf p made → IsEventText p (printed_call p made) (events.Call made)
call_reads p made is =
    let puts = flat_map printed_put made.answer.puts in
    let emission = printed_emission made.answer.emits in
    let result_text = printed_result made.answer.result ++ (puts ++ emission) in (
      is.node,
      record {
        rest = printed_values made.args ++ (codes " " ++ result_text);
        laid = call_laid ((codes "call " ++ node_name p made.node) ++ codes " ") (printed_values made.args) (codes " ") (printed_result made.answer.result) puts emission;
        then_ = record {
          result_text = result_text;
          puts_text = puts ++ emission;
          emission_text = emission;
          args = values_begin made.args (codes " " ++ result_text) is.args;
          result_ = result_begins made.answer.result (puts ++ emission) is.result_ (puts_end made.answer.puts made.answer.emits);
          puts = puts_begin p made.answer.puts made.answer.emits is.puts;
          emission = emission_is made.answer.emits is.emits;
        };
      },
    )

-- ---- entries

event_reads : (p : Program) (event : Event) → IsEventOf p event → IsEventText p (printed_event p event) event
event_reads p (events.Take key mode) is = (is, refl)
event_reads p (events.Wait key mode) is = (is, refl)
event_reads p (events.Enter node) is = (is, refl)
event_reads p (events.Choose place) is = (is, refl)
event_reads p (events.Call made) is = call_reads p made is
event_reads p (events.Exit node outcome) is = (is.0, is.1, refl)
event_reads p (events.Drop key) is = (is, refl)
event_reads p (events.End outcome) is = (is, refl)

-- an entry's line without its LF
abbrev line_of : Program → Entry → List ℕ
line_of p entry = decimal entry.flow.0 ++ codes " " ++ printed_event p entry.event

line_reads : (p : Program) (entry : Entry) → IsEntryOf p entry → IsEntryLine p (line_of p entry) entry
line_reads p entry is = record { flow = is.flow; event_text = printed_event p entry.event; front = refl; event_ = event_reads p entry.event is.event_ }

line_clean : (p : Program) → IsNamed p → (entry : Entry) → IsEntryOf p entry → HasNone 10 (line_of p entry)
line_clean p named entry is =
    both_clean 10 (decimal entry.flow.0 ++ codes " ") (printed_event p entry.event)
    (both_clean 10 (decimal entry.flow.0) (codes " ") (decimal_clean entry.flow.0 (omega (arith, is.flow))) (refl, tt))
    (event_clean p named entry.event is.event_)

abbrev text_of : Program → List Entry → List ℕ
text_of p entries = flat_map (printed_entry p) entries

lines_are : (p : Program) → IsNamed p → (entries : List Entry) → AreEntriesOf p entries → lines_of (text_of p entries) ≡ map (line_of p) entries
lines_are p named [] all = refl
lines_are p named (entry ∷ entries) all =
    let first = line_first (text_of p (entry ∷ entries)) (line_of p entry) (text_of p entries) (record { none = line_clean p named entry all.0; laid = append_assoc (line_of p entry) (codes "\n") (text_of p entries) }) in
    first.lines ∙ ap (λ (l : List (List ℕ)). line_of p entry ∷ l) (lines_are p named entries all.1)

lines_read : (p : Program) (entries : List Entry) → AreEntriesOf p entries → AreEntryLines p (map (line_of p) entries) entries
lines_read p [] all = tt
lines_read p (entry ∷ entries) all = (line_reads p entry all.0, lines_read p entries all.1)

-- ---- format 1

-- what begins with a digit has no head
not_headed : (d : ℕ) (rest : List ℕ) → eqb 102 d ≡ false → is_headed (d ∷ rest) ≡ false
not_headed d rest other = ap (λ (t : Bool). t && pointwise eqb (drop 1 head_mark) (take 11 rest)) other

digit_first : (ds rest : List ℕ) → 0 < length ds → AllDigits 10 ds → is_headed (ds ++ rest) ≡ false
digit_first [] rest some all = absurd (omega arith)
digit_first (d ∷ ds) rest some all = let r = digit_from_value d all.0 in not_headed d (ds ++ rest) (grind (arith, nat_tests))

unheaded : (p : Program) (entries : List Entry) → AreEntriesOf p entries → is_headed (text_of p entries) ≡ false
unheaded p [] all = refl
unheaded p (entry ∷ entries) all =
    let flow = all.0.flow in
    let n = entry.flow.0 in
    let d = decimal_is_IsNumeral n (omega (arith, flow)) in
    let event = printed_event p entry.event in
    let laid : text_of p (entry ∷ entries) ≡ decimal n ++ (codes " " ++ (event ++ (codes "\n" ++ text_of p entries))) =
    append_assoc ((decimal n ++ codes " ") ++ event) (codes "\n") (text_of p entries) ∙ append_assoc (decimal n ++ codes " ") event (codes "\n" ++ text_of p entries) ∙ append_assoc (decimal n) (codes " ") (event ++ (codes "\n" ++ text_of p entries)) in
    ap is_headed laid ∙ digit_first (decimal n) (codes " " ++ (event ++ (codes "\n" ++ text_of p entries))) d.0.0 d.0.1

pub printed_reads : (p : Program) (journal : Journal) → IsNamed p → AreEntriesOf p journal.entries → ReadsAs p (printed_journal p journal) journal
printed_reads p journal named all =
    reads_by p (printed_journal p journal) journal false (unheaded p journal.entries all) tt
    (subst (λ (l : List (List ℕ)). AreEntryLines p l journal.entries) (sym (lines_are p named journal.entries all)) (lines_read p journal.entries all))

-- ---- format 2

head_clean : (flows events : ℕ) → flows < 2 ^ 32 → events < 2 ^ 64 → HasNone 10 (head_line flows events)
head_clean flows events small fits =
    both_clean 10 ((codes "flux journal 2 flows " ++ decimal flows) ++ codes " events ") (decimal events)
    (both_clean 10 (codes "flux journal 2 flows " ++ decimal flows) (codes " events ")
    (both_clean 10 (codes "flux journal 2 flows ") (decimal flows) (clean_by 10 (codes "flux journal 2 flows ") refl) (decimal_clean flows (omega arith)))
    (clean_by 10 (codes " events ") refl))
    (decimal_clean events fits)

pub printed_reads_2 : (p : Program) (journal : Journal) (flows : ℕ) → IsNamed p → AreEntriesOf p journal.entries → length journal.entries < 2 ^ 64 → flows < 2 ^ 32 → ReadsAs p (printed_journal_2 p flows journal) journal
printed_reads_2 p journal flows named all fits small =
    let entries = journal.entries in
    let head = head_line flows (length entries) in
    let first = line_first (printed_journal_2 p flows journal) head (text_of p entries) (record { none = head_clean flows (length entries) small fits; laid = append_assoc head (codes "\n") (text_of p entries) }) in
    let lines : lines_of (printed_journal_2 p flows journal) ≡ head ∷ map (line_of p) entries = first.lines ∙ ap (λ (l : List (List ℕ)). head ∷ l) (lines_are p named entries all) in
    reads_by p (printed_journal_2 p flows journal) journal true refl
    (subst HasHead (sym lines) (record { flows = flows; small = small; is = ap (λ (n : ℕ). Some (head_line flows n)) (sym (length-map entries (line_of p))) }))
    (subst (λ (l : List (List ℕ)). AreEntryLines p l entries) (sym (ap (drop 1) lines)) (lines_read p entries all))
