-- The lines of a text, one after the other, and the entries that they spell.
use Rattle.std.proofs.Common.{◌≡◌, inl, inr, ℕ, zero, suc, ◌+◌, ◌<◌, ◌≤◌, ◌^◌, Bool, true, false, cond, eqb, List, [], ◌∷◌, ◌++◌, length, drop, Option, Some, None, IfSome, IfNone, Result, Ok, Err, codes, refl, sym, ap, ◌∙◌, subst, append_assoc, arith, All}
use Rattle.std.specs.List.{slice_split, onto_first}
use Rattle.std.specs.Fmt.{decimal}
use Rattle.std.specs.Result.{IsErrAnd}
use Rattle.std.proofs.lemmas.Bool.{cases_order, eqb-true}
use Rattle.std.proofs.lemmas.Bool.Decides.{nat_tests}
use Rattle.std.proofs.lemmas.List.{append-nil, length-append, append_cancel_left}
use Rattle.std.proofs.lemmas.List.Splits.{length-slice_split, slice_split_at, slice_split_none}
use Rattle.flux_values.specs.Answers.{IsOrMemory}
use Rattle.flux_model.specs.declared.programs.Program.{Program}
use Rattle.flow_model.specs.declared.journals.Entry.{Entry}
use Rattle.flow_model.specs.declared.journals.Journal.{Journal}
use Rattle.flux_model.specs.Names.{IsNamed}
use Rattle.flux_journal.specs.declared.faults.JournalFault.{JournalFault}
use Rattle.flux_journal.specs.declared.faults.JournalFault.TheVariants as faults
use Rattle.flux_journal.specs.declared.texts.Head.{Head}
use Rattle.flux_journal.specs.Formats.{head_line, IsHeadLine}
use Rattle.flux_journal.specs.Spelled.{IsEntryLine}
use Rattle.flux_journal.specs.Journals.{is_line_end, without_empty_last, lines_of, is_headed, head_count, event_lines, HasHead, FitsFormat, AreEntryLines, ReadsAs, IsHeadBad, IsEventBad, IsBadLine, HasCause, IsWellHeaded}
use Rattle.flux_journal.specs.steps.Cuts.{HasNone, IsCut, IsNumber}
use Rattle.flux_journal.specs.steps.Lines.{IsFirstLine, IsHeadFor, IsBadAmong, AreEntriesRead, AreReadSoFar, AreCountedSoFar}
use Rattle.flux_journal.proofs.Cutting.{same_cut, no_cut, one_number}
use Rattle.flux_journal.proofs.Lined.{number_clean}
use Rattle.flux_journal.proofs.Once.{entry_once}

-- ---- lines

each_clean : (m : ℕ) (text : List ℕ) → HasNone m text → All (λ b. eqb b m ≡ false) text
each_clean m [] none k d lt = absurd (omega arith)
each_clean m (b ∷ text) none zero d lt = none.0
each_clean m (b ∷ text) none (suc k) d lt = each_clean m text none.1 k d (omega arith)

-- after a line there is another, be it empty
keeps_first : (line : List ℕ) (pieces : List (List ℕ)) → 0 < length pieces → without_empty_last (line ∷ pieces) ≡ line ∷ without_empty_last pieces
keeps_first line [] some = absurd (omega arith)
keeps_first [] (piece ∷ pieces) some = refl
keeps_first (b ∷ line) (piece ∷ pieces) some = refl

some_split : (text : List ℕ) → 0 < length (slice_split is_line_end text)
some_split text = omega (arith, length-slice_split is_line_end text)

pub line_first : (text front behind : List ℕ) → IsCut 10 text front behind → IsFirstLine text front behind
line_first text front behind cut = record {
  lines = ap lines_of cut.laid ∙ ap without_empty_last (slice_split_at is_line_end front 10 behind (each_clean 10 front cut.none) refl) ∙ keeps_first front (slice_split is_line_end behind) (some_split behind);
  shorter = omega (arith, ap length cut.laid, length-append front (10 ∷ behind));
}

-- a byte more makes at most one line more
line_more : (b : ℕ) (t : Bool) (pieces : List (List ℕ)) (n : ℕ) → 0 < length pieces → length (without_empty_last pieces) ≤ n
    → length (without_empty_last (cond t ([] ∷ pieces) (onto_first b pieces))) ≤ n + 1
line_more b true pieces n some few = omega (arith, few, ap length (keeps_first [] pieces some))
line_more b false [] n some few = absurd (omega arith)
line_more b false (piece ∷ []) n some few = omega arith
line_more b false ([] ∷ next ∷ pieces) n some few = omega (arith, few)
line_more b false ((c ∷ piece) ∷ next ∷ pieces) n some few = omega (arith, few)

-- a text has at most as many lines as bytes
pub lines_few : (text : List ℕ) → length (lines_of text) ≤ length text
lines_few [] = omega arith
lines_few (b ∷ text) =
    let more : length (lines_of (b ∷ text)) ≤ length text + 1 = line_more b (is_line_end b) (slice_split is_line_end text) (length text) (some_split text) (lines_few text) in
    omega (arith, more)

one_piece : (text : List ℕ) → 0 < length text → without_empty_last (text ∷ []) ≡ text ∷ []
one_piece [] some = absurd (omega arith)
one_piece (b ∷ text) some = refl

pub line_last : (text : List ℕ) → 0 < length text → HasNone 10 text → IsFirstLine text text []
line_last text some none = record {
  lines = ap without_empty_last (slice_split_none is_line_end text (each_clean 10 text none)) ∙ one_piece text some;
  shorter = some;
}

pub counted_none : (text : List ℕ) → AreCountedSoFar text text 0
counted_none text = record { counted = omega arith; room = omega arith }

pub counted_more : (text rest line behind : List ℕ) (count : ℕ) → AreCountedSoFar text rest count → IsFirstLine rest line behind → AreCountedSoFar text behind (count + 1)
counted_more text rest line behind count so first = record {
  counted = omega (arith, so.counted, ap length first.lines);
  room = omega (arith, so.room, first.shorter);
}

no_lines : (rest : List ℕ) → length rest ≡ 0 → lines_of rest ≡ []
no_lines [] n = refl
no_lines (b ∷ rest) n = absurd (omega (arith, n))

pub counted_all : (text rest : List ℕ) (count : ℕ) → AreCountedSoFar text rest count → length rest ≡ 0 → count ≡ length (lines_of text)
counted_all text rest count so over = omega (arith, so.counted, ap length (no_lines rest over))

-- ---- entries

pub lines_more : (p : Program) (lines more : List (List ℕ)) (entries others : List Entry) → AreEntryLines p lines entries → AreEntryLines p more others → AreEntryLines p (lines ++ more) (entries ++ others)
lines_more p [] more [] others one two = two
lines_more p [] more (e ∷ entries) others one two = absurd one
lines_more p (l ∷ lines) more [] others one two = absurd one
lines_more p (l ∷ lines) more (e ∷ entries) others one two = (one.0, lines_more p lines more entries others one.1 two)

pub read_none : (p : Program) (text : List ℕ) (entries : List Entry) (first : ℕ) → entries ≡ [] → AreReadSoFar p text text entries first first
read_none p text entries first is = record { before = []; are = refl; each = subst (AreEntryLines p []) (sym is) tt; place = omega arith; room = omega arith }

pub read_more : (p : Program) (text rest line behind : List ℕ) (entries new : List Entry) (entry : Entry) (first number : ℕ) → AreReadSoFar p text rest entries first number → IsFirstLine rest line behind → IsEntryLine p line entry → new ≡ entries ++ entry ∷ [] → AreReadSoFar p text behind new first (number + 1)
read_more p text rest line behind entries new entry first number so is_first is new_ = record {
  before = so.before ++ line ∷ [];
  are = so.are ∙ ap (λ (l : List (List ℕ)). so.before ++ l) is_first.lines ∙ sym (append_assoc so.before (line ∷ []) (lines_of behind));
  each = subst (AreEntryLines p (so.before ++ line ∷ [])) (sym new_) (lines_more p so.before (line ∷ []) entries (entry ∷ []) so.each (is, tt));
  place = omega (arith, so.place, length-append so.before (line ∷ []));
  room = omega (arith, so.room, is_first.shorter, length-append so.before (line ∷ []));
}

pub read_over : (p : Program) (text rest : List ℕ) (entries : List Entry) (first number : ℕ) → AreReadSoFar p text rest entries first number → length rest ≡ 0 → AreEntryLines p (lines_of text) entries
read_over p text rest entries first number so over =
    let are : lines_of text ≡ so.before = so.are ∙ ap (λ (l : List (List ℕ)). so.before ++ l) (no_lines rest over) ∙ append-nil so.before in
    subst (λ (l : List (List ℕ)). AreEntryLines p l entries) (sym are) so.each

pub read_bad : (p : Program) (text rest line behind : List ℕ) (entries : List Entry) (first number : ℕ) → AreReadSoFar p text rest entries first number → IsFirstLine rest line behind → ((entry : Entry) → IsEntryLine p line entry → ⊥) → IsBadAmong p (lines_of text) first number
read_bad p text rest line behind entries first number so is_first none = record {
  before = so.before;
  line = line;
  after = lines_of behind;
  entries = entries;
  are = so.are ∙ ap (λ (l : List (List ℕ)). so.before ++ l) is_first.lines;
  good = so.each;
  bad = none;
  place = so.place;
}

-- what was answered where the entries failed is the answer
pub entries_fail : (p : Program) (lines : List (List ℕ)) (first : ℕ) (fault : JournalFault) (r : Result Journal JournalFault) → IsErrAnd r (λ f. f ≡ fault) → AreEntriesRead p lines first (Err fault) → AreEntriesRead p lines first r
entries_fail p lines first fault (Ok journal) is h = absurd is
entries_fail p lines first fault (Err f) is h = subst (λ g. AreEntriesRead p lines first (Err g)) (sym is) h

-- ---- head lines

abbrev head_word : List ℕ
head_word = codes "flux journal 2 flows "

-- what follows the first word of a head line
abbrev head_counts : ℕ → ℕ → List ℕ
head_counts flows events = decimal flows ++ 32 ∷ (codes "events " ++ decimal events)

head_laid : (line : List ℕ) (events : ℕ) (h : IsHeadFor line events) → line ≡ head_word ++ head_counts h.flows events
head_laid line events h = h.is ∙ ap (λ (t : List ℕ). head_word ++ t) (append_assoc (decimal h.flows) (codes " events ") (decimal events))

abbrev NoHead : List ℕ → Type 0
NoHead line = (events : ℕ) → IsHeadFor line events → ⊥

pub head_no_word : (line : List ℕ) → ((rest : List ℕ) → line ≡ head_word ++ rest → ⊥) → NoHead line
head_no_word line none events h = none (head_counts h.flows events) (head_laid line events h)

counts_are : (line counts : List ℕ) → line ≡ head_word ++ counts → (events : ℕ) (h : IsHeadFor line events) → counts ≡ head_counts h.flows events
counts_are line counts laid events h = append_cancel_left head_word counts (head_counts h.flows events) (sym laid ∙ head_laid line events h)

pub head_no_cut : (line counts : List ℕ) → line ≡ head_word ++ counts → HasNone 32 counts → NoHead line
head_no_cut line counts laid clean events h = no_cut 32 counts (decimal h.flows) (codes "events " ++ decimal events) clean (counts_are line counts laid events h)

counts_cut : (line counts flows rest : List ℕ) → line ≡ head_word ++ counts → IsCut 32 counts flows rest → (events : ℕ) (h : IsHeadFor line events) → (flows ≡ decimal h.flows) × (rest ≡ codes "events " ++ decimal events)
counts_cut line counts flows rest laid cut events h =
    let same = same_cut 32 flows (decimal h.flows) rest (codes "events " ++ decimal events) cut.none (number_clean h.flows (omega (arith, h.small))) (sym cut.laid ∙ counts_are line counts laid events h) in
    (same.front, same.rest)

pub head_no_events : (line counts flows rest : List ℕ) → line ≡ head_word ++ counts → IsCut 32 counts flows rest → ((tail : List ℕ) → rest ≡ codes "events " ++ tail → ⊥) → NoHead line
head_no_events line counts flows rest laid cut none events h = let parts = counts_cut line counts flows rest laid cut events h in none (decimal events) parts.1

pub head_no_flows : (line counts flows rest : List ℕ) (limit : ℕ) → limit ≡ 4294967295 → line ≡ head_word ++ counts → IsCut 32 counts flows rest → ((n : ℕ) → IsNumber limit flows n → ⊥) → NoHead line
head_no_flows line counts flows rest limit limit_is laid cut none events h = let parts = counts_cut line counts flows rest laid cut events h in none h.flows (omega (arith, h.small, limit_is), parts.0)

pub head_no_number : (line counts flows rest number : List ℕ) → line ≡ head_word ++ counts → IsCut 32 counts flows rest → rest ≡ codes "events " ++ number → ((n : ℕ) → IsNumber 18446744073709551615 number n → ⊥) → NoHead line
head_no_number line counts flows rest number laid cut is none events h =
    let parts = counts_cut line counts flows rest laid cut events h in
    none events (omega (arith, h.fits), append_cancel_left (codes "events ") number (decimal events) (sym is ∙ parts.1))

pub head_is : (line counts flows rest number : List ℕ) (limit n events : ℕ) → limit ≡ 4294967295 → line ≡ head_word ++ counts → IsCut 32 counts flows rest → rest ≡ codes "events " ++ number → IsNumber limit flows n → IsNumber 18446744073709551615 number events → IsHeadLine line n events
head_is line counts flows rest number limit n events limit_is laid cut is first second = record {
  small = omega (arith, first.0, limit_is);
  fits = omega (arith, second.0);
  is = laid ∙ ap (λ (t : List ℕ). head_word ++ t) (cut.laid ∙ ap (λ (t : List ℕ). t ++ 32 ∷ rest) first.1 ∙ ap (λ (t : List ℕ). decimal n ++ 32 ∷ t) (is ∙ ap (λ (t : List ℕ). codes "events " ++ t) second.1)
      ∙ sym (append_assoc (decimal n) (codes " events ") (decimal events)));
}

-- a head line for two numbers is one for so many events
pub line_for : (line : List ℕ) (flows events : ℕ) → IsHeadLine line flows events → IsHeadFor line events
line_for line flows events h = record { flows = flows; small = h.small; fits = h.fits; is = h.is }

pub none_so : {X : Type 0} {P Q : Type 0} (r : Option X) → IfNone r P → (P → Q) → IfNone r Q
none_so None h f = f h
none_so (Some x) h f = tt

pub no_line : (line : List ℕ) → NoHead line → (flows events : ℕ) → IsHeadLine line flows events → ⊥
no_line line none flows events h = none events (line_for line flows events h)

pub head_back : (line : List ℕ) (events : ℕ) → ((flows own : ℕ) → IsHeadLine line flows own → ⊥) → IsHeadFor line events → ⊥
head_back line events none h = none h.flows events (record { small = h.small; fits = h.fits; is = h.is })

-- a head line has two numbers
head_once : (line : List ℕ) (a b c d : ℕ) → IsHeadLine line a b → IsHeadLine line c d → (a ≡ c) × (b ≡ d)
head_once line a b c d h k =
    let first : IsHeadFor line b = record { flows = a; small = h.small; fits = h.fits; is = h.is } in
    let second : IsHeadFor line d = record { flows = c; small = k.small; fits = k.fits; is = k.is } in
    let e : head_counts a b ≡ head_counts c d = append_cancel_left head_word (head_counts a b) (head_counts c d) (sym (head_laid line b first) ∙ head_laid line d second) in
    let same = same_cut 32 (decimal a) (decimal c) (codes "events " ++ decimal b) (codes "events " ++ decimal d) (number_clean a (omega (arith, h.small))) (number_clean c (omega (arith, k.small))) e in (
      one_number 4294967295 a c (omega arith) (omega (arith, h.small)) (omega (arith, k.small)) same.front,
      one_number 18446744073709551615 b d (omega arith) (omega (arith, h.fits)) (omega (arith, k.fits)) (append_cancel_left (codes "events ") (decimal b) (decimal d) same.rest),
    )

pub head_told : (line : List ℕ) (r : Option Head) → IfSome r (λ head. IsHeadLine line head.flows head.events) → IfNone r (NoHead line) → (flows events : ℕ) → IsHeadLine line flows events
    → r ≡ Some (record { flows = flows; events = events })
head_told line None found none flows events h = absurd (no_line line none flows events h)
head_told line (Some head) found none flows events h =
    let same = head_once line head.flows head.events flows events found h in
    let first : head.flows ≡ flows = same.0 in
    let second : head.events ≡ events = same.1 in
    ap Some (ap (λ (n : ℕ). record { flows = n; events = head.events }) first ∙ ap (λ (n : ℕ). record { flows = flows; events = n }) second)

one_head : (line : List ℕ) (a b : ℕ) → IsHeadFor line a → IsHeadFor line b → a ≡ b
one_head line a b h k =
    let first : IsHeadLine line h.flows a = record { small = h.small; fits = h.fits; is = h.is } in
    let second : IsHeadLine line k.flows b = record { small = k.small; fits = k.fits; is = k.is } in
    let same = head_once line h.flows a k.flows b first second in same.1

pub head_test : (line : List ℕ) (told events : ℕ) → IsHeadFor line told → (eqb told events ≡ true → IsHeadFor line events) × (IsHeadFor line events → eqb told events ≡ true)
head_test line told events h = (
  λ e. subst (IsHeadFor line) (eqb-true told events e) h,
  λ k. let same : told ≡ events = one_head line told events h k in grind (arith, nat_tests),
)

-- ---- texts

pub reads_by : (p : Program) (text : List ℕ) (journal : Journal) (t : Bool) → is_headed text ≡ t → FitsFormat t (lines_of text) → AreEntryLines p (drop (head_count t) (lines_of text)) journal.entries → ReadsAs p text journal
reads_by p text journal t is head lines = record {
  head = subst (λ (u : Bool). FitsFormat u (lines_of text)) (sym is) head;
  lines = subst (λ (u : Bool). AreEntryLines p (drop (head_count u) (lines_of text)) journal.entries) (sym is) lines;
}

bad_by : (p : Program) (text : List ℕ) (first number : ℕ) (t : Bool) → is_headed text ≡ t → first ≡ head_count t + 1 → FitsFormat t (lines_of text) → IsBadAmong p (drop (head_count t) (lines_of text)) first number → IsEventBad p text number
bad_by p text first number t is first_is head b = record {
  head = subst (λ (u : Bool). FitsFormat u (lines_of text)) (sym is) head;
  before = b.before;
  line = b.line;
  after = b.after;
  entries = b.entries;
  lines = subst (λ (u : Bool). drop (head_count u) (lines_of text) ≡ b.before ++ b.line ∷ b.after) (sym is) b.are;
  good = b.good;
  bad = b.bad;
  place = omega (arith, b.place, first_is, ap head_count is);
}

all_read : (p : Program) (text : List ℕ) (first : ℕ) (t : Bool) → is_headed text ≡ t → first ≡ head_count t + 1 → FitsFormat t (lines_of text) → (r : Result Journal JournalFault) → AreEntriesRead p (drop (head_count t) (lines_of text)) first r → HasCause p text r
all_read p text first t is first_is head (Ok journal) read = reads_by p text journal t is head read
all_read p text first t is first_is head (Err (faults.BadLine number)) read = inr (bad_by p text first number t is first_is head read)
all_read p text first t is first_is head (Err faults.Memory) read = tt

pub headless_read : (p : Program) (text : List ℕ) → false ≡ is_headed text → (r : Result Journal JournalFault) → AreEntriesRead p (lines_of text) 1 r → HasCause p text r
headless_read p text is r read = all_read p text 1 false (sym is) refl tt r read

has_head : (text head rest : List ℕ) → IsFirstLine text head rest → IsHeadFor head (length (lines_of rest)) → HasHead (lines_of text)
has_head text head rest first h = subst HasHead (sym first.lines) (record { flows = h.flows; small = h.small; is = ap Some h.is })

pub headed_read : (p : Program) (text head rest : List ℕ) (count : ℕ) → true ≡ is_headed text → IsFirstLine text head rest → count ≡ length (lines_of rest) → IsHeadFor head count → (r : Result Journal JournalFault) → AreEntriesRead p (lines_of rest) 2 r → HasCause p text r
headed_read p text head rest count is first count_is h r read =
    all_read p text 2 true (sym is) refl (has_head text head rest first (subst (IsHeadFor head) count_is h)) r
    (subst (λ (l : List (List ℕ)). AreEntriesRead p l 2 r) (sym (ap (drop 1) first.lines)) read)

-- a text of format 1 needs no head, and one of format 2 has the one that was found
pub headless_well : (text : List ℕ) → false ≡ is_headed text → IsWellHeaded text
headless_well text is = subst (λ (u : Bool). FitsFormat u (lines_of text)) is tt

pub headed_well : (text head rest : List ℕ) (count : ℕ) → true ≡ is_headed text → IsFirstLine text head rest → count ≡ length (lines_of rest)
    → IsHeadFor head count → IsWellHeaded text
headed_well text head rest count is first count_is h =
    subst (λ (u : Bool). FitsFormat u (lines_of text)) is (has_head text head rest first (subst (IsHeadFor head) count_is h))

some_is : (a b : List ℕ) → Some a ≡ Some b → a ≡ b
some_is a b e = cc

pub head_bad : (text head rest : List ℕ) (count : ℕ) → count < 2 ^ 64 → true ≡ is_headed text → IsFirstLine text head rest → count ≡ length (lines_of rest) → (IsHeadFor head count → ⊥) → IsHeadBad text 1
head_bad text head rest count fits is first count_is none = record {
  first = refl;
  other = λ well.
      let h : HasHead (head ∷ lines_of rest) = subst HasHead first.lines (subst (λ (u : Bool). FitsFormat u (lines_of text)) (sym is) well) in
      none (record { flows = h.flows; small = h.small; fits = fits; is = some_is head (head_line h.flows (length (lines_of rest))) h.is ∙ ap (head_line h.flows) (sym count_is) });
}

-- a text that begins with a head's mark isn't empty
pub headed_some : (text : List ℕ) → true ≡ is_headed text → 0 < length text
headed_some [] is = absurd cc
headed_some (b ∷ text) is = omega arith

-- ---- one answer

pub entries_once : (p : Program) → IsNamed p → (lines : List (List ℕ)) (xs ys : List Entry) → AreEntryLines p lines xs → AreEntryLines p lines ys → xs ≡ ys
entries_once p named [] [] [] one two = refl
entries_once p named [] [] (y ∷ ys) one two = absurd two
entries_once p named [] (x ∷ xs) ys one two = absurd one
entries_once p named (l ∷ lines) [] ys one two = absurd one
entries_once p named (l ∷ lines) (x ∷ xs) [] one two = absurd two
entries_once p named (l ∷ lines) (x ∷ xs) (y ∷ ys) one two = ap (λ (e : Entry). e ∷ xs) (entry_once p named l x y one.0 two.0) ∙ ap (λ (es : List Entry). y ∷ es) (entries_once p named lines xs ys one.1 two.1)

abbrev journal_of : List Entry → Journal
journal_of entries = record { entries = entries }

pub journal_once : (p : Program) → IsNamed p → (text : List ℕ) (x y : Journal) → ReadsAs p text x → ReadsAs p text y → x ≡ y
journal_once p named text x y one two = ap journal_of (entries_once p named (event_lines text) x.entries y.entries one.lines two.lines)

-- a line among those that spell entries spells one
good_at : (p : Program) (before : List (List ℕ)) (line : List ℕ) (after : List (List ℕ)) (entries : List Entry) → AreEntryLines p (before ++ line ∷ after) entries → ((entry : Entry) → IsEntryLine p line entry → ⊥) → ⊥
good_at p [] line after [] are bad = are
good_at p [] line after (e ∷ entries) are bad = bad e are.0
good_at p (l ∷ before) line after [] are bad = are
good_at p (l ∷ before) line after (e ∷ entries) are bad = good_at p before line after entries are.1 bad

not_both : (p : Program) (text : List ℕ) (number : ℕ) (journal : Journal) → IsBadLine p text number → ReadsAs p text journal → ⊥
not_both p text number journal (inl head) reads = head.other reads.head
not_both p text number journal (inr b) reads = good_at p b.before b.line b.after journal.entries (subst (λ (l : List (List ℕ)). AreEntryLines p l journal.entries) b.lines reads.lines) b.bad

-- of two places in one list the earlier is before the later
record Earlier (b : List (List ℕ)) (l : List ℕ) (c : List (List ℕ)) : Type 0 where
  more : List (List ℕ)
  is : c ≡ b ++ l ∷ more

earlier : (b c : List (List ℕ)) (l m : List ℕ) (x y : List (List ℕ)) → b ++ l ∷ x ≡ c ++ m ∷ y → length b < length c → Earlier b l c
earlier b [] l m x y e lt = absurd (omega arith)
earlier [] (k ∷ c) l m x y e lt = record { more = c; is = ap (λ (h : List ℕ). h ∷ c) (sym (let h : l ≡ k = cc in h)) }
earlier (j ∷ b) (k ∷ c) l m x y e lt =
    let heads : j ≡ k = cc in
    let tails : b ++ l ∷ x ≡ c ++ m ∷ y = cc in
    let r = earlier b c l m x y tails (omega (arith, lt)) in
    record { more = r.more; is = ap (λ (h : List ℕ). h ∷ c) (sym heads) ∙ ap (λ (t : List (List ℕ)). j ∷ t) r.is }

not_earlier : (p : Program) (text : List ℕ) (m n : ℕ) (a : IsEventBad p text m) (b : IsEventBad p text n) → length a.before < length b.before → ⊥
not_earlier p text m n a b lt =
    let e = earlier a.before b.before a.line b.line a.after b.after (sym a.lines ∙ b.lines) lt in
    good_at p a.before a.line e.more b.entries (subst (λ (l : List (List ℕ)). AreEntryLines p l b.entries) e.is b.good) a.bad

bad_once : (p : Program) (text : List ℕ) (m n : ℕ) → IsBadLine p text m → IsBadLine p text n → m ≡ n
bad_once p text m n (inl a) (inl b) = a.first ∙ sym b.first
bad_once p text m n (inl a) (inr b) = absurd (a.other b.head)
bad_once p text m n (inr a) (inl b) = absurd (b.other a.head)
bad_once p text m n (inr a) (inr b) = elim (cases_order (length a.before) (length b.before)) as (λ _. m ≡ n) [
  | inl same ↦ omega (arith, a.place, b.place, same)
  | inr differ ↦ absurd (elim differ [ inl lt ↦ not_earlier p text m n a b lt | inr gt ↦ not_earlier p text n m b a gt ])
]

-- each cause has its answer
pub answers_journal : (p : Program) → IsNamed p → (text : List ℕ) (r : Result Journal JournalFault) → HasCause p text r → (journal : Journal) → ReadsAs p text journal → IsOrMemory faults.Memory (Ok journal) r
answers_journal p named text (Ok own) cause journal reads = inl (ap Ok (journal_once p named text own journal cause reads))
answers_journal p named text (Err (faults.BadLine n)) cause journal reads = absurd (not_both p text n journal cause reads)
answers_journal p named text (Err faults.Memory) cause journal reads = inr refl

pub answers_bad : (p : Program) (text : List ℕ) (r : Result Journal JournalFault) → HasCause p text r → (line : ℕ) → IsBadLine p text line → IsOrMemory faults.Memory (Err (faults.BadLine line)) r
answers_bad p text (Ok own) cause line bad = absurd (not_both p text line own bad cause)
answers_bad p text (Err (faults.BadLine n)) cause line bad = inl (ap (λ (k : ℕ). Err (faults.BadLine k)) (bad_once p text n line cause bad))
answers_bad p text (Err faults.Memory) cause line bad = inr refl
