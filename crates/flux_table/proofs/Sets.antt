-- The two sets of a line, as flows come and go, and the lowest flow of each and of both.
use Rattle.std.proofs.Common.{◌≡◌, ◌≢◌, ◌↔◌, ℕ, zero, suc, ◌<◌, Bool, true, false, not, cond, eqb, List, [], ◌∷◌, ◌++◌, length, get_or, ◌⊎◌, Option, Some, None, Result, Bor, IsSome, refl, sym, ap, subst, ◌∙◌, inl, inr, arith}
use Rattle.std.specs.Prelude.{OnOk, OnErr}
use Rattle.std.specs.Ordering.{nat_cmp, is_eq, is_gt}
use Rattle.std.specs.List.{Contains, list_any}
use Rattle.std.specs.Option.{IfSome, option_copied}
use Rattle.std.specs.BTreeSet.{BTreeSet}
use Rattle.std.proofs.lemmas.Bool.{eqb-true, eqb-false, eq-eqb, ne_eqb, false≢true, false_from_ne_true}
use Rattle.std.proofs.lemmas.List.Elements.{Contains-append_left, Contains-push, Contains-push_cases}
use Rattle.std.proofs.lemmas.List.Sums.{take_while-cons}
use Rattle.std.proofs.lemmas.Map.Keys.{le_from_not_gt}
use Rattle.flux_values.specs.declared.answers.Mode.{Mode}
use Rattle.flux_values.specs.declared.answers.Mode.TheVariants.{Reader, Writer}
use Rattle.flux_model.specs.declared.items.FlowNo.{FlowNo}
use Rattle.flux_model.specs.Modes.{conflict}
use Rattle.flow_model.proofs.Keys.{cmp_eqb}
use Rattle.flux_table.specs.declared.locks.Waiter.{Waiter}
use Rattle.flux_table.specs.Locks.{StandsNowhere, StandOnce}
use Rattle.flux_table.specs.Blockers.{StandsAgainst, IsLowestOf, IsEither, line_before}
use Rattle.flux_table.specs.Changes.{line_without}
use Rattle.flux_table.specs.Lines.{has, HasThose, IsKept}
use Rattle.flux_table.proofs.Standing.{is_of, lowest_same, lowest_of_both}
use Rattle.flux_table.proofs.Orderly.{contains_later, contains_without, nowhere_after, once_after, once_more, pushed_or_not}

-- ---- look-ups in a set of flows

-- a look-up by the order of flows
abbrev pub found : BTreeSet FlowNo → ℕ → Bool
found flows flow = list_any (λ other. is_eq (nat_cmp flow other.0)) flows.keys

pub found_is : (flows : BTreeSet FlowNo) (flow : ℕ) → found flows flow ≡ has flows flow
found_is flows flow = ap (λ (test : FlowNo → Bool). list_any test flows.keys) (λ i other. cmp_eqb flow other.0 i)

-- a set after one flow has come or gone
pub record IsSetAt (old new : BTreeSet FlowNo) (flow : ℕ) (there : Bool) : Type 0 where
  pub at : (other : ℕ) → has new other ≡ cond (eqb flow other) there (has old other)

pub set_is : (old new : BTreeSet FlowNo) (flow : ℕ) (there : Bool)
    → ((q : FlowNo) → found new q.0 ≡ cond (is_eq (nat_cmp flow q.0)) there (found old q.0)) → IsSetAt old new flow there
set_is old new flow there says = record {
  at = λ other.
      sym (found_is new other) ∙ says (record { 0 = other })
      ∙ ap (λ (b : Bool). cond b there (found old other)) (cmp_eqb flow other)
      ∙ ap (λ (b : Bool). cond (eqb flow other) there b) (found_is old other);
}

-- ---- who is in a line in a mode

-- a flow that waits in a mode
abbrev waits : ℕ → Mode → Waiter
waits flow mode = record { flow = record { 0 = flow }; mode = mode }

reader_no_writer : Reader ≡ Writer → ⊥
reader_no_writer same = false≢true (ap (conflict Reader) same)

-- ---- a flow that comes

cond_both : (b : Bool) → cond b true true ≡ true
cond_both true = refl
cond_both false = refl

pub those_more : (old new : BTreeSet FlowNo) (line : List Waiter) (waiter : Waiter) → IsSetAt old new waiter.flow.0 true
    → HasThose old line waiter.mode → HasThose new (line ++ waiter ∷ []) waiter.mode
those_more old new line waiter is kept = record { each = λ n. (to n, from n) }
  where
    to : (n : ℕ) → has new n ≡ true → Contains (line ++ waiter ∷ []) (waits n waiter.mode)
    to n there =
        elim (eqb waiter.flow.0 n) as (λ b. eqb waiter.flow.0 n ≡ b → cond b true (has old n) ≡ true → Contains (line ++ waiter ∷ []) (waits n waiter.mode)) [
          | true ↦ λ same _. subst (λ m. Contains (line ++ waiter ∷ []) (waits m waiter.mode)) (eqb-true waiter.flow.0 n same) (Contains-push line waiter)
          | false ↦ λ _ before. Contains-append_left line (waiter ∷ []) _ ((kept.each n).0 before)
        ] refl (sym (is.at n) ∙ there)

    from : (n : ℕ) → Contains (line ++ waiter ∷ []) (waits n waiter.mode) → has new n ≡ true
    from n stands =
        is.at n ∙ elim (Contains-push_cases line waiter _ stands) [
          | inl before ↦ ap (cond (eqb waiter.flow.0 n) true) ((kept.each n).1 before) ∙ cond_both (eqb waiter.flow.0 n)
          | inr last ↦ ap (λ (b : Bool). cond b true (has old n)) (eq-eqb waiter.flow.0 n (ap (λ w. w.flow.0) last))
        ]

-- one that comes in another mode
pub those_past : (flows : BTreeSet FlowNo) (line : List Waiter) (waiter : Waiter) (mode : Mode) → waiter.mode ≢ mode
    → HasThose flows line mode → HasThose flows (line ++ waiter ∷ []) mode
those_past flows line waiter mode apart kept = record {
  each = λ n. (
    λ there. Contains-append_left line (waiter ∷ []) _ ((kept.each n).0 there),
    λ stands. elim (Contains-push_cases line waiter _ stands) [
      | inl before ↦ (kept.each n).1 before
      | inr last ↦ absurd (apart (ap (λ w. w.mode) last))
    ],
  );
}

-- the line and its sets after a push, with memory or without
pub kept_reader : {E : Type 0} (line after : List Waiter) (waiter : Waiter) (pushed : Result (Unit {0}) E) (more writing : BTreeSet FlowNo)
    → waiter.mode ≡ Reader → StandsNowhere line waiter.flow.0 → OnOk pushed (after ≡ line ++ waiter ∷ []) → OnErr pushed (after ≡ line)
    → StandOnce line → HasThose more after waiter.mode → HasThose writing line Writer → IsKept after more writing
kept_reader line after waiter pushed more writing is nowhere ok err once those others = record {
  once = pushed_or_not StandOnce line after waiter pushed ok err (once_more line waiter once nowhere) once;
  readers = subst (HasThose more after) is those;
  writers = pushed_or_not (λ l. HasThose writing l Writer) line after waiter pushed ok err
      (those_past writing line waiter Writer (λ same. reader_no_writer (sym is ∙ same)) others) others;
}

pub kept_writer : {E : Type 0} (line after : List Waiter) (waiter : Waiter) (pushed : Result (Unit {0}) E) (reading more : BTreeSet FlowNo)
    → waiter.mode ≡ Writer → StandsNowhere line waiter.flow.0 → OnOk pushed (after ≡ line ++ waiter ∷ []) → OnErr pushed (after ≡ line)
    → StandOnce line → HasThose more after waiter.mode → HasThose reading line Reader → IsKept after reading more
kept_writer line after waiter pushed reading more is nowhere ok err once those others = record {
  once = pushed_or_not StandOnce line after waiter pushed ok err (once_more line waiter once nowhere) once;
  readers = pushed_or_not (λ l. HasThose reading l Reader) line after waiter pushed ok err
      (those_past reading line waiter Reader (λ same. reader_no_writer (sym same ∙ is)) others) others;
  writers = subst (HasThose more after) is those;
}

-- ---- a flow that is taken out

-- who doesn't leave stays
contains_else : (line : List Waiter) (flow : ℕ) (waiter : Waiter) → waiter.flow.0 ≢ flow → Contains line waiter → Contains (line_without line flow) waiter
contains_else [] flow waiter apart is = is
contains_else (first ∷ line) flow waiter apart is = placed (contains_else line flow waiter apart) is.0 is.1 is.2 where
  placed : (Contains line waiter → Contains (line_without line flow) waiter)
      → (k : ℕ) → k < length (first ∷ line) → get_or (first ∷ line) k waiter ≡ waiter → Contains (line_without (first ∷ line) flow) waiter
  placed else zero within at =
      elim (eqb first.flow.0 flow) as (λ b. eqb first.flow.0 flow ≡ b → Contains (cond b line (first ∷ line_without line flow)) waiter) [
        | true ↦ λ same. absurd (apart (ap (λ w. w.flow.0) (sym at) ∙ eqb-true first.flow.0 flow same))
        | false ↦ λ _. (zero, omega arith, at)
      ] refl
  placed else (suc k) within at =
      let rest : Contains line waiter = (k, omega (arith, within), at) in
      elim (eqb first.flow.0 flow) as (λ b. Contains (cond b line (first ∷ line_without line flow)) waiter) [
        | true ↦ rest
        | false ↦ contains_later first (line_without line flow) waiter (else rest)
      ]

-- a flow that waits once waits in one mode
one_mode : (line : List Waiter) → StandOnce line → (flow : ℕ) (a b : Mode) → Contains line (waits flow a) → Contains line (waits flow b) → a ≡ b
one_mode [] once flow a b is also = absurd (omega (arith, is.1))
one_mode (first ∷ line) once flow a b is also = placed (one_mode line once.1 flow a b) is.0 is.1 is.2 also.0 also.1 also.2 where
  placed : (Contains line (waits flow a) → Contains line (waits flow b) → a ≡ b)
      → (k : ℕ) → k < length (first ∷ line) → get_or (first ∷ line) k (waits flow a) ≡ waits flow a
      → (j : ℕ) → j < length (first ∷ line) → get_or (first ∷ line) j (waits flow b) ≡ waits flow b → a ≡ b
  placed rest zero _ at zero _ too = ap (λ w. w.mode) (sym at ∙ too)
  placed rest zero _ at (suc j) within too = absurd (once.0 _ (j, omega (arith, within), too) (ap (λ w. w.flow.0) (sym at)))
  placed rest (suc k) within at zero _ too = absurd (once.0 _ (k, omega (arith, within), at) (ap (λ w. w.flow.0) (sym too)))
  placed rest (suc k) within at (suc j) inside too = rest (k, omega (arith, within), at) (j, omega (arith, inside), too)

-- a set after a flow has left the line
those_gone : (old new : BTreeSet FlowNo) (line less : List Waiter) (flow : ℕ) (mode : Mode) → IsSetAt old new flow false → StandsNowhere less flow
    → ((waiter : Waiter) → waiter.flow.0 ≢ flow → Contains line waiter → Contains less waiter)
    → ((waiter : Waiter) → Contains less waiter → Contains line waiter) → HasThose old line mode → HasThose new less mode
those_gone old new line less flow mode is nowhere stays stood kept = record { each = λ n. (to n, from n) }
  where
    to : (n : ℕ) → has new n ≡ true → Contains less (waits n mode)
    to n there =
        elim (eqb flow n) as (λ b. eqb flow n ≡ b → cond b false (has old n) ≡ true → Contains less (waits n mode)) [
          | true ↦ λ _ gone. absurd (false≢true gone)
          | false ↦ λ apart before. stays _ (λ same. eqb-false flow n apart (sym same)) ((kept.each n).0 before)
        ] refl (sym (is.at n) ∙ there)

    from : (n : ℕ) → Contains less (waits n mode) → has new n ≡ true
    from n stands =
        is.at n
        ∙ ap (λ (b : Bool). cond b false (has old n)) (ne_eqb flow n (λ same. nowhere _ stands (sym same)))
        ∙ (kept.each n).1 (stood _ stands)

those_less : (old new : BTreeSet FlowNo) (line : List Waiter) (flow : ℕ) (mode : Mode) → IsSetAt old new flow false → StandOnce line
    → HasThose old line mode → HasThose new (line_without line flow) mode
those_less old new line flow mode is once =
    those_gone old new line (line_without line flow) flow mode is (nowhere_after line flow once) (contains_else line flow) (contains_without line flow)

-- a set from which the last is taken out again
pub those_undone : (old more new : BTreeSet FlowNo) (line : List Waiter) (last : Waiter) → IsSetAt old more last.flow.0 true
    → IsSetAt more new last.flow.0 false → StandsNowhere line last.flow.0 → HasThose old line last.mode → HasThose new line last.mode
those_undone old more new line last come left nowhere kept =
    those_gone more new (line ++ last ∷ []) line last.flow.0 last.mode left nowhere
    (λ waiter apart stands. elim (Contains-push_cases line last waiter stands) [
      | inl before ↦ before
      | inr here ↦ absurd (apart (ap (λ w. w.flow.0) (sym here)))
    ])
    (Contains-append_left line (last ∷ [])) (those_more old more line last come kept)

-- the line and its sets after a flow has left all three
pub kept_less : (line : List Waiter) (flow : ℕ) (reading writing reading_left writing_left : BTreeSet FlowNo) → IsKept line reading writing
    → IsSetAt reading reading_left flow false → IsSetAt writing writing_left flow false → IsKept (line_without line flow) reading_left writing_left
kept_less line flow reading writing reading_left writing_left kept left left_too = record {
  once = once_after line flow kept.once;
  readers = those_less reading reading_left line flow Reader left kept.once kept.readers;
  writers = those_less writing writing_left line flow Writer left_too kept.once kept.writers;
}

-- who is among the writers isn't among the readers, and so has left these
pub no_reader : (line : List Waiter) (flow : ℕ) (reading writing : BTreeSet FlowNo) → IsKept line reading writing → found writing flow ≡ true
    → IsSetAt reading reading flow false
no_reader line flow reading writing kept there = record {
  at = λ n. elim (eqb flow n) as (λ b. eqb flow n ≡ b → has reading n ≡ cond b false (has reading n)) [
    | true ↦ λ same. false_from_ne_true (has reading n) (λ reads.
        let writes : has writing n ≡ true = ap (has writing) (sym (eqb-true flow n same)) ∙ sym (found_is writing flow) ∙ there in
        reader_no_writer (one_mode line kept.once n Reader Writer ((kept.readers.each n).0 reads) ((kept.writers.each n).0 writes)))
    | false ↦ λ _. refl
  ] refl;
}

-- ---- whether a flow waits there

in_either : (line : List Waiter) (reading writing : BTreeSet FlowNo) → IsKept line reading writing → (n : ℕ) (their : Mode)
    → Contains line (waits n their) → (has reading n ≡ true) ⊎ (has writing n ≡ true)
in_either line reading writing kept n Reader is = inl ((kept.readers.each n).1 is)
in_either line reading writing kept n Writer is = inr ((kept.writers.each n).1 is)

stands_from : (flows : BTreeSet FlowNo) (line : List Waiter) (flow : ℕ) (mode : Mode) → HasThose flows line mode → found flows flow ≡ true
    → StandsNowhere line flow → ⊥
stands_from flows line flow mode kept there nowhere =
    nowhere (waits flow mode) ((kept.each flow).0 (sym (found_is flows flow) ∙ there)) refl

-- who is among the writers
pub stands_writing : (line : List Waiter) (flow : ℕ) (reading writing : BTreeSet FlowNo) (there : Bool) → IsKept line reading writing
    → found writing flow ≡ true → there ≡ true → (there ≡ false) ↔ StandsNowhere line flow
stands_writing line flow reading writing there kept writes is = (
  λ no. absurd (false≢true (sym no ∙ is)),
  λ nowhere. absurd (stands_from writing line flow Writer kept.writers writes nowhere),
)

-- one who isn't among the writers waits there where it is among the readers
pub stands_reading : (line : List Waiter) (flow : ℕ) (reading writing : BTreeSet FlowNo) (there : Bool) → IsKept line reading writing
    → found writing flow ≡ false → there ≡ found reading flow → (there ≡ false) ↔ StandsNowhere line flow
stands_reading line flow reading writing there kept no_writes is = (
  λ no waiter stands same.
      let none : (flows : BTreeSet FlowNo) → found flows flow ≡ false → has flows waiter.flow.0 ≡ false =
      λ flows unfound. ap (has flows) same ∙ sym (found_is flows flow) ∙ unfound in
      elim (in_either line reading writing kept waiter.flow.0 waiter.mode stands) [
        | inl reads ↦ false≢true (sym (none reading (sym is ∙ no)) ∙ reads)
        | inr writes ↦ false≢true (sym (none writing no_writes) ∙ writes)
      ],
  λ nowhere. false_from_ne_true there (λ reads. stands_from reading line flow Reader kept.readers (sym is ∙ reads) nowhere),
)

-- ---- the lowest of a set

pub lowest_some : (flows : BTreeSet FlowNo) (low : FlowNo) → found flows low.0 ≡ true
    → ((q : FlowNo) → found flows q.0 ≡ true → is_gt (nat_cmp low.0 q.0) ≡ false) → IsLowestOf (λ n. has flows n ≡ true) (Some low)
lowest_some flows low there least = (
  sym (found_is flows low.0) ∙ there,
  λ n other. le_from_not_gt low.0 n (least (record { 0 = n }) (found_is flows n ∙ other)),
)

none_there : (keys : List FlowNo) (n : ℕ) → length keys ≡ 0 → list_any (λ other. eqb n other.0) keys ≡ true → ⊥
none_there [] n empty there = false≢true there
none_there (first ∷ keys) n empty there = omega (arith, empty)

pub lowest_none : (flows : BTreeSet FlowNo) → length flows.keys ≡ 0 → IsLowestOf (λ n. has flows n ≡ true) None
lowest_none flows empty = λ n there. none_there flows.keys n empty there

pub lowest_first : (flows : BTreeSet FlowNo) (first : Option (Bor FlowNo)) → (0 < length flows.keys → IsSome first)
    → IfSome first (λ low. found flows low.now.0 ≡ true)
    → IfSome first (λ low. (q : FlowNo) → found flows q.0 ≡ true → is_gt (nat_cmp low.now.0 q.0) ≡ false)
    → IsLowestOf (λ n. has flows n ≡ true) (option_copied first)
lowest_first flows (Some low) some there least = lowest_some flows low.now there least
lowest_first flows None some there least = lowest_none flows (empty flows.keys some) where
  empty : (keys : List FlowNo) → (0 < length keys → false ≡ true) → length keys ≡ 0
  empty [] none = refl
  empty (first ∷ keys) none = absurd (false≢true (none (omega arith)))

-- ---- the lowest of all the line

before_all : (line : List Waiter) (flow : ℕ) → StandsNowhere line flow → line_before line flow ≡ line
before_all [] flow nowhere = refl
before_all (first ∷ line) flow nowhere =
    take_while-cons (λ w. not (is_of flow w)) first line
    ∙ ap (λ (b : Bool). cond (not b) (first ∷ line_before line flow) []) (ne_eqb first.flow.0 flow (nowhere first (zero, omega arith, refl)))
    ∙ ap (λ l. first ∷ l) (before_all line flow (λ waiter is. nowhere waiter (contains_later first line waiter is)))

-- the lowest of all is the lowest before a flow that isn't there
pub lowest_before : (line : List Waiter) (flow : ℕ) (mode : Mode) (lowest : Option FlowNo) → StandsNowhere line flow
    → IsLowestOf (λ other. StandsAgainst line other mode) lowest → IsLowestOf (λ other. StandsAgainst (line_before line flow) other mode) lowest
lowest_before line flow mode lowest nowhere =
    subst (λ l. IsLowestOf (λ other. StandsAgainst l other mode) lowest) (sym (before_all line flow nowhere))

against_reader : (line : List Waiter) (n : ℕ) (their : Mode) → Contains line (waits n their) → conflict their Reader ≡ true → Contains line (waits n Writer)
against_reader line n Reader is against = absurd (false≢true against)
against_reader line n Writer is against = is

-- writers are in conflict with a reader
pub lowest_writer : (line : List Waiter) (writing : BTreeSet FlowNo) (lowest : Option FlowNo) → HasThose writing line Writer
    → IsLowestOf (λ n. has writing n ≡ true) lowest → IsLowestOf (λ n. StandsAgainst line n Reader) lowest
lowest_writer line writing lowest writers =
    lowest_same (λ n. has writing n ≡ true) (λ n. StandsAgainst line n Reader) lowest
    (λ n there. record { their = Writer; stands = (writers.each n).0 there; against = refl })
    (λ n stands. (writers.each n).1 (against_reader line n stands.their stands.stands stands.against))

-- all are in conflict with a writer
pub lowest_of_two : (line : List Waiter) (reading writing : BTreeSet FlowNo) (a b lowest : Option FlowNo) → IsKept line reading writing
    → IsLowestOf (λ n. has reading n ≡ true) a → IsLowestOf (λ n. has writing n ≡ true) b → IsLowestOf (IsEither a b) lowest
    → IsLowestOf (λ n. StandsAgainst line n Writer) lowest
lowest_of_two line reading writing a b lowest kept =
    lowest_of_both (λ n. has reading n ≡ true) (λ n. has writing n ≡ true) (λ n. StandsAgainst line n Writer) a b lowest
    (λ n there. record { their = Reader; stands = (kept.readers.each n).0 there; against = refl })
    (λ n there. record { their = Writer; stands = (kept.writers.each n).0 there; against = refl })
    (λ n stands. in_either line reading writing kept n stands.their stands.stands)
