-- The name at the front of a line, and what spells an item.
use Rattle.std.proofs.Common.{◌≡◌, ◌⊎◌, inl, inr, ℕ, ◌+◌, ◌&&◌, ◌||◌, Bool, true, false, eqb, List, [], ◌∷◌, ◌++◌, length, take, drop, get_or, map, codes, refl, sym, ap, ◌∙◌, subst, arith}
use Rattle.std.specs.List.{prefix_len, list_all, list_any}
use Rattle.std.proofs.Math.Numerals.{one-add}
use Rattle.std.proofs.lemmas.Bool.{false≢true, or_left}
use Rattle.std.proofs.lemmas.Bool.Decides.{nat_tests}
use Rattle.std.proofs.lemmas.List.{take_at, drop_at}
use Rattle.flux_values.specs.declared.values.Value.{Value}
use Rattle.flux_values.specs.Identifiers.{is_word_start, is_word_byte, is_digit, is_word, IsIdentifier}
use Rattle.flux_items.specs.Lines.{is_blank, IsPassedOver}
use Rattle.flux_items.specs.Spelled.{AreLaid, closed_pieces, item_pieces, SpellsItem}
use Rattle.flux_items.specs.steps.Fronts.{past_blanks}
use Rattle.flux_items.specs.steps.Values.{Close}
use Rattle.flux_items.specs.steps.Reading.{HasName}
use Rattle.flux_items.proofs.Skipped.{and_left, and_right, past_other, over_is}
use Rattle.flux_items.proofs.Laid.{laid_front, front_laid, laid_close, close_laid}

-- ---- the first byte of a name, and all of them

record HasStart (name : List ℕ) : Type 0 where
  first : ℕ
  rest : List ℕ
  is : name ≡ first ∷ rest
  start : is_word_start first ≡ true

name_start : (name : List ℕ) → IsIdentifier name → HasStart name
name_start [] id = absurd (let e = id.word in cc)
name_start (b ∷ rest) id = record { first = b; rest = rest; is = refl; start = and_left (is_word_start b) (list_all is_word_byte rest) id.word }

start_no_blank : (b : ℕ) → is_word_start b ≡ true → is_blank b ≡ false
start_no_blank b e = grind (arith, nat_tests)

start_no_mark : (b : ℕ) → is_word_start b ≡ true → b ≡ 35 → ⊥
start_no_mark b e is = let f : is_word_start 35 ≡ true = subst (λ (c : ℕ). is_word_start c ≡ true) is e in false≢true f

all_word : (name : List ℕ) → IsIdentifier name → list_all is_word_byte name ≡ true
all_word [] id = refl
all_word (b ∷ rest) id =
    let start = and_left (is_word_start b) (list_all is_word_byte rest) id.word in
    rw (or_left (is_word_start b) (is_digit b) start) (and_right (is_word_start b) (list_all is_word_byte rest) id.word)

-- ---- a name ends where there is no byte of words

blank_no_word : (b : ℕ) → is_blank b ≡ true → is_word_byte b ≡ false
blank_no_word b e = grind (arith, nat_tests)

prefix_stops : (rest behind : List ℕ) → past_blanks rest ≡ 40 ∷ behind → prefix_len is_word_byte rest ≡ 0
prefix_stops [] behind e = absurd cc
prefix_stops (b ∷ rest) behind e = one (is_blank b) refl
  where
    one : (t : Bool) → is_blank b ≡ t → prefix_len is_word_byte (b ∷ rest) ≡ 0
    one true blank = rw (blank_no_word b blank) refl
    one false blank =
        let is : b ≡ 40 = ap (λ (l : List ℕ). get_or l 0 0) (sym (past_other b rest blank) ∙ e) in
        let no_word : is_word_byte b ≡ false = ap is_word_byte is in
        rw no_word refl

prefix_all : (p : ℕ → Bool) (xs ys : List ℕ) → list_all p xs ≡ true → prefix_len p ys ≡ 0 → prefix_len p (xs ++ ys) ≡ length xs
prefix_all p [] ys all none = none
prefix_all p (x ∷ xs) ys all none = rw (and_left (p x) (list_all p xs) all, prefix_all p xs ys (and_right (p x) (list_all p xs) all) none) (omega arith)

-- ---- the name of a line

abbrev word_of : List ℕ → ℕ
word_of line = prefix_len is_word_byte (past_blanks line)

-- a line's name, and what follows it
pub record NameParts (line name behind rest : List ℕ) : Type 0 where
  pub name_ : name ≡ take (word_of line) (past_blanks line)
  pub rest_ : rest ≡ drop (word_of line) (past_blanks line)
  pub behind_ : behind ≡ drop 1 (past_blanks rest)

pub name_parts : (line name behind : List ℕ) (has : HasName line name behind) → NameParts line name behind has.rest
name_parts line name behind has =
    let k : word_of line ≡ length name = ap (prefix_len is_word_byte) has.front ∙ prefix_all is_word_byte name has.rest (all_word name has.identifier) (prefix_stops has.rest behind has.open_) in
    record {
      name_ = sym (ap (λ (n : ℕ). take n (past_blanks line)) k ∙ ap (take (length name)) has.front ∙ take_at name has.rest (length name) refl);
      rest_ = sym (ap (λ (n : ℕ). drop n (past_blanks line)) k ∙ ap (drop (length name)) has.front ∙ drop_at name has.rest (length name) refl);
      behind_ = sym (ap (drop 1) has.open_);
    }

-- a line has one name
pub record SameName (n m b c : List ℕ) : Type 0 where
  pub name : n ≡ m
  pub behind : b ≡ c

pub same_name : (line n m b c : List ℕ) → HasName line n b → HasName line m c → SameName n m b c
same_name line n m b c one two =
    let p = name_parts line n b one in
    let q = name_parts line m c two in
    record { name = p.name_ ∙ sym q.name_; behind = p.behind_ ∙ ap (λ (l : List ℕ). drop 1 (past_blanks l)) (p.rest_ ∙ sym q.rest_) ∙ sym q.behind_ }

-- a line with a name isn't passed over
pub named_not_over : (line name behind : List ℕ) → HasName line name behind → IsPassedOver line → ⊥
named_not_over line name behind has over = never (over_is line over)
  where
    never : (past_blanks line ≡ []) ⊎ (past_blanks line ≡ 35 ∷ drop 1 (past_blanks line)) → ⊥
    never which =
        let s = name_start name has.identifier in
        let is : past_blanks line ≡ s.first ∷ (s.rest ++ has.rest) = has.front ∙ ap (λ (l : List ℕ). l ++ has.rest) s.is in
        elim which [
          | inl e ↦ let none : [] ≡ s.first ∷ (s.rest ++ has.rest) = sym e ∙ is in absurd cc
          | inr e ↦ start_no_mark s.first s.start (ap (λ (l : List ℕ). get_or l 0 0) (sym is ∙ e))
        ]

-- ---- what spells an item

pub record NamedValues (line name : List ℕ) (values : List Value) : Type 0 where
  pub behind : List ℕ
  pub has : HasName line name behind
  pub close : Close values behind

pub spelled_named : (line name : List ℕ) (values : List Value) → SpellsItem line name values → NamedValues line name values
spelled_named line name values spelled =
    let s = name_start name spelled.identifier in
    let f = laid_front s.first s.rest (codes "(" ∷ closed_pieces spelled.spellings) line (start_no_blank s.first s.start)
    (subst (λ (p : List ℕ). AreLaid (p ∷ codes "(" ∷ closed_pieces spelled.spellings) line) s.is spelled.laid) in
    let g = laid_front 40 [] (closed_pieces spelled.spellings) f.rest refl f.laid in
    record {
      behind = g.rest;
      has = record { identifier = spelled.identifier; rest = f.rest; front = f.front ∙ ap (λ (p : List ℕ). p ++ f.rest) (sym s.is); open_ = g.front };
      close = laid_close spelled.spellings values g.rest spelled.each g.laid;
    }

pub named_spelled : (line name behind : List ℕ) (values : List Value) → HasName line name behind → Close values behind → SpellsItem line name values
named_spelled line name behind values has close =
    let s = close_laid values behind close in
    record {
      identifier = has.identifier;
      spellings = s.spellings;
      each = s.each;
      laid = front_laid name (codes "(" ∷ closed_pieces s.spellings) line has.rest has.front (front_laid (codes "(") (closed_pieces s.spellings) has.rest behind has.open_ s.laid);
    }

-- ---- where there is no name

pub no_open : (line text back rest : List ℕ) (k : ℕ) → text ≡ past_blanks line → k ≡ prefix_len is_word_byte text → back ≡ drop k text → rest ≡ past_blanks back
    → ((behind : List ℕ) → rest ≡ 40 ∷ behind → ⊥) → (name behind : List ℕ) → HasName line name behind → ⊥
no_open line text back rest k same is cut skipped none name behind has =
    let p = name_parts line name behind has in
    let at : back ≡ has.rest = cut ∙ ap (λ (n : ℕ). drop n text) is ∙ ap (λ (l : List ℕ). drop (prefix_len is_word_byte l) l) same ∙ sym p.rest_ in
    none behind (skipped ∙ ap past_blanks at ∙ has.open_)

pub no_identifier : (line text front : List ℕ) (k : ℕ) → text ≡ past_blanks line → k ≡ prefix_len is_word_byte text → front ≡ take k text
    → (IsIdentifier front → ⊥) → (name behind : List ℕ) → HasName line name behind → ⊥
no_identifier line text front k same is cut none name behind has =
    let p = name_parts line name behind has in
    let at : front ≡ name = cut ∙ ap (λ (n : ℕ). take n text) is ∙ ap (λ (l : List ℕ). take (prefix_len is_word_byte l) l) same ∙ sym p.name_ in
    none (subst IsIdentifier (sym at) has.identifier)
