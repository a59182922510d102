-- Pieces with blanks between them: what is at the front, and the values of a line one after another.
use Rattle.std.proofs.Common.{◌≡◌, ◌⊎◌, inl, inr, ℕ, Bool, true, false, eqb, List, [], ◌∷◌, ◌++◌, length, drop, codes, refl, sym, ap, ◌∙◌, subst, arith}
use Rattle.std.specs.Char.{is_ascii_digit}
use Rattle.std.proofs.lemmas.Bool.Decides.{nat_tests}
use Rattle.std.proofs.lemmas.List.{append-nil, drop_at}
use Rattle.flux_values.specs.declared.values.Value.{Value}
use Rattle.flux_values.specs.declared.values.Value.TheVariants as values
use Rattle.flux_values.specs.Reading.{EndsBefore, NoDigitFirst}
use Rattle.flux_values.specs.Spellings.{Spells, BeginsSpelled}
use Rattle.flux_spelling.proofs.Fronts.{IsHead, begins_head, begins_none}
use Rattle.flux_items.specs.Lines.{is_blank, AreBlanks}
use Rattle.flux_items.specs.Spelled.{AreLaid, closed_pieces, SpellEach}
use Rattle.flux_items.specs.steps.Fronts.{past_blanks, Ends}
use Rattle.flux_items.specs.steps.Values.{IsValueThen, Follow, Close}
use Rattle.flux_items.proofs.Skipped.{and_left, blanked, past_front, past_other}

-- a piece comes after blanks, and the others after it
pub record Front (bytes piece : List ℕ) (pieces : List (List ℕ)) : Type 0 where
  pub rest : List ℕ
  pub front : past_blanks bytes ≡ piece ++ rest
  pub laid : AreLaid pieces rest

pub laid_front : (b : ℕ) (piece : List ℕ) (pieces : List (List ℕ)) (bytes : List ℕ) → is_blank b ≡ false → AreLaid ((b ∷ piece) ∷ pieces) bytes → Front bytes (b ∷ piece) pieces
laid_front b piece pieces bytes other laid = record {
  rest = laid.1;
  front = ap past_blanks laid.3 ∙ past_front laid.0 (b ∷ (piece ++ laid.1)) laid.2 ∙ past_other b (piece ++ laid.1) other;
  laid = laid.4;
}

pub front_laid : (piece : List ℕ) (pieces : List (List ℕ)) (bytes rest : List ℕ) → past_blanks bytes ≡ piece ++ rest → AreLaid pieces rest → AreLaid (piece ∷ pieces) bytes
front_laid piece pieces bytes rest e laid = let b = blanked bytes in (b.front, rest, b.blanks, b.laid ∙ ap (λ (l : List ℕ). b.front ++ l) e, laid)

-- no digit is before a piece that begins with none
blank_no_digit : (b : ℕ) → is_blank b ≡ true → is_ascii_digit b ≡ false
blank_no_digit b e = grind (arith, nat_tests)

front_no_digit : (blanks rest : List ℕ) (b : ℕ) → AreBlanks blanks → is_ascii_digit b ≡ false → NoDigitFirst (blanks ++ b ∷ rest)
front_no_digit [] rest b all other = other
front_no_digit (c ∷ blanks) rest b all other = blank_no_digit c (and_left (is_blank c) _ all)

laid_no_digit : (b : ℕ) (piece : List ℕ) (pieces : List (List ℕ)) (bytes : List ℕ) → is_ascii_digit b ≡ false → AreLaid ((b ∷ piece) ∷ pieces) bytes → NoDigitFirst bytes
laid_no_digit b piece pieces bytes other laid = subst NoDigitFirst (sym laid.3) (front_no_digit laid.0 (piece ++ laid.1) b laid.2 other)

ends_before : (v : Value) (rest : List ℕ) → NoDigitFirst rest → EndsBefore v rest
ends_before (values.Int z) rest free = free
ends_before (values.Bool b) rest free = tt
ends_before (values.Text t) rest free = tt

-- ---- the first byte of a spelling

pub record HasFirst (s : List ℕ) : Type 0 where
  pub first : ℕ
  pub rest : List ℕ
  pub is : s ≡ first ∷ rest
  pub blank : is_blank first ≡ false
  pub close : first ≡ 41 → ⊥

head_blank : (v : Value) (b : ℕ) → IsHead v b → is_blank b ≡ false
head_blank (values.Int z) b h = let (low, high, dot, slash) = h in grind (arith, nat_tests)
head_blank (values.Bool true) b h = rw h refl
head_blank (values.Bool false) b h = rw h refl
head_blank (values.Text t) b h = rw h refl

head_close : (v : Value) (b : ℕ) → IsHead v b → b ≡ 41 → ⊥
head_close (values.Int z) b h e = omega (arith, h.0, e)
head_close (values.Bool true) b h e = omega (arith, h, e)
head_close (values.Bool false) b h e = omega (arith, h, e)
head_close (values.Text t) b h e = omega (arith, h, e)

pub begins_first : (bytes : List ℕ) (v : Value) (n : ℕ) → BeginsSpelled bytes v n → HasFirst bytes
begins_first [] v n begins = absurd (begins_none v n begins)
begins_first (b ∷ bytes) v n begins =
    let h = begins_head b bytes v n begins in
    record { first = b; rest = bytes; is = refl; blank = head_blank v b h; close = head_close v b h }

spelled_alone : (s : List ℕ) (v : Value) → Spells s v → BeginsSpelled s v (length s)
spelled_alone s v spells = record { spelling = s; rest = []; spells = spells; ends = ends_before v [] tt; front = sym (append-nil s); long = refl }

pub spelled_first : (s : List ℕ) (v : Value) → Spells s v → HasFirst s
spelled_first s v spells = begins_first s v (length s) (spelled_alone s v spells)

-- ---- values one after another, as they are laid

-- a value's spelling at the front, where no digit comes after it
value_then : (s : List ℕ) (v : Value) (pieces : List (List ℕ)) (text : List ℕ) (Then : List ℕ → Type 0) → Spells s v → AreLaid (s ∷ pieces) text
    → ((rest : List ℕ) → AreLaid pieces rest → NoDigitFirst rest × Then (past_blanks rest)) → IsValueThen v text Then
value_then s v pieces text Then spells laid behind =
    let h = spelled_first s v spells in
    let f = laid_front h.first h.rest pieces text h.blank (subst (λ (p : List ℕ). AreLaid (p ∷ pieces) text) h.is laid) in
    let front : past_blanks text ≡ s ++ f.rest = f.front ∙ ap (λ (p : List ℕ). p ++ f.rest) (sym h.is) in
    let more = behind f.rest f.laid in
    record {
      n = length s;
      begins = record { spelling = s; rest = f.rest; spells = spells; ends = ends_before v f.rest more.0; front = front; long = refl };
      then_ = subst (λ (l : List ℕ). Then (past_blanks l)) (sym (ap (drop (length s)) front ∙ drop_at s f.rest (length s) refl)) more.1;
    }

ends_here : (text : List ℕ) → AreLaid (codes ")" ∷ []) text → Ends (past_blanks text)
ends_here text laid =
    let f = laid_front 41 [] [] text refl laid in
    record { closed = f.front ∙ sym (ap (λ (l : List ℕ). 41 ∷ drop 1 l) f.front); blanks = subst (λ (l : List ℕ). AreBlanks (drop 1 l)) (sym f.front) f.laid }

pub laid_close : (spellings : List (List ℕ)) (vs : List Value) (text : List ℕ) → SpellEach spellings vs → AreLaid (closed_pieces spellings) text → Close vs text
laid_close [] [] text each laid = ends_here text laid
laid_close [] (v ∷ vs) text each laid = absurd each
laid_close (s ∷ spellings) [] text each laid = absurd each
laid_close (s ∷ []) (v ∷ []) text each laid =
    value_then s v (codes ")" ∷ []) text Ends each.0 laid (λ rest more. (laid_no_digit 41 [] [] rest refl more, ends_here rest more))
laid_close (s ∷ []) (v ∷ w ∷ vs) text each laid = absurd each.1
laid_close (s ∷ t ∷ spellings) (v ∷ []) text each laid = absurd each.1
laid_close (s ∷ t ∷ spellings) (v ∷ w ∷ vs) text each laid =
    value_then s v (codes "," ∷ closed_pieces (t ∷ spellings)) text (Follow (w ∷ vs)) each.0 laid (λ rest more.
    let f = laid_front 44 [] (closed_pieces (t ∷ spellings)) rest refl more in
    let next : Close (w ∷ vs) f.rest = laid_close (t ∷ spellings) (w ∷ vs) f.rest each.1 f.laid in (
      laid_no_digit 44 [] (closed_pieces (t ∷ spellings)) rest refl more,
      (f.front ∙ sym (ap (λ (l : List ℕ). 44 ∷ drop 1 l) f.front), subst (λ (l : List ℕ). Close (w ∷ vs) (drop 1 l)) (sym f.front) next),
    ))

-- ---- and back

-- spellings of values, laid after `(`
pub record Spelling (vs : List Value) (text : List ℕ) : Type 0 where
  pub spellings : List (List ℕ)
  pub each : SpellEach spellings vs
  pub laid : AreLaid (closed_pieces spellings) text

laid_ends : (text : List ℕ) → Ends (past_blanks text) → AreLaid (codes ")" ∷ []) text
laid_ends text ends = front_laid (codes ")") [] text (drop 1 (past_blanks text)) ends.closed ends.blanks

then_front : (v : Value) (text : List ℕ) (Then : List ℕ → Type 0) (then_ : IsValueThen v text Then) → Then (past_blanks then_.begins.rest)
then_front v text Then then_ =
    let b = then_.begins in
    subst (λ (l : List ℕ). Then (past_blanks l)) (ap (λ (n : ℕ). drop n (past_blanks text)) b.long ∙ ap (drop (length b.spelling)) b.front ∙ drop_at b.spelling b.rest (length b.spelling) refl) then_.then_

pub close_laid : (vs : List Value) (text : List ℕ) → Close vs text → Spelling vs text
close_laid [] text ends = record { spellings = []; each = tt; laid = laid_ends text ends }
close_laid (v ∷ []) text then_ =
    let b = then_.begins in
    record {
      spellings = b.spelling ∷ [];
      each = (b.spells, tt);
      laid = front_laid b.spelling (codes ")" ∷ []) text b.rest b.front (laid_ends b.rest (then_front v text Ends then_));
    }
close_laid (v ∷ w ∷ vs) text then_ =
    let b = then_.begins in
    let comma = then_front v text (Follow (w ∷ vs)) then_ in
    let behind = drop 1 (past_blanks b.rest) in
    more (close_laid (w ∷ vs) behind comma.1)
  where
    more : Spelling (w ∷ vs) (drop 1 (past_blanks then_.begins.rest)) → Spelling (v ∷ w ∷ vs) text
    more next = with_first next.spellings next.each next.laid
      where
        with_first : (ts : List (List ℕ)) → SpellEach ts (w ∷ vs) → AreLaid (closed_pieces ts) (drop 1 (past_blanks then_.begins.rest)) → Spelling (v ∷ w ∷ vs) text
        with_first [] each laid = absurd each
        with_first (t ∷ ts) each laid =
            let b = then_.begins in
            let comma = then_front v text (Follow (w ∷ vs)) then_ in
            record {
              spellings = b.spelling ∷ t ∷ ts;
              each = (b.spells, each);
              laid = front_laid b.spelling (codes "," ∷ closed_pieces (t ∷ ts)) text b.rest b.front (front_laid (codes ",") (closed_pieces (t ∷ ts)) b.rest (drop 1 (past_blanks b.rest)) comma.0 laid);
            }
