-- What the reading of a text in quotes says of values, and of texts of another length.
use Rattle.std.proofs.Common.{◌≡◌, inl, inr, ℕ, ◌+◌, ◌≤◌, List, [], ◌∷◌, ◌++◌, length, take, drop, slice_get, Some, None, Ok, Err, Vec, refl, sym, ap, ◌∙◌, arith, subst, append_assoc}
use Rattle.std.specs.List.{concat}
use Rattle.std.proofs.lemmas.List.{length-append, append-nil, take-append-drop, length-take-le, drop_more, drop_all}
use Rattle.flux_values.specs.declared.values.Value.TheVariants as values
use Rattle.flux_values.specs.declared.failures.ValueFault.{ValueFault}
use Rattle.flux_values.specs.declared.failures.ValueFault.TheVariants as faults
use Rattle.flux_values.specs.declared.texts.TheConstants.{TEXT_LIMIT}
use Rattle.flux_values.specs.Spellings.{SpellEach, BeginsText, IsLongest, IsTooLong, IsBadValue, HasCause, IsTextRead}
use Rattle.flux_spelling.specs.steps.Pieces.{piece_of}
use Rattle.flux_spelling.specs.steps.Literals.{IsClosed, IsFull, IsStuck, IsLiteralFault, IsLiteralRead}
use Rattle.flux_spelling.proofs.Opened.{no_quote, goes_on}
use Rattle.flux_spelling.proofs.TextsRead.{text_read, text_stuck, text_ends, front_is, full_is, stuck_is, not_quote}

-- ---- as a value

pub literal_read : (bytes t : List ℕ) (n : ℕ) → IsClosed bytes TEXT_LIMIT t n → IsLongest bytes (values.Text t) n
literal_read bytes t n c = let o = c.open_ in subst (IsLongest bytes (values.Text t)) (sym c.long) (text_read bytes t c.at o.opens o.each o.few c.within c.quote)

pub literal_full : (bytes : List ℕ) (at : ℕ) → IsFull bytes TEXT_LIMIT at → IsTooLong bytes at
literal_full bytes at f = let o = f.open_ in record { text = f.text; opens = o.opens; full = f.full; within = f.within; other = f.other }

pub literal_stuck : (bytes : List ℕ) (place : ℕ) → IsStuck bytes TEXT_LIMIT place → IsBadValue bytes place
literal_stuck bytes place s =
    let o = s.open_ in
    subst (IsBadValue bytes) (sym s.is) (elim s.stuck [
      | inl stop ↦ text_stuck bytes s.text s.at s.after o.opens o.each stop.room o.within stop.other stop.stops
      | inr end ↦ subst (IsBadValue bytes) (omega (arith, end.1)) (text_ends bytes s.text s.at o.opens o.each o.few end.0)
    ])

pub literal_fault : (bytes : List ℕ) (fault : ValueFault) → IsLiteralFault bytes TEXT_LIMIT fault → HasCause (Err fault) bytes
literal_fault bytes (faults.TooLong at) read = literal_full bytes at read
literal_fault bytes (faults.BadValue at) read = literal_stuck bytes at read
literal_fault bytes faults.Memory read = tt

-- ---- as a text of at most so many bytes

-- the parts of a spelling at the front
record Parts (x t : List ℕ) (limit n : ℕ) : Type 0 where
  parts : List (List ℕ)
  rest : List ℕ
  each : SpellEach parts t
  few : length t ≤ limit
  laid : x ≡ concat parts ++ 34 ∷ rest
  long : n ≡ length (concat parts) + 2

parts_of : (x t : List ℕ) (limit n : ℕ) → BeginsText (34 ∷ x) t limit n → Parts x t limit n
parts_of x t limit n begins =
    let form = begins.spells in
    let parts = form.opens.pieces in
    let is : begins.spelling ≡ 34 ∷ (concat parts ++ 34 ∷ []) = form.closed ∙ ap (λ (l : List ℕ). l ++ 34 ∷ []) form.opens.laid in
    record {
      parts = parts;
      rest = begins.rest;
      each = form.opens.each;
      few = begins.few;
      laid = ap (drop 1) (begins.front ∙ ap (λ (l : List ℕ). l ++ begins.rest) is) ∙ append_assoc (concat parts) (34 ∷ []) begins.rest;
      long = begins.long ∙ ap length is ∙ omega (arith, length-append (concat parts) (34 ∷ []));
    }

-- a text begins with its quote
pub text_quote : (bytes t : List ℕ) (limit n : ℕ) → BeginsText bytes t limit n → bytes ≡ 34 ∷ drop 1 bytes
text_quote bytes t limit n begins =
    let form = begins.spells in
    let is : bytes ≡ 34 ∷ ((concat form.opens.pieces ++ 34 ∷ []) ++ begins.rest) = begins.front ∙ ap (λ (l : List ℕ). l ++ begins.rest) (form.closed ∙ ap (λ (l : List ℕ). l ++ 34 ∷ []) form.opens.laid) in
    is ∙ ap (λ (l : List ℕ). 34 ∷ l) (sym (ap (drop 1) is))

text_closed : (bytes t : List ℕ) (limit n : ℕ) → IsClosed bytes limit t n → BeginsText bytes t limit n
text_closed bytes t limit n c =
    let o = c.open_ in
    let at = c.at in
    let left : drop at bytes ≡ 34 ∷ drop (at + 1) bytes = drop_more bytes at 0 c.within ∙ ap (λ (b : ℕ). b ∷ drop (at + 1) bytes) c.quote in
    record {
      spelling = take at bytes ++ 34 ∷ [];
      rest = drop (at + 1) bytes;
      each = o.each;
      few = o.few;
      spells = record { opened = take at bytes; opens = o.opens; closed = refl };
      front = sym (take-append-drop at bytes) ∙ ap (λ (l : List ℕ). take at bytes ++ l) left ∙ sym (append_assoc (take at bytes) (34 ∷ []) (drop (at + 1) bytes));
      long = omega (arith, c.long, length-append (take at bytes) (34 ∷ []), length-take-le at bytes o.within);
    }

full_none : (bytes : List ℕ) (limit at : ℕ) → IsFull bytes limit at → (u : List ℕ) (n : ℕ) → BeginsText bytes u limit n → ⊥
full_none bytes limit at f u n begins =
    let o = f.open_ in
    let x = drop at bytes in
    let ps = o.opens.pieces in
    let p = parts_of (concat ps ++ x) u limit n (subst (λ (l : List ℕ). BeginsText l u limit n) (front_is bytes f.text at o.opens) begins) in
    let on = goes_on ps p.parts f.text u x p.rest o.opens.each p.each p.laid in
    full_is limit f.text u x p.rest (omega (arith, f.full)) p.few (not_quote bytes at f.within f.other) on.more on.text on.each on.whole on.rest

stuck_none : (bytes : List ℕ) (limit place : ℕ) → IsStuck bytes limit place → (u : List ℕ) (n : ℕ) → BeginsText bytes u limit n → ⊥
stuck_none bytes limit place s u n begins =
    let o = s.open_ in
    let x = drop s.at bytes in
    let ps = o.opens.pieces in
    let p = parts_of (concat ps ++ x) u limit n (subst (λ (l : List ℕ). BeginsText l u limit n) (front_is bytes s.text s.at o.opens) begins) in
    let on = goes_on ps p.parts s.text u x p.rest o.opens.each p.each p.laid in
    elim s.stuck [
      | inl stop ↦ stuck_is x p.rest s.after stop.stops stop.other on.more on.text on.each on.rest
      | inr end ↦
          let none : x ≡ [] = drop_all s.at bytes (omega (arith, end.0)) in
          stuck_is x p.rest 0 (ap piece_of none) (λ z is. let e : [] ≡ 34 ∷ z = sym none ∙ is in absurd cc) on.more on.text on.each on.rest
    ]

pub text_ok : {A : Type 0} (bytes : List ℕ) (limit n : ℕ) (v : Vec ℕ A) → IsLiteralRead bytes limit (Ok (v, n)) → BeginsText bytes v.items limit n
text_ok bytes limit n v c = text_closed bytes v.items limit n c

pub text_bad : (bytes : List ℕ) (limit at : ℕ) → IsStuck bytes limit at → IsTextRead bytes limit None
text_bad bytes limit at s = stuck_none bytes limit at s

pub text_long : (bytes : List ℕ) (limit at : ℕ) → IsFull bytes limit at → IsTextRead bytes limit None
text_long bytes limit at f = full_none bytes limit at f

no_first : (bytes t : List ℕ) (limit n : ℕ) → (slice_get bytes 0 ≡ Some 34 → ⊥) → BeginsText bytes t limit n → ⊥
no_first [] t limit n other begins = let e = text_quote [] t limit n begins in absurd cc
no_first (b ∷ x) t limit n other begins = other (ap (λ (l : List ℕ). slice_get l 0) (text_quote (b ∷ x) t limit n begins))

pub text_none : (bytes : List ℕ) (limit : ℕ) → (slice_get bytes 0 ≡ Some 34 → ⊥) → IsTextRead bytes limit None
text_none bytes limit other = λ t n begins. no_first bytes t limit n other begins

pub quote_is : (bytes : List ℕ) → slice_get bytes 0 ≡ Some 34 → bytes ≡ 34 ∷ drop 1 bytes
quote_is [] is = absurd cc
quote_is (b ∷ x) is = let e : b ≡ 34 = cc in ap (λ (c : ℕ). c ∷ x) e

-- ---- one text begins bytes

pub record OneText (t u : List ℕ) (n m : ℕ) : Type 0 where
  pub text : t ≡ u
  pub long : n ≡ m

closed_one : (x y t u z rest : List ℕ) (n m : ℕ) → x ++ 34 ∷ z ≡ y ++ 34 ∷ rest → n ≡ length x + 2 → m ≡ length y + 2
    → (more : List (List ℕ)) (text : List ℕ) → SpellEach more text → u ≡ t ++ text → 34 ∷ z ≡ concat more ++ 34 ∷ rest → OneText t u n m
closed_one x y t u z rest n m laid first second [] [] each whole left =
    record {
      text = sym (whole ∙ append-nil t);
      long = omega (arith, first, second, sym (length-append x (34 ∷ z)) ∙ ap length laid ∙ length-append y (34 ∷ rest), ap length left);
    }
closed_one x y t u z rest n m laid first second [] (b ∷ text) each whole left = absurd each
closed_one x y t u z rest n m laid first second (q ∷ more) [] each whole left = absurd each
closed_one x y t u z rest n m laid first second (q ∷ more) (b ∷ text) each whole left = absurd (no_quote q (concat more ++ 34 ∷ rest) z b each.0 (left ∙ append_assoc q (concat more) (34 ∷ rest)))

pub one_text : (bytes t u : List ℕ) (limit n m : ℕ) → BeginsText bytes t limit n → BeginsText bytes u limit m → OneText t u n m
one_text bytes t u limit n m one two =
    let is = text_quote bytes t limit n one in
    let p = parts_of (drop 1 bytes) t limit n (subst (λ (l : List ℕ). BeginsText l t limit n) is one) in
    let q = parts_of (drop 1 bytes) u limit m (subst (λ (l : List ℕ). BeginsText l u limit m) is two) in
    let laid : concat p.parts ++ 34 ∷ p.rest ≡ concat q.parts ++ 34 ∷ q.rest = sym p.laid ∙ q.laid in
    let on = goes_on p.parts q.parts t u (34 ∷ p.rest) q.rest p.each q.each laid in
    closed_one (concat p.parts) (concat q.parts) t u p.rest q.rest n m laid p.long q.long on.more on.text on.each on.whole on.rest
