-- Lines and columns, byte by byte.
use Rattle.std.proofs.Common.{◌≡◌, ℕ, ◌+◌, ◌<◌, ◌≤◌, Bool, true, false, not, cond, eqb, List, [], ◌∷◌, ◌++◌, length, take, reverse, get_or, refl, sym, ap, ◌∙◌, arith}
use Rattle.std.specs.List.{filter, prefix_len}
use Rattle.std.proofs.lemmas.Bool.{ne_eqb}
use Rattle.std.proofs.lemmas.Bool.Decides.{nat_tests}
use Rattle.std.proofs.lemmas.List.{take_more, reverse-append, length-append}
use Rattle.std.proofs.lemmas.List.Elements.{filter-append}
use Rattle.flux_faults.specs.declared.faults.Place.{Place}
use Rattle.flux_faults.specs.Places.{line_of, column_of}
use Rattle.flux_faults.specs.steps.Places.{next_place}

-- so many bytes have been read
pub record Counted (line column i : ℕ) (text : List ℕ) : Type 0 where
  pub lines : line ≡ line_of text i
  pub columns : column ≡ column_of text i
  pub few : line ≤ i + 1
  pub short : column ≤ i + 1

-- before the first byte
pub counted_none : (text : List ℕ) → Counted 1 1 0 text
counted_none text = record { lines = refl; columns = refl; few = omega arith; short = omega arith }

lines_next : (before : List ℕ) (b : ℕ) → length (filter (λ c. eqb c 10) (before ++ b ∷ [])) ≡ length (filter (λ c. eqb c 10) before) + cond (eqb b 10) 1 0
lines_next before b =
    ap length (filter-append (λ c. eqb c 10) before (b ∷ [])) ∙ length-append (filter (λ c. eqb c 10) before) (filter (λ c. eqb c 10) (b ∷ []))
    ∙ ap (λ (n : ℕ). length (filter (λ c. eqb c 10) before) + n) (one b (eqb b 10) refl)
  where
    one : (b : ℕ) (t : Bool) → eqb b 10 ≡ t → length (filter (λ c. eqb c 10) (b ∷ [])) ≡ cond (eqb b 10) 1 0
    one b true e = rw e refl
    one b false e = rw e refl

columns_next : (before : List ℕ) (b : ℕ) → prefix_len (λ c. not (eqb c 10)) (reverse (before ++ b ∷ [])) ≡ cond (eqb b 10) 0 (1 + prefix_len (λ c. not (eqb c 10)) (reverse before))
columns_next before b = ap (prefix_len (λ c. not (eqb c 10))) (reverse-append before (b ∷ [])) ∙ one b (reverse before) (eqb b 10) refl
  where
    one : (b : ℕ) (bytes : List ℕ) (t : Bool) → eqb b 10 ≡ t → prefix_len (λ c. not (eqb c 10)) (b ∷ bytes) ≡ cond (eqb b 10) 0 (1 + prefix_len (λ c. not (eqb c 10)) bytes)
    one b bytes true e = rw e refl
    one b bytes false e = rw e refl

-- an LF has been read
pub counted_end : (text : List ℕ) (line column i : ℕ) → Counted line column i text → i < length text → get_or text i 0 ≡ 10 → Counted (line + 1) 1 (i + 1) text
counted_end text line column i c lt is =
    let e : eqb (get_or text i 0) 10 ≡ true = grind (arith, nat_tests) in
    let more = take_more text i 0 lt in
    record {
      lines = ap (λ (n : ℕ). n + 1) (c.lines ∙ sym (ap (λ (l : List ℕ). length (filter (λ c. eqb c 10) l)) more ∙ lines_next (take i text) (get_or text i 0) ∙ ap (λ (t : Bool). length (filter (λ c. eqb c 10) (take i text)) + cond t 1 0) e));
      columns = sym (ap (λ (l : List ℕ). prefix_len (λ c. not (eqb c 10)) (reverse l) + 1) more ∙ ap (λ (n : ℕ). n + 1) (columns_next (take i text) (get_or text i 0) ∙ ap (λ (t : Bool). cond t 0 (1 + prefix_len (λ c. not (eqb c 10)) (reverse (take i text)))) e));
      few = omega (arith, c.few);
      short = omega arith;
    }

-- another byte has been read
pub counted_byte : (text : List ℕ) (line column i : ℕ) → Counted line column i text → i < length text → (get_or text i 0 ≡ 10 → ⊥) → Counted line (column + 1) (i + 1) text
counted_byte text line column i c lt other =
    let e : eqb (get_or text i 0) 10 ≡ false = ne_eqb (get_or text i 0) 10 other in
    let more = take_more text i 0 lt in
    let n = prefix_len (λ c. not (eqb c 10)) (reverse (take i text)) in
    let columns : column_of text (i + 1) ≡ (1 + n) + 1 = ap (λ (l : List ℕ). prefix_len (λ c. not (eqb c 10)) (reverse l) + 1) more ∙ ap (λ (m : ℕ). m + 1) (columns_next (take i text) (get_or text i 0) ∙ ap (λ (t : Bool). cond t 0 (1 + n)) e) in
    let lines : length (filter (λ c. eqb c 10) (take (i + 1) text)) ≡ length (filter (λ c. eqb c 10) (take i text)) + 0 = ap (λ (l : List ℕ). length (filter (λ c. eqb c 10) l)) more ∙ lines_next (take i text) (get_or text i 0) ∙ ap (λ (t : Bool). length (filter (λ c. eqb c 10) (take i text)) + cond t 1 0) e in
    let before : column ≡ n + 1 = c.columns in
    record {
      lines = c.lines ∙ omega (arith, lines);
      columns = omega (arith, columns, before);
      few = omega (arith, c.few);
      short = omega (arith, c.short);
    }

chosen : (text : List ℕ) (place : Place) (i b : ℕ) (t : Bool) → eqb b 10 ≡ t → Counted place.line place.column i text → i < length text → b ≡ get_or text i 0 → Counted (next_place place b).line (next_place place b).column (i + 1) text
chosen text place i b true e c lt is = rw e (counted_end text place.line place.column i c lt (sym is ∙ grind (arith, nat_tests)))
chosen text place i b false e c lt is = rw e (counted_byte text place.line place.column i c lt (λ h. absurd (ten_is b (is ∙ h) e)))
  where
    ten_is : (b : ℕ) → b ≡ 10 → eqb b 10 ≡ false → ⊥
    ten_is b same e = absurd (grind (arith, nat_tests))

-- one byte more has been read
pub counted_next : (text : List ℕ) (place : Place) (i b : ℕ) → Counted place.line place.column i text → i < length text → b ≡ get_or text i 0 → Counted (next_place place b).line (next_place place b).column (i + 1) text
counted_next text place i b c lt is = chosen text place i b (eqb b 10) refl c lt is
