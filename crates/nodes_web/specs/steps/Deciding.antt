-- Whether a request head begins a text: each piece of the grammar is decided in turn.
use Rattle.std.proofs.Common.{◌≡◌, ℕ, zero, suc, ◌<◌, ◌≤◌, Bool, true, false, List, [], ◌∷◌, ◌++◌, length, refl, sym, ap, ◌∙◌, subst, arith, append_assoc, append-nil, length-append, inl, inr, flat_map}
use Rattle.std.specs.Prelude.{◌⊎◌}
use Rattle.std.specs.Str.{is_utf8}
use Rattle.std.proofs.lemmas.Bool.{cases_eq, cases_Bool, cases_lt, both_ways}
use Rattle.std.proofs.lemmas.List.Elements.{All-nil, All-cons, All-head, All-tail}
use Rattle.std.proofs.lemmas.Str.{IsUtf8-from_is_utf8, is_utf8-from_IsUtf8}
use Rattle.httparse.specs.Grammar.{is_token_byte, is_uri_byte, is_value_byte, AllPass, LineEnd, crlf, lf, print_end, print_blank, print_version, Field, print_field, IsField, RequestHead, ReadsRequest}
use Rattle.httparse.specs.Pieces.{Piece, Begins, Then, Stops, is_newline, Newline, Blank, Word, Method, Target, Version, Text, FieldLine, Section, RequestStart}
use Rattle.httparse.proofs.PieceLemmas.{IsDeterministic, Word_deterministic, Method_deterministic, Target_deterministic, Version_deterministic, Blank_deterministic, Name_deterministic, RequestStart_deterministic, space_ends_token, colon_ends_token, print_end_unique, newline_not_stopped, Stops_value, FieldLine_parts, Section_skip, Section_line}
use Rattle.httparse.proofs.ReadLemmas.{FieldLine_done}
use Rattle.httparse.proofs.GrammarLemmas.{request_tree, request_head, request_pieces, request_from_pieces, request_unique}
use Rattle.nodes_web.specs.declared.requests.TheConstants.{FIELD_LIMIT}
use Rattle.nodes_web.specs.Heads.{Front, headed, headless}

-- a piece begins a text, or it doesn't
abbrev Decided : {A : Type 0} → Piece A → List ℕ → Type 0
Decided G text = Begins G text ⊎ (¬ (Begins G text))

-- one piece and then another
decide_then : {A B : Type 0} (G : Piece A) (H : Piece B) → IsDeterministic G → ((text : List ℕ) → Decided G text)
    → ((text : List ℕ) → Decided H text) → (text : List ℕ) → Decided (Then G H) text
decide_then G H det first second text =
    elim (first text) [
      | inr none ↦ inr (λ b. none (b.0.0, b.2.0, b.2.1))
      | inl x ↦ elim (second x.1) [
        | inl y ↦ inl ((x.0, y.0), y.1, (x.1, x.2, y.2))
        | inr none ↦ inr (λ b.
            let same = det.unique x.0 b.0.0 text x.1 b.2.0 x.2 b.2.1 in
            none (b.0.1, b.1, subst (λ (m : List ℕ). H b.0.1 m b.1) (sym same.1) b.2.2))
      ]
    ]

-- ---- bytes and line ends

abbrev IsFront : List ℕ → List ℕ → Type 0
IsFront front text = (rest : List ℕ) × (text ≡ front ++ rest)

decide_front : (front text : List ℕ) → IsFront front text ⊎ (¬ (IsFront front text))
decide_front [] text = inl (text, refl)
decide_front (x ∷ front) [] = inr (λ r. let e : [] ≡ x ∷ (front ++ r.0) = r.1 in cc)
decide_front (x ∷ front) (b ∷ text) =
    elim (cases_eq b x) [
      | inr other ↦ inr (λ r. let e : b ∷ text ≡ x ∷ (front ++ r.0) = r.1 in other cc)
      | inl same ↦ elim (decide_front front text) [
        | inl r ↦ inl (r.0, λ i. same i ∷ r.1 i)
        | inr none ↦ inr (λ r. let e : b ∷ text ≡ x ∷ (front ++ r.0) = r.1 in none (r.0, cc))
      ]
    ]

decide_newline : (text : List ℕ) → Decided Newline text
decide_newline text =
    elim (decide_front (print_end crlf) text) [
      | inl r ↦ inl (crlf, r.0, r.1)
      | inr not_crlf ↦ elim (decide_front (print_end lf) text) [
        | inl r ↦ inl (lf, r.0, r.1)
        | inr not_lf ↦ inr (λ b. neither not_crlf not_lf b.0 b.1 b.2)
      ]
    ]
  where
    neither : ¬ (IsFront (print_end crlf) text) → ¬ (IsFront (print_end lf) text) → (end : LineEnd) (rest : List ℕ) → text ≡ print_end end ++ rest → ⊥
    neither not_crlf not_lf crlf rest e = not_crlf (rest, e)
    neither not_crlf not_lf lf rest e = not_lf (rest, e)

decide_version : (text : List ℕ) → Decided Version text
decide_version text =
    elim (decide_front (print_version 0) text) [
      | inl r ↦ inl (0, r.0, (omega arith, r.1))
      | inr not_0 ↦ elim (decide_front (print_version 1) text) [
        | inl r ↦ inl (1, r.0, (omega arith, r.1))
        | inr not_1 ↦ inr (λ b. neither not_0 not_1 b.0 b.1 b.2)
      ]
    ]
  where
    neither : ¬ (IsFront (print_version 0) text) → ¬ (IsFront (print_version 1) text) → (minor : ℕ) (rest : List ℕ) → Version minor text rest → ⊥
    neither not_0 not_1 minor rest v =
        elim (cases_eq minor 0) [
          | inl e ↦ not_0 (rest, subst (λ (m : ℕ). text ≡ print_version m ++ rest) e v.1)
          | inr some ↦
              let is : minor ≡ 1 = omega (arith, v.0) in
              not_1 (rest, subst (λ (m : ℕ). text ≡ print_version m ++ rest) is v.1)
        ]

-- ---- words

-- bytes that pass a test, and then the byte that stops them
abbrev Stopped : (ℕ → Bool) → ℕ → Piece (List ℕ)
Stopped test stop word text rest = AllPass test word × (text ≡ word ++ stop ∷ rest)

stopped_more : (test : ℕ → Bool) (stop b : ℕ) (text : List ℕ) → Decided (Stopped test stop) text → Decided (Stopped test stop) (b ∷ text)
stopped_more test stop b text later =
    elim (cases_eq b stop) [
      | inl e ↦ inl ([], text, (All-nil (λ v. test v ≡ true), λ i. e i ∷ text))
      | inr other ↦ elim (cases_Bool (test b)) [
        | inl passes ↦ elim later [
          | inl x ↦ inl (b ∷ x.0, x.1, (All-cons (λ v. test v ≡ true) b x.0 passes x.2.0, ap (λ (t : List ℕ). b ∷ t) x.2.1))
          | inr none ↦ inr (λ w. not_later other none w.0 w.1 w.2)
        ]
        | inr fails ↦ inr (λ w. not_now other fails w.0 w.1 w.2)
      ]
    ]
  where
    not_later : (b ≡ stop → ⊥) → ¬ (Begins (Stopped test stop) text) → (w rest : List ℕ) → Stopped test stop w (b ∷ text) rest → ⊥
    not_later other none [] rest x = let e : b ∷ text ≡ stop ∷ rest = x.1 in other cc
    not_later other none (y ∷ w) rest x =
        let e : b ∷ text ≡ y ∷ (w ++ stop ∷ rest) = x.1 in
        none (w, rest, (All-tail (λ v. test v ≡ true) y w x.0, cc))

    not_now : (b ≡ stop → ⊥) → test b ≡ false → (w rest : List ℕ) → Stopped test stop w (b ∷ text) rest → ⊥
    not_now other fails [] rest x = let e : b ∷ text ≡ stop ∷ rest = x.1 in other cc
    not_now other fails (y ∷ w) rest x =
        let e : b ∷ text ≡ y ∷ (w ++ stop ∷ rest) = x.1 in
        let first : y ≡ b = cc in
        both_ways (test b) fails (subst (λ (v : ℕ). test v ≡ true) first (All-head (λ v. test v ≡ true) y w x.0))

decide_stopped : (test : ℕ → Bool) (stop : ℕ) (text : List ℕ) → Decided (Stopped test stop) text
decide_stopped test stop [] = inr (λ w. omega (arith, ap length w.2.1, length-append w.0 (stop ∷ w.1)))
decide_stopped test stop (b ∷ text) = stopped_more test stop b text (decide_stopped test stop text)

decide_word : (test : ℕ → Bool) (stop : ℕ) → test stop ≡ false → (text : List ℕ) → Decided (Word test stop) text
decide_word test stop fails text =
    elim (decide_stopped test stop text) [
      | inr none ↦ inr (λ w. none (w.0, w.1, (w.2.1, w.2.2)))
      | inl x ↦ some x.0 x.1 x.2
    ]
  where
    not_empty : (rest w after : List ℕ) → text ≡ stop ∷ rest → 0 < length w → AllPass test w → text ≡ w ++ stop ∷ after → ⊥
    not_empty rest [] after e long all same = omega arith
    not_empty rest (y ∷ w) after e long all same =
        let begins : stop ∷ rest ≡ y ∷ (w ++ stop ∷ after) = sym e ∙ same in
        let first : y ≡ stop = cc in
        both_ways (test stop) fails (subst (λ (v : ℕ). test v ≡ true) first (All-head (λ v. test v ≡ true) y w all))

    some : (word rest : List ℕ) → Stopped test stop word text rest → Decided (Word test stop) text
    some [] rest x = inr (λ w. not_empty rest w.0 w.1 x.1 w.2.0 w.2.1 w.2.2)
    some (y ∷ word) rest x = inl (y ∷ word, rest, (omega arith, x.0, x.1))

decide_target : (text : List ℕ) → Decided Target text
decide_target text =
    elim (decide_word is_uri_byte 32 refl text) [
      | inr none ↦ inr (λ t. none (t.0, t.1, t.2.0))
      | inl x ↦ elim (cases_Bool (is_utf8 x.0)) [
        | inl is ↦ inl (x.0, x.1, (x.2, IsUtf8-from_is_utf8 x.0 is))
        | inr not_ ↦ inr (λ t.
            let same = (Word_deterministic is_uri_byte 32 refl).unique t.0 x.0 text t.1 x.1 t.2.0 x.2 in
            both_ways (is_utf8 x.0) not_ (subst (λ (w : List ℕ). is_utf8 w ≡ true) same.0 (is_utf8-from_IsUtf8 t.0 t.2.1)))
      ]
    ]

-- ---- lines

value_more : (b : ℕ) (text : List ℕ) → Decided Text text → Decided Text (b ∷ text)
value_more b text later =
    elim (cases_Bool (is_value_byte b)) [
      | inl passes ↦ elim later [
        | inl x ↦ inl ((b ∷ x.0.0, x.0.1), x.1, (All-cons (λ v. is_value_byte v ≡ true) b x.0.0 passes x.2.0, ap (λ (t : List ℕ). b ∷ t) x.2.1))
        | inr none ↦ inr (λ t. not_later passes none t.0.0 t.0.1 t.1 t.2)
      ]
      | inr fails ↦ elim (decide_newline (b ∷ text)) [
        | inl x ↦ inl (([], x.0), x.1, (All-nil (λ v. is_value_byte v ≡ true), x.2))
        | inr none ↦ inr (λ t. not_now fails none t.0.0 t.0.1 t.1 t.2)
      ]
    ]
  where
    not_later : is_value_byte b ≡ true → ¬ (Begins Text text) → (w : List ℕ) (end : LineEnd) (rest : List ℕ) → Text (w, end) (b ∷ text) rest → ⊥
    not_later passes none [] end rest x = both_ways (is_value_byte b) (subst (Stops is_value_byte) (sym x.1) (Stops_value end rest)) passes
    not_later passes none (y ∷ w) end rest x =
        let e : b ∷ text ≡ y ∷ (w ++ (print_end end ++ rest)) = x.1 in
        none ((w, end), rest, (All-tail (λ v. is_value_byte v ≡ true) y w x.0, cc))

    not_now : is_value_byte b ≡ false → ¬ (Begins Newline (b ∷ text)) → (w : List ℕ) (end : LineEnd) (rest : List ℕ) → Text (w, end) (b ∷ text) rest → ⊥
    not_now fails none [] end rest x = none (end, rest, x.1)
    not_now fails none (y ∷ w) end rest x =
        let e : b ∷ text ≡ y ∷ (w ++ (print_end end ++ rest)) = x.1 in
        let first : y ≡ b = cc in
        both_ways (is_value_byte b) fails (subst (λ (v : ℕ). is_value_byte v ≡ true) first (All-head (λ v. is_value_byte v ≡ true) y w x.0))

length-print_end : (end : LineEnd) → 0 < length (print_end end)
length-print_end crlf = omega arith
length-print_end lf = omega arith

decide_text : (text : List ℕ) → Decided Text text
decide_text [] = inr (λ t. omega (arith, ap length t.2.1, length-append t.0.0 (print_end t.0.1 ++ t.1), length-append (print_end t.0.1) t.1, length-print_end t.0.1))
decide_text (b ∷ text) = value_more b text (decide_text text)

decide_field : (text : List ℕ) → Decided FieldLine text
decide_field text =
    elim (decide_then (Word is_token_byte 58) Text Name_deterministic (decide_word is_token_byte 58 colon_ends_token) decide_text text) [
      | inl x ↦ inl (record { name = x.0.0; raw = x.0.1.0; end = x.0.1.1 }, x.1, FieldLine_done x.0.0 x.0.1.0 x.0.1.1 text x.2.0 x.1 x.2.1 x.2.2)
      | inr none ↦ inr (λ f. none ((f.0.name, (f.0.raw, f.0.end)), f.1, FieldLine_parts f.0 text f.1 f.2))
    ]

-- ---- empty lines, and the fields

-- what a longer text needs of the shorter ones
abbrev Shorter : {A : Type 0} → Piece A → List ℕ → Type 0
Shorter G text = (rest : List ℕ) → length rest < length text → Decided G rest

newline_shorter : (end : LineEnd) (text rest : List ℕ) → Newline end text rest → length rest < length text
newline_shorter end text rest e = omega (arith, ap length e, length-append (print_end end) rest, length-print_end end)

blank_stopped : (text : List ℕ) → ¬ (Begins Newline text) → Decided Blank text
blank_stopped [] none = inr (λ k. nothing k.0 k.1 k.2)
  where
    nothing : (ends : List LineEnd) (rest : List ℕ) → Blank ends [] rest → ⊥
    nothing [] rest k = subst (Stops is_newline) (sym k.0) k.1
    nothing (end ∷ ends) rest k = none (end, _, k.0 ∙ append_assoc (print_end end) (print_blank ends) rest)
blank_stopped (b ∷ text) none =
    elim (cases_Bool (is_newline b)) [
      | inr fails ↦ inl ([], b ∷ text, (refl, fails))
      | inl is ↦ inr (λ k. nothing is k.0 k.1 k.2)
    ]
  where
    nothing : is_newline b ≡ true → (ends : List LineEnd) (rest : List ℕ) → Blank ends (b ∷ text) rest → ⊥
    nothing is [] rest k = both_ways (is_newline b) (subst (Stops is_newline) (sym k.0) k.1) is
    nothing is (end ∷ ends) rest k = none (end, _, k.0 ∙ append_assoc (print_end end) (print_blank ends) rest)

blank_more : (text : List ℕ) → Shorter Blank text → Decided Blank text
blank_more text later =
    elim (decide_newline text) [
      | inr none ↦ blank_stopped text none
      | inl x ↦ elim (later x.1 (newline_shorter x.0 text x.1 x.2)) [
        | inl k ↦ inl (x.0 ∷ k.0, k.1, (x.2 ∙ ap (λ (t : List ℕ). print_end x.0 ++ t) k.2.0 ∙ sym (append_assoc (print_end x.0) (print_blank k.0) k.1), k.2.1))
        | inr none ↦ inr (λ k. not_later x.0 x.1 x.2 none k.0 k.1 k.2)
      ]
    ]
  where
    not_later : (end : LineEnd) (after : List ℕ) → Newline end text after → ¬ (Begins Blank after) → (ends : List LineEnd) (rest : List ℕ) → Blank ends text rest → ⊥
    not_later end after e none [] rest k = newline_not_stopped end after rest (sym e ∙ k.0) k.1
    not_later end after e none (other ∷ ends) rest k =
        let same = print_end_unique end other after _ (sym e ∙ k.0 ∙ append_assoc (print_end other) (print_blank ends) rest) in
        none (ends, rest, (same.1, k.1))

decide_blank : (fuel : ℕ) (text : List ℕ) → length text ≤ fuel → Decided Blank text
decide_blank zero text fits = blank_more text (λ rest lt. absurd (omega arith))
decide_blank (suc fuel) text fits = blank_more text (λ rest lt. decide_blank fuel rest (omega arith))

field_shorter : (f : Field) (text rest : List ℕ) → FieldLine f text rest → length rest < length text
field_shorter f text rest x =
    omega (arith, ap length x.1, length-append (print_field f) rest, length-append (f.name ++ 58 ∷ f.raw) (print_end f.end), length-append f.name (58 ∷ f.raw))

regroup : (a b c d : List ℕ) → a ++ ((b ++ c) ++ d) ≡ ((a ++ b) ++ c) ++ d
regroup a b c d = simp append_assoc

section_more : (text : List ℕ) → Shorter Section text → Decided Section text
section_more text later =
    elim (decide_newline text) [
      | inl x ↦ inl (([], x.0), x.1, (All-nil IsField, x.2))
      | inr no_end ↦ elim (decide_field text) [
        | inr no_field ↦ inr (λ s. elim (Section_line s.0 text s.1 s.2) [ inl x ↦ no_end x | inr x ↦ no_field x ])
        | inl f ↦ elim (later f.1 (field_shorter f.0 text f.1 f.2)) [
          | inl s ↦ inl ((f.0 ∷ s.0.0, s.0.1), s.1, (All-cons IsField f.0 s.0.0 f.2.0 s.2.0, joined f.0 s.0.0 s.0.1 f.1 s.1 f.2.1 s.2.1))
          | inr none ↦ inr (λ s.
              let rest = Section_skip (f.0 ∷ []) s.0.0 s.0.1 text f.1 s.1 (All-cons IsField f.0 [] f.2.0 (All-nil IsField), f.2.1 ∙ ap (λ (t : List ℕ). t ++ f.1) (sym (append-nil (print_field f.0)))) s.2 in
              none ((rest.0, s.0.1), s.1, rest.2))
        ]
      ]
    ]
  where
    joined : (f : Field) (fs : List Field) (last : LineEnd) (middle rest : List ℕ) → text ≡ print_field f ++ middle → middle ≡ (flat_map print_field fs ++ print_end last) ++ rest
        → text ≡ ((print_field f ++ flat_map print_field fs) ++ print_end last) ++ rest
    joined f fs last middle rest first second = first ∙ ap (λ (t : List ℕ). print_field f ++ t) second ∙ regroup (print_field f) (flat_map print_field fs) (print_end last) rest

decide_section : (fuel : ℕ) (text : List ℕ) → length text ≤ fuel → Decided Section text
decide_section zero text fits = section_more text (λ rest lt. absurd (omega arith))
decide_section (suc fuel) text fits = section_more text (λ rest lt. decide_section fuel rest (omega arith))

-- ---- heads

decide_start : (text : List ℕ) → Decided RequestStart text
decide_start =
    decide_then Blank (Then Method (Then Target (Then Version Newline))) Blank_deterministic (λ text. decide_blank (length text) text (omega arith))
    (decide_then Method (Then Target (Then Version Newline)) Method_deterministic (decide_word is_token_byte 32 space_ends_token)
    (decide_then Target (Then Version Newline) Target_deterministic decide_target
    (decide_then Version Newline Version_deterministic decide_version decide_newline)))

-- the head at the front of a text, if it has one of at most 64 fields
pub front_of : (text : List ℕ) → Front text
front_of text =
    elim (decide_then RequestStart Section RequestStart_deterministic decide_start (λ t. decide_section (length t) t (omega arith)) text) [
      | inr none ↦ headless (λ head is. none (request_tree head, is.rest, request_pieces text head is.rest is.reads))
      | inl x ↦ limited (request_head x.0) x.1 (request_from_pieces text x.0 x.1 x.2)
    ]
  where
    limited : (head : RequestHead) (rest : List ℕ) → ReadsRequest text head rest → Front text
    limited head rest reads =
        elim (cases_lt FIELD_LIMIT (length head.fields)) [
          | inr few ↦ headed head (record { rest = rest; reads = reads; few = few })
          | inl many ↦ headless (λ other is.
              let same = request_unique text other head is.rest rest is.reads reads in
              let few = is.few in
              omega (arith, ap (λ (h : RequestHead). length h.fields) same.0))
        ]
