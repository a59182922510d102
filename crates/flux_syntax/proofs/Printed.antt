-- Texts that are laid out in tokens from a place on, and what their symbols are.
use Rattle.std.proofs.Common.{◌≡◌, ◌≤◌, ◌+◌, ℕ, suc, Bool, true, false, if◌then◌else◌, ltb, ◌&&◌, List, [], ◌∷◌, ◌++◌, length, take, drop, codes, Option, Some, None, refl, sym, ap, subst, ◌∙◌, arith}
use Rattle.std.specs.List.{prefix_len, list_all}
use Rattle.std.proofs.Math.Seq.{take-append_seam, drop-append_seam}
use Rattle.std.specs.Str.{bytes_eq}
use Rattle.std.proofs.Math.Numerals.{one-add}
use Rattle.std.proofs.lemmas.Bool.{or_left, and_parts}
use Rattle.std.proofs.lemmas.Bool.Decides.{nat_tests}
use Rattle.flux_values.specs.declared.texts.TheConstants.{TEXT_LIMIT}
use Rattle.flux_lexer.specs.declared.kinds.TokenKind.{TokenKind}
use Rattle.flux_lexer.specs.declared.kinds.TokenKind.TheVariants.{Identifier, Number, Source, Typedef, Handle, Error, Atomic, Session, Wildcard, ThinArrow, Arrow}
use Rattle.flux_lexer.specs.declared.fronts.Front.TheVariants as fronts
use Rattle.flux_values.specs.Identifiers.{is_digit, is_word_start, is_word_byte, is_word}
use Rattle.flux_lexer.specs.Kinds.{is_number, word_kind, mark_kind, single, double, kind_of}
use Rattle.flux_lexer.specs.Pieces.{Piece, blank, remark, comment, token, is_blank}
use Rattle.flux_lexer.specs.Texts.{Part, Laid}
use Rattle.flux_lexer.specs.steps.Fronts.{limited, front_of}
use Rattle.flux_lexer.proofs.Seen.{Sees, sees, front_word, front_number}
use Rattle.flux_syntax.specs.Symbols.{Symbol, name, digits, mark, is, has_word}
use Rattle.flux_syntax.proofs.Spelled.{IsName, IsDigits}

-- the symbols of parts from a place on
abbrev pub seen_at : Piece → ℕ → ℕ → List ℕ → List Symbol
seen_at (token kind) at n text =
    (if is Identifier kind then name (record { text = take n text; at = at }) else if is Number kind then digits (record { text = take n text; at = at }) else mark kind) ∷ []
seen_at blank at n text = []
seen_at remark at n text = []
seen_at comment at n text = []

-- the symbols of parts, one after the other, from a place on
abbrev pub seen : ℕ → List Part → List ℕ → List Symbol
seen at [] text = []
seen at (part ∷ parts) text = seen_at part.piece at part.length text ++ seen (at + part.length) parts (drop part.length text)

-- a text from a place on is laid out to its end, with these symbols
pub record Lexes (at : ℕ) (text : List ℕ) (symbols : List Symbol) : Type 0 where
  pub parts : List Part
  pub laid : Laid parts [] text
  pub seen : seen at parts text ≡ symbols

-- wherever it is, a text has symbols of which R holds
abbrev pub Prints : (List Symbol → Type 0) → List ℕ → Type 0
Prints R text = (at : ℕ) → (s : List Symbol) × R s × Lexes at text s

-- what holds of the symbols holds of more
pub prints_as : {R Q : List Symbol → Type 0} {text : List ℕ} → ((s : List Symbol) → R s → Q s) → Prints R text → Prints Q text
prints_as weak p at = let (s, r, l) = p at in (s, weak s r, l)

-- at the end
pub prints_end : {R : List Symbol → Type 0} → R [] → Prints R []
prints_end r at = ([], r, record { parts = []; laid = refl; seen = refl })

-- a blank more in front
pub prints_blank : {R : List Symbol → Type 0} (b : ℕ) {rest : List ℕ} → is_blank b ≡ true → Prints R rest → Prints R (b ∷ rest)
prints_blank b {rest} e p at = let (s, r, l) = p (at + 1) in
    (s, r, record { parts = record { piece = blank; length = 1 } ∷ l.parts; laid = ((b, rest, refl, e, refl), l.laid); seen = l.seen })

-- one token more in front
abbrev pub After : (ℕ → Symbol) → (List Symbol → Type 0) → List Symbol → Type 0
After symbol R s = (at : ℕ) × (rest : List Symbol) × (s ≡ symbol at ∷ rest) × R rest

prints_token : {R : List Symbol → Type 0} (kind : TokenKind) (n : ℕ) (text : List ℕ) (symbol : ℕ → Symbol) → front_of text ≡ fronts.Token kind n → ((at : ℕ) → seen_at (token kind) at n text ≡ symbol at ∷ []) → Prints R (drop n text) → Prints (After symbol R) text
prints_token kind n text symbol e is p at = let (s, r, l) = p (at + n) in (
  symbol at ∷ s,
  (at, s, refl, r),
  record { parts = record { piece = token kind; length = n } ∷ l.parts; laid = (subst (Sees text) e (sees text), l.laid); seen = ap (λ (a : List Symbol). a ++ seen (at + n) l.parts (drop n text)) (is at) ∙ ap (λ (a : List Symbol). symbol at ∷ a) l.seen },
)

mark_seen : (kind : TokenKind) (n : ℕ) (text : List ℕ) (at : ℕ) → has_word kind ≡ false → seen_at (token kind) at n text ≡ mark kind ∷ []
mark_seen kind n text at e = one (is Identifier kind) refl (is Number kind) refl
  where
    one : (s : Bool) → is Identifier kind ≡ s → (t : Bool) → is Number kind ≡ t → seen_at (token kind) at n text ≡ mark kind ∷ []
    one true i t j = let h : ◌≡◌ {A = Bool} true false = rw i at e in absurd cc
    one false i true j = let h : ◌≡◌ {A = Bool} true false = rw (i, j) at e in absurd cc
    one false i false j = rw (i, j) refl

-- a mark more in front
pub prints_mark : {R : List Symbol → Type 0} (kind : TokenKind) (n : ℕ) (text : List ℕ) → front_of text ≡ fronts.Token kind n → has_word kind ≡ false → Prints R (drop n text) → Prints (After (λ _. mark kind) R) text
prints_mark kind n text e other p = prints_token kind n text (λ _. mark kind) e (λ at. mark_seen kind n text at other) p

-- ---- names and numbers

-- no byte of these follows
abbrev pub Ends : (ℕ → Bool) → List ℕ → Type 0
Ends p [] = Unit {0}
Ends p (b ∷ rest) = p b ≡ false

-- what follows doesn't make a word longer
abbrev pub EndsWord : List ℕ → Type 0
EndsWord rest = Ends is_word_byte rest

ends_number : (rest : List ℕ) → EndsWord rest → Ends is_digit rest
ends_number [] ends = tt
ends_number (b ∷ rest) ends = grind (arith, nat_tests)

no_single_name : (b : ℕ) → single b ≡ Some Identifier → ⊥
no_single_name b e = grind (arith, nat_tests)

no_single_number : (b : ℕ) → single b ≡ Some Number → ⊥
no_single_number b e = grind (arith, nat_tests)

no_double : (kind : TokenKind) (bytes : List ℕ) → (ThinArrow ≡ kind → ⊥) → (Arrow ≡ kind → ⊥) → double bytes ≡ Some kind → ⊥
no_double kind bytes thin arrow e = one (bytes_eq bytes (codes "->")) refl (bytes_eq bytes (codes "=>")) refl
  where
    one : (t : Bool) → bytes_eq bytes (codes "->") ≡ t → (u : Bool) → bytes_eq bytes (codes "=>") ≡ u → ⊥
    one true i u j = let h : ◌≡◌ {A = Option TokenKind} (Some ThinArrow) (Some kind) = rw i at e in thin cc
    one false i true j = let h : ◌≡◌ {A = Option TokenKind} (Some Arrow) (Some kind) = rw (i, j) at e in arrow cc
    one false i false j = let h : ◌≡◌ {A = Option TokenKind} None (Some kind) = rw (i, j) at e in absurd cc

no_mark_name : (text : List ℕ) → mark_kind text ≡ Some Identifier → ⊥
no_mark_name [] e = absurd cc
no_mark_name (b ∷ []) e = no_single_name b e
no_mark_name (b ∷ c ∷ bytes) e = no_double Identifier (b ∷ c ∷ bytes) (λ h. absurd cc) (λ h. absurd cc) e

no_mark_number : (text : List ℕ) → mark_kind text ≡ Some Number → ⊥
no_mark_number [] e = absurd cc
no_mark_number (b ∷ []) e = no_single_number b e
no_mark_number (b ∷ c ∷ bytes) e = no_double Number (b ∷ c ∷ bytes) (λ h. absurd cc) (λ h. absurd cc) e

no_word_number : (word : List ℕ) → word_kind word ≡ Number → ⊥
no_word_number word e =
    each (bytes_eq word (codes "source")) Source (λ h. absurd cc)
    (each (bytes_eq word (codes "typedef")) Typedef (λ h. absurd cc)
    (each (bytes_eq word (codes "handle")) Handle (λ h. absurd cc)
    (each (bytes_eq word (codes "error")) Error (λ h. absurd cc)
    (each (bytes_eq word (codes "atomic")) Atomic (λ h. absurd cc)
    (each (bytes_eq word (codes "session")) Session (λ h. absurd cc)
    (each (bytes_eq word (codes "_")) Wildcard (λ h. absurd cc) (λ (h : Identifier ≡ Number). absurd cc))))))) e
  where
    each : (b : Bool) (x : TokenKind) {y : TokenKind} → (x ≡ Number → ⊥) → (y ≡ Number → ⊥) → (if b then x else y) ≡ Number → ⊥
    each true x this that h = this h
    each false x this that h = that h

-- a name is a word, and no reserved one
pub word_of_name : (text : List ℕ) → kind_of text ≡ Some Identifier → (is_word text ≡ true) × (word_kind text ≡ Identifier)
word_of_name text e = one (is_word text) refl (is_number text) refl
  where
    one : (t : Bool) → is_word text ≡ t → (u : Bool) → is_number text ≡ u → (is_word text ≡ true) × (word_kind text ≡ Identifier)
    one true i u j = (i, let h : ◌≡◌ {A = Option TokenKind} (Some (word_kind text)) (Some Identifier) = rw i at e in cc)
    one false i true j = let h : ◌≡◌ {A = Option TokenKind} (Some Number) (Some Identifier) = rw (i, j) at e in absurd cc
    one false i false j = let h : mark_kind text ≡ Some Identifier = rw (i, j) at e in absurd (no_mark_name text h)

digits_of_number : (text : List ℕ) → kind_of text ≡ Some Number → is_number text ≡ true
digits_of_number text e = one (is_word text) refl (is_number text) refl
  where
    one : (t : Bool) → is_word text ≡ t → (u : Bool) → is_number text ≡ u → is_number text ≡ true
    one true i u j = let h : ◌≡◌ {A = Option TokenKind} (Some (word_kind text)) (Some Number) = rw i at e in absurd (no_word_number text cc)
    one false i true j = j
    one false i false j = let h : mark_kind text ≡ Some Number = rw (i, j) at e in absurd (no_mark_number text h)

counted : (p : ℕ → Bool) (bytes rest : List ℕ) → list_all p bytes ≡ true → Ends p rest → prefix_len p (bytes ++ rest) ≡ length bytes
counted p [] [] e ends = refl
counted p [] (b ∷ rest) e ends = rw ends refl
counted p (b ∷ bytes) rest e ends = one (p b) refl (counted p bytes rest)
  where
    one : (t : Bool) → p b ≡ t → (list_all p bytes ≡ true → Ends p rest → prefix_len p (bytes ++ rest) ≡ length bytes) → prefix_len p (b ∷ bytes ++ rest) ≡ length (b ∷ bytes)
    one true i more = let h : list_all p bytes ≡ true = rw i at e in rw (i, one-add) (ap (λ (n : ℕ). suc n) (more h ends))
    one false i more = let h : ◌≡◌ {A = Bool} false true = rw i at e in absurd cc

not_longer : (n : ℕ) → n ≤ TEXT_LIMIT → ltb TEXT_LIMIT n ≡ false
not_longer n le = grind (arith, nat_tests)

within_limit : (kind : TokenKind) (n : ℕ) → n ≤ TEXT_LIMIT → limited kind n ≡ fronts.Token kind n
within_limit kind n le = rw (not_longer n le) refl

name_front : (text rest : List ℕ) → IsName text → EndsWord rest → front_of (text ++ rest) ≡ fronts.Token Identifier (length text)
name_front [] rest is ends = let h : ◌≡◌ {A = Option TokenKind} None (Some Identifier) = is.kind in absurd cc
name_front (b ∷ bytes) rest is ends =
    let word = word_of_name (b ∷ bytes) is.kind in
    let start = and_parts (is_word_start b) (list_all is_word_byte bytes) word.0 in
    let all : list_all is_word_byte (b ∷ bytes) ≡ true = rw (or_left _ _ start.0) start.1 in
    let whole = b ∷ (bytes ++ rest) in
    front_word b (bytes ++ rest) start.0
    ∙ ap (λ (n : ℕ). limited (word_kind (take n whole)) n) (counted is_word_byte (b ∷ bytes) rest all ends)
    ∙ ap (λ (kind : TokenKind). limited kind (length (b ∷ bytes))) (ap word_kind (take-append_seam (b ∷ bytes) rest) ∙ word.1)
    ∙ within_limit Identifier (length (b ∷ bytes)) is.short

number_front : (text rest : List ℕ) → IsDigits text → EndsWord rest → front_of (text ++ rest) ≡ fronts.Token Number (length text)
number_front [] rest is ends = let h : ◌≡◌ {A = Option TokenKind} None (Some Number) = is.kind in absurd cc
number_front (b ∷ bytes) rest is ends =
    let number = digits_of_number (b ∷ bytes) is.kind in
    let start = and_parts (is_digit b) (list_all is_digit bytes) number in
    let all : list_all is_digit (b ∷ bytes) ≡ true = rw start.0 start.1 in
    front_number b (bytes ++ rest) start.0
    ∙ ap (limited Number) (counted is_digit (b ∷ bytes) rest all (ends_number rest ends))
    ∙ within_limit Number (length (b ∷ bytes)) is.short

-- a name more in front
pub prints_name : {R : List Symbol → Type 0} (text : List ℕ) {rest : List ℕ} → IsName text → EndsWord rest → Prints R rest → Prints (After (λ at. name (record { text = text; at = at })) R) (text ++ rest)
prints_name text {rest} is ends p =
    prints_token Identifier (length text) (text ++ rest) (λ at. name (record { text = text; at = at })) (name_front text rest is ends) (λ at. rw (take-append_seam text rest) refl) (subst (Prints _) (sym (drop-append_seam text rest)) p)

-- a number more in front
pub prints_number : {R : List Symbol → Type 0} (text : List ℕ) {rest : List ℕ} → IsDigits text → EndsWord rest → Prints R rest → Prints (After (λ at. digits (record { text = text; at = at })) R) (text ++ rest)
prints_number text {rest} is ends p =
    prints_token Number (length text) (text ++ rest) (λ at. digits (record { text = text; at = at })) (number_front text rest is ends) (λ at. rw (take-append_seam text rest) refl) (subst (Prints _) (sym (drop-append_seam text rest)) p)
