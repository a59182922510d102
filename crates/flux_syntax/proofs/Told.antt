-- What a reader tells: what it got is spelled by what it went past, and it looks no further than the next symbol;
-- where it is stuck, what it went past can be completed, and no other symbols after the next one help.
use Rattle.std.proofs.Common.{◌≡◌, ℕ, Bool, true, false, if◌then◌else◌, eqb, List, [], ◌∷◌, ◌++◌, Option, Some, None, refl, sym, ap, subst, ◌∙◌, arith, append_assoc}
use Rattle.std.proofs.lemmas.Bool.Decides.{nat_tests}
use Rattle.flux_lexer.specs.declared.kinds.TokenKind.{TokenKind}
use Rattle.flux_lexer.specs.declared.kinds.TokenKind.TheVariants.{Identifier, Number, Source, Typedef, Handle, Error, Atomic, Session, Wildcard, OpenParen, CloseParen, OpenBracket, CloseBracket, OpenBrace, CloseBrace, Comma, Semicolon, Colon, Equals, Star, Question, Bang, ThinArrow, Arrow}
use Rattle.flux_syntax.specs.declared.declarations.Word.{Word}
use Rattle.flux_syntax.specs.Symbols.{Symbol, name, digits, mark, is, has_word, number}
use Rattle.flux_syntax.specs.steps.Reading.{Read, got, stuck, ◌>>=◌, of_kind, begins, mark_at, name_at, number_at}

-- the first symbol, if there is one
abbrev pub head : List Symbol → Option Symbol
head [] = None
head (symbol ∷ rest) = Some symbol

-- what a reader tells of symbols by what it answers
abbrev pub Told_of : {A : Type 0} → (List Symbol → Read A) → (A → List Symbol → Type 0) → List Symbol → Read A → Type 0
Told_of read P ts (got x rest) = (used : List Symbol) × (ts ≡ used ++ rest) × P x used × ((other : List Symbol) → head rest ≡ head other → read (used ++ other) ≡ got x other)
Told_of {A} read P ts (stuck rest) =
    (used : List Symbol) × (ts ≡ used ++ rest) × ((x : A) × (more : List Symbol) × P x (used ++ more)) × ((t : Symbol) (left other : List Symbol) → rest ≡ t ∷ left → read (used ++ t ∷ other) ≡ stuck (t ∷ other))

-- what a reader tells of symbols
abbrev pub Told : {A : Type 0} → (List Symbol → Read A) → (A → List Symbol → Type 0) → List Symbol → Type 0
Told read P ts = Told_of read P ts (read ts)

-- ---- heads

-- symbols with the same next one begin alike after the same ones
pub head_append : (used rest other : List Symbol) → head rest ≡ head other → head (used ++ rest) ≡ head (used ++ other)
head_append [] rest other same = same
head_append (t ∷ used) rest other same = refl

-- what is in two equal options is equal
pub some_same : {A : Type 0} (a b : A) → ◌≡◌ {A = Option A} (Some a) (Some b) → a ≡ b
some_same {A} a b e = ap (λ (o : Option A). pick a o) e
  where
    pick : {A : Type 0} → A → Option A → A
    pick a (Some x) = x
    pick a None = a

-- whether a mark is next hangs on the next symbol alone
pub begins_same : (kind : TokenKind) (rest other : List Symbol) → head rest ≡ head other → begins kind rest ≡ begins kind other
begins_same kind [] [] same = refl
begins_same kind [] (t ∷ other) same = absurd cc
begins_same kind (s ∷ rest) [] same = absurd cc
begins_same kind (s ∷ rest) (t ∷ other) same = ap (of_kind kind) (some_same s t same)

-- where no symbol is next, there is none
pub none_same : (other : List Symbol) → head [] ≡ head other → other ≡ []
none_same [] same = refl
none_same (t ∷ other) same = absurd cc

-- ---- kinds

abbrev kind_back : ℕ → TokenKind
kind_back n =
    if eqb n 0 then Identifier else
    if eqb n 1 then Source else
    if eqb n 2 then Typedef else
    if eqb n 3 then Handle else
    if eqb n 4 then Error else
    if eqb n 5 then Atomic else
    if eqb n 6 then Session else
    if eqb n 7 then Wildcard else
    if eqb n 8 then OpenParen else
    if eqb n 9 then CloseParen else
    if eqb n 10 then OpenBracket else
    if eqb n 11 then CloseBracket else
    if eqb n 12 then OpenBrace else
    if eqb n 13 then CloseBrace else
    if eqb n 14 then Comma else
    if eqb n 15 then Semicolon else
    if eqb n 16 then Colon else
    if eqb n 17 then Equals else
    if eqb n 18 then Star else
    if eqb n 19 then Question else
    if eqb n 20 then Bang else
    if eqb n 21 then ThinArrow else
    if eqb n 22 then Arrow else
    Number

kind_back_of : (k : TokenKind) → kind_back (number k) ≡ k
kind_back_of Identifier = refl
kind_back_of Source = refl
kind_back_of Typedef = refl
kind_back_of Handle = refl
kind_back_of Error = refl
kind_back_of Atomic = refl
kind_back_of Session = refl
kind_back_of Wildcard = refl
kind_back_of OpenParen = refl
kind_back_of CloseParen = refl
kind_back_of OpenBracket = refl
kind_back_of CloseBracket = refl
kind_back_of OpenBrace = refl
kind_back_of CloseBrace = refl
kind_back_of Comma = refl
kind_back_of Semicolon = refl
kind_back_of Colon = refl
kind_back_of Equals = refl
kind_back_of Star = refl
kind_back_of Question = refl
kind_back_of Bang = refl
kind_back_of ThinArrow = refl
kind_back_of Arrow = refl
kind_back_of Number = refl

-- kinds with one number are one kind
pub same_kind : (a b : TokenKind) → is a b ≡ true → a ≡ b
same_kind a b e = sym (kind_back_of a) ∙ ap kind_back (numbers (number a) (number b) e) ∙ kind_back_of b
  where
    numbers : (n m : ℕ) → eqb n m ≡ true → n ≡ m
    numbers n m e = grind (arith, nat_tests)

-- a kind is itself
pub is_itself : (k : TokenKind) → is k k ≡ true
is_itself k = grind (arith, nat_tests)

-- a mark is of its own kind
pub of_mark : (k : TokenKind) → has_word k ≡ false → of_kind k (mark k) ≡ true
of_mark k no_word = rw (no_word, is_itself k) refl

of_words : (k other : TokenKind) → has_word other ≡ true → has_word k ≡ false → is k other ≡ true → ⊥
of_words k other word no_word e = let own : has_word k ≡ true = subst (λ (j : TokenKind). has_word j ≡ true) (sym (same_kind k other e)) word in absurd cc

-- what is of a mark's kind is that mark
pub is_mark : (k : TokenKind) (t : Symbol) → has_word k ≡ false → of_kind k t ≡ true → t ≡ mark k
is_mark k (name w) no_word e = absurd (of_words k Identifier refl no_word e)
is_mark k (digits w) no_word e = absurd (of_words k Number refl no_word e)
is_mark k (mark j) no_word e = ap mark (sym (same_kind k j (inner (has_word j) refl e)))
  where
    inner : (b : Bool) → has_word j ≡ b → (if has_word j then false else is k j) ≡ true → is k j ≡ true
    inner true i e = let no : ◌≡◌ {A = Bool} false true = ap (λ (b : Bool). if b then false else is k j) (sym i) ∙ e in absurd cc
    inner false i e = ap (λ (b : Bool). if b then false else is k j) (sym i) ∙ e

-- ---- what a reader tells stays so

-- of a reader that reads the same wherever the next symbol is the same
pub told_head : {A : Type 0} (read other : List Symbol → Read A) (P : A → List Symbol → Type 0) (ts : List Symbol) (r : Read A) → ((s : List Symbol) → head ts ≡ head s → read s ≡ other s) → Told_of other P ts r → Told_of read P ts r
told_head read other P ts (got x rest) same (used, is, p, steady) =
    (used, is, p, λ more heads. same (used ++ more) (ap head is ∙ head_append used rest more heads) ∙ steady more heads)
told_head read other P ts (stuck rest) same (used, is, some, steady) =
    (used, is, some, λ t left more e. same (used ++ t ∷ more) (ap head is ∙ head_append used rest (t ∷ more) (ap head e)) ∙ steady t left more e)

-- a reader that reads the same where the next symbol is the same tells the same
pub told_as : {A : Type 0} (read other : List Symbol → Read A) (P : A → List Symbol → Type 0) (ts : List Symbol) → ((s : List Symbol) → head ts ≡ head s → read s ≡ other s) → Told other P ts → Told read P ts
told_as read other P ts same told = subst (Told_of read P ts) (sym (same ts refl)) (told_head read other P ts (other ts) same told)

-- what follows from what a reader tells, it tells too
pub told_weaken : {A : Type 0} (read : List Symbol → Read A) (P Q : A → List Symbol → Type 0) (ts : List Symbol) (r : Read A) → ((x : A) (used : List Symbol) → P x used → Q x used) → Told_of read P ts r → Told_of read Q ts r
told_weaken read P Q ts (got x rest) weak (used, is, p, steady) = (used, is, weak x used p, steady)
told_weaken read P Q ts (stuck rest) weak (used, is, (x, more, p), steady) = (used, is, (x, more, weak x (used ++ more) p), steady)

-- ---- single symbols

-- of a reader that reads nothing
pub told_done : {A : Type 0} (x : A) (P : A → List Symbol → Type 0) (ts : List Symbol) → P x [] → Told (λ s. got x s) P ts
told_done x P ts p = ([], refl, p, λ other same. refl)

-- of a mark
pub told_mark : (kind : TokenKind) (ts : List Symbol) → has_word kind ≡ false → Told (mark_at kind) (λ _ used. used ≡ mark kind ∷ []) ts
told_mark kind [] no_word = ([], refl, (tt, mark kind ∷ [], refl), λ t left other e. absurd cc)
told_mark kind (t ∷ rest) no_word = step (of_kind kind t) refl
  where
    step : (b : Bool) → of_kind kind t ≡ b → Told (mark_at kind) (λ _ used. used ≡ mark kind ∷ []) (t ∷ rest)
    step true e = let is = is_mark kind t no_word e in let own = of_mark kind no_word in rw e (mark kind ∷ [], ap (λ (s : Symbol). s ∷ rest) is, refl, λ other same. rw own refl)
    step false e = rw e ([], refl, (tt, mark kind ∷ [], refl), λ s left other same. let first : of_kind kind s ≡ false = ap (λ (l : List Symbol). begins kind l) (sym same) ∙ e in rw first refl)

abbrev no_place : Word
no_place = record { text = []; at = 0 }

-- at a symbol that is no name
told_other : (ts : List Symbol) → name_at ts ≡ stuck ts → ((t : Symbol) (left other : List Symbol) → ts ≡ t ∷ left → name_at (t ∷ other) ≡ stuck (t ∷ other)) → Told_of name_at (λ word used. used ≡ name word ∷ []) ts (stuck ts)
told_other ts e stays = ([], refl, (no_place, name no_place ∷ [], refl), stays)

-- of a name
pub told_name : (ts : List Symbol) → Told name_at (λ word used. used ≡ name word ∷ []) ts
told_name [] = told_other [] refl (λ t left other e. absurd cc)
told_name (name word ∷ rest) = (name word ∷ [], refl, refl, λ other same. refl)
told_name (digits word ∷ rest) = told_other (digits word ∷ rest) refl stays
  where
    stays : (t : Symbol) (left other : List Symbol) → digits word ∷ rest ≡ t ∷ left → name_at (t ∷ other) ≡ stuck (t ∷ other)
    stays (name w) left other e = absurd cc
    stays (digits w) left other e = refl
    stays (mark k) left other e = absurd cc
told_name (mark kind ∷ rest) = told_other (mark kind ∷ rest) refl stays
  where
    stays : (t : Symbol) (left other : List Symbol) → mark kind ∷ rest ≡ t ∷ left → name_at (t ∷ other) ≡ stuck (t ∷ other)
    stays (name w) left other e = absurd cc
    stays (digits w) left other e = absurd cc
    stays (mark k) left other e = refl

-- at a symbol that is no number
told_no_number : (ts : List Symbol) → number_at ts ≡ stuck ts → ((t : Symbol) (left other : List Symbol) → ts ≡ t ∷ left → number_at (t ∷ other) ≡ stuck (t ∷ other)) → Told_of number_at (λ word used. used ≡ digits word ∷ []) ts (stuck ts)
told_no_number ts e stays = ([], refl, (no_place, digits no_place ∷ [], refl), stays)

-- of a number
pub told_number : (ts : List Symbol) → Told number_at (λ word used. used ≡ digits word ∷ []) ts
told_number [] = told_no_number [] refl (λ t left other e. absurd cc)
told_number (digits word ∷ rest) = (digits word ∷ [], refl, refl, λ other same. refl)
told_number (name word ∷ rest) = told_no_number (name word ∷ rest) refl stays
  where
    stays : (t : Symbol) (left other : List Symbol) → name word ∷ rest ≡ t ∷ left → number_at (t ∷ other) ≡ stuck (t ∷ other)
    stays (name w) left other e = refl
    stays (digits w) left other e = absurd cc
    stays (mark k) left other e = absurd cc
told_number (mark kind ∷ rest) = told_no_number (mark kind ∷ rest) refl stays
  where
    stays : (t : Symbol) (left other : List Symbol) → mark kind ∷ rest ≡ t ∷ left → number_at (t ∷ other) ≡ stuck (t ∷ other)
    stays (name w) left other e = absurd cc
    stays (digits w) left other e = absurd cc
    stays (mark k) left other e = refl

-- ---- one after the other

-- first one thing and then another
abbrev pub Both : {A B : Type 0} → (A → List Symbol → Type 0) → (A → B → List Symbol → Type 0) → B → List Symbol → Type 0
Both {A} P Q y used = (x : A) × (a b : List Symbol) × (used ≡ a ++ b) × P x a × Q x y b

then_told : {A B : Type 0} (read : List Symbol → Read A) (f : A → List Symbol → Read B) (P : A → List Symbol → Type 0) (Q : A → B → List Symbol → Type 0) (ts : List Symbol) (x : A) (rest used : List Symbol) (r : Read B)
    → ts ≡ used ++ rest → P x used → ((other : List Symbol) → head rest ≡ head other → read (used ++ other) ≡ got x other) → Told_of (f x) (Q x) rest r → Told_of (λ s. read s >>= f) (Both P Q) ts r
then_told read f P Q ts x rest used (got y left) is p steady (went, goes, q, firm) = (
  used ++ went,
  is ∙ ap (λ (l : List Symbol). used ++ l) goes ∙ sym (append_assoc used went left),
  (x, used, went, refl, p, q),
  λ other same. ap (λ (l : List Symbol). read l >>= f) (append_assoc used went other) ∙ ap (λ (r : Read _). r >>= f) (steady (went ++ other) (ap head goes ∙ head_append went left other same)) ∙ firm other same,
)
then_told read f P Q ts x rest used (stuck left) is p steady (went, goes, (y, more, q), firm) = (
  used ++ went,
  is ∙ ap (λ (l : List Symbol). used ++ l) goes ∙ sym (append_assoc used went left),
  (y, more, (x, used, went ++ more, append_assoc used went more, p, q)),
  λ t behind other e. ap (λ (l : List Symbol). read l >>= f) (append_assoc used went (t ∷ other)) ∙ ap (λ (r : Read _). r >>= f) (steady (went ++ t ∷ other) (ap head goes ∙ head_append went left (t ∷ other) (ap head e))) ∙ firm t behind other e,
)

seq_of : {A B : Type 0} (read : List Symbol → Read A) (f : A → List Symbol → Read B) (P : A → List Symbol → Type 0) (Q : A → B → List Symbol → Type 0) (ts : List Symbol) (r : Read A)
    → Told_of read P ts r → ((x : A) (used rest : List Symbol) → ts ≡ used ++ rest → P x used → Told (f x) (Q x) rest) → ((x : A) → (y : B) × (b : List Symbol) × Q x y b) → Told_of (λ s. read s >>= f) (Both P Q) ts (r >>= f)
seq_of read f P Q ts (got x rest) (used, is, p, steady) second some = then_told read f P Q ts x rest used (f x rest) is p steady (second x used rest is p)
seq_of read f P Q ts (stuck rest) (used, is, (x, more, p), steady) second some =
    (used, is, ((some x).0, more ++ (some x).1, (x, used ++ more, (some x).1, sym (append_assoc used more (some x).1), p, (some x).2)), λ t left other e. ap (λ (r : Read _). r >>= f) (steady t left other e))

-- one reader after another tells both
pub seq : {A B : Type 0} (read : List Symbol → Read A) (f : A → List Symbol → Read B) (P : A → List Symbol → Type 0) (Q : A → B → List Symbol → Type 0) (ts : List Symbol)
    → Told read P ts → ((x : A) (used rest : List Symbol) → ts ≡ used ++ rest → P x used → Told (f x) (Q x) rest) → ((x : A) → (y : B) × (b : List Symbol) × Q x y b) → Told (λ s. read s >>= f) (Both P Q) ts
seq read f P Q ts first second some = seq_of read f P Q ts (read ts) first second some

-- ---- a choice by the next symbol

-- of a choice by the next symbol
pub told_if : {A : Type 0} (kind : TokenKind) (this that : List Symbol → Read A) (P : A → List Symbol → Type 0) (ts : List Symbol) → (begins kind ts ≡ true → Told this P ts) → (begins kind ts ≡ false → Told that P ts) → Told (λ s. if begins kind s then this s else that s) P ts
told_if {A} kind this that P ts on_this on_that = step (begins kind ts) refl
  where
    step : (b : Bool) → begins kind ts ≡ b → Told (λ s. if begins kind s then this s else that s) P ts
    step true e = told_as (λ s. if begins kind s then this s else that s) this P ts (λ s same. let b : begins kind s ≡ true = sym (begins_same kind ts s same) ∙ e in rw b refl) (on_this e)
    step false e = told_as (λ s. if begins kind s then this s else that s) that P ts (λ s same. let b : begins kind s ≡ false = sym (begins_same kind ts s same) ∙ e in rw b refl) (on_that e)

-- ---- a symbol before

-- of a reader after a symbol
pub told_behind : {A : Type 0} (read inner : List Symbol → Read A) (P : A → List Symbol → Type 0) (t : Symbol) (rest : List Symbol) (r : Read A) → ((s : List Symbol) → read (t ∷ s) ≡ inner s) → Told_of inner P rest r → Told_of read (λ x used. (u : List Symbol) × (used ≡ t ∷ u) × P x u) (t ∷ rest) r
told_behind read inner P t rest (got x left) same (used, is, p, steady) = (t ∷ used, ap (λ (l : List Symbol). t ∷ l) is, (used, refl, p), λ other heads. same (used ++ other) ∙ steady other heads)
told_behind read inner P t rest (stuck left) same (used, is, (x, more, p), steady) =
    (t ∷ used, ap (λ (l : List Symbol). t ∷ l) is, (x, more, (used ++ more, refl, p)), λ s behind other e. same (used ++ s ∷ other) ∙ steady s behind other e)

-- ---- readers of anything

-- what a reader tells, whatever it is given, and something that it reads
pub record Tells {A : Type 0} (read : List Symbol → Read A) (P : A → List Symbol → Type 0) : Type 0 where
  pub told : (ts : List Symbol) → Told read P ts
  pub thing : A
  pub spelled : List Symbol
  pub some : P thing spelled

-- a thing is at hand, and no symbols are read
abbrev pub Nothing_more : {A : Type 0} → A → A → List Symbol → Type 0
Nothing_more x y b = (y ≡ x) × (b ≡ [])

-- the reader of nothing
pub tell_done : {A : Type 0} (x : A) → Tells (λ s. got x s) (Nothing_more x)
tell_done x = record { told = λ ts. told_done x (Nothing_more x) ts (refl, refl); thing = x; spelled = []; some = (refl, refl) }

-- the reader of a mark
pub tell_mark : (kind : TokenKind) → has_word kind ≡ false → Tells (mark_at kind) (λ _ used. used ≡ mark kind ∷ [])
tell_mark kind no_word = record { told = λ ts. told_mark kind ts no_word; thing = tt; spelled = mark kind ∷ []; some = refl }

-- the reader of a name
pub tell_name : Tells name_at (λ word used. used ≡ name word ∷ [])
tell_name = record { told = told_name; thing = record { text = []; at = 0 }; spelled = name (record { text = []; at = 0 }) ∷ []; some = refl }

-- the reader of a number
pub tell_number : Tells number_at (λ word used. used ≡ digits word ∷ [])
tell_number = record { told = told_number; thing = no_place; spelled = digits no_place ∷ []; some = refl }

-- one reader after another
pub tell_then : {A B : Type 0} {read : List Symbol → Read A} {f : A → List Symbol → Read B} {P : A → List Symbol → Type 0} {Q : A → B → List Symbol → Type 0} → Tells read P → ((x : A) → Tells (f x) (Q x)) → Tells (λ s. read s >>= f) (Both P Q)
tell_then {read = read} {f = f} {P = P} {Q = Q} first second = record {
  told = λ ts. seq read f P Q ts (first.told ts) (λ x used rest is p. (second x).told rest) (λ x. ((second x).thing, (second x).spelled, (second x).some));
  thing = (second first.thing).thing;
  spelled = first.spelled ++ (second first.thing).spelled;
  some = (first.thing, first.spelled, (second first.thing).spelled, refl, first.some, (second first.thing).some);
}

-- a choice of readers by the next symbol
pub tell_if : {A : Type 0} (kind : TokenKind) {one other : List Symbol → Read A} {P : A → List Symbol → Type 0} → Tells one P → Tells other P → Tells (λ s. if begins kind s then one s else other s) P
tell_if kind {one = one} {other = other} {P = P} first second = record {
  told = λ ts. told_if kind one other P ts (λ e. first.told ts) (λ e. second.told ts);
  thing = second.thing;
  spelled = second.spelled;
  some = second.some;
}

-- a reader tells what follows from what it tells
pub tell_as : {A : Type 0} {read : List Symbol → Read A} {P Q : A → List Symbol → Type 0} → Tells read P → ((x : A) (used : List Symbol) → P x used → Q x used) → Tells read Q
tell_as {read = read} {P = P} {Q = Q} tells weak = record {
  told = λ ts. told_weaken read P Q ts (read ts) weak (tells.told ts);
  thing = tells.thing;
  spelled = tells.spelled;
  some = weak tells.thing tells.spelled tells.some;
}

-- equal readers tell the same
pub tell_same : {A : Type 0} (read : List Symbol → Read A) {other : List Symbol → Read A} {P : A → List Symbol → Type 0} → ((s : List Symbol) → read s ≡ other s) → Tells other P → Tells read P
tell_same read {other = other} {P = P} same tells = record {
  told = λ ts. told_as read other P ts (λ s heads. same s) (tells.told ts);
  thing = tells.thing;
  spelled = tells.spelled;
  some = tells.some;
}

-- a reader that is always stuck, of something that could have been read
pub tell_stuck : {A : Type 0} {P : A → List Symbol → Type 0} (thing : A) (spelled : List Symbol) → P thing spelled → Tells {A = A} (λ s. stuck s) P
tell_stuck thing spelled some = record { told = λ ts. ([], refl, (thing, spelled, some), λ t left other e. refl); thing = thing; spelled = spelled; some = some }
