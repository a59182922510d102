-- Parts at the front of words: there is one way to take words apart.
use Rattle.std.proofs.Common.{◌≡◌, ◌⊎◌, inl, inr, ℕ, ◌+◌, ◌-◌, ◌<◌, ◌≤◌, List, [], ◌∷◌, ◌++◌, length, take, drop, get_or, refl, sym, ap, ◌∙◌, subst, arith, append_assoc}
use Rattle.std.specs.Prelude.{Option, Some, None, IfNone}
use Rattle.std.proofs.lemmas.List.{append_cancel_left, append-nil, take_all}
use Rattle.flux_cli.specs.declared.names.OptionName.{OptionName}
use Rattle.flux_cli.specs.declared.names.OptionName.TheVariants.{Runtime, Docs, Journal, Port, Batches, AtOnce, Processors, Costs}
use Rattle.flux_cli.specs.Parts.{Part, word, option, IsPositional, IsFilled, IsNoOption, Begins, BeginWith, spelled, if_for, words_in, values_of}

-- ---- one part

-- the third letter of an option's spelling, and the one after it, as a number
letters : OptionName → ℕ
letters Runtime = 231
letters Docs = 211
letters Journal = 217
letters Port = 223
letters Batches = 195
letters AtOnce = 213
letters Processors = 226
letters Costs = 210

letters_in : List ℕ → ℕ
letters_in text = get_or text 2 0 + get_or text 3 0

letters_are : (n : OptionName) (a : List ℕ) → letters_in (spelled n ++ a) ≡ letters n
unfolding letters letters_in
letters_are Runtime a = refl
letters_are Docs a = refl
letters_are Journal a = refl
letters_are Port a = refl
letters_are Batches a = refl
letters_are AtOnce a = refl
letters_are Processors a = refl
letters_are Costs a = refl

by_letters : (n m : OptionName) → letters n ≡ letters m → n ≡ m
unfolding letters
by_letters Runtime Runtime e = refl
by_letters Docs Docs e = refl
by_letters Journal Journal e = refl
by_letters Port Port e = refl
by_letters Batches Batches e = refl
by_letters AtOnce AtOnce e = refl
by_letters Processors Processors e = refl
by_letters Costs Costs e = refl
by_letters n m e = absurd (omega (arith, e))

-- no option's spelling begins with that of another
pub one_name : (n m : OptionName) (a b : List ℕ) → spelled n ++ a ≡ spelled m ++ b → n ≡ m
one_name n m a b e = by_letters n m (sym (letters_are n a) ∙ ap letters_in e ∙ letters_are m b)

pub same_behind : (n m : OptionName) (a b : List ℕ) → spelled n ++ a ≡ spelled m ++ b → n ≡ m → a ≡ b
same_behind n m a b e same = append_cancel_left (spelled m) a b (ap (λ (k : OptionName). spelled k ++ a) (sym same) ∙ e)

-- an option is no positional word
pub no_word : (n : OptionName) (x : List ℕ) → IsPositional (spelled n ++ x) → ⊥
no_word Runtime x other = other refl
no_word Docs x other = other refl
no_word Journal x other = other refl
no_word Port x other = other refl
no_word Batches x other = other refl
no_word AtOnce x other = other refl
no_word Processors x other = other refl
no_word Costs x other = other refl

same_head : (a b : List ℕ) (r s : List (List ℕ)) → a ∷ r ≡ b ∷ s → a ≡ b
same_head a b r s e = cc

same_tail : (a b : List ℕ) (r s : List (List ℕ)) → a ∷ r ≡ b ∷ s → r ≡ s
same_tail a b r s e = cc

abbrev IsLaid : OptionName → List ℕ → List (List ℕ) → List (List ℕ) → Type 0
IsLaid name value words rest = (words ≡ (spelled name ++ 61 ∷ value) ∷ rest) ⊎ ((words ≡ spelled name ∷ value ∷ rest) × IsNoOption value)

no_word_laid : (a : List ℕ) (n : OptionName) (v : List ℕ) (words r s : List (List ℕ)) → words ≡ a ∷ r → IsPositional a → IsLaid n v words s → ⊥
no_word_laid a n v words r s e other (inl f) = no_word n (61 ∷ v) (subst IsPositional (same_head a (spelled n ++ 61 ∷ v) r s (sym e ∙ f)) other)
no_word_laid a n v words r s e other (inr f) = no_word n [] (subst IsPositional (same_head a (spelled n) r (v ∷ s) (sym e ∙ f.0) ∙ sym (append-nil (spelled n))) other)

not_joined : (n m : OptionName) (v u : List ℕ) (words r s : List (List ℕ)) → words ≡ (spelled n ++ 61 ∷ v) ∷ r → words ≡ spelled m ∷ u ∷ s → ⊥
not_joined n m v u words r s e f =
    let same : spelled n ++ 61 ∷ v ≡ spelled m ++ [] = same_head (spelled n ++ 61 ∷ v) (spelled m) r (u ∷ s) (sym e ∙ f) ∙ sym (append-nil (spelled m)) in
    let none : 61 ∷ v ≡ [] = same_behind n m (61 ∷ v) [] same (one_name n m (61 ∷ v) [] same) in
    absurd cc

one_option : (n m : OptionName) (v u : List ℕ) (words r s : List (List ℕ)) → IsLaid n v words r → IsLaid m u words s → (n ≡ m) × (v ≡ u) × (r ≡ s)
one_option n m v u words r s (inl e) (inl f) =
    let heads : spelled n ++ 61 ∷ v ≡ spelled m ++ 61 ∷ u = same_head (spelled n ++ 61 ∷ v) (spelled m ++ 61 ∷ u) r s (sym e ∙ f) in
    let same = one_name n m (61 ∷ v) (61 ∷ u) heads in
    (same, ap (drop 1) (same_behind n m (61 ∷ v) (61 ∷ u) heads same), same_tail (spelled n ++ 61 ∷ v) (spelled m ++ 61 ∷ u) r s (sym e ∙ f))
one_option n m v u words r s (inl e) (inr f) = absurd (not_joined n m v u words r s e f.0)
one_option n m v u words r s (inr e) (inl f) = absurd (not_joined m n u v words s r f e.0)
one_option n m v u words r s (inr e) (inr f) =
    let both : spelled n ∷ v ∷ r ≡ spelled m ∷ u ∷ s = sym e.0 ∙ f.0 in
    let heads : spelled n ++ [] ≡ spelled m ++ [] = append-nil (spelled n) ∙ same_head (spelled n) (spelled m) (v ∷ r) (u ∷ s) both ∙ sym (append-nil (spelled m)) in
    let tails = same_tail (spelled n) (spelled m) (v ∷ r) (u ∷ s) both in
    (one_name n m [] [] heads, same_head v u r s tails, same_tail v u r s tails)

pub one_part : (p q : Part) (words r s : List (List ℕ)) → Begins p words r → Begins q words s → (p ≡ q) × (r ≡ s)
one_part (word a) (word b) words r s bp bq = let e = sym bp.0 ∙ bq.0 in (ap word (same_head a b r s e), same_tail a b r s e)
one_part (word a) (option m u) words r s bp bq = absurd (no_word_laid a m u words r s bp.0 bp.1 bq.1)
one_part (option n v) (word b) words r s bp bq = absurd (no_word_laid b n v words s r bq.0 bq.1 bp.1)
one_part (option n v) (option m u) words r s bp bq =
    let (name, value, rest) = one_option n m v u words r s bp.1 bq.1 in (cc, rest)

-- a part takes a word
pub no_part : (p : Part) (rest : List (List ℕ)) → Begins p [] rest → ⊥
no_part (word a) rest b = let e : [] ≡ a ∷ rest = b.0 in absurd cc
no_part (option n v) rest b = elim b.1 [
  | inl e ↦ absurd (let f : [] ≡ (spelled n ++ 61 ∷ v) ∷ rest = e in cc)
  | inr e ↦ absurd (let f : [] ≡ spelled n ∷ v ∷ rest = e.0 in cc)
]

-- ---- parts in order

pub begin_more : (ps : List Part) (p : Part) (words rest next : List (List ℕ)) → BeginWith ps words rest → Begins p rest next → BeginWith (ps ++ p ∷ []) words next
begin_more [] p words rest next front b = (next, subst (λ (w : List (List ℕ)). Begins p w next) (sym front) b, refl)
begin_more (q ∷ ps) p words rest next front b = (front.0, front.1, begin_more ps p front.0 rest next front.2 b)

-- all parts of words go on after those at the front
pub record GoOn (sofar all : List Part) (rest : List (List ℕ)) : Type 0 where
  pub more : List Part
  pub are : all ≡ sofar ++ more
  pub laid : BeginWith more rest []

pub past : (sofar all : List Part) (words rest : List (List ℕ)) → BeginWith sofar words rest → BeginWith all words [] → GoOn sofar all rest
past [] all words rest front laid = record { more = all; are = refl; laid = subst (λ (w : List (List ℕ)). BeginWith all w []) front laid }
past (p ∷ ps) [] words rest front laid = absurd (no_part p front.0 (subst (λ (w : List (List ℕ)). Begins p w front.0) laid front.1))
past (p ∷ ps) (q ∷ qs) words rest front laid =
    let same = one_part p q words front.0 laid.0 front.1 laid.1 in
    let on = past ps qs front.0 rest front.2 (subst (λ (w : List (List ℕ)). BeginWith qs w []) (sym same.1) laid.2) in
    record { more = on.more; are = ap (λ (x : Part). x ∷ qs) (sym same.0) ∙ ap (λ (l : List Part). p ∷ l) on.are; laid = on.laid }

-- no part is left where no word is
pub none_left : (ps : List Part) → BeginWith ps [] [] → ps ≡ []
none_left [] laid = refl
none_left (p ∷ ps) laid = absurd (no_part p laid.0 laid.1)

-- words have one list of parts
pub one_parting : (ps qs : List Part) (words : List (List ℕ)) → BeginWith ps words [] → BeginWith qs words [] → ps ≡ qs
one_parting ps qs words front laid =
    let on = past ps qs words [] front laid in
    sym (on.are ∙ ap (λ (l : List Part). ps ++ l) (none_left on.more on.laid) ∙ append-nil ps)

-- ---- what parts give

pub words_in-append : (ps qs : List Part) → words_in (ps ++ qs) ≡ words_in ps ++ words_in qs
words_in-append [] qs = refl
words_in-append (word a ∷ ps) qs = ap (λ (l : List (List ℕ)). a ∷ l) (words_in-append ps qs)
words_in-append (option n v ∷ ps) qs = words_in-append ps qs

pub values_of-append : (name : OptionName) (ps qs : List Part) → values_of name (ps ++ qs) ≡ values_of name ps ++ values_of name qs
values_of-append name [] qs = refl
values_of-append name (word a ∷ ps) qs = values_of-append name ps qs
values_of-append name (option n v ∷ ps) qs = ap (λ (l : List (List ℕ)). if_for name n v ++ l) (values_of-append name ps qs) ∙ sym (append_assoc (if_for name n v) (values_of name ps) (values_of name qs))

pub if_for-same : (name : OptionName) (v : List ℕ) → if_for name name v ≡ v ∷ []
if_for-same Runtime v = refl
if_for-same Docs v = refl
if_for-same Journal v = refl
if_for-same Port v = refl
if_for-same Batches v = refl
if_for-same AtOnce v = refl
if_for-same Processors v = refl
if_for-same Costs v = refl

-- where the first word is neither, no part begins words
pub no_begin : (words : List (List ℕ)) (w first : List ℕ) → 1 ≤ length words → first ≡ get_or words 0 first → w ≡ first → ((n : OptionName) (rest : List ℕ) → w ≡ spelled n ++ rest → ⊥) → (IsPositional w → ⊥) → (p : Part) (rest : List (List ℕ)) → Begins p words rest → ⊥
no_begin [] w first some is same none other p rest b = omega arith
no_begin (v ∷ words) w first some is same none other (word a) rest b =
    other (subst IsPositional (sym (same ∙ is ∙ same_head v a words rest b.0)) b.1)
no_begin (v ∷ words) w first some is same none other (option n value) rest b = elim b.1 [
  | inl e ↦ none n (61 ∷ value) (same ∙ is ∙ same_head v (spelled n ++ 61 ∷ value) words rest e)
  | inr e ↦ none n [] (same ∙ is ∙ same_head v (spelled n) words (value ∷ rest) e.0 ∙ sym (append-nil (spelled n)))
]

-- where the first word is an option's name alone, and no value comes after it, no part begins words
pub alone : {R : Type 0} (r : Option R) (words : List (List ℕ)) (w first more : List ℕ) (name : OptionName)
    → 1 ≤ length words → first ≡ get_or words 0 first → w ≡ first → w ≡ spelled name ++ more → length more < 1
    → IfNone r ((value : List ℕ) (rest : List (List ℕ)) → take (length words - 1) (drop 1 words) ≡ value ∷ rest
    → IsFilled value → IsNoOption value → ⊥)
    → IfNone r ((p : Part) (rest : List (List ℕ)) → Begins p words rest → ⊥)
alone (Some x) words w first more name some is same found empty none = tt
alone None [] w first more name some is same found empty none = absurd (omega (arith, some))
alone None (v ∷ words) w first more name some is same found empty none = by
  where
    no_more : (l : List ℕ) → length l < 1 → l ≡ []
    no_more [] few = refl
    no_more (b ∷ l) few = absurd (omega (arith, few))

    -- the first word is the option's name
    head : spelled name ++ [] ≡ v
    head = ap (λ (l : List ℕ). spelled name ++ l) (sym (no_more more empty)) ∙ sym found ∙ same ∙ is

    tail : take (length (v ∷ words) - 1) (drop 1 (v ∷ words)) ≡ words
    tail = take_all (length (v ∷ words) - 1) words (omega arith)

    by : (p : Part) (rest : List (List ℕ)) → Begins p (v ∷ words) rest → ⊥
    by (word a) rest b = no_word name [] (subst IsPositional (sym (head ∙ same_head v a words rest b.0)) b.1)
    by (option n value) rest b = elim b.1 [
      | inl e ↦
          let heads : spelled name ++ [] ≡ spelled n ++ 61 ∷ value = head ∙ same_head v (spelled n ++ 61 ∷ value) words rest e in
          let none : [] ≡ 61 ∷ value = same_behind name n [] (61 ∷ value) heads (one_name name n [] (61 ∷ value) heads) in
          absurd cc
      | inr e ↦ none value rest (tail ∙ same_tail v (spelled n) words (value ∷ rest) e.0) b.0 e.1
    ]
