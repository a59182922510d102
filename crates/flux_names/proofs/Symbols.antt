-- Names in tables: what a table knows, that its names are distinct, and where each is.
use Rattle.std.proofs.Common.{◌≡◌, ◌<◌, ◌+◌, ℕ, suc, ◌||◌, Bool, true, false, not, cond, if◌then◌else◌, List, [], ◌∷◌, ◌++◌, length, get_or, set, map, Option, Some, None, refl, sym, ap, ◌∙◌, arith}
use Rattle.std.specs.Bool.{⊤}
use Rattle.std.specs.List.{list_any, filter, flat_map, position_or_len}
use Rattle.std.specs.Str.{bytes_eq}
use Rattle.std.proofs.lemmas.Slice.Eq.{bytes_eq-Decides}
use Rattle.std.proofs.lemmas.List.Folds.{list_any-append}
use Rattle.std.proofs.lemmas.List.{append-nil, append_assoc, map-append}
use Rattle.std.proofs.Math.Bool.{or_assoc}
use Rattle.flux_syntax.specs.declared.declarations.Word.{Word}
use Rattle.flux_syntax.specs.declared.declarations.Decl.{Decl}
use Rattle.flux_syntax.specs.Names.{with_name}
use Rattle.flux_syntax.specs.Words.{naming, known, and_name, names_after, names_of, unless_known, first_words_after, first_words, texts_of}
use Rattle.flux_names.specs.Rows.{among, not_among}
use Rattle.flux_names.specs.steps.Sorts.{names_by_after, names_by}

-- ---- what a table knows

or_false : (b : Bool) → b ≡ (b || false)
or_false true = refl
or_false false = refl

or_true : (b : Bool) → true ≡ (b || true)
or_true true = refl
or_true false = refl

-- a text is that of a word, if there is one
abbrev pub is_text : List ℕ → Option Word → Bool
is_text text None = false
is_text text (Some word) = bytes_eq text word.text

-- what is known is known still, and the name that was added
pub known_and_name : (names : List (List ℕ)) (word : Option Word) (text : List ℕ) → known (and_name names word) text ≡ (known names text || is_text text word)
known_and_name names None text = or_false (known names text)
known_and_name names (Some word) text = one (known names word.text) refl (bytes_eq text word.text) refl
  where
    one : (t : Bool) → known names word.text ≡ t → (u : Bool) → bytes_eq text word.text ≡ u → known (with_name names word.text) text ≡ (known names text || bytes_eq text word.text)
    one true i false j = rw (i, j) (or_false (known names text))
    one true i true j = let same : text ≡ word.text = (bytes_eq-Decides text word.text).0 j in rw i (rw (same, i) refl)
    one false i u j = rw i (list_any-append (bytes_eq text) names (word.text ∷ []) ∙ ap (λ (b : Bool). known names text || b) (sym (or_false (bytes_eq text word.text))))

known_after : (sort : Decl → Option Word) (names : List (List ℕ)) (decls : List Decl) (text : List ℕ) → known (names_by_after sort names decls) text ≡ (known names text || known (texts_of sort decls) text)
known_after sort names [] text = or_false (known names text)
known_after sort names (decl ∷ decls) text = known_after sort (and_name names (sort decl)) decls text ∙ one (sort decl) refl
  where
    one : (word : Option Word) → sort decl ≡ word → (known (and_name names (sort decl)) text || known (texts_of sort decls) text) ≡ (known names text || known (texts_of sort (decl ∷ decls)) text)
    one None e = rw e refl
    one (Some word) e =
        rw e (ap (λ (b : Bool). b || known (texts_of sort decls) text) (known_and_name names (Some word) text)
        ∙ or_assoc (known names text) (bytes_eq text word.text) (known (texts_of sort decls) text))

-- a table of a sort knows the texts of that sort
pub known_names_by : (sort : Decl → Option Word) (decls : List Decl) (text : List ℕ) → known (names_by sort decls) text ≡ known (texts_of sort decls) text
known_names_by sort decls text = known_after sort [] decls text

-- tables that know the same pick the same words
filter_same : {X : Type 0} (p q : X → Bool) → ((x : X) → p x ≡ q x) → (xs : List X) → filter p xs ≡ filter q xs
filter_same p q same [] = refl
filter_same {X} p q same (x ∷ xs) =
    ap (λ (b : Bool). cond b (x ∷ filter p xs) (filter p xs)) (same x)
    ∙ ap (λ (l : List X). cond (q x) (x ∷ l) l) (filter_same p q same xs)

pub same_among : (names others : List (List ℕ)) → ((text : List ℕ) → known names text ≡ known others text) → (words : List Word) → among names words ≡ among others words
same_among names others same words = filter_same (λ w. known names w.text) (λ w. known others w.text) (λ w. same w.text) words

pub same_not_among : (names others : List (List ℕ)) → ((text : List ℕ) → known names text ≡ known others text) → (words : List Word) → not_among names words ≡ not_among others words
same_not_among names others same words = filter_same (λ w. not (known names w.text)) (λ w. not (known others w.text)) (λ w. ap not (same w.text)) words

pub flat_map_same : {X Y : Type 0} (f g : X → List Y) → ((x : X) → f x ≡ g x) → (xs : List X) → flat_map f xs ≡ flat_map g xs
flat_map_same f g same [] = refl
flat_map_same {X} {Y} f g same (x ∷ xs) = ap (λ (l : List Y). l ++ flat_map f xs) (same x) ∙ ap (λ (l : List Y). g x ++ l) (flat_map_same f g same xs)

pub map_same : {X Y : Type 0} (f g : X → Y) → ((x : X) → f x ≡ g x) → (xs : List X) → map f xs ≡ map g xs
map_same f g same [] = refl
map_same {X} {Y} f g same (x ∷ xs) = ap (λ (y : Y). y ∷ map f xs) (same x) ∙ ap (λ (l : List Y). g x ∷ l) (map_same f g same xs)

-- ---- keys that differ from each other

module _ {K : Type 0} (eq : K → K → Bool) where
  abbrev pub AreApart : List K → Type 0
  AreApart [] = ⊤
  AreApart (key ∷ keys) = (list_any (eq key) keys ≡ false) × AreApart keys

  -- an equivalence that tells keys apart
  pub record IsSameness : Type 0 where
    pub symm : (a b : K) → eq a b ≡ eq b a
    pub same : (a b : K) → eq a b ≡ true → a ≡ b

pub bytes_same : IsSameness bytes_eq
bytes_same = record { symm = symmetric; same = λ a b e. (bytes_eq-Decides a b).0 e }
  where
    turned : (a b : List ℕ) (t u : Bool) → bytes_eq a b ≡ t → bytes_eq b a ≡ u → t ≡ u
    turned a b true true i j = refl
    turned a b false false i j = refl
    turned a b true false i j = let same : a ≡ b = (bytes_eq-Decides a b).0 i in sym i ∙ ap (λ (x : List ℕ). bytes_eq x b) same ∙ ap (λ (x : List ℕ). bytes_eq b x) (sym same) ∙ j
    turned a b false true i j = let same : b ≡ a = (bytes_eq-Decides b a).0 j in sym i ∙ ap (λ (x : List ℕ). bytes_eq x b) (sym same) ∙ ap (λ (x : List ℕ). bytes_eq b x) same ∙ j

    symmetric : (a b : List ℕ) → bytes_eq a b ≡ bytes_eq b a
    symmetric a b = turned a b (bytes_eq a b) (bytes_eq b a) refl refl

module _ {K : Type 0} (eq : K → K → Bool) (is : IsSameness eq) where
  differ : (t : Bool) (rest : Bool) → (t || rest) ≡ false → (t ≡ false) × (rest ≡ false)
  differ true rest e = absurd cc
  differ false rest e = (refl, e)

  -- a key more, where it isn't there yet
  unlike_push : (key new : K) (keys : List K) → list_any (eq key) keys ≡ false → eq key new ≡ false → list_any (eq key) (keys ++ new ∷ []) ≡ false
  unlike_push key new [] e h = rw h refl
  unlike_push key new (k ∷ keys) e h = let both = differ (eq key k) (list_any (eq key) keys) e in rw both.0 (unlike_push key new keys both.1 h)

  pub apart_push : (keys : List K) (new : K) → AreApart eq keys → list_any (eq new) keys ≡ false → AreApart eq (keys ++ new ∷ [])
  apart_push [] new apart e = (refl, tt)
  apart_push (key ∷ keys) new apart e =
      let both = differ (eq new key) (list_any (eq new) keys) e in
      (unlike_push key new keys apart.0 (is.symm key new ∙ both.0), apart_push keys new apart.1 both.1)

  -- what a key that isn't there does to a map over the keys: nothing
  untouched : {V : Type 0} (f : K → V) (g : V → V) (key : K) (keys : List K) → list_any (eq key) keys ≡ false → map (λ k. if eq key k then g (f k) else f k) keys ≡ map f keys
  untouched f g key [] e = refl
  untouched {V} f g key (k ∷ keys) e =
      let both = differ (eq key k) (list_any (eq key) keys) e in
      rw both.0 (ap (λ (l : List V). f k ∷ l) (untouched f g key keys both.1))

  -- a change at one key of a map is a change at the place of that key
  pub changed_at : {V : Type 0} (f : K → V) (g : V → V) (key : K) (keys : List K) (d : V) → AreApart eq keys
      → map (λ k. if eq key k then g (f k) else f k) keys ≡ set (map f keys) (position_or_len (eq key) keys) (g (get_or (map f keys) (position_or_len (eq key) keys) d))
  changed_at f g key [] d apart = refl
  changed_at {V} f g key (k ∷ keys) d apart = one (eq key k) refl (changed_at f g key keys d apart.1)
    where
      one : (t : Bool) → eq key k ≡ t → map (λ k. if eq key k then g (f k) else f k) keys ≡ set (map f keys) (position_or_len (eq key) keys) (g (get_or (map f keys) (position_or_len (eq key) keys) d)) → map (λ k. if eq key k then g (f k) else f k) (k ∷ keys) ≡ set (map f (k ∷ keys)) (position_or_len (eq key) (k ∷ keys)) (g (get_or (map f (k ∷ keys)) (position_or_len (eq key) (k ∷ keys)) d))
      one true e more = let same : key ≡ k = is.same key k e in rw e (ap (λ (l : List V). g (f k) ∷ l) (untouched f g key keys (rw same apart.0)))
      one false e more = rw e (let next : 1 + position_or_len (eq key) keys ≡ suc (position_or_len (eq key) keys) = omega arith in rw next (ap (λ (l : List V). f k ∷ l) more))

  -- each key is at its place, and a key that is known has a place
  pub at_its_place : (key : K) (keys : List K) (d : K) → list_any (eq key) keys ≡ true → get_or keys (position_or_len (eq key) keys) d ≡ key
  at_its_place key [] d e = absurd cc
  at_its_place key (k ∷ keys) d e = one (eq key k) refl (at_its_place key keys d)
    where
      one : (t : Bool) → eq key k ≡ t → (list_any (eq key) keys ≡ true → get_or keys (position_or_len (eq key) keys) d ≡ key) → get_or (k ∷ keys) (position_or_len (eq key) (k ∷ keys)) d ≡ key
      one true i more = rw i (sym (is.same key k i))
      one false i more = let next : 1 + position_or_len (eq key) keys ≡ suc (position_or_len (eq key) keys) = omega arith in rw i (rw next (more (rw i at e)))

  pub below_length : (key : K) (keys : List K) → list_any (eq key) keys ≡ true → position_or_len (eq key) keys < length keys
  below_length key [] e = absurd cc
  below_length key (k ∷ keys) e = one (eq key k) refl (below_length key keys)
    where
      one : (t : Bool) → eq key k ≡ t → (list_any (eq key) keys ≡ true → position_or_len (eq key) keys < length keys) → position_or_len (eq key) (k ∷ keys) < length (k ∷ keys)
      one true i more = rw i (omega arith)
      one false i more = let h : list_any (eq key) keys ≡ true = rw i at e in let lt = more h in rw i (omega (arith, lt))

-- ---- the names of nodes are distinct

apart_and_name : (names : List (List ℕ)) (word : Option Word) → AreApart bytes_eq names → AreApart bytes_eq (and_name names word)
apart_and_name names None apart = apart
apart_and_name names (Some word) apart = one (known names word.text) refl
  where
    one : (t : Bool) → known names word.text ≡ t → AreApart bytes_eq (with_name names word.text)
    one true e = rw e apart
    one false e = rw e (apart_push bytes_eq bytes_same names word.text apart e)

apart_after : (names : List (List ℕ)) (decls : List Decl) → AreApart bytes_eq names → AreApart bytes_eq (names_after names decls)
apart_after names [] apart = apart
apart_after names (decl ∷ decls) apart = apart_after (and_name names (naming decl)) decls (apart_and_name names (naming decl) apart)

pub names_apart : (decls : List Decl) → AreApart bytes_eq (names_of decls)
names_apart decls = apart_after [] decls tt

-- ---- the words that name nodes first have their names

word_added : (names : List (List ℕ)) (word : Option Word) → names ++ map (λ w. w.text) (unless_known names word) ≡ and_name names word
word_added names None = append-nil names
word_added names (Some word) = one (known names word.text) refl
  where
    one : (t : Bool) → known names word.text ≡ t → names ++ map (λ w. w.text) (unless_known names (Some word)) ≡ with_name names word.text
    one true e = rw e (append-nil names)
    one false e = rw e refl

words_added : (names : List (List ℕ)) (decls : List Decl) → names ++ map (λ w. w.text) (first_words_after names decls) ≡ names_after names decls
words_added names [] = append-nil names
words_added names (decl ∷ decls) =
    let own = unless_known names (naming decl) in
    let more = first_words_after (and_name names (naming decl)) decls in
    ap (λ (l : List (List ℕ)). names ++ l) (map-append (λ (w : Word). w.text) own more)
    ∙ sym (append_assoc names (map (λ w. w.text) own) (map (λ w. w.text) more))
    ∙ ap (λ (l : List (List ℕ)). l ++ map (λ w. w.text) more) (word_added names (naming decl))
    ∙ words_added (and_name names (naming decl)) decls

pub first_texts : (decls : List Decl) → map (λ w. w.text) (first_words decls) ≡ names_of decls
first_texts decls = words_added [] decls

-- ---- names that don't repeat

-- texts that are distinct come into a table as they are
pub names_by_apart : (sort : Decl → Option Word) (names : List (List ℕ)) (decls : List Decl) → AreApart bytes_eq (names ++ texts_of sort decls) → names_by_after sort names decls ≡ names ++ texts_of sort decls
names_by_apart sort names [] apart = sym (append-nil names)
names_by_apart sort names (decl ∷ decls) apart = one (sort decl) refl (λ more. names_by_apart sort more decls)
  where
    new_front : (front : List (List ℕ)) (text : List ℕ) (back : List (List ℕ)) → AreApart bytes_eq (front ++ text ∷ back) → list_any (bytes_eq text) front ≡ false
    new_front [] text back apart = refl
    new_front (n ∷ front) text back apart =
        let parts = sym (list_any-append (bytes_eq n) front (text ∷ back)) ∙ apart.0 in
        let both = differ bytes_eq bytes_same (list_any (bytes_eq n) front) (list_any (bytes_eq n) (text ∷ back)) parts in
        let head = differ bytes_eq bytes_same (bytes_eq n text) (list_any (bytes_eq n) back) both.1 in
        rw (bytes_same.symm text n ∙ head.0) (new_front front text back apart.1)

    one : (word : Option Word) → sort decl ≡ word → ((more : List (List ℕ)) → AreApart bytes_eq (more ++ texts_of sort decls) → names_by_after sort more decls ≡ more ++ texts_of sort decls) → names_by_after sort (and_name names (sort decl)) decls ≡ names ++ texts_of sort (decl ∷ decls)
    one None e more = rw e (more names (rw e at apart))
    one (Some word) e more =
        let apart_here : AreApart bytes_eq (names ++ word.text ∷ texts_of sort decls) = rw e at apart in
        let new = new_front names word.text (texts_of sort decls) apart_here in
        let moved = append_assoc names (word.text ∷ []) (texts_of sort decls) in
        rw e (rw new (more (names ++ word.text ∷ []) (rw moved apart_here) ∙ moved))
