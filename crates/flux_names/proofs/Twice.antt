-- Names that are there twice, by the names before and by the lines before.
use Rattle.std.proofs.Common.{◌≡◌, ℕ, ◌||◌, ◌&&◌, Bool, true, false, not, List, [], ◌∷◌, ◌++◌, Option, Some, None, refl, sym, ap, ◌∙◌}
use Rattle.std.specs.List.{list_any}
use Rattle.std.proofs.lemmas.List.Folds.{list_any-append}
use Rattle.std.proofs.Math.Bool.{or-false, and-false, and-true}
use Rattle.flux_syntax.proofs.Found.{any_same}
use Rattle.flux_syntax.specs.declared.declarations.Word.{Word}
use Rattle.flux_syntax.specs.declared.declarations.Decl.{Decl}
use Rattle.flux_syntax.specs.Words.{known, and_name}
use Rattle.flux_names.specs.Rows.{is_patterned, have_one_name, repeats, listed_if, repeated_after}
use Rattle.flux_names.specs.steps.Repeats.{repeated_in, and_plain, repeated_by}
use Rattle.flux_names.proofs.Symbols.{is_text, known_and_name}

-- the lines before that have a name, and those of them that are plain
abbrev have : (Decl → Option Word) → Word → List Decl → Bool
have sort word before = list_any (λ e. have_one_name (Some word) (sort e)) before

abbrev have_plain : (Decl → Option Word) → Word → List Decl → Bool
have_plain sort word before = list_any (λ e. have_one_name (Some word) (sort e) && not (is_patterned e)) before

-- tables of the lines before
record AreOf (sort : Decl → Option Word) (names plain : List (List ℕ)) (before : List Decl) : Type 0 where
  all : (word : Word) → known names word.text ≡ have sort word before
  some : (word : Word) → known plain word.text ≡ have_plain sort word before

same_name : (word : Word) (other : Option Word) → is_text word.text other ≡ have_one_name (Some word) other
same_name word None = refl
same_name word (Some other) = refl

none_of : (decl : Decl) → is_patterned decl ≡ false → (name : Bool) → name ≡ (name && not (is_patterned decl))
none_of decl e name = rw e (sym (and-true name))

-- one line more
are_of_more : (sort : Decl → Option Word) (names plain : List (List ℕ)) (before : List Decl) (decl : Decl) → AreOf sort names plain before
    → AreOf sort (and_name names (sort decl)) (and_plain plain sort decl) (before ++ decl ∷ [])
are_of_more sort names plain before decl are = record { all = all_more; some = some_more (is_patterned decl) refl }
  where
    name : Word → Bool
    name word = have_one_name (Some word) (sort decl)

    all_more : (word : Word) → known (and_name names (sort decl)) word.text ≡ have sort word (before ++ decl ∷ [])
    all_more word =
        known_and_name names (sort decl) word.text
        ∙ ap (λ (b : Bool). b || is_text word.text (sort decl)) (are.all word)
        ∙ ap (λ (b : Bool). have sort word before || b) (same_name word (sort decl) ∙ sym (or-false (have_one_name (Some word) (sort decl))))
        ∙ sym (list_any-append (λ e. have_one_name (Some word) (sort e)) before (decl ∷ []))

    last_plain : (word : Word) → have_plain sort word (before ++ decl ∷ []) ≡ (have_plain sort word before || (have_one_name (Some word) (sort decl) && not (is_patterned decl)))
    last_plain word =
        list_any-append (λ e. have_one_name (Some word) (sort e) && not (is_patterned e)) before (decl ∷ [])
        ∙ ap (λ (b : Bool). have_plain sort word before || b) (or-false (have_one_name (Some word) (sort decl) && not (is_patterned decl)))

    some_more : (t : Bool) → is_patterned decl ≡ t → (word : Word) → known (and_plain plain sort decl) word.text ≡ have_plain sort word (before ++ decl ∷ [])
    some_more true e word =
        let last : (have_one_name (Some word) (sort decl) && not (is_patterned decl)) ≡ false = rw e (and-false (have_one_name (Some word) (sort decl))) in
        let this : known (and_plain plain sort decl) word.text ≡ known plain word.text = rw e refl in
        this ∙ are.some word ∙ sym (or-false (have_plain sort word before)) ∙ ap (λ (b : Bool). have_plain sort word before || b) (sym last) ∙ sym (last_plain word)
    some_more false e word =
        let last : have_one_name (Some word) (sort decl) ≡ (have_one_name (Some word) (sort decl) && not (is_patterned decl)) = rw e (sym (and-true (have_one_name (Some word) (sort decl)))) in
        let this : known (and_plain plain sort decl) word.text ≡ known (and_name plain (sort decl)) word.text = rw e refl in
        this
        ∙ known_and_name plain (sort decl) word.text
        ∙ ap (λ (b : Bool). b || is_text word.text (sort decl)) (are.some word)
        ∙ ap (λ (b : Bool). have_plain sort word before || b) (same_name word (sort decl) ∙ last)
        ∙ sym (last_plain word)

-- what repeats a line before is known
known_here : (sort : Decl → Option Word) (names plain : List (List ℕ)) (before : List Decl) (decl : Decl) → AreOf sort names plain before
    → repeated_in sort names plain decl ≡ listed_if (list_any (repeats sort decl) before) (sort decl)
known_here sort names plain before decl are = one (sort decl) refl (is_patterned decl) refl
  where
    nothing : (b : Bool) → listed_if false None ≡ listed_if b None
    nothing true = refl
    nothing false = refl

    one : (word : Option Word) → sort decl ≡ word → (t : Bool) → is_patterned decl ≡ t → repeated_in sort names plain decl ≡ listed_if (list_any (repeats sort decl) before) (sort decl)
    one None e t i = rw e (nothing (list_any (repeats sort decl) before))
    one (Some word) e true i =
        let same : have_plain sort word before ≡ list_any (repeats sort decl) before = any_same (λ (x : Decl). have_one_name (Some word) (sort x) && not (is_patterned x)) (repeats sort decl) (λ x. rw (e, i) refl) before in
        rw (e, i) (ap (λ (b : Bool). listed_if b (Some word)) (are.some word ∙ same))
    one (Some word) e false i =
        let same : have sort word before ≡ list_any (repeats sort decl) before = any_same (λ (x : Decl). have_one_name (Some word) (sort x)) (repeats sort decl) (λ x. rw (e, i) (sym (and-true (have_one_name (Some word) (sort x))))) before in
        rw (e, i) (ap (λ (b : Bool). listed_if b (Some word)) (are.all word ∙ same))

repeated_from : (sort : Decl → Option Word) (names plain : List (List ℕ)) (before decls : List Decl) → AreOf sort names plain before → repeated_by sort names plain decls ≡ repeated_after sort before decls
repeated_from sort names plain before [] are = refl
repeated_from sort names plain before (decl ∷ decls) are =
    ap (λ (l : List Word). l ++ repeated_by sort (and_name names (sort decl)) (and_plain plain sort decl) decls) (known_here sort names plain before decl are)
    ∙ ap (λ (l : List Word). listed_if (list_any (repeats sort decl) before) (sort decl) ++ l)
    (repeated_from sort (and_name names (sort decl)) (and_plain plain sort decl) (before ++ decl ∷ []) decls (are_of_more sort names plain before decl are))

-- the names that tables find are those that repeat a line before
pub repeated_is : (sort : Decl → Option Word) (decls : List Decl) → repeated_by sort [] [] decls ≡ repeated_after sort [] decls
repeated_is sort decls = repeated_from sort [] [] [] decls (record { all = λ word. refl; some = λ word. refl })
