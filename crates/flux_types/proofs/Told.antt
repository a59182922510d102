-- What a table of predicates tells is what their `typedef` lines say.
use Rattle.std.proofs.Common.{◌≡◌, ◌+◌, ℕ, suc, Bool, true, false, ◌||◌, if◌then◌else◌, List, [], ◌∷◌, ◌++◌, length, Option, Some, None, refl, sym, ap, ◌∙◌, arith, length-append}
use Rattle.std.specs.List.{fold, slice_get, position_or_len}
use Rattle.std.specs.Option.{unwrap_or}
use Rattle.std.specs.Str.{bytes_eq}
use Rattle.std.proofs.lemmas.Slice.Eq.{bytes_eq-Decides}
use Rattle.std.proofs.Math.Bool.{or-false, or_assoc}
use Rattle.flux_values.specs.declared.values.Kind.{Kind}
use Rattle.flux_values.specs.Meanings.{LibraryMeaning}
use Rattle.flux_syntax.specs.declared.declarations.Decl.{Decl}
use Rattle.flux_syntax.specs.declared.declarations.Decl.TheVariants.{Typedef}
use Rattle.flux_syntax.specs.Words.{known}
use Rattle.flux_types.specs.Rows.{taken_by, function_named, predicates_of}
use Rattle.flux_types.specs.steps.Passing.{kind_in, with_typedef}

-- the first of equal names
abbrev first_kind : List (List ℕ) → List (Option Kind) → List ℕ → Option Kind
first_kind (name ∷ names) (kind ∷ kinds) wanted = if bytes_eq wanted name then kind else first_kind names kinds wanted
first_kind names kinds wanted = None

kind_first : (names : List (List ℕ)) (kinds : List (Option Kind)) (wanted : List ℕ) → length names ≡ length kinds → kind_in names kinds wanted ≡ first_kind names kinds wanted
kind_first [] [] wanted same = refl
kind_first [] (k ∷ kinds) wanted same = absurd (omega (arith, same))
kind_first (n ∷ names) [] wanted same = absurd (omega (arith, same))
kind_first (n ∷ names) (k ∷ kinds) wanted same = one (bytes_eq wanted n) refl (kind_first names kinds wanted (omega (arith, same)))
  where
    one : (t : Bool) → bytes_eq wanted n ≡ t → kind_in names kinds wanted ≡ first_kind names kinds wanted
        → kind_in (n ∷ names) (k ∷ kinds) wanted ≡ (if t then k else first_kind names kinds wanted)
    one true e others = rw e refl
    one false e others =
        let n = position_or_len (bytes_eq wanted) names in
        rw e (ap (λ (m : ℕ). unwrap_or (slice_get (k ∷ kinds) m) None) (let same : 1 + n ≡ suc n = omega arith in same) ∙ others)

-- what a table tells, and after it what other lines say
abbrev or_line : Bool → Option Kind → Option Kind → Option Kind
or_line there own other = if there then own else other

first_more : (names : List (List ℕ)) (kinds : List (Option Kind)) (name : List ℕ) (kind : Option Kind) (wanted : List ℕ) → length names ≡ length kinds
    → first_kind (names ++ name ∷ []) (kinds ++ kind ∷ []) wanted ≡ or_line (known names wanted) (first_kind names kinds wanted) (if bytes_eq wanted name then kind else None)
first_more [] [] name kind wanted same = refl
first_more [] (k ∷ kinds) name kind wanted same = absurd (omega (arith, same))
first_more (n ∷ names) [] name kind wanted same = absurd (omega (arith, same))
first_more (n ∷ names) (k ∷ kinds) name kind wanted same = one (bytes_eq wanted n) (first_more names kinds name kind wanted (omega (arith, same)))
  where
    one : (t : Bool) → first_kind (names ++ name ∷ []) (kinds ++ kind ∷ []) wanted ≡ or_line (known names wanted) (first_kind names kinds wanted) (if bytes_eq wanted name then kind else None)
        → (if t then k else first_kind (names ++ name ∷ []) (kinds ++ kind ∷ []) wanted)
        ≡ or_line (t || known names wanted) (if t then k else first_kind names kinds wanted) (if bytes_eq wanted name then kind else None)
    one true others = refl
    one false others = others

known_more : (names : List (List ℕ)) (name wanted : List ℕ) → known (names ++ name ∷ []) wanted ≡ (known names wanted || bytes_eq wanted name)
known_more [] name wanted = or-false (bytes_eq wanted name)
known_more (n ∷ names) name wanted = ap (λ (t : Bool). bytes_eq wanted n || t) (known_more names name wanted) ∙ sym (or_assoc (bytes_eq wanted n) (known names wanted) (bytes_eq wanted name))

module _ (meaning : LibraryMeaning) (wanted : List ℕ) where
  abbrev told : List Decl → Option Kind
  told decls = predicates_of meaning decls wanted

  -- the table so far, and the lines that are left
  abbrev Tells : List Decl → Type 0
  Tells decls = (names : List (List ℕ)) (kinds : List (Option Kind)) → length names ≡ length kinds
      → let table = fold (with_typedef meaning) (record { names = names; kinds = kinds }) decls in
      kind_in table.names table.kinds wanted ≡ or_line (known names wanted) (first_kind names kinds wanted) (told decls)

  unknown_kind : (names : List (List ℕ)) (kinds : List (Option Kind)) → first_kind names kinds wanted ≡ or_line (known names wanted) (first_kind names kinds wanted) None
  unknown_kind [] kinds = refl
  unknown_kind (n ∷ names) [] = none (bytes_eq wanted n || known names wanted)
    where
      none : (t : Bool) → None ≡ or_line t None None
      none true = refl
      none false = refl
  unknown_kind (n ∷ names) (k ∷ kinds) = one (bytes_eq wanted n) (unknown_kind names kinds)
    where
      one : (t : Bool) → first_kind names kinds wanted ≡ or_line (known names wanted) (first_kind names kinds wanted) None
          → (if t then k else first_kind names kinds wanted) ≡ or_line (t || known names wanted) (if t then k else first_kind names kinds wanted) None
      one true others = refl
      one false others = others

  tells : (decls : List Decl) → Tells decls
  tells [] names kinds same = kind_first names kinds wanted same ∙ unknown_kind names kinds
  tells (Typedef name function ∷ decls) names kinds same = one (known names name.text) refl (tells decls)
    where
      kind : Option Kind
      kind = meaning.predicate function.text

      choice : Option Kind
      choice = if bytes_eq wanted name.text then kind else told decls

      line : (t : Bool) → taken_by meaning (if t then Some function.text else function_named wanted decls) ≡ (if t then kind else told decls)
      line true = refl
      line false = refl

      -- a name that is there already
      there : (t b : Bool) → known names wanted ≡ t → bytes_eq wanted name.text ≡ b → known names name.text ≡ true → or_line t (first_kind names kinds wanted) (told decls) ≡ or_line t (first_kind names kinds wanted) (if b then kind else told decls)
      there true b k e is = refl
      there false false k e is = refl
      there false true k e is =
          let same_name : wanted ≡ name.text = (bytes_eq-Decides wanted name.text).0 e in
          let h : ◌≡◌ {A = Bool} true false = sym is ∙ ap (known names) (sym same_name) ∙ k in
          absurd cc

      -- a new name
      new : (t b : Bool) → or_line (t || b) (or_line t (first_kind names kinds wanted) (if b then kind else None)) (told decls) ≡ or_line t (first_kind names kinds wanted) (if b then kind else told decls)
      new true b = refl
      new false true = refl
      new false false = refl

      one : (t : Bool) → known names name.text ≡ t → Tells decls
          → let table = fold (with_typedef meaning) (if t then record { names = names; kinds = kinds } else record { names = names ++ name.text ∷ []; kinds = kinds ++ kind ∷ [] }) decls in
          kind_in table.names table.kinds wanted ≡ or_line (known names wanted) (first_kind names kinds wanted) (taken_by meaning (if bytes_eq wanted name.text then Some function.text else function_named wanted decls))
      one true is all =
          all names kinds same ∙ there (known names wanted) (bytes_eq wanted name.text) refl refl is
          ∙ ap (or_line (known names wanted) (first_kind names kinds wanted)) (sym (line (bytes_eq wanted name.text)))
      one false is all =
          all (names ++ name.text ∷ []) (kinds ++ kind ∷ []) (omega (arith, same, length-append names (name.text ∷ []), length-append kinds (kind ∷ [])))
          ∙ (rw (known_more names name.text wanted, first_more names kinds name.text kind wanted same) (new (known names wanted) (bytes_eq wanted name.text)))
          ∙ ap (or_line (known names wanted) (first_kind names kinds wanted)) (sym (line (bytes_eq wanted name.text)))
  tells (other ∷ decls) names kinds same = tells decls names kinds same

-- the table of all `typedef` lines
pub predicates_told : (meaning : LibraryMeaning) (decls : List Decl)
    → let table = fold (with_typedef meaning) (record { names = []; kinds = [] }) decls in
    kind_in table.names table.kinds ≡ predicates_of meaning decls
predicates_told meaning decls = λ i wanted. tells meaning wanted decls [] [] refl i
