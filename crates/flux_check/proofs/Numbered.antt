-- The nodes of declarations, by number and by name.
use Rattle.std.proofs.Common.{◌≡◌, ◌+◌, ℕ, zero, suc, Bool, true, false, ◌||◌, not, cond, List, [], ◌∷◌, map, Some, refl, sym, ap, subst, ◌∙◌, arith}
use Rattle.std.specs.List.{slice_get, position_or_len, AllByRecursion}
use Rattle.std.specs.Str.{bytes_eq}
use Rattle.std.proofs.lemmas.Slice.Eq.{bytes_eq-Decides}
use Rattle.std.proofs.lemmas.Option.{slice_get-map}
use Rattle.std.specs.Option.{option_map}
use Rattle.flux_model.specs.declared.programs.Node.{Node}
use Rattle.flux_syntax.specs.declared.declarations.Word.{Word}
use Rattle.flux_syntax.specs.declared.declarations.Decl.{Decl}
use Rattle.flux_syntax.specs.Words.{known, defined, names_of, texts_of}
use Rattle.flux_syntax.specs.ProgramOfText.{place_of, classes_of, node_of}
use Rattle.flux_syntax.proofs.NumberedNames.{known_at}
use Rattle.flux_names.specs.Rows.{among, not_among}
use Rattle.flux_types.specs.Signatures.{nodes_of}

-- ---- tests

-- texts that the test finds the same are one
pub same_text : (a b : List ℕ) → bytes_eq a b ≡ true → a ≡ b
same_text a b e = (bytes_eq-Decides a b).0 e

-- and one text is the same by the test
pub text_same : (a b : List ℕ) → a ≡ b → bytes_eq a b ≡ true
text_same a b e = (bytes_eq-Decides a b).1 e

-- the test goes both ways
pub text_back : (a b : List ℕ) → bytes_eq a b ≡ true → bytes_eq b a ≡ true
text_back a b e = text_same b a (sym (same_text a b e))

-- no test is both
pub not_both : (t : Bool) → t ≡ true → t ≡ false → ⊥
not_both true a b = absurd cc
not_both false a b = absurd cc

-- ---- names

-- the name at a word's place is the word's text
pub place_name : (names : List (List ℕ)) (number : ℕ) (name wanted : List ℕ) → slice_get names number ≡ Some name → position_or_len (bytes_eq wanted) names ≡ number → wanted ≡ name
place_name [] number name wanted at e = absurd cc
place_name (n ∷ names) zero name wanted at e = one (bytes_eq wanted n) refl e
  where
    own : n ≡ name
    own = cc

    one : (t : Bool) → bytes_eq wanted n ≡ t → cond (not t) (1 + position_or_len (bytes_eq wanted) names) 0 ≡ 0 → wanted ≡ name
    one true i e = same_text wanted n i ∙ own
    one false i e = absurd (omega (arith, e))
place_name (n ∷ names) (suc number) name wanted at e = one (bytes_eq wanted n) e (place_name names number name wanted at)
  where
    one : (t : Bool) → cond (not t) (1 + position_or_len (bytes_eq wanted) names) 0 ≡ suc number → (position_or_len (bytes_eq wanted) names ≡ number → wanted ≡ name) → wanted ≡ name
    one true e more = absurd (omega (arith, e))
    one false e more = more (omega (arith, e))

-- words of one text have one place
pub place_same : (names : List (List ℕ)) (a b : Word) → bytes_eq a.text b.text ≡ true → place_of names a ≡ place_of names b
place_same names a b e = ap (λ (t : List ℕ). position_or_len (bytes_eq t) names) (same_text a.text b.text e)

-- ---- words among names, and not

-- where no word is unknown the first is known
pub first_known : (names : List (List ℕ)) (w : Word) (words : List Word) → not_among names (w ∷ words) ≡ [] → (known names w.text ≡ true) × (not_among names words ≡ [])
first_known names w words e = one (known names w.text) refl e
  where
    one : (t : Bool) → known names w.text ≡ t → cond (not t) (w ∷ not_among names words) (not_among names words) ≡ [] → (known names w.text ≡ true) × (not_among names words ≡ [])
    one true i e = (i, e)
    one false i e = absurd cc

-- where none is among names the first isn't
pub first_unknown : (names : List (List ℕ)) (w : Word) (words : List Word) → among names (w ∷ words) ≡ [] → (known names w.text ≡ false) × (among names words ≡ [])
first_unknown names w words e = one (known names w.text) refl e
  where
    one : (t : Bool) → known names w.text ≡ t → cond t (w ∷ among names words) (among names words) ≡ [] → (known names w.text ≡ false) × (among names words ≡ [])
    one true i e = absurd cc
    one false i e = (i, e)

-- ---- nodes

-- the node that declarations have of a name
abbrev pub node_named : List Decl → List ℕ → Node
node_named decls name = node_of (names_of decls) (texts_of defined decls) (classes_of decls) decls name

-- what holds of each element holds of the one at a place
pub all_at : {X : Type 0} (P : X → Type 0) (xs : List X) (k : ℕ) (x : X) → slice_get xs k ≡ Some x → AllByRecursion P xs → P x
all_at P [] k x at all = absurd cc
all_at P (y ∷ xs) zero x at all = let same : y ≡ x = cc in subst P same all.0
all_at P (y ∷ xs) (suc k) x at all = all_at P xs k x at all.1

-- the element after one of a mapped list
pub record IsImage {X Y : Type 0} (f : X → Y) (xs : List X) (k : ℕ) (y : Y) : Type 0 where
  pub from : X
  pub at : slice_get xs k ≡ Some from
  pub is : f from ≡ y

-- each element of a mapped list has one
pub map_get : {X Y : Type 0} (f : X → Y) (xs : List X) (k : ℕ) (y : Y) → slice_get (map f xs) k ≡ Some y → IsImage f xs k y
map_get f [] k y e = absurd cc
map_get f (x ∷ xs) zero y e = record { from = x; at = refl; is = cc }
map_get f (x ∷ xs) (suc k) y e = let image = map_get f xs k y e in record { from = image.from; at = image.at; is = image.is }

-- a known word's number is that of its node
pub known_node : (decls : List Decl) (w : Word) → known (names_of decls) w.text ≡ true → slice_get (nodes_of decls) (place_of (names_of decls) w) ≡ Some (node_named decls w.text)
known_node decls w e = slice_get-map (node_named decls) (names_of decls) (place_of (names_of decls) w) ∙ ap (option_map (node_named decls)) (known_at (names_of decls) w.text e)
