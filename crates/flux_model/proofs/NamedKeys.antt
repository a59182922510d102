-- A set of borrowed names has them as a list.
use Rattle.std.proofs.Common.{◌≡◌, ℕ, Bool, true, false, cond, ◌||◌, List, [], ◌∷◌, ◌++◌, get_or, map, Option, Some, None, is_some, IfSome, IfNone, refl, sym, ap, ◌∙◌}
use Rattle.std.specs.List.{list_any, position, slice_get}
use Rattle.std.specs.Option.{option_map}
use Rattle.std.specs.Str.{bytes_eq}
use Rattle.std.proofs.lemmas.Bool.{false≢true}
use Rattle.std.proofs.lemmas.List.{map_push}
use Rattle.std.proofs.lemmas.List.Quantifiers.{position-Some}
use Rattle.std.proofs.lemmas.Map.Keys.{any_passes_from_place}
use Rattle.std.proofs.lemmas.Option.{slice_get-get_or, slice_get-map}
use Rattle.std.proofs.lemmas.Slice.Eq.{bytes_eq-Decides}

eq_self : (name : List ℕ) → bytes_eq name name ≡ true
eq_self name = (bytes_eq-Decides name name).1 refl

-- a set's place of a name is its place among the names
pub place_found : {X : Type 0} (f : X → List ℕ) (keys : List X) (names : List (List ℕ)) (name : List ℕ) (r : Option ℕ) → map f keys ≡ names → r ≡ position (λ k. bytes_eq name (f k)) keys
    → IfSome r (λ place. slice_get names place ≡ Some name)
place_found f keys names name None are e = tt
place_found f [] names name (Some i) are e = absurd (let h : ◌≡◌ {A = Option ℕ} (Some i) None = e in cc)
place_found f (k ∷ keys) names name (Some i) are e =
    let at = position-Some (λ x. bytes_eq name (f x)) (k ∷ keys) i k (sym e) in
    let same : name ≡ f (get_or (k ∷ keys) i k) = (bytes_eq-Decides name (f (get_or (k ∷ keys) i k))).0 at.1 in
    ap (λ (l : List (List ℕ)). slice_get l i) (sym are) ∙ slice_get-map f (k ∷ keys) i ∙ ap (option_map f) (slice_get-get_or (k ∷ keys) i k at.0) ∙ ap Some (sym same)

any_map : {X : Type 0} (f : X → List ℕ) (p : List ℕ → Bool) (keys : List X) → list_any (λ k. p (f k)) keys ≡ list_any p (map f keys)
any_map f p [] = refl
any_map f p (k ∷ keys) = ap (λ (t : Bool). p (f k) || t) (any_map f p keys)

pub place_none : {X : Type 0} (f : X → List ℕ) (keys : List X) (names : List (List ℕ)) (name : List ℕ) (r : Option ℕ) → map f keys ≡ names → is_some r ≡ list_any (λ k. bytes_eq name (f k)) keys
    → IfNone r ((place : ℕ) → slice_get names place ≡ Some name → ⊥)
place_none f keys names name (Some i) are e = tt
place_none f keys names name None are e = λ place is.
    false≢true (e ∙ any_map f (bytes_eq name) keys ∙ ap (list_any (bytes_eq name)) are ∙ any_passes_from_place (bytes_eq name) names place name is (eq_self name))

-- a key more
pub added : {X : Type 0} (f : X → List ℕ) (keys more : List X) (names : List (List ℕ)) (x : X) → map f keys ≡ names → list_any (bytes_eq (f x)) names ≡ false
    → more ≡ cond (list_any (λ k. bytes_eq (f x) (f k)) keys) keys (keys ++ x ∷ []) → map f more ≡ names ++ f x ∷ []
added f keys more names x are new is =
    let e : list_any (λ k. bytes_eq (f x) (f k)) keys ≡ false = any_map f (bytes_eq (f x)) keys ∙ ap (list_any (bytes_eq (f x))) are ∙ new in
    ap (map f) (is ∙ ap (λ (t : Bool). cond t keys (keys ++ x ∷ [])) e) ∙ map_push f keys x ∙ ap (λ (l : List (List ℕ)). l ++ f x ∷ []) are

-- a key that is there
pub kept : {X : Type 0} (f : X → List ℕ) (keys more : List X) (names : List (List ℕ)) (x : X) → map f keys ≡ names → list_any (bytes_eq (f x)) names ≡ true
    → more ≡ cond (list_any (λ k. bytes_eq (f x) (f k)) keys) keys (keys ++ x ∷ []) → map f more ≡ names
kept f keys more names x are there is =
    let e : list_any (λ k. bytes_eq (f x) (f k)) keys ≡ true = any_map f (bytes_eq (f x)) keys ∙ ap (list_any (bytes_eq (f x))) are ∙ there in
    ap (map f) (is ∙ ap (λ (t : Bool). cond t keys (keys ++ x ∷ [])) e) ∙ are
