-- The last of a first and others.
use Rattle.std.proofs.Common.{◌≡◌, ◌≤◌, ◌-◌, ◌&&◌, suc, Bool, length, get_or, take, drop, List, [], ◌∷◌, Option, Some, refl, sym, ap, ◌∙◌, arith}
use Rattle.std.specs.List.{slice_get}
use Rattle.std.proofs.lemmas.List.{take_all}
use Rattle.flux_model.specs.declared.signatures.NodeSig.{NodeSig}
use Rattle.flux_model.specs.Types.{same_types}
use Rattle.flux_syntax.specs.declared.declarations.Word.{Word}
use Rattle.flux_types.specs.Signatures.{last_of}
use Rattle.flux_types.specs.Rows.{WordSigs, is_like_node}

-- the last of others, where there are any
pub last_some : {A : Type 0} (first : A) (others : List A) (last : A)
    → Some last ≡ slice_get others (length others - 1) → last ≡ last_of first others
last_some first [] last e = absurd cc
last_some first (x ∷ []) last e = cc
last_some first (x ∷ y ∷ others) last e =
    last_some x (y ∷ others) last (e ∙ ap (slice_get (x ∷ y ∷ others)) (let same : suc (suc (length others)) - 1 ≡ suc (suc (length others) - 1) = omega arith in same))

-- what comes after the first
behind : {A : Type 0} (x : A) (xs : List A) → take (suc (length xs) - 1) xs ≡ xs
behind x xs = ap (λ n. take n xs) (let same : suc (length xs) - 1 ≡ length xs = omega arith in same) ∙ take_all (length xs) xs (omega arith)

-- a case that isn't empty is compared at its first and its last member
pub like_by_ends : (sigs : WordSigs) (own : NodeSig) (members : List Word) (first last : Word) (result : Bool)
    → 1 ≤ length members → first ≡ get_or members 0 first → last ≡ last_of first (take (length members - 1) (drop 1 members))
    → (let from = sigs first in let to = sigs last in result ≡ (same_types from.ins own.ins && same_types to.outs own.outs))
    → result ≡ is_like_node sigs own members
like_by_ends sigs own [] first last result some e l r = absurd (omega (arith, some))
like_by_ends sigs own (m ∷ members) first last result some e l r =
    let same : last ≡ last_of m members = l ∙ ap (last_of first) (behind m members) ∙ ap (λ (f : Word). last_of f members) e in
    r ∙ ap (λ (w : Word). let from = sigs w in let to = sigs last in same_types from.ins own.ins && same_types to.outs own.outs) e
    ∙ ap (λ (w : Word). let from = sigs m in let to = sigs w in same_types from.ins own.ins && same_types to.outs own.outs) same
