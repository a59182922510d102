-- Values with commas between them, one after the other.
use Rattle.std.proofs.Common.{◌≡◌, ℕ, ◌+◌, ◌-◌, ◌≤◌, List, [], ◌∷◌, ◌++◌, length, get_or, take, refl, sym, ap, ◌∙◌, arith, append_assoc, codes}
use Rattle.std.proofs.lemmas.List.{append-nil, take_all, take_more}
use Rattle.std.specs.List.{flat_map}
use Rattle.flux_values.specs.declared.values.Value.{Value}
use Rattle.flux_values.specs.Texts.{printed_value}
use Rattle.flux_journal.specs.steps.Listed.{listed}

-- values after a first one
abbrev pub more : List Value → List ℕ
more [] = []
more (v ∷ vs) = codes ", " ++ (printed_value v ++ more vs)

pub listed_more : (v : Value) (vs : List Value) → listed (v ∷ vs) ≡ printed_value v ++ more vs
listed_more v [] = sym (append-nil (printed_value v))
listed_more v (w ∷ vs) = append_assoc (printed_value v) (codes ", ") (listed (w ∷ vs)) ∙ ap (λ (s : List ℕ). printed_value v ++ (codes ", " ++ s)) (listed_more w vs)

-- a value before a comma
abbrev pub before : Value → List ℕ
before value = printed_value value ++ codes ", "

ahead : (w v : Value) (vs : List Value) → listed (w ∷ (vs ++ v ∷ [])) ≡ before w ++ listed (vs ++ v ∷ [])
ahead w v [] = refl
ahead w v (x ∷ vs) = refl

listed_then : (vs : List Value) (v : Value) → listed (vs ++ v ∷ []) ≡ flat_map before vs ++ printed_value v
listed_then [] v = refl
listed_then (w ∷ vs) v = ahead w v vs ∙ ap (λ (s : List ℕ). before w ++ s) (listed_then vs v) ∙ sym (append_assoc (before w) (flat_map before vs) (printed_value v))

-- the last of values, and those before it
pub listed_last : (vs : List Value) (v : Value) → 1 ≤ length vs → v ≡ get_or vs (length vs - 1) v → listed vs ≡ flat_map before (take (length vs - 1) vs) ++ printed_value v
listed_last vs v some last =
    let k = length vs - 1 in
    let split : vs ≡ take k vs ++ v ∷ [] = sym (take_all (k + 1) vs (omega arith)) ∙ take_more vs k v (omega arith) ∙ ap (λ (x : Value). take k vs ++ x ∷ []) (sym last) in
    ap listed split ∙ listed_then (take k vs) v
