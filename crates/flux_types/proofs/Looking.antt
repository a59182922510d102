-- A node's signature depends on those of the nodes that it leads to.
use Rattle.std.proofs.Common.{◌≡◌, ℕ, inl, inr, List, [], ◌∷◌, ◌++◌, refl}
use Rattle.std.specs.List.{flat_map}
use Rattle.flux_model.specs.declared.signatures.NodeSig.{NodeSig}
use Rattle.flux_model.specs.declared.programs.NodeNo.{NodeNo}
use Rattle.flux_model.specs.declared.programs.Case.{Case}
use Rattle.flux_model.specs.declared.programs.Body.{Body}
use Rattle.flux_model.specs.declared.programs.Body.TheVariants.{Concrete, Abstract}
use Rattle.flux_model.specs.Leading.{members_of, handlers_of}
use Rattle.flux_model.specs.Children.{IsIn}
use Rattle.flux_model.specs.Nested.{LooksDown}
use Rattle.flux_model.proofs.NodeLists.{in_front, in_behind}
use Rattle.flux_types.specs.Signatures.{last_of, case_sig, cases_sig, body_sig, sig_by}

last_in : (first : NodeNo) (members : List NodeNo) → let last = last_of first members in IsIn last.0 (first ∷ members)
last_in first [] = inl refl
last_in first (next ∷ members) = inr (last_in next members)

-- signatures that are the same at these numbers
abbrev Same : (ℕ → NodeSig) → (ℕ → NodeSig) → List NodeNo → Type 0
Same f g nodes = (x : ℕ) → IsIn x nodes → f x ≡ g x

case_same : (f g : ℕ → NodeSig) (members : List NodeNo) (a b : NodeSig) → Same f g members → a ≡ b → case_sig f members a ≡ case_sig g members b
case_same f g [] a b same others = others
case_same f g (first ∷ members) a b same others =
    let from : f first.0 ≡ g first.0 = same first.0 (inl refl) in
    let last = last_of first members in
    let to : f last.0 ≡ g last.0 = same last.0 (last_in first members) in
    λ i. record { ins = NodeSig.ins (from i); outs = NodeSig.outs (to i) }

-- cases have the same by signatures that are the same at their members
pub cases_same : (f g : ℕ → NodeSig) (cases : List Case) → Same f g (flat_map (λ case. case.members) cases) → cases_sig f cases ≡ cases_sig g cases
cases_same f g [] same = refl
cases_same f g (case ∷ cases) same =
    case_same f g case.members (cases_sig f cases) (cases_sig g cases)
    (λ x is. same x (in_front x case.members (flat_map (λ c. c.members) cases) is))
    (cases_same f g cases (λ x is. same x (in_behind x case.members (flat_map (λ c. c.members) cases) is)))

-- the rule of signatures looks at nothing but the nodes that a node leads to
pub sigs_look_down : (lines : ℕ → NodeSig) → LooksDown (sig_by lines)
sigs_look_down lines f g number node same = one node.body (λ x is. same x (in_front x (members_of node.body) (handlers_of node.on_fail) is))
  where
    one : (body : Body) → Same f g (members_of body) → body_sig f (lines number) body ≡ body_sig g (lines number) body
    one (Concrete name) same = refl
    one (Abstract cases) same = cases_same f g cases same
