-- Between a stack and the modes in which it holds a key.
use Rattle.std.proofs.Common.{◌≡◌, Bool, true, false, ◌⊎◌, inl, inr, List, [], ◌∷◌, if◌then◌else◌, ap, ◌∙◌}
use Rattle.flux_values.specs.declared.answers.Mode.{Mode}
use Rattle.flow_model.specs.declared.journals.Key.{Key}
use Rattle.flow_model.specs.Keys.{same_key}
use Rattle.flux_laws.proofs.Members.{In}
use Rattle.flow_model.proofs.Keys.{same_key_itself, key_cases}
use Rattle.flux_laws.proofs.Stacks.{Stack, begun, taken, opened, modes_in}

keep : (b : Bool) (own mode : Mode) (modes : List Mode) → In own modes → In own (if b then mode ∷ modes else modes)
keep true own mode modes is = inr is
keep false own mode modes is = is

-- what was taken is held
pub held-from_stack : (st : Stack) (k : Key) (own : Mode) → In (taken k own) st → In own (modes_in k st)
held-from_stack [] k own is = absurd is
held-from_stack (begun ∷ st) k own (inl same) = absurd cc
held-from_stack (begun ∷ st) k own (inr is) = held-from_stack st k own is
held-from_stack (opened node ∷ st) k own (inl same) = absurd cc
held-from_stack (opened node ∷ st) k own (inr is) = held-from_stack st k own is
held-from_stack (taken other mode ∷ st) k own (inl same) =
    let here : same_key other k ≡ true = (let e : other ≡ k = cc in ap (λ q. same_key q k) e) ∙ same_key_itself k in
    let own_is : mode ≡ own = cc in
    rw here (inl own_is)
held-from_stack (taken other mode ∷ st) k own (inr is) = keep (same_key other k) own mode (modes_in k st) (held-from_stack st k own is)

-- what is held was taken
pub stack-from_held : (st : Stack) (k : Key) (own : Mode) → In own (modes_in k st) → In (taken k own) st
stack-from_held [] k own is = absurd is
stack-from_held (begun ∷ st) k own is = inr (stack-from_held st k own is)
stack-from_held (opened node ∷ st) k own is = inr (stack-from_held st k own is)
stack-from_held (taken other mode ∷ st) k own is =
    key_cases other k (λ same here. there same (λ more. stack-from_held st k own more) (rw here at is))
    (λ apart not. inr (stack-from_held st k own (rw apart at is)))
  where
    there : other ≡ k → (In own (modes_in k st) → In (taken k own) st) → (mode ≡ own) ⊎ In own (modes_in k st) → In (taken k own) (taken other mode ∷ st)
    there same under (inl e) = inl cc
    there same under (inr more) = inr (under more)
