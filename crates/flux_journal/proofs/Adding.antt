-- What is added in two steps.
use Rattle.std.proofs.Common.{◌≡◌, ℕ, List, ◌++◌, Result, Ok, Err, ap, ◌∙◌, append_assoc}
use Rattle.std.specs.Result.{OnOk}

pub added_then : {T E : Type 0} (r : Result T E) (out between after first second all : List ℕ) → between ≡ out ++ first → first ++ second ≡ all
    → OnOk r (after ≡ between ++ second) → OnOk r (after ≡ out ++ all)
added_then (Ok x) out between after first second all before laid then_ =
    then_ ∙ ap (λ (o : List ℕ). o ++ second) before ∙ append_assoc out first second ∙ ap (λ (s : List ℕ). out ++ s) laid
added_then (Err e) out between after first second all before laid then_ = tt
