-- What the code has read of a segment.
use Rattle.std.proofs.Common.{◌≡◌, ℕ, zero, suc, ◌-◌, ◌<◌, true, nat_lt, List, [], ◌∷◌, length, reverse, Some, None, refl, sym, ap, arith}
use Rattle.std.specs.List.{slice_get}
use Rattle.std.proofs.lemmas.Option.{slice_get_within, get_or_from_slice_get}
use Rattle.flux_model.specs.declared.programs.ClassNo.{ClassNo}
use Rattle.flux_plan.specs.Reading.{is_above}
use Rattle.flux_plan.proofs.Landings.{reverse_last}

-- the class that was taken last comes last
pub last_above : (classes : List ClassNo) (last class : ClassNo) → Some last ≡ slice_get classes (length classes - 1) → nat_lt last.0 class.0 ≡ is_above class (reverse classes)
last_above classes last class is =
    let lt = slice_get_within classes (length classes - 1) last (sym is) in
    let turn = reverse_last classes last (omega (arith, lt)) (sym (get_or_from_slice_get classes (length classes - 1) last last (sym is))) in
    sym (ap (is_above class) turn)

none_left : {X : Type 0} (xs : List X) (n : ℕ) → n < length xs → None ≡ slice_get xs n → ⊥
none_left [] n lt none = absurd (omega (arith, lt))
none_left (x ∷ xs) zero lt none = cc
none_left (x ∷ xs) (suc n) lt none = none_left xs n (omega (arith, lt)) none

pub none_above : (classes : List ClassNo) (class : ClassNo) → None ≡ slice_get classes (length classes - 1) → true ≡ is_above class (reverse classes)
none_above [] class none = refl
none_above (c ∷ classes) class none = absurd (none_left (c ∷ classes) (length (c ∷ classes) - 1) (omega arith) none)
