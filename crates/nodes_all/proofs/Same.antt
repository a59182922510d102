-- One function by four ways.
use Rattle.std.proofs.Common.{◌≡◌, if◌then◌else◌, Bool, true, false, refl}

pub same_ways : {A B : Type 0} (a b c : Bool) (f : A → B) (x : A)
    → f x ≡ (if a then f else (if b then f else (if c then f else f))) x
same_ways true b c f x = refl
same_ways false true c f x = refl
same_ways false false true f x = refl
same_ways false false false f x = refl
