-- Modes in conflict, and those that flows hold.
use Rattle.std.proofs.Common.{◌≡◌, Bool, true, false, ◌||◌, inl, inr, List, [], ◌∷◌, refl, sym, ap, ◌∙◌}
use Rattle.std.specs.List.{list_any}
use Rattle.flux_values.specs.declared.answers.Mode.{Mode}
use Rattle.flux_values.specs.declared.answers.Mode.TheVariants.{Reader, Writer}
use Rattle.flux_model.specs.Modes.{conflict, at_least}
use Rattle.flux_laws.proofs.Members.{In}

-- conflict goes both ways
pub conflict-turned : (a b : Mode) → conflict a b ≡ conflict b a
conflict-turned Reader Reader = refl
conflict-turned Reader Writer = refl
conflict-turned Writer Reader = refl
conflict-turned Writer Writer = refl

-- what isn't in conflict with a mode isn't with a lesser one
pub conflict-less : (own less their : Mode) → at_least own less ≡ true → conflict own their ≡ false → conflict less their ≡ false
conflict-less Writer less their enough apart = absurd cc
conflict-less Reader Reader their enough apart = apart
conflict-less Reader Writer their enough apart = absurd cc

-- none of the modes is in conflict
pub none-against : (modes : List Mode) (mode own : Mode) → list_any (λ held. conflict held mode) modes ≡ false → In own modes → conflict own mode ≡ false
none-against [] mode own none is = absurd is
none-against (held ∷ modes) mode own none is = by (conflict held mode) refl none (λ n i. none-against modes mode own n i) is
  where
    by : (b : Bool) → conflict held mode ≡ b → (b || list_any (λ h. conflict h mode) modes) ≡ false
        → (list_any (λ h. conflict h mode) modes ≡ false → In own modes → conflict own mode ≡ false) → In own (held ∷ modes) → conflict own mode ≡ false
    by true e none more is = absurd cc
    by false e none more (inl same) = ap (λ m. conflict m mode) (sym same) ∙ e
    by false e none more (inr is) = more none is

-- and where none is in conflict, no test finds one
pub none_against-all : (modes : List Mode) (mode : Mode) → ((own : Mode) → In own modes → conflict own mode ≡ false) → list_any (λ held. conflict held mode) modes ≡ false
none_against-all [] mode none = refl
none_against-all (held ∷ modes) mode none = rw (none held (inl refl)) (none_against-all modes mode (λ own is. none own (inr is)))
