-- What can be printed, is kept, or is in use, and what isn't.
use Rattle.std.proofs.Common.{◌<◌, ℕ, [], ◌∷◌, refl, arith}
use Rattle.std.proofs.lemmas.Int.{ints}
use Rattle.std.proofs.lemmas.List.Elements.{All-nil, All-from_recursion, All-head}
use Rattle.flux_examples.specs.Small.{a}
use Rattle.flux_examples.specs.Printing.{Fits, Refuses}

pub fits : Fits
fits = record {
  number = record { name = record { each = All-nil (λ b. b < 256); few = omega arith }; value = omega (arith, ints) };
  removal = record { name = record { each = All-nil (λ b. b < 256); few = omega arith }; value = tt };
  byte = record { puts = tt; emits = All-from_recursion (λ b. b < 256) (255 ∷ []) (omega arith, tt) };
  text = record { program_ = λ bytes holds. holds; items_ = λ bytes holds. holds; journal_ = refl; short = omega arith };
  locks = λ key found. cc;
}

pub refuses : Refuses
refuses = record {
  number = λ puts. let value = puts.value in omega (arith, ints, value);
  byte = λ printable. let small = All-head (λ b. b < 256) 256 [] printable.emits in omega (arith, small);
  items_ = λ kept. let same = kept.items_ (1 ∷ []) refl in cc;
  text = λ kept. let holds = kept.journal_ in cc;
  lock = λ used. used a refl;
}
