-- What a stream gains by writes.
use Rattle.std.specs.Prelude.{◌≡◌, ◌≢◌, ℕ, ◌⊎◌, List, [], ◌++◌, Option}
use Rattle.std.specs.Option.{option_map}
use Rattle.flux_outside.specs.Causes.{Rose}

-- a stream: what was written on it, where that is reported, and how often it has failed
pub record Stream : Type 0 where
  pub written : Option (List ℕ)
  pub faults : ℕ

-- what was written before, and these bytes
abbrev pub Gains : Stream → Stream → List ℕ → Type 0
Gains before after bytes = after.written ≡ option_map (λ written. written ++ bytes) before.written

-- a stream has gained all of the bytes, and not failed
pub record Wrote (before after : Stream) (bytes : List ℕ) : Type 0 where
  pub gains : Gains before after bytes
  pub steady : after.faults ≡ before.faults

-- a stream has gained a front of the bytes but not all, and failed
pub record Broke (before after : Stream) (bytes : List ℕ) : Type 0 where
  pub front : List ℕ
  pub rest : List ℕ
  pub is : bytes ≡ front ++ rest
  pub left : rest ≢ []
  pub gains : Gains before after front
  pub rose : Rose before.faults after.faults

-- either
abbrev pub WroteOrBroke : Stream → Stream → List ℕ → Type 0
WroteOrBroke before after bytes = Wrote before after bytes ⊎ Broke before after bytes
