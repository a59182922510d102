-- What refuses a wait, and how a cycle of waits is found.
use Rattle.std.proofs.Common.{◌≡◌, ◌⊎◌, inl, inr, ℕ, true, ap, drop, List, [], ◌∷◌, ◌++◌, refl, arith}
use Rattle.flux_values.specs.declared.answers.Mode.{Mode}
use Rattle.flux_values.specs.declared.answers.Mode.TheVariants.{Writer}
use Rattle.flow_model.specs.declared.journals.Entry.{Entry}
use Rattle.flow_model.specs.declared.journals.Key.{Key}
use Rattle.flow_model.specs.declared.journals.Event.TheVariants.{Take, Wait}
use Rattle.flow_model.specs.Exclusion.{holds_against}
use Rattle.flow_model.specs.Waits.{StandsAt, StandsBefore, WaitsFor, MayPass}
use Rattle.flux_examples.proofs.Ends.{nothing_past}
use Rattle.flux_examples.specs.Small.{a, b, crossed, by}
use Rattle.flux_examples.specs.Waiting.{MayWaitWhereHeld, WaitsForItsOwnTake, WaitsOnlyWhereBlocked, WaitsOnce, IsNotPassedBy, CyclesAreFound, holding_both}

-- the flows of the first two entries
abbrev first_flow : List Entry → ℕ
first_flow [] = 0
first_flow (x ∷ entries) = let flow = x.flow in flow.0

abbrev second_flow : List Entry → ℕ
second_flow [] = 0
second_flow (x ∷ entries) = first_flow entries

pub may_wait : MayWaitWhereHeld
may_wait = record {
  next = record { rest = _; next = refl };
  blocker = 0;
  blocked = record { free = λ holds. holds refl; apart = λ same. omega (arith, same); cause = inl refl };
  once = λ key mode place last. not_last last.before last.after key mode last.stands;
  kept = λ between rest other their stands apart none against.
      absurd (nothing_past between (record { flow = other; event = Take a their }) rest stands);
}
  where
    not_last : (before after : List Entry) (key : Key) (mode : Mode)
        → by 0 (Take a Writer) ∷ [] ≡ before ++ by 1 (Wait key mode) ∷ after → ⊥
    not_last [] after key mode e =
        let first : 0 ≡ 1 = ap (λ (entries : List Entry). first_flow entries) e in omega (arith, first)
    not_last (x ∷ before) after key mode e = nothing_past before (by 1 (Wait key mode)) after (ap (drop 1) e)

pub own_take : WaitsForItsOwnTake
own_take wait = let next = wait.next in let e = next.next in absurd cc

-- in an empty journal no flow waits anywhere
nobody_stands : (flow : ℕ) (place : ℕ) (mode : Mode) → StandsAt [] flow a mode place → ⊥
nobody_stands flow place mode stands = nothing_past stands.before (by flow (Wait a mode)) stands.after stands.stands

pub only_blocked : WaitsOnlyWhereBlocked
only_blocked wait = let blocked = wait.blocked in by_cause blocked.cause
  where
    by_cause : (holds_against [] wait.blocker a Writer ≡ true) ⊎ StandsBefore [] wait.blocker 1 a Writer → ⊥
    by_cause (inl holds) = absurd cc
    by_cause (inr before) = nobody_stands wait.blocker before.place before.their before.stands

pub once : WaitsOnce
once wait = wait.once a Writer 1 (record {
  before = by 0 (Take a Writer) ∷ [];
  after = [];
  stands = refl;
  last = refl;
  at = refl;
})

pub not_passed : IsNotPassedBy
not_passed wait = by_pass (wait.kept [] [] (record { 0 = 2 }) Writer refl (λ same. omega (arith, same)) refl refl)
  where
    waited : List Entry
    waited = by 0 (Take a Writer) ∷ by 1 (Wait a Writer) ∷ []

    stands_nowhere : (before after : List Entry) (own : Mode) → waited ≡ before ++ by 2 (Wait a own) ∷ after → ⊥
    stands_nowhere [] after own e = let first : 0 ≡ 2 = ap (λ (entries : List Entry). first_flow entries) e in omega (arith, first)
    stands_nowhere (x ∷ []) after own e = let second : 1 ≡ 2 = ap (λ (entries : List Entry). second_flow entries) e in omega (arith, second)
    stands_nowhere (x ∷ y ∷ before) after own e = nothing_past before (by 2 (Wait a own)) after (ap (drop 2) e)

    by_pass : MayPass waited 2 a 1 → ⊥
    by_pass (inl holds) = holds refl
    by_pass (inr (own, place, less, stands)) = stands_nowhere stands.before stands.after own stands.stands

pub cycle_found : CyclesAreFound
cycle_found free = free holding_both [] refl 0 (1 ∷ []) (one, other)
  where
    one : WaitsFor crossed holding_both 0 1
    one = record {
      key = b;
      mode = Writer;
      next = record { rest = _; next = refl };
      blocked = record { free = λ holds. holds refl; apart = λ same. omega (arith, same); cause = inl refl };
    }

    other : WaitsFor crossed holding_both 1 0
    other = record {
      key = a;
      mode = Writer;
      next = record { rest = _; next = refl };
      blocked = record { free = λ holds. holds refl; apart = λ same. omega (arith, same); cause = inl refl };
    }
