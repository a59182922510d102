-- A key's holders and its line stay apart, and each flow waits there once.
use Rattle.std.proofs.Common.{◌≡◌, ◌≢◌, ℕ, zero, suc, ◌<◌, true, false, cond, eqb, List, [], ◌∷◌, ◌++◌, length, get_or, Option, Some, None, Result, Ok, Err, refl, sym, ap, subst, ◌∙◌, inl, inr, arith}
use Rattle.std.specs.List.{Contains}
use Rattle.std.specs.Prelude.{OnOk, OnErr}
use Rattle.std.proofs.lemmas.Bool.{eqb-true, eqb-false}
use Rattle.std.proofs.lemmas.List.Elements.{Contains-push_cases}
use Rattle.flux_values.specs.declared.answers.Mode.{Mode}
use Rattle.flux_table.specs.declared.locks.Held.{Held}
use Rattle.flux_table.specs.declared.locks.Waiter.{Waiter}
use Rattle.flux_table.specs.Locks.{Holding, StandsNowhere, StandOnce, IsOrderly}
use Rattle.flux_table.specs.Blockers.{Blocks, IsLowestOf}
use Rattle.flux_table.specs.Changes.{line_without, with_held, one_more, one_less}
use Rattle.flux_table.proofs.Holding.{changed_else, peaceful_more, peaceful_less}

pub contains_later : (first : Waiter) (line : List Waiter) (waiter : Waiter) → Contains line waiter → Contains (first ∷ line) waiter
contains_later first line waiter is = (suc is.0, omega (arith, is.1), is.2)

contains_first : (first : Waiter) (line less : List Waiter) (waiter : Waiter) → (Contains less waiter → Contains line waiter) → Contains (first ∷ less) waiter → Contains (first ∷ line) waiter
contains_first first line less waiter rest is = placed is.0 is.1 is.2 where
  placed : (k : ℕ) → k < length (first ∷ less) → get_or (first ∷ less) k waiter ≡ waiter → Contains (first ∷ line) waiter
  placed zero within at = (zero, omega arith, at)
  placed (suc k) within at = contains_later first line waiter (rest (k, omega (arith, within), at))

pub contains_without : (line : List Waiter) (flow : ℕ) (waiter : Waiter) → Contains (line_without line flow) waiter → Contains line waiter
contains_without [] flow waiter = λ is. is
contains_without (first ∷ line) flow waiter =
    elim (eqb first.flow.0 flow) as (λ b. Contains (cond b line (first ∷ line_without line flow)) waiter → Contains (first ∷ line) waiter) [
      | true ↦ contains_later first line waiter
      | false ↦ contains_first first line (line_without line flow) waiter (contains_without line flow waiter)
    ]

-- ---- without a flow that isn't in a line it is as it was

pub without_nowhere : (line : List Waiter) (flow : ℕ) → StandsNowhere line flow → line ≡ line_without line flow
without_nowhere [] flow nowhere = refl
without_nowhere (first ∷ line) flow nowhere =
    elim (eqb first.flow.0 flow) as (λ b. eqb first.flow.0 flow ≡ b → first ∷ line ≡ cond b line (first ∷ line_without line flow)) [
      | true ↦ λ same. absurd (nowhere first (zero, omega arith, refl) (eqb-true first.flow.0 flow same))
      | false ↦ λ _. ap (λ l. first ∷ l) (without_nowhere line flow (λ waiter is. nowhere waiter (contains_later first line waiter is)))
    ] refl

-- ---- a flow that is taken out

first_or_later : (first : Waiter) (line : List Waiter) (waiter : Waiter) (flow : ℕ) → first.flow.0 ≢ flow → (Contains line waiter → waiter.flow.0 ≢ flow) → Contains (first ∷ line) waiter → waiter.flow.0 ≢ flow
first_or_later first line waiter flow apart rest is = placed is.0 is.1 is.2 where
  placed : (k : ℕ) → k < length (first ∷ line) → get_or (first ∷ line) k waiter ≡ waiter → waiter.flow.0 ≢ flow
  placed zero within at own = apart (ap (λ w. w.flow.0) at ∙ own)
  placed (suc k) within at own = rest (k, omega (arith, within), at) own

pub nowhere_after : (line : List Waiter) (flow : ℕ) → StandOnce line → StandsNowhere (line_without line flow) flow
nowhere_after [] flow once waiter = λ is. absurd (omega (arith, is.1))
nowhere_after (first ∷ line) flow once waiter =
    elim (eqb first.flow.0 flow) as (λ b. eqb first.flow.0 flow ≡ b → Contains (cond b line (first ∷ line_without line flow)) waiter → waiter.flow.0 ≢ flow) [
      | true ↦ λ same is own. once.0 waiter is (own ∙ sym (eqb-true first.flow.0 flow same))
      | false ↦ λ apart is. first_or_later first (line_without line flow) waiter flow (eqb-false first.flow.0 flow apart) (nowhere_after line flow once.1 waiter) is
    ] refl

pub once_after : (line : List Waiter) (flow : ℕ) → StandOnce line → StandOnce (line_without line flow)
once_after [] flow once = once
once_after (first ∷ line) flow once =
    elim (eqb first.flow.0 flow) as (λ b. StandOnce (cond b line (first ∷ line_without line flow))) [
      | true ↦ once.1
      | false ↦ (λ waiter is. once.0 waiter (contains_without line flow waiter is), once_after line flow once.1)
    ]

pub once_more : (line : List Waiter) (last : Waiter) → StandOnce line → StandsNowhere line last.flow.0 → StandOnce (line ++ last ∷ [])
once_more [] last once nowhere = (λ waiter is. absurd (omega (arith, is.1)), once)
once_more (first ∷ line) last once nowhere = (
  λ waiter is. elim (Contains-push_cases line last waiter is) [
    | inl before ↦ once.0 waiter before
    | inr here ↦ λ own. nowhere first (zero, omega arith, refl) (sym (ap (λ w. w.flow.0) here ∙ own))
  ],
  once_more line last once.1 (λ waiter is. nowhere waiter (contains_later first line waiter is)),
)

-- ---- takes, waits and releases

none_some : (own : Held) → None ≡ Some own → ⊥
none_some own e = subst (λ (o : Option Held). elim o as (λ _. Type 0) [ None ↦ Unit {0} | Some x ↦ ⊥ ]) e tt

pub orderly_more : (held after : Holding) (line : List Waiter) (flow : ℕ) (mode : Mode) → IsOrderly held line
    → IsLowestOf (λ other. Blocks held line other flow mode) None
    → after ≡ with_held held flow (Some (one_more (held flow) mode)) → IsOrderly after (line_without line flow)
orderly_more held after line flow mode orderly unblocked is = record {
  peaceful = peaceful_more held after line flow mode orderly.peaceful unblocked is;
  apart = λ waiter stands.
      ap (λ (h : Holding). h waiter.flow.0) is
      ∙ changed_else held flow (Some (one_more (held flow) mode)) waiter.flow.0 (λ same. nowhere_after line flow orderly.once waiter stands (sym same))
      ∙ orderly.apart waiter (contains_without line flow waiter stands);
  once = once_after line flow orderly.once;
}

less_none : (was : Option Held) → was ≡ None → one_less was ≡ None
less_none was none = ap one_less none

pub orderly_less : (held after : Holding) (line : List Waiter) (flow : ℕ) → IsOrderly held line → after ≡ with_held held flow (one_less (held flow)) → IsOrderly after line
orderly_less held after line flow orderly is = record {
  peaceful = peaceful_less held after flow orderly.peaceful is;
  apart = λ waiter stands.
      ap (λ (h : Holding). h waiter.flow.0) is
      ∙ elim (eqb flow waiter.flow.0) as (λ b. eqb flow waiter.flow.0 ≡ b → cond b (one_less (held flow)) (held waiter.flow.0) ≡ None) [
        | true ↦ λ same. less_none (held flow) (ap held (eqb-true flow waiter.flow.0 same) ∙ orderly.apart waiter stands)
        | false ↦ λ _. orderly.apart waiter stands
      ] refl;
  once = orderly.once;
}

pub orderly_wait : (held : Holding) (line : List Waiter) (last : Waiter) → IsOrderly held line → held last.flow.0 ≡ None → StandsNowhere line last.flow.0 → IsOrderly held (line ++ last ∷ [])
orderly_wait held line last orderly free nowhere = record {
  peaceful = orderly.peaceful;
  apart = λ waiter stands. elim (Contains-push_cases line last waiter stands) [
    | inl before ↦ orderly.apart waiter before
    | inr here ↦ ap (λ w. held w.flow.0) (sym here) ∙ free
  ];
  once = once_more line last orderly.once nowhere;
}

-- what holds of a line with one more and of the line before, holds after a push, whether or not there was memory
pub pushed_or_not : {E : Type 0} (Is : List Waiter → Type 0) (line after : List Waiter) (last : Waiter) (pushed : Result (Unit {0}) E)
    → OnOk pushed (after ≡ line ++ last ∷ []) → OnErr pushed (after ≡ line) → Is (line ++ last ∷ []) → Is line → Is after
pushed_or_not Is line after last (Ok _) ok err more same = subst Is (sym ok) more
pushed_or_not Is line after last (Err _) ok err more same = subst Is (sym err) same

pub orderly_push : {E : Type 0} (held : Holding) (line after : List Waiter) (last : Waiter) (pushed : Result (Unit {0}) E) → IsOrderly held line
    → held last.flow.0 ≡ None → StandsNowhere line last.flow.0
    → OnOk pushed (after ≡ line ++ last ∷ []) → OnErr pushed (after ≡ line) → IsOrderly held after
orderly_push held line after last pushed orderly free nowhere ok err =
    pushed_or_not (IsOrderly held) line after last pushed ok err (orderly_wait held line last orderly free nowhere) orderly
