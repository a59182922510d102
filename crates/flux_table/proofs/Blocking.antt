-- The lowest flow that blocks is the lower of the lowest holder and of the lowest waiter in conflict.
use Rattle.std.proofs.Common.{◌≡◌, ◌≢◌, ℕ, ◌<◌, not, List, get_or, Option, Some, None, sym, ap, subst, ◌∙◌, inl, inr, arith}
use Rattle.std.specs.List.{prefix_len, Contains}
use Rattle.std.proofs.lemmas.Bool.{false≢true, eq-eqb}
use Rattle.std.proofs.lemmas.List.{get_or-take, length-take-le}
use Rattle.std.proofs.lemmas.List.Sums.{prefix_len_passes, prefix_len-le-length}
use Rattle.flux_values.specs.declared.answers.Mode.{Mode}
use Rattle.flux_model.specs.declared.items.FlowNo.{FlowNo}
use Rattle.flux_table.specs.declared.locks.Held.{Held}
use Rattle.flux_table.specs.declared.locks.Waiter.{Waiter}
use Rattle.flux_table.specs.Locks.{Holding}
use Rattle.flux_table.specs.Blockers.{HoldsAgainst, StandsAgainst, Blocks, line_before, IsLowestOf, IsEither}
use Rattle.flux_table.proofs.Standing.{is_of, lowest_of_both}

none_holds : (held : Held) → None ≡ Some held → ⊥
none_holds held e = subst (λ (o : Option Held). elim o as (λ _. Type 0) [ None ↦ Unit {0} | Some x ↦ ⊥ ]) e tt

-- a flow doesn't wait before itself
pub stands_apart : (line : List Waiter) (flow : ℕ) (waiter : Waiter) → Contains (line_before line flow) waiter → waiter.flow.0 ≢ flow
stands_apart line flow waiter stands same =
    let front = prefix_len (λ w. not (is_of flow w)) line in
    let within : stands.0 < front = omega (arith, stands.1, length-take-le front line (prefix_len-le-length (λ w. not (is_of flow w)) line)) in
    let here : get_or line stands.0 waiter ≡ waiter = sym (get_or-take front line stands.0 waiter within) ∙ stands.2 in
    false≢true (ap not (sym (eq-eqb waiter.flow.0 flow same)) ∙ ap (λ w. not (is_of flow w)) (sym here)
    ∙ prefix_len_passes (λ w. not (is_of flow w)) line stands.0 waiter within)

pub lowest_blocker : (held : Holding) (line : List Waiter) (flow : ℕ) (mode : Mode) (a b r : Option FlowNo) → held flow ≡ None
    → IsLowestOf (λ other. HoldsAgainst held other mode) a → IsLowestOf (λ other. StandsAgainst (line_before line flow) other mode) b
    → IsLowestOf (IsEither a b) r → IsLowestOf (λ other. Blocks held line other flow mode) r
lowest_blocker held line flow mode a b r free first second least =
    lowest_of_both (λ n. HoldsAgainst held n mode) (λ n. StandsAgainst (line_before line flow) n mode) (λ n. Blocks held line n flow mode) a b r
    (λ n holds. record { free = free; apart = λ same. none_holds holds.their (sym free ∙ ap held (sym same) ∙ holds.holds); cause = inl holds })
    (λ n stands. record { free = free; apart = stands_apart line flow _ stands.stands; cause = inr stands })
    (λ n blocks. blocks.cause)
    first second least
