use Rattle.std.specs.Prelude.{◌==◌}
use Rattle.std.proofs.Common.{inl, inr, ⊎_elim, sym, ap, ◌∙◌}
use Rattle.std.proofs.lemmas.Bool.{eqb-true, true≢false}
use Rattle.flow_turns.proofs.settling.is_over.Goals as goal

pub returns-then-is_halted : goal.returns-then-is_halted
returns-then-is_halted g c =
    ((λ is. inl (sym c.is_halted.ensures ∙ is)), (λ over. c.if-is_halted.true))

pub returns-else-is_halted : goal.returns-else-is_halted
returns-else-is_halted g c =
    let live = c.live in (
      (λ is. inr (sym live.ensures ∙ eqb-true live.result 0 is)),
      ⊎_elim (λ is. absurd (true≢false (sym is ∙ sym c.is_halted.ensures ∙ c.if-is_halted.false)))
          (λ none. ap (λ n. n == 0) (live.ensures ∙ none)),
    )
