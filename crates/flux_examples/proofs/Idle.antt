-- Who is blocked beside a call that is run elsewhere.
use Rattle.std.proofs.Common.{zero, suc, inl, inr, List, [], ◌∷◌, refl, arith}
use Rattle.std.specs.Prelude.{None}
use Rattle.flux_values.specs.declared.answers.Mode.TheVariants.{Writer}
use Rattle.flow_model.specs.declared.journals.Event.{Event}
use Rattle.flow_model.specs.declared.journals.Event.TheVariants.{Take, Enter, End}
use Rattle.flow_model.specs.declared.journals.Outcome.{Outcome}
use Rattle.flow_core.specs.States.{setup_in}
use Rattle.flux_laws.specs.Going.{IsBlocked}
use Rattle.flux_laws.proofs.Members.{In, in-from_contains}
use Rattle.flux_examples.specs.Small.{no, a}
use Rattle.flux_examples.specs.Idle.{holding, OthersAreBlocked, HolderCanGoOn}

pub others_blocked : OthersAreBlocked
others_blocked zero live none = absurd cc
others_blocked (suc zero) live none = (
  0,
  record {
    key = a;
    mode = Writer;
    next = record { rest = _; next = refl };
    blocked = record { free = λ holds. holds refl; apart = λ same. omega (arith, same); cause = inl refl };
  },
)
others_blocked (suc (suc flow)) live none = let item = live.item in absurd (omega (arith, item))

pub holder_goes_on : HolderCanGoOn
holder_goes_on all = not_blocked (all 0 (record { item = omega arith; goes_on = λ outcome has. no_end outcome (in-from_contains events (End outcome) has) }) refl)
  where
    events : List Event
    events = Take a Writer ∷ Enter (no 0) ∷ []

    no_end : (outcome : Outcome) → In (End outcome) events → ⊥
    no_end outcome (inl is) = absurd cc
    no_end outcome (inr (inl is)) = absurd cc
    no_end outcome (inr (inr none)) = absurd none

    not_blocked : IsBlocked (setup_in (λ library. library) (holding (None ∷ None ∷ []))) (let core = holding (None ∷ None ∷ []) in core.entries) 0 → ⊥
    not_blocked (other, waits) = let next = waits.next in let e = next.next in absurd cc
