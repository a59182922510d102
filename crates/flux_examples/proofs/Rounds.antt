-- Why the journal of one flow is what the event loop makes of it.
use Rattle.std.proofs.Common.{◌≡◌, ℕ, zero, suc, ap, inl, inr, List, [], ◌∷◌, ◌++◌, drop, take, refl, sym, subst, ◌∙◌, arith}
use Rattle.std.specs.List.{Contains}
use Rattle.std.proofs.lemmas.List.{append_assoc}
use Rattle.flux_values.specs.declared.answers.CallResult.TheVariants as results
use Rattle.flux_model.specs.declared.items.FlowNo.{FlowNo}
use Rattle.flow_model.specs.declared.journals.Entry.{Entry}
use Rattle.flow_model.specs.declared.journals.Event.{Event}
use Rattle.flow_model.specs.declared.journals.Event.TheVariants.{Enter, Exit, End}
use Rattle.flow_model.specs.declared.journals.Outcome.{Outcome}
use Rattle.flow_model.specs.declared.journals.Outcome.TheVariants.{Bad}
use Rattle.flow_model.specs.Events.{Stands, IsLive}
use Rattle.flow_model.specs.Legal.{IsLegal}
use Rattle.flux_laws.specs.Going.{CanGoOn}
use Rattle.flux_laws.specs.Moves.{IsMove}
use Rattle.flux_laws.proofs.Fronts.{fronts_are_legal}
use Rattle.flux_laws.proofs.LastMoves.{entries_are_moves}
use Rattle.flow_orders.specs.Turns.{IsBefore, IsFirstFrom}
use Rattle.flow_orders.specs.Round.{HasTurn}
use Rattle.flux_examples.proofs.Ends.{nothing_past}
use Rattle.flux_examples.proofs.Legality.{no_take_next, failed_whole}
use Rattle.flux_examples.specs.Small.{int, no, called, by}
use Rattle.flux_examples.specs.Legality.{failing, failed}
use Rattle.flux_examples.specs.Orders.{OneFlowGoesRound}

-- the flow of the entry at a place
abbrev flow_at : ℕ → List Entry → FlowNo
flow_at place [] = record { 0 = 0 }
flow_at zero (x ∷ entries) = x.flow
flow_at (suc place) (x ∷ entries) = flow_at place entries

-- the only flow is the first from any number on, where it can go on
not_before : (from : ℕ) → IsBefore from 0 0 → ⊥
not_before from (inl (low, inl less)) = omega (arith, less)
not_before from (inl (low, inr less)) = omega (arith, low, less)
not_before from (inr (less, later)) = omega (arith, less)

first_from : (before : List Entry) (from : ℕ) → CanGoOn failing before 0 → IsFirstFrom failing before from 0
first_from before from can = record { can = can; first = first }
  where
    first : (other : ℕ) → CanGoOn failing before other → IsBefore from other 0 → ⊥
    first zero is earlier = not_before from earlier
    first (suc other) is earlier = let live = is.live in let less = live.item in omega (arith, less)

can_with : (before : List Entry) → IsLive failing before 0 → CanGoOn failing before 0
can_with before live = record {
  live = live;
  free = λ blocked. let waits = blocked.1 in no_take_next before 0 waits.key waits.mode waits.next;
}

-- the first two entries, and what is live after them
abbrev front : List Entry
front = by 0 (Enter (no 0)) ∷ by 0 (called 0 (int 7 ∷ []) (results.Bad 1)) ∷ []

live_at_first : IsLive failing [] 0
live_at_first = record { item = omega arith; goes_on = λ outcome has. let less = has.1 in omega (arith, less) }

no_end_among : (a b : Event) (outcome : Outcome) → (a ≡ End outcome → ⊥) → (b ≡ End outcome → ⊥)
    → Contains (a ∷ b ∷ []) (End outcome) → ⊥
no_end_among a b outcome first second (zero, less, is) = first is
no_end_among a b outcome first second (suc zero, less, is) = second is
no_end_among a b outcome first second (suc (suc place), less, is) = omega (arith, less)

live_called : IsLive failing front 0
live_called = record {
  item = omega arith;
  goes_on = λ outcome has. no_end_among _ _ outcome (λ same. absurd cc) (λ same. absurd cc) has;
}

-- whose turn it is after each front of the journal
turns : (before after : List Entry) (flow : FlowNo) (event : Event) → Stands failed before flow event after
    → HasTurn failing [] before flow
turns [] after flow event e = subst (λ (f : FlowNo). HasTurn failing [] [] f) (ap (flow_at 0) e)
    (inr (0, inl (refl, refl), first_from [] 0 (can_with [] live_at_first)))
turns (a ∷ []) after flow event e = subst (λ (f : FlowNo). HasTurn failing [] (a ∷ []) f) (ap (flow_at 1) e)
    (subst (λ (entries : List Entry). HasTurn failing [] entries (record { 0 = 0 })) (ap (take 1) e)
    (inl (record { front = []; event = Enter (no 0); last = refl; on = λ ends. ends })))
turns (a ∷ b ∷ []) after flow event e = subst (λ (f : FlowNo). HasTurn failing [] (a ∷ b ∷ []) f) (ap (flow_at 2) e)
    (subst (λ (entries : List Entry). HasTurn failing [] entries (record { 0 = 0 })) (ap (take 2) e)
    (inr (
      1,
      inr (
        record { 0 = 0 },
        record {
          front = by 0 (Enter (no 0)) ∷ [];
          event = called 0 (int 7 ∷ []) (results.Bad 1);
          last = refl;
          over = tt;
        },
        refl,
      ),
      first_from front 1 (can_with front live_called),
    )))
turns (a ∷ b ∷ c ∷ []) after flow event e = subst (λ (f : FlowNo). HasTurn failing [] (a ∷ b ∷ c ∷ []) f) (ap (flow_at 3) e)
    (subst (λ (entries : List Entry). HasTurn failing [] entries (record { 0 = 0 })) (ap (take 3) e)
    (inl (record { front = front; event = Exit (no 0) (Bad 1); last = refl; on = λ ends. ends })))
turns (a ∷ b ∷ c ∷ d ∷ before) after flow event e =
    absurd (nothing_past before (record { flow = flow; event = event }) after (ap (drop 4) e))

-- each entry is a move, since the journal is legal
moves : (before after : List Entry) (flow : FlowNo) (event : Event) → Stands failed before flow event after
    → IsMove failing before flow event
moves before after flow event e =
    let entry : Entry = record { flow = flow; event = event } in
    entries_are_moves failing before flow event (fronts_are_legal failing (before ++ entry ∷ []) after
    (subst (λ (entries : List Entry). IsLegal failing entries) (e ∙ sym (append_assoc before (entry ∷ []) after)) failed_whole.0))

pub goes_round : OneFlowGoesRound
goes_round = record {
  more = failed;
  added = refl;
  each = λ before after flow event stands. record {
    allowed = turns before after flow event stands;
    move = moves before after flow event stands;
  };
  over = over;
}
  where
    over : (flow : ℕ) → IsLive failing failed flow → ⊥
    over zero live = live.goes_on (Bad 1) (3, omega arith, refl)
    over (suc flow) live = let less = live.item in omega (arith, less)
