-- Where a flow is blocked, and who waits at a key, as the fields of a state tell it.
use Rattle.std.proofs.Common.{◌≡◌, ◌<◌, ℕ, Bool, true, false, List, [], ◌∷◌, length, Some, refl, sym, subst, ◌∙◌}
use Rattle.std.specs.List.{slice_get}
use Rattle.std.specs.Prelude.{MatchBool}
use Rattle.flux_plan.specs.declared.plans.Plan.{Plan}
use Rattle.flux_values.specs.declared.answers.Mode.{Mode}
use Rattle.flux_values.specs.Meanings.{LibraryMeaning}
use Rattle.flux_model.specs.declared.programs.ClassNo.{ClassNo}
use Rattle.flux_model.specs.declared.items.FlowNo.{FlowNo}
use Rattle.flow_model.specs.declared.journals.Key.{Key}
use Rattle.flow_model.specs.declared.journals.Entry.{Entry}
use Rattle.flow_model.specs.declared.journals.Event.TheVariants.{Take}
use Rattle.flow_model.specs.Setup.{Setup, item_of}
use Rattle.flow_model.specs.CellsAfter.{key_for}
use Rattle.flow_model.specs.Events.{IsNext}
use Rattle.flux_cells.specs.Kept.{cells_of}
use Rattle.flow_model.specs.Waits.{Blocks, StandsAt, IsNoWaitLast}
use Rattle.flow_model.specs.Legal.{IsLegal}
use Rattle.flux_laws.specs.Growth.{has_ended}
use Rattle.flux_laws.specs.Going.{IsBlocked}
use Rattle.flux_plan.specs.declared.locals.Next.{Next}
use Rattle.flux_plan.specs.declared.locals.Next.TheVariants as nexts
use Rattle.flux_table.specs.declared.locks.Waiter.{Waiter}
use Rattle.flux_table.specs.Tables.{lines_of}
use Rattle.flow_state.specs.declared.places.Place.{Place}
use Rattle.flow_state.specs.declared.fields.Fields.{Fields}
use Rattle.flow_state.specs.States.{setup_at}
use Rattle.flow_state.specs.Lines.{IsStanding, IsBlockedTake, StandInOrder, IsLineAt}
use Rattle.flow_state.specs.steps.Places.{IsPlaceOf, IsComing}
use Rattle.flow_state.specs.steps.Table.{AreInOrder}
use Rattle.flow_state.specs.steps.Fields.{state_of, plans_of, AreFields}
use Rattle.flow_state.proofs.Asked.{take-is_next}
use Rattle.flow_state.proofs.Ended.{next-goes_on}
use Rattle.flow_state.proofs.Entries.{StandsAnywhere, waiting-stands, not_waiting-last}
use Rattle.flow_state.proofs.Moved.{here}
use Rattle.flow_state.proofs.Tables.{stands-next}

module _ {L : Type 0} (meaning : L → LibraryMeaning) (r : Fields L) (is : AreFields meaning r) (flow : FlowNo)
    (within : (let setup = setup_at meaning (state_of r) in flow.0 < length setup.items)) where
  abbrev setup : Setup
  setup = setup_at meaning (state_of r)

  abbrev entries : List Entry
  entries = r.made

  abbrev items : List Place
  items = let places = r.places in places.items

  legal : IsLegal setup entries
  legal = let after = is.after in after.legal

  -- who has had its `end` isn't blocked
  pub ended-free : has_ended entries flow.0 ≡ true → IsBlocked setup entries flow.0 → ⊥
  ended-free ended (other, waits) =
      next-goes_on setup entries legal flow.0 within (Take waits.key waits.mode) waits.next ended

  module _ (next : Next) (coming : IsComing setup (plans_of r) items flow.0 next) (class : ClassNo) (mode : Mode)
      (takes : next ≡ nexts.Take class mode)
      (key : Key) (is_key : key_for setup (item_of setup flow.0) class ≡ Some key) where
    -- the flow's place tells whether it waits there
    pub stop-is : (blocker : ℕ) → Blocks entries blocker flow.0 key mode → (place : Place)
        → slice_get items flow.0 ≡ Some place
        → IsBlockedTake setup entries flow.0 (record { key = key; mode = mode; stands = place.stands })
    stop-is blocker blocks place read = record {
      next = take-next;
      blocked = (blocker, record { key = key; mode = mode; next = take-next; blocked = blocks });
      stands = λ stands. there (waiting-stands entries flow.0 (sym own.stands ∙ stands));
      nowhere = λ idle. not_waiting-last entries flow (sym own.stands ∙ idle);
    }
      where
        take-next : IsNext setup entries flow.0 (Take key mode)
        take-next = take-is_next meaning r is flow within next coming class mode takes key is_key

        own : IsPlaceOf setup (plans_of r) entries flow.0 place
        own = here setup (plans_of r) is.given entries items r.table (cells_of r.cells) is.after flow place read

        there : StandsAnywhere entries flow.0 → (at : ℕ) × StandsAt entries flow.0 key mode at
        there (k, m, at, stands) =
            let e : Take key mode ≡ Take k m = stands-next setup entries legal flow.0 (Take key mode) take-next k m at
            stands in
            let keys : k ≡ key = cc in
            let modes : m ≡ mode = cc in (
              at,
              subst (λ (x : Mode). StandsAt entries flow.0 key x at) modes
                  (subst (λ (x : Key). StandsAt entries flow.0 x m at) keys stands),
            )

-- a line of the table is the line at its key
in-order : (entries : List Entry) (key : Key) (line : List Waiter) → AreInOrder entries key line
    → StandInOrder entries key line
in-order _ key [] order = tt
in-order entries key (waiter ∷ line) (first, order) = (
  (first.place, first.stands, first.behind),
  in-order entries key
      line order,
)

pub line-is : {L : Type 0} (meaning : L → LibraryMeaning) (r : Fields L) → AreFields meaning r → (key : Key)
    → IsLineAt r.made key (lines_of r.table key)
line-is meaning r is key =
    let after = is.after in
    let table = after.table in
    let line = table.lines key in
    record { all = line.all; order = in-order r.made key (lines_of r.table key) line.order }

-- a place tells whether its flow is in a line
pub stands-is : (setup : Setup) (plans : List Plan) (entries : List Entry) (flow : FlowNo) (place : Place)
    → IsPlaceOf setup plans entries flow.0 place
    → MatchBool place.stands (IsStanding entries flow.0) (IsNoWaitLast entries flow)
stands-is _ _ entries flow place own = by place.stands refl
  where
    standing : StandsAnywhere entries flow.0 → IsStanding entries flow.0
    standing (key, mode, at, stands) = record { key = key; mode = mode; place = at; stands = stands }

    by : (b : Bool) → place.stands ≡ b → MatchBool b (IsStanding entries flow.0) (IsNoWaitLast entries flow)
    by true e = standing (waiting-stands entries flow.0 (sym own.stands ∙ e))
    by false e = not_waiting-last entries flow (sym own.stands ∙ e)
