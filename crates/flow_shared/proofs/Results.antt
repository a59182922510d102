-- What seats and turns keep after a step.
use Rattle.std.proofs.Common.{◌≡◌, ℕ, true, false, List, [], ◌∷◌, sym, ap, subst, ◌∙◌, refl, Option, Some, None}
use Rattle.atomic_table.specs.Table.{Me, rest}
use Rattle.atomic_table.specs.Seated.{TableId}
use Rattle.flow_core.specs.States.{CoreState}
use Rattle.flow_core.specs.Runs.{GoesOn, SameSetup}
use Rattle.flow_shared.specs.States.{SharedState, SeatState}
use Rattle.flow_shared.specs.Journals.{BeginsWith, ArePlacesOf}
use Rattle.flow_shared.specs.Turns.{IsTurnOf, IsLast}
use Rattle.flow_shared.specs.declared.seats.SharedTurn.{SharedTurn}
use Rattle.flow_shared.specs.declared.views.View.{View}
use Rattle.flow_shared.specs.Rule.{first_view, view_on_turn, view_after_turn, seen_of, places_of, HasSetup, WinsTurn, GivesTurn, IsSeated, IsOnTurn, seat_view}
use Rattle.flow_shared.proofs.Journals.{begins-none, begins-then, begins_of, places_then, places_longer, entries_stay}

module _ {L : Type 0} (shared : SharedState L) (id : TableId) (table : id ≡ shared.id) where
  pub first_at : (me : Me (Option (CoreState L)) (View L)) → me ≡ (first_view shared.base, [])
      → IsSeated shared id me
  first_at me is =
      subst (IsSeated shared id) (sym is)
      record { table = table; me_ = refl; from = begins-none shared.base.entries; places_ = tt }

  -- a seat that won, and took the core out
  pub won_at : (own : TableId) (me after now : Me (Option (CoreState L)) (View L)) → IsSeated shared own me
      → (won : WinsTurn me after) → now ≡ (after.0, (0, None) ∷ rest after.1) → IsOnTurn shared id won.core now
  won_at own me after now seated won is =
      let core : CoreState L = won.core in
      let on_turn : View L = view_on_turn core (seat_view shared false me.0) in
      let now_is : now ≡ (on_turn, (0, None) ∷ []) =
      is ∙ ap (λ (m : Me (Option (CoreState L)) (View L)). (m.0, (0, None) ∷ rest m.1)) won.after_
      ∙ ap (λ (m : Me (Option (CoreState L)) (View L)). (view_on_turn core m.0, (0, None) ∷ m.1)) seated.me_ in
      let setup : SameSetup shared.base core = subst (λ v. HasSetup v core) (ap (λ m. m.0) seated.me_) won.setup_ in
      let begins : BeginsWith core.entries shared.base.entries =
      begins-then shared.base.entries (seen_of me.0) core.entries seated.from won.seen_ in
      subst (IsOnTurn shared id core) (sym now_is)
      record {
        table = table;
        me_ = refl;
        on = record { setup_ = setup; more = begins.0; added = begins.1 };
        seen_ = refl;
        places_ = places_longer (seen_of me.0) core.entries (places_of me.0) won.seen_ seated.places_;
      }

  abbrev in_slot : CoreState L → Option (CoreState L) → CoreState L
  in_slot other None = other
  in_slot other (Some core) = core

  abbrev first_slot : CoreState L → List (ℕ × Option (CoreState L)) → CoreState L
  first_slot other [] = other
  first_slot other (slot ∷ slots) = in_slot other slot.1

  -- the core that is taken out is the one that was won
  pub taken_is : (me after : Me (Option (CoreState L)) (View L)) → (won : WinsTurn me after)
      → (result : Option (CoreState L)) → after.1 ≡ (0, result) ∷ rest after.1 → (core : CoreState L)
      → result ≡ Some core → won.core ≡ core
  taken_is me after won result out core is =
      sym (ap (λ (m : Me (Option (CoreState L)) (View L)). first_slot won.core m.1) won.after_)
      ∙ ap (first_slot won.core) out ∙ ap (in_slot won.core) is

  -- a seat that gave a core back
  pub given_at : (own : TableId) (found core : CoreState L) (me before after : Me (Option (CoreState L)) (View L))
      → IsOnTurn shared own found me → GoesOn found core → before ≡ (me.0, (0, Some core) ∷ rest me.1)
      → GivesTurn before after → IsSeated shared id after
  given_at own found core me before after held on is gave =
      let M : Type 0 = Me (Option (CoreState L)) (View L) in
      let same : gave.core ≡ core =
      sym (ap (first_slot core) gave.slot) ∙ ap (λ (m : M). first_slot core m.1) is in
      let after_turn : View L = view_after_turn core (seat_view shared true me.0) in
      let after_is : after ≡ (after_turn, []) =
      gave.after_ ∙ ap (λ c. (view_after_turn c before.0, [])) same
      ∙ ap (λ (m : M). (view_after_turn core m.0, [])) is
      ∙ ap (λ (m : M). (view_after_turn core m.0, [])) held.me_ in
      let begins : BeginsWith core.entries (seen_of me.0) =
      subst (λ xs. BeginsWith core.entries xs) (sym held.seen_) (begins_of found core on) in
      let rise : ArePlacesOf (seen_of me.0) (places_of me.0) =
      subst (λ xs. ArePlacesOf xs (places_of me.0)) (sym held.seen_) held.places_ in
      subst (IsSeated shared id) (sym after_is)
      record {
        table = table;
        me_ = refl;
        from = begins-then shared.base.entries found.entries core.entries (begins_of shared.base found held.on)
            (begins_of found core on);
        places_ = places_then (seen_of me.0) core.entries (places_of me.0) begins rise;
      }

-- the core of a last turn
pub last_of : {L : Type 0} (seat : SeatState L) (turn : SharedTurn L) → IsTurnOf seat turn
    → ArePlacesOf seat.seen seat.places → IsLast seat turn.core
last_of seat turn got rise = record {
  on = got.on;
  seen = got.seen;
  rising = rise;
  entries = entries_stay seat.seen turn.core.entries 0 seat.places got.seen rise;
}
