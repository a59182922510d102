-- A script's journal goes on by the rule of its list.
use Rattle.std.proofs.Common.{◌≡◌, ◌⊎◌, inl, inr, List, [], ◌∷◌, ◌++◌, refl, sym, ap, subst, ◌∙◌, append_assoc}
use Rattle.std.proofs.lemmas.List.{append-nil}
use Rattle.flux_model.specs.declared.items.FlowNo.{FlowNo}
use Rattle.flow_model.specs.declared.journals.Entry.{Entry}
use Rattle.flow_model.specs.declared.journals.Event.{Event}
use Rattle.flow_model.specs.Setup.{Setup}
use Rattle.flux_laws.specs.Going.{IsLowest}
use Rattle.flux_laws.specs.Moves.{IsMove}
use Rattle.flow_orders.specs.Turns.{MakesMove, EachStands}
use Rattle.flow_orders.specs.Schedules.{IsAllowed, IsScheduled}
use Rattle.flow_orders.specs.Drains.{IsLowestsTurn, DrainsTo}
use Rattle.flow_waits.proofs.Schedules.{each-none, each-more, each-append}
use Rattle.flow_orders.specs.Follow.{IsTurn, AreTurns, IsFollow, IsListedTurn}
use Rattle.rt_script.specs.Laws.{FollowsAreScheduled}
use Rattle.rt_script.proofs.Following.{turns-more}

module _ (setup : Setup) (old : List Entry) (numbers : List FlowNo) where
  abbrev Allowed : List Entry → FlowNo → Event → Type 0
  Allowed = IsAllowed (IsListedTurn setup old numbers) setup old

  -- entries that the turns of the whole list have added
  record IsListed (new : List Entry) : Type 0 where
    more : List Entry
    added : new ≡ old ++ more
    each : EachStands Allowed more
    turns : AreTurns setup old numbers (old ++ more)

  -- after the turns of those listed before, the others follow
  listed-by : (done left : List FlowNo) (since new : List Entry) → numbers ≡ done ++ left
      → AreTurns setup old done (old ++ since) → EachStands Allowed since → AreTurns setup (old ++ since) left new
      → IsListed new
  listed-by done [] since new whole turns each same = record {
    more = since;
    added = same;
    each = each;
    turns = subst (λ ns. AreTurns setup old ns (old ++ since)) (sym (whole ∙ append-nil done)) turns;
  }
  listed-by done (flow ∷ left) since new whole turns each (between, turn, rest) =
      by turn (λ longer own given after. listed-by (done ++ flow ∷ []) left longer new next own given after)
    where
      next : numbers ≡ (done ++ flow ∷ []) ++ left
      next = whole ∙ sym (append_assoc done (flow ∷ []) left)

      by : IsTurn setup (old ++ since) flow between
          → ((longer : List Entry) → AreTurns setup old (done ++ flow ∷ []) (old ++ longer) → EachStands Allowed longer
          → AreTurns setup (old ++ longer) left new → IsListed new)
          → IsListed new
      by (inl (rests, same)) go =
          go since
          (turns-more setup old (old ++ since) (old ++ since) done flow turns (inl (rests, refl))) each
          (subst (λ es. AreTurns setup es left new) same rest)
      by (inr (event, makes)) go =
          let longer = since ++ record { flow = flow; event = event } ∷ [] in
          let added : between ≡ old ++ longer =
          makes.added ∙ append_assoc old since (record { flow = flow; event = event } ∷ []) in
          go longer
          (subst (AreTurns setup old (done ++ flow ∷ [])) added
          (turns-more setup old (old ++ since) between done flow turns (inr (event, makes))))
          (each-more Allowed since flow event each
          (record { allowed = inl (done, left, whole, turns); move = makes.move }))
          (subst (λ es. AreTurns setup es left new) added rest)

  listed : (new : List Entry) → AreTurns setup old numbers new → IsListed new
  listed new turns =
      listed-by [] numbers [] new refl (append-nil old) (each-none Allowed)
      (subst (λ es. AreTurns setup es numbers new) (sym (append-nil old)) turns)

  -- and then the lowest
  later-allowed : (between : List Entry) (is : IsListed between) (before : List Entry) (flow : FlowNo) (event : Event)
      → IsAllowed (IsLowestsTurn setup between) setup between before flow event
      → Allowed (is.more ++ before) flow event
  later-allowed between is before flow event own =
      let whole : between ++ before ≡ old ++ (is.more ++ before) =
      ap (λ es. es ++ before) is.added ∙ append_assoc old is.more before in
      record {
        allowed = inr (is.more, before, refl, is.turns, subst (λ es. IsLowest setup es flow.0) whole own.allowed);
        move = subst (λ es. IsMove setup es flow event) whole own.move;
      }

  follow-scheduled : (new : List Entry) → IsFollow setup old numbers new
      → IsScheduled (IsListedTurn setup old numbers) setup old new
  follow-scheduled new follow =
      let is = listed follow.listed follow.turns in
      let drains = follow.drains in
      let later = drains.scheduled in
      record {
        more = is.more ++ later.more;
        added = later.added ∙ ap (λ es. es ++ later.more) is.added ∙ append_assoc old is.more later.more;
        each = each-append Allowed is.more later.more is.each
            (λ before after flow event stands. later-allowed follow.listed is before flow event
            (later.each before after flow event stands));
        over = later.over;
      }

pub follows_are_scheduled : FollowsAreScheduled
follows_are_scheduled setup old numbers new follow = follow-scheduled setup old numbers new follow
