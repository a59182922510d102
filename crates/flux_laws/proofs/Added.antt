-- A legal journal stays legal with one entry more: an event that isn't blocked, a wait, or a call with the right answer.
use Rattle.std.proofs.Common.{◌≡◌, ◌≢◌, ◌<◌, ◌≤◌, ◌⊎◌, inl, inr, ℕ, Bool, true, false, List, [], ◌∷◌, ◌++◌, length, refl, sym, ap, subst, ◌∙◌, arith}
use Rattle.std.specs.List.{slice_get}
use Rattle.std.proofs.lemmas.Bool.{cases_eq, cases_lt}
use Rattle.flux_values.specs.declared.answers.Mode.{Mode}
use Rattle.flow_model.specs.declared.journals.CallMade.{CallMade}
use Rattle.flux_model.specs.declared.items.FlowNo.{FlowNo}
use Rattle.flow_model.specs.declared.journals.Key.{Key}
use Rattle.flow_model.specs.declared.journals.Entry.{Entry}
use Rattle.flow_model.specs.declared.journals.Event.{Event}
use Rattle.flow_model.specs.declared.journals.Event.TheVariants.{Take, Wait, Enter, Choose, Call, Exit, Drop, End}
use Rattle.flow_model.specs.Setup.{Setup}
use Rattle.flux_model.specs.Modes.{conflict, at_least}
use Rattle.flow_model.specs.CellsAfter.{cells_after}
use Rattle.flow_model.specs.Answers.{IsNodeAnswer}
use Rattle.flow_model.specs.Flows.{flow_events}
use Rattle.flow_model.specs.Events.{events_by, FollowsWalk, IsNext, CallIsNext, Stands}
use Rattle.flow_model.specs.Exclusion.{modes_held, holds_against}
use Rattle.flow_model.specs.Waits.{StandsAt, Blocks, MayPass, MayWait, IsNoWaitLast}
use Rattle.flow_model.specs.Legal.{IsLegal}
use Rattle.flux_laws.specs.Going.{IsBlocked}
use Rattle.flux_laws.specs.Moves.{EventIsLegal, WaitIsLegal, CallIsLegal, MovesAreLegal, NothingIsLegal}
use Rattle.flux_laws.proofs.Members.{In, all-more}
use Rattle.flux_laws.proofs.Stacks.{MayTake}
use Rattle.flux_laws.proofs.Held.{stack-from_held}
use Rattle.flux_laws.proofs.Conflicts.{conflict-turned, conflict-less, none_against-all}
use Rattle.flux_laws.proofs.Apart.{are_apart}
use Rattle.flux_laws.proofs.OnWalk.{stack_after, modes-stack, covered-held}
use Rattle.flux_laws.proofs.Standing.{next-unique}
use Rattle.flux_laws.proofs.Waiting.{next-take, next-on_walk}
use Rattle.flux_laws.proofs.Lasting.{StandsSomewhere, last-unique, same-place, stands_or_not}
use Rattle.flux_laws.proofs.NextEvents.{IsPlain, next-plain, next-no_call, next-item, call-item, follows-next, follows-wait, follows-call}
use Rattle.flux_laws.proofs.Parts.{answers-more, takes-more, waits-more, follows-other, parts_make_legal}

-- a flow holds nothing of a key, or something
pub holds_or_not : (modes : List Mode) → (modes ≡ []) ⊎ ((modes ≡ [] → ⊥) × ((own : Mode) × In own modes))
holds_or_not [] = inl refl
holds_or_not (mode ∷ modes) = inr (λ e. cc, (mode, inl refl))

nothing_stands : (before after : List Entry) (entry : Entry) → [] ≡ before ++ entry ∷ after → ⊥
nothing_stands [] after entry e = cc
nothing_stands (x ∷ before) after entry e = cc

no_wait : (key : Key) (mode : Mode) → IsPlain (Wait key mode) → ⊥
no_wait key mode is = let e = is.own in cc e

module _ (setup : Setup) (entries : List Entry) (legal : IsLegal setup entries) where
  -- ---- takes

  module _ (flow : FlowNo) (key : Key) (mode : Mode) (next : IsNext setup entries flow.0 (Take key mode)) (free : IsBlocked setup entries flow.0 → ⊥) where
    -- no other flow blocks it
    unblocked : (other : ℕ) → Blocks entries other flow.0 key mode → ⊥
    unblocked other blocks = free (other, record { key = key; mode = mode; next = next; blocked = blocks })

    -- a take of what is held is of what is held in at least that mode
    held-enough : (own : Mode) → In own (modes_held entries flow.0 key) → (there : Mode) × In there (modes_held entries flow.0 key) × (at_least there mode ≡ true)
    held-enough own is = by (next-take setup legal.locks entries flow.0 key mode next)
      where
        by : MayTake (stack_after entries flow.0) key mode → (there : Mode) × In there (modes_held entries flow.0 key) × (at_least there mode ≡ true)
        by (inl covers) = covered-held setup legal.locks entries flow.0 (next-on_walk setup legal.locks entries flow.0 (Take key mode) next) key mode covers
        by (inr above) =
            let lt = above key own (stack-from_held (stack_after entries flow.0) key own
            (rw (modes-stack setup legal.locks entries flow.0 (next-on_walk setup legal.locks entries flow.0 (Take key mode) next) key) at is)) in
            absurd (omega (arith, lt))

    take-excludes : (other : ℕ) → other ≢ flow.0 → holds_against entries other key mode ≡ false
    take-excludes other apart = by (holds_or_not (modes_held entries flow.0 key))
      where
        told : (b : Bool) → holds_against entries other key mode ≡ b → modes_held entries flow.0 key ≡ [] → holds_against entries other key mode ≡ false
        told true e none = absurd (unblocked other (record { free = λ holds. holds none; apart = apart; cause = inl e }))
        told false e none = e

        by : (modes_held entries flow.0 key ≡ []) ⊎ ((modes_held entries flow.0 key ≡ [] → ⊥) × ((own : Mode) × In own (modes_held entries flow.0 key))) → holds_against entries other key mode ≡ false
        by (inl none) = told (holds_against entries other key mode) refl none
        by (inr (some, (own, is))) =
            let (there, there_is, enough) = held-enough own is in
            none_against-all (modes_held entries other key) mode (λ their their_is.
            conflict-turned their mode ∙ conflict-less there mode their enough
            (are_apart entries (let ex = legal.excludes in ex.takes) flow.0 other key there their (λ (e : flow.0 ≡ other). apart (sym e)) there_is their_is))

    -- it overtakes nobody
    take-passes : (before rest : List Entry) (waiting : FlowNo) (their : Mode) → Stands entries before waiting (Wait key their) rest
        → flow.0 ≢ waiting.0 → events_by waiting.0 rest ≡ [] → conflict mode their ≡ true → MayPass entries flow.0 key (length before)
    take-passes before rest waiting their stands apart none against = by (holds_or_not (modes_held entries flow.0 key)) (stands_or_not entries flow.0 key)
      where
        own_last : StandsAt entries waiting.0 key their (length before)
        own_last = record { before = before; after = rest; stands = stands; last = none; at = refl }

        blocks : modes_held entries flow.0 key ≡ [] → ((own : Mode) (behind : ℕ) → StandsAt entries flow.0 key own behind → length before < behind) → Blocks entries waiting.0 flow.0 key mode
        blocks none first = record {
          free = λ holds. holds none;
          apart = λ (e : waiting.0 ≡ flow.0). apart (sym e);
          cause = inr (record { their = their; place = length before; stands = own_last; against = conflict-turned their mode ∙ against; first = first });
        }

        by : (modes_held entries flow.0 key ≡ []) ⊎ ((modes_held entries flow.0 key ≡ [] → ⊥) × ((own : Mode) × In own (modes_held entries flow.0 key)))
            → StandsSomewhere entries flow.0 key ⊎ (StandsSomewhere entries flow.0 key → ⊥) → MayPass entries flow.0 key (length before)
        by (inr (some, held)) standing = inl some
        by (inl none) (inr nowhere) = absurd (unblocked waiting.0 (blocks none (λ own behind there. absurd (nowhere (own, behind, there)))))
        by (inl none) (inl (own, place, there)) = placed (cases_lt place (length before))
          where
            -- two waits aren't at one place
            elsewhere : length before ≡ place → ⊥
            elsewhere same =
                let one = same-place there.before before there.after rest (record { flow = record { 0 = flow.0 }; event = Wait key own }) (record { flow = waiting; event = Wait key their })
                (sym there.stands ∙ stands) (there.at ∙ sym same) in
                apart (ap (λ (e : Entry). e.flow.0) one)

            placed : (place < length before) ⊎ (length before ≤ place) → MayPass entries flow.0 key (length before)
            placed (inl lt) = inr (own, place, lt, there)
            placed (inr le) = absurd (unblocked waiting.0 (blocks none (λ mine behind stands_there.
                let same = last-unique entries (record { 0 = flow.0 }) (Wait key own) (Wait key mine) place behind there stands_there in
                let at = same.1 in
                let ne : length before ≢ place = elsewhere in
                omega (arith, le, at, ne))))

  -- ---- the moves

  walks-more : (flow : FlowNo) (event : Event) → FollowsWalk setup (entries ++ record { flow = flow; event = event } ∷ []) flow.0
      → (other : ℕ) → other < length setup.items → FollowsWalk setup (entries ++ record { flow = flow; event = event } ∷ []) other
  walks-more flow event own other lt = by (cases_eq flow.0 other)
    where
      by : (flow.0 ≡ other) ⊎ (flow.0 ≡ other → ⊥) → FollowsWalk setup (entries ++ record { flow = flow; event = event } ∷ []) other
      by (inl same) = subst (FollowsWalk setup (entries ++ record { flow = flow; event = event } ∷ [])) same own
      by (inr apart) = follows-other setup entries flow event other apart (legal.walks other lt)

  legal-event : (flow : FlowNo) (event : Event) → IsNext setup entries flow.0 event → (IsBlocked setup entries flow.0 → ⊥) → IsLegal setup (entries ++ record { flow = flow; event = event } ∷ [])
  legal-event flow event next free =
      let entry : Entry = record { flow = flow; event = event } in
      parts_make_legal setup (entries ++ entry ∷ []) (record {
        locks = legal.locks;
        flows = all-more (λ e. e.flow.0 < length setup.items) entries entry legal.flows (next-item setup entries flow.0 event next);
        walks = walks-more flow event (follows-next setup legal.locks entries flow event next);
        answers = answers-more setup entries entry legal.answers (λ made is. absurd (next-no_call setup entries flow.0 made (rw is at next)));
        takes = takes-more setup entries entry (let ex = legal.excludes in ex.takes) (λ key mode is. take-excludes flow key mode (rw is at next) free);
        waits = waits-more setup entries entry legal.waits (λ key mode is. absurd (no_wait key mode (rw is at (next-plain setup legal.locks entries flow.0 event next))))
            (λ before rest waiting key their mode stands is apart none against. take-passes flow key mode (rw is at next) free before rest waiting their stands apart none against);
      })

  legal-wait : (flow : FlowNo) (key : Key) (mode : Mode) → IsNext setup entries flow.0 (Take key mode) → IsBlocked setup entries flow.0 → IsNoWaitLast entries flow
      → IsLegal setup (entries ++ record { flow = flow; event = Wait key mode } ∷ [])
  legal-wait flow key mode next (other, waits) once =
      let entry : Entry = record { flow = flow; event = Wait key mode } in
      let item = next-item setup entries flow.0 (Take key mode) next in
      let same : Take waits.key waits.mode ≡ Take key mode = next-unique setup entries flow.0 (Take waits.key waits.mode) (Take key mode) waits.next next in
      let key_is : waits.key ≡ key = cc same in
      let mode_is : waits.mode ≡ mode = cc same in
      let may : MayWait setup entries flow key mode [] = record {
        next = next;
        blocker = other;
        blocked = rw (key_is, mode_is) at waits.blocked;
        once = once;
        kept = λ between rest o their stands ne none against. absurd (nothing_stands between rest (record { flow = o; event = Take key their }) stands);
      } in
      parts_make_legal setup (entries ++ entry ∷ []) (record {
        locks = legal.locks;
        flows = all-more (λ e. e.flow.0 < length setup.items) entries entry legal.flows item;
        walks = walks-more flow (Wait key mode) (follows-wait setup entries flow key mode (legal.walks flow.0 item));
        answers = answers-more setup entries entry legal.answers (λ made is. absurd (unlike_call made is));
        takes = takes-more setup entries entry (let ex = legal.excludes in ex.takes) (λ k m is. absurd (unlike_take k m is));
        waits = waits-more setup entries entry legal.waits (λ k m is. let k_is : key ≡ k = cc is in let m_is : mode ≡ m = cc is in rw (k_is, m_is) at may)
            (λ before rest waiting k m their stands is apart none against. absurd (unlike_take k their is));
      })
    where
      unlike_call : (made : CallMade) → Wait key mode ≡ Call made → ⊥
      unlike_call made e = cc

      unlike_take : (k : Key) (m : Mode) → Wait key mode ≡ Take k m → ⊥
      unlike_take k m e = cc

  legal-call : (flow : FlowNo) (made : CallMade) → CallIsNext setup entries flow.0 made.node made.args
      → IsNodeAnswer setup flow.0 (cells_after setup entries) (slice_get setup.program.nodes made.node.0) made → IsLegal setup (entries ++ record { flow = flow; event = Call made } ∷ [])
  legal-call flow made next right =
      let entry : Entry = record { flow = flow; event = Call made } in
      parts_make_legal setup (entries ++ entry ∷ []) (record {
        locks = legal.locks;
        flows = all-more (λ e. e.flow.0 < length setup.items) entries entry legal.flows (call-item setup entries flow.0 made.node made.args next);
        walks = walks-more flow (Call made) (follows-call setup entries flow made next);
        answers = answers-more setup entries entry legal.answers (λ other is. let same : made ≡ other = cc is in rw same at right);
        takes = takes-more setup entries entry (let ex = legal.excludes in ex.takes) (λ k m is. absurd (unlike_take k m is));
        waits = waits-more setup entries entry legal.waits (λ k m is. absurd (unlike_wait k m is))
            (λ before rest waiting k m their stands is apart none against. absurd (unlike_take k their is));
      })
    where
      unlike_wait : (k : Key) (m : Mode) → Call made ≡ Wait k m → ⊥
      unlike_wait k m e = cc

      unlike_take : (k : Key) (m : Mode) → Call made ≡ Take k m → ⊥
      unlike_take k m e = cc

pub event_is_legal : EventIsLegal
event_is_legal setup entries flow event legal may = legal-event setup entries legal flow event may.next may.free

pub wait_is_legal : WaitIsLegal
wait_is_legal setup entries flow key mode legal may = legal-wait setup entries legal flow key mode may.next may.blocked may.once

pub call_is_legal : CallIsLegal
call_is_legal setup entries flow made legal may = legal-call setup entries legal flow made may.next may.right

pub moves_are_legal : MovesAreLegal
moves_are_legal setup entries flow (Wait key mode) legal may = wait_is_legal setup entries flow key mode legal may
moves_are_legal setup entries flow (Call made) legal may = call_is_legal setup entries flow made legal may
moves_are_legal setup entries flow (Take key mode) legal may = event_is_legal setup entries flow (Take key mode) legal may
moves_are_legal setup entries flow (Enter node) legal may = event_is_legal setup entries flow (Enter node) legal may
moves_are_legal setup entries flow (Choose place) legal may = event_is_legal setup entries flow (Choose place) legal may
moves_are_legal setup entries flow (Exit node outcome) legal may = event_is_legal setup entries flow (Exit node outcome) legal may
moves_are_legal setup entries flow (Drop key) legal may = event_is_legal setup entries flow (Drop key) legal may
moves_are_legal setup entries flow (End outcome) legal may = event_is_legal setup entries flow (End outcome) legal may

none-stand : (before after : List Entry) (flow : FlowNo) (event : Event) → Stands [] before flow event after → ⊥
none-stand before after flow event stands = nothing_stands before after (record { flow = flow; event = event }) stands

pub nothing_is_legal : NothingIsLegal
nothing_is_legal setup are = parts_make_legal setup [] (record {
  locks = are;
  flows = tt;
  walks = λ flow lt. record { rest = flow_events setup flow []; prefix = refl };
  answers = λ before after flow made stands. absurd (none-stand before after flow (Call made) stands);
  takes = λ before after flow key mode stands other ne. absurd (none-stand before after flow (Take key mode) stands);
  waits = λ before after flow key mode stands. absurd (none-stand before after flow (Wait key mode) stands);
})
