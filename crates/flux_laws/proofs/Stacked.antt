-- What the stack says of a flow's next take and drop, and of the first take of a key.
use Rattle.std.proofs.Common.{◌≡◌, ◌⊎◌, inl, inr, ℕ, true, List, [], ◌∷◌, ◌++◌, refl, sym, ap, ◌∙◌, arith}
use Rattle.flux_values.specs.declared.answers.Mode.{Mode}
use Rattle.flux_model.specs.declared.programs.ClassNo.{ClassNo}
use Rattle.flux_model.specs.declared.programs.Hold.{Hold}
use Rattle.flow_model.specs.declared.journals.Event.{Event}
use Rattle.flow_model.specs.declared.journals.Event.TheVariants.{Take, Wait, Enter, Choose, Call, Exit, Drop, End}
use Rattle.flow_model.specs.declared.journals.Key.{Key}
use Rattle.flux_model.specs.Modes.{at_least}
use Rattle.flux_model.specs.Locks.{declared}
use Rattle.flow_model.specs.Events.{own_events}
use Rattle.flow_model.specs.Exclusion.{without_first, modes_held}
use Rattle.flux_model.proofs.Hoisting.{at_least_on}
use Rattle.flux_laws.specs.Takes.{HoldsEnough, HoldsBelow, TakesGoUp, DropsAreHeld, FirstTakesAreGreatest, StandersTakeNext}
use Rattle.flux_laws.proofs.Members.{In, in-from_contains, contains-from_in, in-either, in-right}
use Rattle.flow_model.proofs.Keys.{key_cases}
use Rattle.flux_laws.proofs.Stacks.{Stack, begun, taken, opened, step, run, MayTake, IsTaken, Allowed, Runs, runs-rest, modes_in}
use Rattle.flux_laws.proofs.Held.{held-from_stack, stack-from_held}
use Rattle.flux_laws.proofs.FlowRuns.{keys_of, at_start}
use Rattle.flux_laws.proofs.OnWalk.{on_walk-follows, on_walk-next, on_walk-runs, stack_after, modes-stack, covered-held}
use Rattle.flux_laws.proofs.Standing.{standing-next}
use Rattle.flux_laws.proofs.Waiting.{holds-some, next-take, next-on_walk}

pub takes_go_up : TakesGoUp
takes_go_up setup entries are flow key mode next = by (next-take setup are entries flow key mode next)
  where
    by : MayTake (stack_after entries flow) key mode → HoldsEnough entries flow key mode ⊎ HoldsBelow entries flow key.class.0
    by (inl covers) =
        let (own, is, enough) = covered-held setup are entries flow (next-on_walk setup are entries flow (Take key mode) next) key mode covers in
        inl (record { own = own; held = contains-from_in (modes_held entries flow key) own is; enough = enough })
    by (inr above) = inr (λ held own is. above held own (stack-from_held (stack_after entries flow) held own
        (rw (modes-stack setup are entries flow (next-on_walk setup are entries flow (Take key mode) next) held) at (in-from_contains (modes_held entries flow held) own is))))

-- ---- drops

taken-in : (key : Key) (st : Stack) → IsTaken key st → (own : Mode) × In own (modes_in key st)
taken-in key [] last = absurd last
taken-in key (begun ∷ st) last = absurd last
taken-in key (opened node ∷ st) last = absurd last
taken-in key (taken other mode ∷ st) last = (mode, held-from_stack (taken other mode ∷ st) key mode (inl (ap (λ (k : Key). taken k mode) last)))

pub drops_are_held : DropsAreHeld
drops_are_held setup entries are flow key next =
    let runs = on_walk-runs setup are flow (own_events entries flow ++ Drop key ∷ []) (on_walk-next setup entries flow (Drop key) next) in
    let last = runs-rest (keys_of setup flow) (declared setup.program) at_start (own_events entries flow) (Drop key ∷ []) runs in
    let (own, is) = taken-in key (stack_after entries flow) last.1 in
    holds-some entries flow key own (rw (modes-stack setup are entries flow (next-on_walk setup are entries flow (Drop key) next) key) is)

-- ---- the first take

-- each take was of what was held or went upward
abbrev IsStacked : Stack → Type 0
IsStacked [] = Unit {0}
IsStacked (begun ∷ st) = IsStacked st
IsStacked (taken key mode ∷ st) = MayTake st key mode × IsStacked st
IsStacked (opened node ∷ st) = IsStacked st

stacked-under : (st : Stack) → IsStacked st → IsStacked (without_first st)
stacked-under [] is = tt
stacked-under (begun ∷ st) is = is
stacked-under (taken key mode ∷ st) (own, is) = is
stacked-under (opened node ∷ st) is = is

module _ (key : ClassNo → Key) (declares : ℕ → List Hold) where
  stacked-step : (st : Stack) (event : Event) → Allowed key declares st event → IsStacked st → IsStacked (step st event)
  stacked-step st (Take k mode) allowed is = (allowed, is)
  stacked-step st (Wait k mode) allowed is = is
  stacked-step st (Enter node) allowed is = is
  stacked-step st (Choose place) allowed is = is
  stacked-step st (Call made) allowed is = is
  stacked-step st (Exit node outcome) allowed is = stacked-under st is
  stacked-step st (Drop k) allowed is = stacked-under st is
  stacked-step st (End outcome) allowed is = stacked-under st is

  stacked-run : (st : Stack) (list : List Event) → Runs key declares st list → IsStacked st → IsStacked (run st list)
  stacked-run st [] runs is = is
  stacked-run st (event ∷ list) (on, allowed, runs) is = stacked-run (step st event) list runs (stacked-step st event allowed is)

first-greatest : (st : Stack) → IsStacked st → (k : Key) (later : List Mode) (first : Mode) → modes_in k st ≡ later ++ first ∷ [] → (mode : Mode) → In mode later → at_least first mode ≡ true
first-greatest [] is k [] first e mode among = absurd among
first-greatest [] is k (m ∷ later) first e mode among = absurd cc
first-greatest (begun ∷ st) is k later first e mode among = first-greatest st is k later first e mode among
first-greatest (opened node ∷ st) is k later first e mode among = first-greatest st is k later first e mode among
first-greatest (taken other own ∷ st) (may, is) k later first e mode among =
    key_cases other k (λ same here. at_top later (rw here at e) same among (λ rest split m there. first-greatest st is k rest first split m there))
    (λ apart _. first-greatest st is k later first (rw apart at e) mode among)
  where
    at_top : (list : List Mode) → own ∷ modes_in k st ≡ list ++ first ∷ [] → other ≡ k → In mode list
        → ((rest : List Mode) → modes_in k st ≡ rest ++ first ∷ [] → (m : Mode) → In m rest → at_least first m ≡ true) → at_least first mode ≡ true
    at_top [] e same among more = absurd among
    at_top (m ∷ rest) e same (inr among) more = more rest (cc) mode among
    at_top (m ∷ rest) e same (inl top) more = covered (rw same at may)
      where
        under : modes_in k st ≡ rest ++ first ∷ []
        under = cc

        own_is : own ≡ mode
        own_is = let h : own ≡ m = cc in h ∙ top

        enough : (there : Mode) → at_least there own ≡ true → In there rest ⊎ In there (first ∷ []) → at_least first mode ≡ true
        enough there is (inl among) = rw own_is at (at_least_on first there own (more rest under there among) is)
        enough there is (inr (inl same_first)) = rw (own_is, sym same_first) at is
        enough there is (inr (inr none)) = absurd none

        covered : MayTake st k own → at_least first mode ≡ true
        covered (inl covers) = enough covers.own covers.enough (in-either rest (first ∷ []) covers.own (rw under at (held-from_stack st k covers.own covers.held)))
        covered (inr above) = let lt = above k first (stack-from_held st k first (rw under (in-right rest (first ∷ []) first (inl refl)))) in absurd (omega (arith, lt))

pub first_takes_are_greatest : FirstTakesAreGreatest
first_takes_are_greatest setup entries are flow follows key later first split mode among =
    let on = on_walk-follows setup entries flow follows in
    let runs = on_walk-runs setup are flow (own_events entries flow) on in
    first-greatest (stack_after entries flow) (stacked-run (keys_of setup flow) (declared setup.program) at_start (own_events entries flow) runs tt) key later first
    (sym (modes-stack setup are entries flow on key) ∙ split) mode (in-from_contains later mode among)

pub standers_take_next : StandersTakeNext
standers_take_next setup entries right flow key mode place stands = standing-next setup entries flow key mode place right stands
