-- Who holds a key against a take, and who waits at it ahead, as the table tells it.
use Rattle.std.proofs.Common.{◌≡◌, ◌⊎◌, inl, inr, ℕ, true, List, [], ◌∷◌, Option, Some, None, refl, sym, ap, subst, ◌∙◌, arith}
use Rattle.std.proofs.lemmas.Bool.{false≢true}
use Rattle.flux_values.specs.declared.answers.Mode.{Mode}
use Rattle.flux_model.specs.declared.items.FlowNo.{FlowNo}
use Rattle.flux_model.specs.Modes.{conflict}
use Rattle.flow_model.specs.declared.journals.Key.{Key}
use Rattle.flow_model.specs.declared.journals.Entry.{Entry}
use Rattle.flow_model.specs.declared.journals.Event.TheVariants.{Take}
use Rattle.flow_model.specs.Setup.{Setup}
use Rattle.flow_model.specs.Events.{IsNext}
use Rattle.flow_model.specs.Exclusion.{HoldsKey, modes_held}
use Rattle.flow_model.specs.Legal.{IsLegal}
use Rattle.flux_table.specs.Tables.{Locks, holders_of, lines_of}
use Rattle.flux_table.specs.Blockers as table
use Rattle.flux_table.specs.Blockers.{IsLowestOf}
use Rattle.flux_table.proofs.Standing.{lowest_same}
use Rattle.flux_table.proofs.Blocking.{stands_apart}
use Rattle.flux_laws.specs.Takes.{HoldsEnough, HoldsBelow}
use Rattle.flux_laws.proofs.Members.{In, contains-from_in, in-from_contains}
use Rattle.flux_laws.proofs.Conflicts.{conflict-turned, conflict-less}
use Rattle.flux_laws.proofs.Apart.{are_apart}
use Rattle.flux_laws.proofs.Stacked.{takes_go_up}
use Rattle.flow_state.specs.Blockers.{IsHeldBy, IsAhead}
use Rattle.flow_state.specs.steps.Table.{IsTable}
use Rattle.flow_state.proofs.Held.{some-in}
use Rattle.flow_state.proofs.Tables.{holds-to, holds-from, stands-to, stands-from, free-to, free-from, blocker-within}

module _ (setup : Setup) (entries : List Entry) (legal : IsLegal setup entries) (flow : ℕ) (key : Key) (mode : Mode)
    (next : IsNext setup entries flow (Take key mode)) where
  -- where another flow holds the key in conflict, this one doesn't hold it
  not-holding : (other : ℕ) → IsHeldBy entries other flow key mode → (own : Mode) → In own (modes_held entries flow key)
      → ⊥
  not-holding other held own holds = by (takes_go_up setup entries legal.locks flow key mode next)
      (some-in (modes_held entries other key) mode held.against)
    where
      by : HoldsEnough entries flow key mode ⊎ HoldsBelow entries flow key.class.0
          → (their : Mode) × In their (modes_held entries other key) × (conflict their mode ≡ true) → ⊥
      by (inl enough) (their, there, against) =
          let excludes = legal.excludes in
          let apart = are_apart entries excludes.takes flow other key enough.own their
          (λ e. held.apart (sym e)) (in-from_contains (modes_held entries flow key) enough.own enough.held) there in
          let less = conflict-less enough.own mode their enough.enough apart in
          false≢true (sym less ∙ conflict-turned mode their ∙ against)
      by (inr below) both =
          let lt = below key own (contains-from_in (modes_held entries flow key) own holds) in omega (arith, lt)

  free-of : (other : ℕ) → IsHeldBy entries other flow key mode → modes_held entries flow key ≡ []
  free-of other held = by (modes_held entries flow key) refl
    where
      by : (modes : List Mode) → modes_held entries flow key ≡ modes → modes ≡ []
      by [] is = refl
      by (own ∷ modes) is = absurd (not-holding other held own (subst (In own) (sym is) (inl refl)))

  module _ (locks : Locks) (is : IsTable entries locks) where
    held-to : (other : ℕ) → table.IsHeldAgainst (holders_of locks key) other flow mode
        → IsHeldBy entries other flow key mode
    held-to other held =
        let holds = held.holds in
        record {
          apart = λ same. let e : None ≡ Some holds.their =
              sym held.free ∙ ap (holders_of locks key) (sym same) ∙ holds.holds in cc;
          against = holds-to setup entries legal locks is other key mode holds;
        }

    held-from : (other : ℕ) → IsHeldBy entries other flow key mode
        → table.IsHeldAgainst (holders_of locks key) other flow mode
    held-from other held =
        let free : HoldsKey entries flow key → ⊥ = λ holds. holds (free-of other held) in
        let within = blocker-within setup entries legal locks is other flow key mode next
        (record { free = free; apart = held.apart; cause = inl held.against }) in
        record {
          free = free-from setup entries legal locks is flow key free;
          holds = holds-from setup entries legal locks is other key mode within held.against;
        }

    pub lowest-held : (lowest : Option FlowNo)
        → IsLowestOf (λ other. table.IsHeldAgainst (holders_of locks key) other flow mode) lowest
        → IsLowestOf (λ other. IsHeldBy entries other flow key mode) lowest
    lowest-held lowest = lowest_same (λ other. table.IsHeldAgainst (holders_of locks key) other flow mode)
        (λ other. IsHeldBy entries other flow key mode) lowest held-to held-from

    ahead-to : (other : ℕ) → table.IsAhead (holders_of locks key) (lines_of locks key) other flow mode
        → IsAhead entries other flow key mode
    ahead-to other ahead =
        let stands = ahead.stands in
        record {
          free = free-to setup entries legal locks is flow key ahead.free;
          apart = stands_apart (lines_of locks key) flow (record { flow = record { 0 = other }; mode = stands.their })
              stands.stands;
          before = stands-to setup entries legal locks is other flow key mode stands;
        }

    ahead-from : (other : ℕ) → IsAhead entries other flow key mode
        → table.IsAhead (holders_of locks key) (lines_of locks key) other flow mode
    ahead-from other ahead = record {
      free = free-from setup entries legal locks is flow key ahead.free;
      stands = stands-from setup entries legal locks is other flow key mode ahead.apart ahead.before;
    }

    pub lowest-ahead : (lowest : Option FlowNo)
        → IsLowestOf (λ other. table.IsAhead (holders_of locks key) (lines_of locks key) other flow mode) lowest
        → IsLowestOf (λ other. IsAhead entries other flow key mode) lowest
    lowest-ahead lowest = lowest_same
        (λ other. table.IsAhead (holders_of locks key) (lines_of locks key) other flow mode)
        (λ other. IsAhead entries other flow key mode) lowest ahead-to ahead-from
