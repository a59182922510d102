-- The lowest flow that can go on.
use Rattle.std.proofs.Common.{◌≡◌, ◌<◌, ◌≤◌, ◌⊎◌, inl, inr, ℕ, List, length, ◌+◌, sym, subst, arith}
use Rattle.std.proofs.lemmas.Bool.{cases_lt}
use Rattle.flow_model.specs.declared.journals.Entry.{Entry}
use Rattle.flow_model.specs.Setup.{Setup}
use Rattle.flow_model.specs.Events.{IsLive}
use Rattle.flow_model.specs.Legal.{IsLegal}
use Rattle.flux_laws.specs.Going.{IsBlocked, CanGoOn, IsLowest}
use Rattle.flux_laws.proofs.Living.{not_all_blocked}

-- all live flows below a number are blocked
abbrev pub AreBlocked : Setup → List Entry → ℕ → Type 0
AreBlocked setup entries count = (flow : ℕ) → flow < count → IsLive setup entries flow → IsBlocked setup entries flow

pub blocked-more : (setup : Setup) (entries : List Entry) (count : ℕ) → AreBlocked setup entries count
    → (IsLive setup entries count → IsBlocked setup entries count)
    → AreBlocked setup entries (count + 1)
blocked-more setup entries count all own flow lt live = by (cases_lt flow count)
  where
    by : (flow < count) ⊎ (count ≤ flow) → IsBlocked setup entries flow
    by (inl less) = all flow less live
    by (inr le) = let same : count ≡ flow = omega (arith, lt, le) in subst (IsBlocked setup entries) same
        (own (subst (IsLive setup entries) (sym same) live))

pub lowest-is : (setup : Setup) (entries : List Entry) (lowest : ℕ) → AreBlocked setup entries lowest
    → CanGoOn setup entries lowest → IsLowest setup entries lowest
lowest-is setup entries lowest all can = record { can = can; least = λ flow goes. by flow goes (cases_lt flow lowest) }
  where
    by : (flow : ℕ) → CanGoOn setup entries flow → (flow < lowest) ⊎ (lowest ≤ flow) → lowest ≤ flow
    by flow goes (inl less) = absurd (goes.free (all flow less goes.live))
    by flow goes (inr le) = le

pub none-live : (setup : Setup) (entries : List Entry) → IsLegal setup entries → (count : ℕ)
    → length setup.items ≤ count → AreBlocked setup entries count → (flow : ℕ) → IsLive setup entries flow → ⊥
none-live setup entries legal count enough all flow live =
    not_all_blocked setup entries legal (λ other there. let lt =
    there.item in all other (omega (arith, lt, enough)) there) flow live
