use Rattle.std.proofs.Common.{ap, ℕ, ◌≤◌, zero-le}
use native.Mathlib.Bridge.{le_prop}
use Rattle.rt_all.specs.declared.any_runtime.AnyRuntime.{AnyRuntime}
use Rattle.rt_all.specs.declared.any_runtime.AnyRuntime.TheVariants.{Event, Pool}
use Rattle.rt_all.proofs.any_runtime.AnyRuntime.by.Goals as goal

-- there is one way to say that there are few helpers
pub returns-in-Event : goal.returns-in-Event
returns-in-Event c = rw c.in-Event.is
    (ap (λ (few : 0 ≤ 16). let chosen : AnyRuntime = Event (record { helpers = 0; few = few }) in chosen) (le_prop c.result-1.given.0 zero-le))

abbrev loop_of : (count : ℕ) → count ≤ 16 → AnyRuntime
loop_of count few = Event (record { helpers = count; few = few })

pub returns-in-EventWithHelpers : goal.returns-in-EventWithHelpers
returns-in-EventWithHelpers c = rw c.in-EventWithHelpers.is
    (λ i. loop_of c.in-EventWithHelpers.helpers.count (le_prop c.result-in-EventWithHelpers-1.given.0 c.in-EventWithHelpers.helpers.few i))

-- and so it is of workers
abbrev pool_of : (count : ℕ) → 1 ≤ count → count ≤ 16 → AnyRuntime
pool_of count some few = Pool (record { workers = count; some = some; few = few })

pub returns-in-Pool : goal.returns-in-Pool
returns-in-Pool c = rw c.in-Pool.is
    (λ i. pool_of c.in-Pool.workers.count (le_prop c.result-in-Pool-1.given.0 c.in-Pool.workers.some i) (le_prop c.result-in-Pool-1.given.1.0 c.in-Pool.workers.few i))
