-- Batches that were served at once, one after another.
use Rattle.std.proofs.Common.{inl, inr, ℕ, ◌<◌, subst, arith}
use Rattle.flow_model.specs.Keys.{Cells}
use Rattle.flux_doors.specs.Seen.{SeenLink}
use Rattle.flux_serve.specs.declared.batches.ServeEnd.{ServeEnd}
use Rattle.flux_serve.specs.Batches.{Service, empty_cells}
use Rattle.flux_serve.specs.Ends.{Sight, cells_at_end}
use Rattle.flux_serve.specs.AtOnce.{IsBegun, HasServedAtOnce}
use Rattle.flux_serve.specs.steps.Batches.{StopsAtOnce}
use Rattle.flux_serve.proofs.OneByOne.{SoFar, served_some}

-- the next batch ended it
pub at_once_some : {L : Type 0} (see : L → SeenLink) (service : Service) (before mid after : Sight L) (count number : ℕ) (cells : Cells) (wanted : ℕ) (end : ServeEnd)
    → SoFar see service before mid count number cells → count < wanted
    → StopsAtOnce see service cells count number mid after end → HasServedAtOnce see service wanted before after end
at_once_some see service before mid after count number cells wanted end s fewer (inl stopped) =
    inl (served_some see service before mid after count number cells wanted end s fewer stopped)
at_once_some {L} see service before mid after count number cells wanted end s fewer (inr broken) =
    let begun = broken.1.0 in
    let C : Cells → Type 0 = λ k. IsBegun see service k number begun mid after in
    let N : ℕ → Type 0 = λ n. IsBegun see service (cells_at_end service empty_cells 0 s.batches) n begun mid after in
    inr (
      broken.0,
      record {
        batches = s.batches;
        mid = mid;
        served = s.served;
        few = omega (arith, s.count_, fewer);
        begun = begun;
        broken = subst N s.number_ (subst C s.cells_ broken.1.1);
      },
    )
