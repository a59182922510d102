-- Serving with replies after each batch or at once.
use Rattle.std.proofs.Common.{◌≡◌, ℕ, ◌<◌, inl, inr, map, Option, ap}
use Rattle.std.specs.Option.{option_map}
use Rattle.flux_outside.specs.Causes.{Rose}
use Rattle.flux_doors.specs.Seen.{SeenLink}
use Rattle.flux_serve.specs.declared.batches.ServeEnd.{ServeEnd}
use Rattle.flux_serve.specs.declared.batches.ServeEnd.TheVariants.{Door, Memory}
use Rattle.flux_serve.specs.Batches.{Service}
use Rattle.flux_serve.specs.Ends.{Sight}
use Rattle.flux_serve.specs.AtOnce.{HasServedAtOnce}
use Rattle.flux_serve.proofs.AsSeen.{as_seen, served_as_seen}
use Rattle.flux_serve.proofs.AtOnceSeen.{at_once_seen}
use Rattle.flux_cli.specs.declared.replies.Replying.{Replying}
use Rattle.flux_cli.specs.declared.replies.Replying.TheVariants.{AtEnd, AtOnce}
use Rattle.flux_driver.specs.Serving.{IsOpened, HasServedBy}
use Rattle.flux_driver.proofs.Serves.{unplanned, unopened}

module _ {L : Type 0} (replying : Replying) (see : L → SeenLink) (wanted : ℕ) where
  -- what is known of both
  pub at_once_of : (service : Service) (before after : Sight L) (end : ServeEnd)
      → HasServedBy replying see service wanted before after end → HasServedAtOnce see service wanted before after end
  at_once_of service before after end served = by replying served
    where
      by : (r : Replying) → HasServedBy r see service wanted before after end
          → HasServedAtOnce see service wanted before after end
      by (AtEnd runtime) served = inl served
      by (AtOnce workers) served = served

  -- there was no memory for the plans
  pub unplanned_by : 0 < wanted → (service : Service) (sight : Sight L)
      → HasServedBy replying see service wanted sight sight Memory
  unplanned_by some service sight = by replying
    where
      by : (r : Replying) → HasServedBy r see service wanted sight sight Memory
      by (AtEnd runtime) = unplanned see wanted some service sight
      by (AtOnce workers) = inl (unplanned see wanted some service sight)

  -- the door failed to open
  pub unopened_by : 0 < wanted → (service : Service) (before after : Sight L) → Rose before.faults after.faults
      → after.taken_back ≡ before.taken_back → after.log ≡ before.log → after.to_come ≡ before.to_come
      → after.late ≡ before.late → HasServedBy replying see service wanted before after Door
  unopened_by some service before after rose back log_ come late = by replying
    where
      by : (r : Replying) → HasServedBy r see service wanted before after Door
      by (AtEnd runtime) = unopened see wanted some service before after rose back log_ come late
      by (AtOnce workers) = inl (unopened see wanted some service before after rose back log_ come late)

-- the same of links as what is seen of them
pub by_as_seen : {L : Type 0} (replying : Replying) (see : L → SeenLink) (service : Service) (wanted : ℕ)
    (before after : Sight L) (end : ServeEnd) → HasServedBy replying see service wanted before after end
    → HasServedBy replying (λ (link : SeenLink). link) service wanted (as_seen see before) (as_seen see after) end
by_as_seen (AtEnd runtime) see service wanted before after end served =
    served_as_seen see service wanted before after end served
by_as_seen (AtOnce workers) see service wanted before after end served =
    at_once_seen see service wanted before after end served

pub opened_as_seen : {L : Type 0} (see : L → SeenLink) (end : ServeEnd) (port : ℕ) (was is : Option ℕ) (before after : Sight L)
    → IsOpened end port was is before after → IsOpened end port was is (as_seen see before) (as_seen see after)
opened_as_seen see end port was is before after (inl open_) = inl open_
opened_as_seen see end port was is before after (inr (shut, same, still)) = inr (
  shut,
  same,
  record {
    to_come = ap (option_map (map (map see))) still.to_come;
    taken_back = ap (option_map (map see)) still.taken_back;
    late = still.late;
    log_ = still.log_;
  },
)
