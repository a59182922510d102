-- The library keeps the laws of a library (an `impl` takes its laws' proofs from here).
use Rattle.flux_library.specs.Libraries.{IsLawful}
use Rattle.flux_library.specs.Documents.{DocMap}
use Rattle.nodes_counter.specs.laws.Counters.{counter_lawful}
use Rattle.nodes_counter.specs.Counters.{counter_meaning}
use Rattle.nodes_web.specs.laws.Webs.{web_lawful}
use Rattle.nodes_web.specs.Webs.{web_meaning}
use Rattle.nodes_cache.specs.laws.Cachings.{caching_lawful}
use Rattle.nodes_cache.specs.Cachings.{caching_meaning}
use Rattle.nodes_tracker.specs.laws.Trackers.{tracker_lawful}
use Rattle.nodes_tracker.specs.Trackers.{tracker_meaning}
use Rattle.nodes_joined.specs.Joined.{joined}
use Rattle.nodes_joined.specs.laws.Joined.{joined_lawful}
use Rattle.nodes_all.specs.Alls.{all_meaning}

pub all_lawful : (docs : DocMap) → IsLawful (all_meaning docs)
unfolding all_meaning
all_lawful docs =
    let last = joined (caching_meaning docs) tracker_meaning in
    joined_lawful counter_meaning (joined (web_meaning docs) last) (counter_lawful docs)
    (joined_lawful (web_meaning docs) last (web_lawful (record { docs = docs }))
    (joined_lawful (caching_meaning docs) tracker_meaning (caching_lawful docs) (tracker_lawful docs)))
