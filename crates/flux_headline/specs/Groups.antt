-- That the library that the program is built with has each group of nodes.
use Rattle.flux_library.specs.Documents.{DocMap}
use Rattle.nodes_joined.specs.Joined.{Has}
use Rattle.nodes_counter.specs.Counters.{counter_meaning}
use Rattle.nodes_web.specs.Webs.{web_meaning}
use Rattle.nodes_cache.specs.Cachings.{caching_meaning}
use Rattle.nodes_tracker.specs.Trackers.{tracker_meaning}
use Rattle.flux_commands.specs.BuiltIn.{built_in}

-- it has what `Counter` has, and means the same by it
abbrev pub CounterIsBuiltIn : Type 0
CounterIsBuiltIn = (docs : DocMap) → Has (built_in docs) counter_meaning

-- so with `Web`, on the same documents
abbrev pub WebIsBuiltIn : Type 0
WebIsBuiltIn = (docs : DocMap) → Has (built_in docs) (web_meaning docs)

-- so with `Caching`, on the same documents
abbrev pub CachingIsBuiltIn : Type 0
CachingIsBuiltIn = (docs : DocMap) → Has (built_in docs) (caching_meaning docs)

-- so with `Tracker`
abbrev pub TrackerIsBuiltIn : Type 0
TrackerIsBuiltIn = (docs : DocMap) → Has (built_in docs) tracker_meaning
