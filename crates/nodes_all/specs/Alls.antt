-- The meaning of the library `All`, by its documents.
use Rattle.flux_values.specs.Meanings.{LibraryMeaning}
use Rattle.flux_library.specs.Documents.{DocMap}
use Rattle.nodes_counter.specs.Counters.{counter_meaning}
use Rattle.nodes_web.specs.Webs.{web_meaning}
use Rattle.nodes_cache.specs.Cachings.{caching_meaning}
use Rattle.nodes_tracker.specs.Trackers.{tracker_meaning}
use Rattle.nodes_joined.specs.Joined.{joined, Has}

-- the libraries `Counter`, `Web`, `Caching` and `Tracker` as one
unfoldable pub all_meaning : DocMap → LibraryMeaning
all_meaning docs = joined counter_meaning
    (joined (web_meaning docs) (joined (caching_meaning docs) tracker_meaning))

-- it has what `Counter` has
abbrev pub HasCounter : Type 0
HasCounter = (docs : DocMap) → Has (all_meaning docs) counter_meaning

-- it has what `Web` has on the same documents
abbrev pub HasWeb : Type 0
HasWeb = (docs : DocMap) → Has (all_meaning docs) (web_meaning docs)

-- it has what `Caching` has on the same documents
abbrev pub HasCaching : Type 0
HasCaching = (docs : DocMap) → Has (all_meaning docs) (caching_meaning docs)

-- it has what `Tracker` has
abbrev pub HasTracker : Type 0
HasTracker = (docs : DocMap) → Has (all_meaning docs) tracker_meaning
