use Rattle.nodes_counter.specs.Counters.{counter_meaning}
use Rattle.nodes_web.specs.Webs.{web_meaning}
use Rattle.nodes_cache.specs.Cachings.{caching_meaning}
use Rattle.nodes_tracker.specs.Trackers.{tracker_meaning}
use Rattle.flux_headline.proofs.Groups.{built_in_part}
use Rattle.flux_headline.proofs.laws.groups_are_built_in.Goals as goal

pub returns-clause-counter : goal.returns-clause-counter
returns-clause-counter c = λ docs. built_in_part docs counter_meaning (c.has_counter.ensures docs)

pub returns-clause-web : goal.returns-clause-web
returns-clause-web c = λ docs. built_in_part docs (web_meaning docs) (c.has_web.ensures docs)

pub returns-clause-caching : goal.returns-clause-caching
returns-clause-caching c = λ docs. built_in_part docs (caching_meaning docs) (c.has_caching.ensures docs)

pub returns-clause-tracker : goal.returns-clause-tracker
returns-clause-tracker c = λ docs. built_in_part docs tracker_meaning (c.has_tracker.ensures docs)
