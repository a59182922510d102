use Rattle.flux_headline.proofs.laws.trackers_nodes_are_built_in.Goals as goal

pub returns : goal.returns
returns c docs = let has = c.groups_are_built_in.ensures.tracker docs in has.nodes
