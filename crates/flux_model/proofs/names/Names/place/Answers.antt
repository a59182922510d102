use Rattle.flux_model.proofs.NamedKeys.{place_found, place_none}
use Rattle.flux_model.proofs.names.Names.place.Goals as goal

pub returns-clause-found : goal.returns-clause-found
returns-clause-found c = place_found (λ k. k.now) c.self.inside.set.keys c.args.self.now c.args.name.now c.get_index_of.result c.self.view_is c.get_index_of.ensures.index

pub returns-clause-none : goal.returns-clause-none
returns-clause-none c = place_none (λ k. k.now) c.self.inside.set.keys c.args.self.now c.args.name.now c.get_index_of.result c.self.view_is c.get_index_of.ensures.found
