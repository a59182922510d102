use Rattle.flux_model.proofs.NamedKeys.{added, kept}
use Rattle.flux_model.proofs.names.Names.add.Goals as goal

pub returns-clause-new_ : goal.returns-clause-new_
returns-clause-new_ c = λ new. added (λ k. k.now) c.self.inside.set.keys c.insert.new.self.keys c.args.self.now c.args.name c.self.view_is new c.in_ok-insert.ensures.keys

pub returns-clause-there : goal.returns-clause-there
returns-clause-there c = λ there. kept (λ k. k.now) c.self.inside.set.keys c.insert.new.self.keys c.args.self.now c.args.name c.self.view_is there c.in_ok-insert.ensures.keys
