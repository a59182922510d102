use Rattle.std.proofs.Common.{Some, ap, sym, ◌∙◌}
use Rattle.std.specs.FinMap as map
use Rattle.flux_library.specs.Documents.{DocMap}
use Rattle.flux_library.proofs.Kept.{get-named}
use Rattle.flux_library.proofs.documents.Docs.get.Goals as goal

pub returns-in-Some : goal.returns-in-Some
returns-in-Some c =
    ap Some c.as_bytes.ensures ∙ c.in-Some.ensures.value ∙ sym (get-named c.self.inside.bodies.entries c.args.name.now)
    ∙ ap (λ (d : DocMap). map.get d.named c.args.name.now) c.self.view_is

pub returns-in-None : goal.returns-in-None
returns-in-None c =
    c.in-None.ensures.value ∙ sym (get-named c.self.inside.bodies.entries c.args.name.now)
    ∙ ap (λ (d : DocMap). map.get d.named c.args.name.now) c.self.view_is
