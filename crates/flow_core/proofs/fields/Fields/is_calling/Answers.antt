use Rattle.std.proofs.Common.{sym, ap, ◌∙◌}
use Rattle.std.specs.Option.{is_some}
use Rattle.flow_core.proofs.Moved.{begun-read}
use Rattle.flow_core.proofs.fields.Fields.is_calling.Goals as goal

pub returns : goal.returns
returns g c =
    let same = c.is_some.ensures ∙ ap (λ o. is_some o) (sym (begun-read g.L.Meaning.meaning c.args.self.now
    c.requires.fields c.args.flow.0 c.index.result.now c.requires.flow c.index.ensures)) in
    (λ is. sym same ∙ is, λ some. same ∙ some)
