use Rattle.std.proofs.Common.{◌<◌, All, true, false, ap, subst, ◌∙◌, refl}
use Rattle.std.specs.FinMap.{insert}
use Rattle.flux_library.specs.Documents.{DocMap, IsBody}
use Rattle.flux_library.proofs.Kept.{named, named-insert_entry, kept_bodies, is_there, told_there, told_new, added_there, added_new, refused}
use Rattle.flux_library.proofs.documents.Docs.add.Goals as goal

pub invariant_of-self-inside : goal.invariant_of-self-inside
invariant_of-self-inside c =
    let is : IsBody c.args.body = (subst (All (λ byte. byte < 256)) c.as_bytes.ensures c.is_short.ensures.bytes, c.requires) in (
      kept_bodies c.insert.result c.self.inside.bodies.entries c.insert.new.self.entries c.in_ok-name.name c.args.body
          c.insert.ensures.entries c.insert.ensures.err c.self.inside.each is,
      tt,
    )

pub returns-then-contains_key-clause-told : goal.returns-then-contains_key-clause-told
returns-then-contains_key-clause-told c =
    let kept = ap (λ (d : DocMap). d.named) c.self.view_is in
    told_there _ (is_there c.self.inside.bodies.entries c.args.self.now.named c.args.name c.as_bytes-2.result.now c.contains_key.result true kept c.as_bytes-2.ensures c.contains_key.ensures c.if-contains_key.true)

pub returns-then-contains_key-clause-ok : goal.returns-then-contains_key-clause-ok
returns-then-contains_key-clause-ok c =
    let kept = ap (λ (d : DocMap). d.named) c.self.view_is in
    added_there c.args.self.now.named c.args.name c.args.body (is_there c.self.inside.bodies.entries c.args.self.now.named c.args.name c.as_bytes-2.result.now c.contains_key.result true kept c.as_bytes-2.ensures c.contains_key.ensures c.if-contains_key.true)

pub returns-in_err-insert-clause-err : goal.returns-in_err-insert-clause-err
returns-in_err-insert-clause-err c =
    let kept = ap (λ (d : DocMap). d.named) c.self.view_is in
    refused c.from_residual-in_err-insert.result c.self.inside.bodies.entries c.insert.new.self.entries c.args.self.now _ kept refl c.in_err-insert.ensures.err

pub returns-clause-told : goal.returns-clause-told
returns-clause-told c =
    let kept = ap (λ (d : DocMap). d.named) c.self.view_is in
    told_new _ (is_there c.self.inside.bodies.entries c.args.self.now.named c.args.name c.as_bytes-2.result.now c.contains_key.result false kept c.as_bytes-2.ensures c.contains_key.ensures c.if-contains_key.false)

pub returns-clause-ok : goal.returns-clause-ok
returns-clause-ok c =
    let kept = ap (λ (d : DocMap). d.named) c.self.view_is in
    let none = is_there c.self.inside.bodies.entries c.args.self.now.named c.args.name c.as_bytes-2.result.now c.contains_key.result false kept c.as_bytes-2.ensures c.contains_key.ensures c.if-contains_key.false in
    added_new c.args.self.now.named _ c.args.name c.args.body none
    (ap named c.in_ok-insert.ensures.entries ∙ named-insert_entry c.self.inside.bodies.entries c.in_ok-name.name c.args.body
    ∙ ap (λ m. insert m c.in_ok-name.name.items c.args.body) kept
    ∙ ap (λ n. insert c.args.self.now.named n c.args.body) (c.in_ok-name.ensures.items ∙ c.as_bytes-3.ensures))
