use Rattle.std.proofs.Common.{inl, inr, ◌∙◌, ap, length, refl, arith}
use Rattle.flux_docs.proofs.SoFar.{none_yet, longer, too_much, one_more}
use Rattle.flux_docs.proofs.reading.read_left.Goals as goal

pub docs-init : goal.docs-init
docs-init g c = (none_yet (g.F.Folder.left c.args.folder.now) c.new-docs.result.named c.new-docs.ensures, refl, refl, refl, omega arith, omega arith)

pub returns-in-Longer-clause-told : goal.returns-in-Longer-clause-told
returns-in-Longer-clause-told g c =
    longer (g.F.Folder.left c.args.folder.now) (g.F.Folder.left c.docs.folder) (g.F.Folder.left c.next_doc.new.self) c.docs.docs.named c.docs.count c.docs.size c.next_doc.result c.in_ok-next_doc.field-0 c.docs.invariant.0 c.next_doc.ensures.told c.in_ok-next_doc.was c.in-Longer.is

pub returns-then-count-gt-DOC_LIMIT-clause-told : goal.returns-then-count-gt-DOC_LIMIT-clause-told
returns-then-count-gt-DOC_LIMIT-clause-told g c =
    too_much (g.F.Folder.left c.args.folder.now) (g.F.Folder.left c.docs.folder) (g.F.Folder.left c.next_doc.new.self) c.docs.docs.named c.docs.count c.docs.size _ c.in-Doc.name c.in-Doc.body c.next_doc.result c.in_ok-next_doc.field-0 c.docs.invariant.0 c.next_doc.ensures.told c.in_ok-next_doc.was c.in-Doc.is
    (ap length c.as_bytes.ensures) (elim c.then-count-gt-DOC_LIMIT.either [ inl many ↦ inl many | inr great ↦ inr great.1 ])

pub docs-preserved : goal.docs-preserved
docs-preserved g c = (
  one_more (g.F.Folder.left c.args.folder.now) (g.F.Folder.left c.docs.folder) (g.F.Folder.left c.next_doc.new.self) c.docs.docs.named c.add.new.self.named c.docs.count c.docs.size _ c.in-Doc.name c.in-Doc.body c.next_doc.result c.in_ok-next_doc.field-0 c.docs.invariant.0 c.next_doc.ensures.told c.in_ok-next_doc.was c.in-Doc.is
      (ap length c.as_bytes.ensures) (omega arith) (omega arith) c.in_ok-add-in-Doc.ensures.ok,
  c.in_ok-next_doc.ensures.kept ∙ c.docs.invariant.1,
  c.in_ok-next_doc.ensures.asked ∙ c.docs.invariant.2,
  c.in_ok-next_doc.ensures.cause.counted ∙ c.docs.invariant.3,
  omega arith,
  omega arith,
)
