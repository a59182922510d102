use Rattle.std.proofs.Common.{◌≡◌, ◌+◌, ◌-◌, ◌≤◌}
use Rattle.std.specs.Prelude.{IfSome}
use Rattle.flux_docs.specs.declared.reading.TheConstants.{DOC_LIMIT, BODIES_LIMIT}
use Rattle.flux_docs.specs.steps.Reading.{AreSoFar}
use Rattle.flux_docs.proofs.reading.read_left.Given as goal

abbrev pub invariant-docs : goal.invariant-docs
invariant-docs g l =
    IfSome (g.F.Folder.left l.fn.folder) (λ docs. AreSoFar docs (g.F.Folder.left l.folder) l.docs.named l.count l.size)
    × (g.F.Folder.folders l.folder ≡ g.F.Folder.folders l.fn.folder)
    × (g.F.Folder.asked l.folder ≡ g.F.Folder.asked l.fn.folder)
    × (g.F.Folder.faults l.folder ≡ g.F.Folder.faults l.fn.folder)
    × (l.count ≤ DOC_LIMIT)
    × (l.size ≤ BODIES_LIMIT)

abbrev pub decreases-docs : goal.decreases-docs
decreases-docs g l = DOC_LIMIT + 1 - l.count
