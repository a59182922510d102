use Rattle.std.proofs.Common.{◌≡◌}
use Rattle.flux_outside.proofs.real_folders.RealFolderFolder.next_doc.Given as goal

abbrev pub invariant-steps : goal.invariant-steps
invariant-steps g l = (l.self.asked ≡ l.fn.self.asked) × (l.self.files.faults ≡ l.fn.self.files.faults)
