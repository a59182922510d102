use Rattle.std.proofs.Common.{◌≡◌, drop}
use Rattle.flux_outside.specs.Memory.{first_of}
use Rattle.flux_outside.proofs.memory.MemoryStore.body_of.Given as goal

-- what is left has the file that all have
abbrev pub invariant-loop-file : goal.invariant-loop-file
invariant-loop-file l = first_of (drop l.file-index l.files) l.name ≡ first_of l.files l.name
