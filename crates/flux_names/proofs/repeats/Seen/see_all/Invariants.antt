use Rattle.std.proofs.Common.{◌≡◌, [], drop}
use Rattle.flux_syntax.specs.Least.{soonest}
use Rattle.flux_names.specs.steps.Sorts.{word_of}
use Rattle.flux_names.specs.steps.Repeats.{repeated_by}
use Rattle.flux_names.proofs.repeats.Seen.see_all.Given as goal

abbrev pub invariant-loop-decl : goal.invariant-loop-decl
invariant-loop-decl l =
    soonest l.fn.place (repeated_by (word_of l.fn.sort) [] [] l.fn.decls)
    ≡ soonest l.place (repeated_by (word_of l.sort) l.self.names l.self.plain (drop l.decl-index l.decls))
