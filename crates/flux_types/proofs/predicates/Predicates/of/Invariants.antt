use Rattle.std.proofs.Common.{◌≡◌, [], fold, take}
use Rattle.flux_types.specs.steps.Passing.{with_typedef}
use Rattle.flux_types.proofs.predicates.Predicates.of.Given as goal

abbrev pub invariant-loop-decl : goal.invariant-loop-decl
invariant-loop-decl g l = l.table ≡ fold (with_typedef (g.L.Meaning.meaning l.library)) (record { names = []; kinds = [] }) (take l.decl-index l.decls)
