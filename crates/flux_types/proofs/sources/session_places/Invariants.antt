use Rattle.std.proofs.Common.{◌≡◌, None, fold, take}
use Rattle.flux_model.specs.Kinds.{sig_at}
use Rattle.flux_types.specs.Rows.{word_sig}
use Rattle.flux_types.specs.steps.Passing.{session_passed}
use Rattle.flux_types.proofs.sources.session_places.Given as goal

abbrev pub invariant-loop-decl : goal.invariant-loop-decl
invariant-loop-decl g l = l.place ≡ fold (session_passed (g.L.Meaning.meaning l.library) (word_sig l.signed.names (sig_at l.signed.sigs.now))) None (take l.decl-index l.decls)
