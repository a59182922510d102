use Rattle.std.proofs.Common.{arith}
use Rattle.std.proofs.lemmas.List.{take_rest}
use Rattle.flux_journal.proofs.Cutting.{cut_found, cut_none}
use Rattle.flux_journal.proofs.cuts.cut.Goals as goal

pub returns-then-place-text-clause-none : goal.returns-then-place-text-clause-none
returns-then-place-text-clause-none c = cut_none c.args.mark c.length_before-place.result c.args.text.now c.length_before-place.ensures.value c.if-place-text.true

pub returns-clause-found : goal.returns-clause-found
returns-clause-found c = rw take_rest (cut_found c.args.mark c.length_before-place.result c.args.text.now c.length_before-place.ensures.value (omega (arith, c.length_before-place.ensures.within, c.if-place-text.false)))
