use Rattle.std.proofs.Common.{◌∙◌, ap, sym}
use Rattle.std.proofs.lemmas.List.{at_drop_all}
use Rattle.flux_syntax.specs.Least.{soonest}
use Rattle.flux_names.specs.steps.Sorts.{word_of}
use Rattle.flux_names.specs.steps.Repeats.{repeated_by}
use Rattle.flux_names.proofs.Twice.{repeated_is}
use Rattle.flux_names.proofs.repeats.Seen.see_all.Goals as goal

pub returns : goal.returns
returns c =
    let sort = word_of c.args.sort in
    let decls = c.args.decls.now in
    sym (sym (ap (soonest c.args.place) (repeated_is sort decls))
    ∙ c.loop-decl.invariant
    ∙ at_drop_all (λ ds. soonest c.loop-decl.place (repeated_by sort c.loop-decl.self.names c.loop-decl.self.plain ds)) decls c.loop-decl.decl-index c.loop-decl-test.false)
