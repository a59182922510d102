use Rattle.std.proofs.Common.{◌≤◌, length, sym, ap, subst, ◌∙◌, arith}
use Rattle.std.specs.List.{flat_map}
use Rattle.std.proofs.lemmas.List.{take_all}
use Rattle.flux_lexer.specs.declared.reading.TheConstants.{PROGRAM_LIMIT}
use Rattle.flux_syntax.specs.Formatted.{line_of}
use Rattle.flux_syntax.specs.Again.{Gives}
use Rattle.flux_syntax.proofs.Formats.{gives}
use Rattle.flux_syntax.proofs.formatting.format.Goals as goal

pub returns-clause-again : goal.returns-clause-again
returns-clause-again c few =
    let whole = c.loop-decl.invariant ∙ ap (flat_map line_of) (take_all c.loop-decl.decl-index c.as_slice-decl-items.result.now (omega arith) ∙ c.as_slice-decl-items.ensures) in
    subst (Gives c.args.decls.now) (sym whole) (gives c.args.decls.now c.requires (subst (λ l. length l ≤ PROGRAM_LIMIT) whole few))
