use Rattle.std.proofs.Common.{◌≡◌, subst}
use Rattle.flux_model.specs.declared.programs.SourceLine.{SourceLine}
use Rattle.flux_sources.specs.Sources.{IsLibraryNode}
use Rattle.flux_sources.proofs.framings.framing_of.Goals as goal

-- the one source of a served program is the one that was found, which has no library node
pub returns-in_default-library_node-clause-others : goal.returns-in_default-library_node-clause-others
returns-in_default-library_node-clause-others g c framing served =
    let none = c.in_default-library_node.ensures in
    let here = c.in-Some.ensures in
    let one = served.one in
    let own : served.line ≡ c.in-Some.line.now = cc in
    none served.name (subst (λ (line : SourceLine). IsLibraryNode c.args.program.now line served.name) own served.named)
