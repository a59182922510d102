-- Steps of the code: the rows that look at each declaration by itself. No public clause cites it.
use Rattle.std.specs.Prelude.{List}
use Rattle.flux_values.specs.Meanings.{LibraryMeaning}
use Rattle.flux_syntax.specs.declared.declarations.Word.{Word}
use Rattle.flux_syntax.specs.declared.declarations.Decl.{Decl}
use Rattle.flux_names.specs.declared.rows.Known.{Known}
use Rattle.flux_names.specs.declared.rows.Row.{Row}
use Rattle.flux_names.specs.declared.rows.Row.TheVariants as rows
use Rattle.flux_names.specs.Rows.{used_names, inner_names, among, not_among, unknown_types_in, not_in, unlike, unknown_predicates_in, unknown_session, not_sources_in}

-- the words at which a row applies in a declaration
abbrev pub row_words : LibraryMeaning → Known → Row → Decl → List Word
row_words meaning known rows.UnknownNode = λ decl. not_among known.nodes.now (used_names decl)
row_words meaning known rows.UnknownType = unknown_types_in meaning
row_words meaning known rows.NotInLibrary = not_in meaning
row_words meaning known rows.UnlikeLibrary = unlike meaning
row_words meaning known rows.UnknownPredicate = unknown_predicates_in meaning known.types.now
row_words meaning known rows.UnknownSession = unknown_session meaning
row_words meaning known rows.NotASource = not_sources_in known.sources.now known.lines.now
row_words meaning known rows.SourceMisused = λ decl. among known.sources.now (inner_names decl)
