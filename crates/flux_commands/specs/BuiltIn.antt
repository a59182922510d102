-- The library that the program is built with.
use Rattle.flux_values.specs.Meanings.{LibraryMeaning}
use Rattle.flux_library.specs.Documents.{DocMap}
use Rattle.nodes_all.specs.Alls.{all_meaning}
use Rattle.nodes_all.specs.declared.all.All.{All}
use Rattle.nodes_joined.specs.Joined.{joined}
use Rattle.nodes_joined.specs.declared.joined.Joined.{Joined}
use Rattle.nodes_own.specs.Own.{own_meaning}
use Rattle.nodes_own.specs.declared.own.Own.{Own}

-- its meaning, by its documents: the nodes of the program, and then nodes of one's own; this goes
-- with the library that `top` names
abbrev pub built_in : DocMap → LibraryMeaning
built_in docs = joined (all_meaning docs) own_meaning

-- the library itself
abbrev pub BuiltInLibrary : Type 0
BuiltInLibrary = Joined All Own

-- its documents
abbrev pub docs_in : BuiltInLibrary → DocMap
docs_in library = let all = library.first in all.docs

-- its meaning, with its documents
abbrev pub meaning_in : BuiltInLibrary → LibraryMeaning
meaning_in library = built_in (docs_in library)
