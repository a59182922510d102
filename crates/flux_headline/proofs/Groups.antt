-- What `All` has, the library that the program is built with has too.
use Rattle.flux_values.specs.Meanings.{LibraryMeaning}
use Rattle.flux_library.specs.Documents.{DocMap}
use Rattle.nodes_joined.specs.Joined.{Has}
use Rattle.nodes_joined.proofs.Joining.{has_first, has_through}
use Rattle.nodes_all.specs.Alls.{all_meaning}
use Rattle.nodes_own.specs.Own.{own_meaning}
use Rattle.flux_commands.specs.BuiltIn.{built_in}

-- a part of `All` is built in
pub built_in_part : (docs : DocMap) (part : LibraryMeaning) → Has (all_meaning docs) part → Has (built_in docs) part
built_in_part docs part has =
    has_through (built_in docs) (all_meaning docs) part (has_first (all_meaning docs) own_meaning) has
