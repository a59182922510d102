-- The meaning of the library `Own`.
use Rattle.std.specs.Prelude.{false, None}
use Rattle.flux_values.specs.Meanings.{LibraryMeaning}
use Rattle.flux_library.specs.Types.{kind_spelled}
use Rattle.flux_library.specs.Sessions.{first_as_u64}
use Rattle.nodes_shortener.specs.Nodes.{sig_named, answer_named}

-- the types that every library has, and the nodes; no predicates and session functions
unfoldable pub own_meaning : LibraryMeaning
own_meaning = record {
  kind = kind_spelled;
  node = sig_named;
  predicate = λ name. None;
  session = λ name. None;
  call = answer_named;
  test = λ name value. false;
  id = λ name. first_as_u64;
}
