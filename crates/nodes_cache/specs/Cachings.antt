-- The meaning of the library `Caching`, by its documents.
use Rattle.std.specs.Prelude.{ℕ, if◌then◌else◌, Bool, true, false, List, [], ◌∷◌, Option, Some, None, codes}
use Rattle.std.specs.Str.{bytes_eq}
use Rattle.flux_values.specs.Meanings.{LibraryMeaning}
use Rattle.flux_values.specs.declared.values.Kind.{Kind}
use Rattle.flux_values.specs.declared.values.Kind.TheVariants as kinds
use Rattle.flux_values.specs.declared.values.Value.{Value}
use Rattle.flux_values.specs.declared.values.Value.TheVariants as values
use Rattle.flux_library.specs.Documents.{DocMap}
use Rattle.flux_library.specs.Types.{kind_spelled}
use Rattle.flux_library.specs.Sessions.{first_as_u64}
use Rattle.nodes_cache.specs.Nodes.{node_named, sig_named}
use Rattle.nodes_cache.specs.Calls.{answer_named}

-- `TestInCache` is asked of a truth value
abbrev pub asked : List ℕ → Option Kind
asked name = if bytes_eq name (codes "TestInCache") then Some kinds.Bool else None

-- `TestInCache`: it is true
abbrev pub holds : List ℕ → Value → Bool
holds name (values.Bool truth) = if bytes_eq name (codes "TestInCache") then truth else false
holds name (values.Int number) = false
holds name (values.Text text) = false

-- `ByConn` takes a number and a text, and gives the number as u64
abbrev pub session_kinds : List ℕ → Option (List Kind)
session_kinds name =
    if bytes_eq name (codes "ByConn") then Some (kinds.Int ∷ kinds.Text ∷ []) else None

-- the meaning of the library
abbrev pub caching_meaning : DocMap → LibraryMeaning
caching_meaning docs = record {
  kind = kind_spelled;
  node = λ name. sig_named (node_named name);
  predicate = asked;
  session = session_kinds;
  call = λ name. answer_named docs.named (node_named name);
  test = holds;
  id = λ name. first_as_u64;
}
