-- The meaning of the library `Web`, by its documents.
use Rattle.std.specs.Prelude.{ℕ, ◌||◌, if◌then◌else◌, true, false, List, [], ◌∷◌, Option, Some, None, codes}
use Rattle.std.specs.Str.{bytes_eq}
use Rattle.flux_values.specs.Meanings.{LibraryMeaning}
use Rattle.flux_values.specs.declared.values.Kind.{Kind}
use Rattle.flux_values.specs.declared.values.Kind.TheVariants as kinds
use Rattle.flux_values.specs.declared.values.Value.{Value}
use Rattle.flux_values.specs.declared.values.Value.TheVariants.{Int, Bool, Text}
use Rattle.flux_library.specs.Types.{kind_spelled}
use Rattle.flux_library.specs.Sessions.{first_as_u64}
use Rattle.flux_library.specs.Documents.{DocMap}
use Rattle.nodes_web.specs.Nodes.{node_named, sig_named}
use Rattle.nodes_web.specs.Calls.{answer_named}

-- `IsGet` and `IsHead` are asked of a text
abbrev pub asked : List ℕ → Option Kind
asked name =
    if bytes_eq name (codes "IsGet") || bytes_eq name (codes "IsHead") then Some kinds.Text
    else None

-- `IsGet`: it is `GET`; `IsHead`: it is `HEAD`
abbrev pub holds_of_text : List ℕ → List ℕ → Rattle.std.specs.Prelude.Bool
holds_of_text name text =
    if bytes_eq name (codes "IsGet") then bytes_eq text (codes "GET") else
    if bytes_eq name (codes "IsHead") then bytes_eq text (codes "HEAD") else false

abbrev pub holds : List ℕ → Value → Rattle.std.specs.Prelude.Bool
holds name (Text text) = holds_of_text name text
holds name (Int number) = false
holds name (Bool truth) = false

-- `ByConn` takes a number and a text, and gives the number as u64
abbrev pub session_kinds : List ℕ → Option (List Kind)
session_kinds name =
    if bytes_eq name (codes "ByConn") then Some (kinds.Int ∷ kinds.Text ∷ []) else None

-- the meaning of the library
abbrev pub web_meaning : DocMap → LibraryMeaning
web_meaning docs = record {
  kind = kind_spelled;
  node = λ name. sig_named (node_named name);
  predicate = asked;
  session = session_kinds;
  call = λ name args cells. answer_named docs (node_named name) args;
  test = holds;
  id = λ name. first_as_u64;
}
