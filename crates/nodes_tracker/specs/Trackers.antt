-- The meaning of the library `Tracker`.
use Rattle.std.specs.Prelude.{ℕ, ◌&&◌, if◌then◌else◌, Bool, false, List, [], ◌∷◌, Option, Some, None, codes}
use Rattle.std.specs.Str.{bytes_eq}
use Rattle.flux_values.specs.Meanings.{LibraryMeaning}
use Rattle.flux_values.specs.declared.values.Kind.{Kind}
use Rattle.flux_values.specs.declared.values.Kind.TheVariants as kinds
use Rattle.flux_values.specs.declared.values.Value.{Value}
use Rattle.flux_values.specs.declared.values.Value.TheVariants as values
use Rattle.flux_library.specs.Types.{kind_spelled}
use Rattle.flux_library.specs.Sessions.{first_as_u64}
use Rattle.nodes_tracker.specs.Nodes.{node_named, sig_named}
use Rattle.nodes_tracker.specs.Calls.{answer_named}

-- `IsScrape` is asked of a text
abbrev pub asked : List ℕ → Option Kind
asked name = if bytes_eq name (codes "IsScrape") then Some kinds.Text else None

-- `IsScrape`: it is `scrape`
abbrev pub holds : List ℕ → Value → Bool
holds name (values.Text text) = bytes_eq name (codes "IsScrape") && bytes_eq text (codes "scrape")
holds name (values.Int number) = false
holds name (values.Bool truth) = false

-- `ByConn` takes a number and a text, and gives the number as u64
abbrev pub session_kinds : List ℕ → Option (List Kind)
session_kinds name =
    if bytes_eq name (codes "ByConn") then Some (kinds.Int ∷ kinds.Text ∷ []) else None

-- the meaning of the library
abbrev pub tracker_meaning : LibraryMeaning
tracker_meaning = record {
  kind = kind_spelled;
  node = λ name. sig_named (node_named name);
  predicate = asked;
  session = session_kinds;
  call = λ name. answer_named (node_named name);
  test = holds;
  id = λ name. first_as_u64;
}
