-- The meaning of the library `Counter`.
use Rattle.std.specs.Prelude.{ℕ, ℤ, ◌||◌, if◌then◌else◌, true, false, List, [], ◌∷◌, Option, Some, None, codes}
use Rattle.std.specs.Str.{bytes_eq}
use Rattle.flux_values.specs.Meanings.{LibraryMeaning}
use Rattle.flux_values.specs.declared.values.Kind.{Kind}
use Rattle.flux_values.specs.declared.values.Kind.TheVariants as kinds
use Rattle.flux_values.specs.declared.values.Value.{Value}
use Rattle.flux_values.specs.declared.values.Value.TheVariants.{Int, Bool, Text}
use Rattle.flux_library.specs.Types.{kind_spelled}
use Rattle.flux_library.specs.Sessions.{first_as_u64}
use Rattle.nodes_counter.specs.Numbers.{is_zero, is_below_zero}
use Rattle.nodes_counter.specs.Nodes.{node_named, sig_named}
use Rattle.nodes_counter.specs.Calls.{answer_named}

-- `IsZero` and `IsNegative` are asked of a number, `IsAdd` of a text
abbrev pub asked : List ℕ → Option Kind
asked name =
    if bytes_eq name (codes "IsZero") || bytes_eq name (codes "IsNegative") then Some kinds.Int else
    if bytes_eq name (codes "IsAdd") then Some kinds.Text else None

-- `IsZero`: it is 0; `IsNegative`: it is below 0
abbrev pub holds_of_number : List ℕ → ℤ → Rattle.std.specs.Prelude.Bool
holds_of_number name number =
    if bytes_eq name (codes "IsZero") then is_zero number else
    if bytes_eq name (codes "IsNegative") then is_below_zero number else false

-- `IsAdd`: it is `add`
abbrev pub holds_of_text : List ℕ → List ℕ → Rattle.std.specs.Prelude.Bool
holds_of_text name text =
    if bytes_eq name (codes "IsAdd") then bytes_eq text (codes "add") else false

abbrev pub holds : List ℕ → Value → Rattle.std.specs.Prelude.Bool
holds name (Int number) = holds_of_number name number
holds name (Text text) = holds_of_text name text
holds name (Bool truth) = false

-- `ByConn` takes a number and a text, `ByNumber` a number; both give their number as u64
abbrev pub session_kinds : List ℕ → Option (List Kind)
session_kinds name =
    if bytes_eq name (codes "ByConn") then Some (kinds.Int ∷ kinds.Text ∷ []) else
    if bytes_eq name (codes "ByNumber") then Some (kinds.Int ∷ []) else None

-- the meaning of the library
abbrev pub counter_meaning : LibraryMeaning
counter_meaning = record {
  kind = kind_spelled;
  node = λ name. sig_named (node_named name);
  predicate = asked;
  session = session_kinds;
  call = λ name. answer_named (node_named name);
  test = holds;
  id = λ name. first_as_u64;
}
