-- The plan: what each node takes, gives, holds and counts, and what each source starts.
use Rattle.std.specs.Prelude.{ℕ, nat_lt, if◌then◌else◌, Bool, true, false, List, [], ◌∷◌, ◌++◌, length, Option, Some, None, codes}
use Rattle.std.specs.List.{flat_map, slice_get, range_with_len}
use Rattle.std.specs.Fmt.{decimal}
use Rattle.flux_values.specs.declared.meanings.Role.{Role}
use Rattle.flux_values.specs.declared.meanings.Role.TheVariants.{Plain, Source, HeadSource, LineSource}
use Rattle.flux_values.specs.declared.meanings.Sig.{Sig}
use Rattle.flux_values.specs.Meanings.{LibraryMeaning}
use Rattle.flux_model.specs.declared.programs.Body.{Body}
use Rattle.flux_model.specs.declared.programs.Body.TheVariants.{Concrete, Abstract}
use Rattle.flux_model.specs.declared.programs.Hold.{Hold}
use Rattle.flux_model.specs.declared.programs.Node.{Node}
use Rattle.flux_model.specs.declared.programs.Program.{Program}
use Rattle.flux_model.specs.declared.programs.SourceLine.{SourceLine}
use Rattle.flux_model.specs.declared.signatures.NodeSig.{NodeSig}
use Rattle.flux_model.specs.declared.signatures.TypeText.{TypeText}
use Rattle.flux_model.specs.Kinds.{sig_at}
use Rattle.flux_model.specs.Locks.{Holds}
use Rattle.flux_model.specs.Sizes.{size_of, source_size}
use Rattle.flux_model.specs.Texts.{node_name}
use Rattle.flux_hoist.specs.Counted.{size_limit}
use Rattle.flux_hoist.specs.Printed.{printed_hold}

-- ---- the parts of a line

-- types as they are spelled, with `, ` between them
abbrev pub listed_types : List TypeText → List ℕ
listed_types [] = []
listed_types (ty ∷ types) = ty.words ++ flat_map (λ other. codes ", " ++ other.words) types

abbrev pub printed_types : List TypeText → List ℕ
printed_types types = codes "(" ++ listed_types types ++ codes ")"

-- classes with a space between them, or `-`
abbrev pub printed_holds : Program → List Hold → List ℕ
printed_holds p [] = codes "-"
printed_holds p (hold ∷ holds) =
    printed_hold p hold ++ flat_map (λ other. codes " " ++ printed_hold p other) holds

-- a size, or `large` for one above 65,536
abbrev pub printed_size : ℕ → List ℕ
printed_size size = if nat_lt size_limit size then codes "large" else decimal size

-- a session function's name, or `-`
abbrev pub printed_function : Option (List ℕ) → List ℕ
printed_function None = codes "-"
printed_function (Some function) = function

-- ---- the nodes

abbrev pub is_source_role : Role → Bool
is_source_role Plain = false
is_source_role Source = true
is_source_role HeadSource = true
is_source_role LineSource = true

abbrev pub has_source_role : Option Sig → Bool
has_source_role None = false
has_source_role (Some sig) = is_source_role sig.role

-- a node whose library node has a source role
abbrev pub is_source : LibraryMeaning → Body → Bool
is_source meaning (Concrete name) = has_source_role (meaning.node name)
is_source meaning (Abstract cases) = false

-- what a node takes and gives: `(TYPES) => (TYPES)`
abbrev pub printed_sig : NodeSig → List ℕ
printed_sig sig = printed_types sig.ins ++ codes " => " ++ printed_types sig.outs

-- `node NAME (TYPES) => (TYPES) locks LOCKS size S`
abbrev pub node_line : Program → NodeSig → List Hold → ℕ → Node → List ℕ
node_line p sig holds size node =
    codes "node " ++ node.name ++ codes " " ++ printed_sig sig
    ++ codes " locks " ++ printed_holds p holds ++ codes " size " ++ printed_size size ++ codes "\n"

-- a line for each number's node, if there is one and it isn't a source
abbrev pub node_part : LibraryMeaning → Program → List NodeSig → Holds → (ℕ → ℕ) → ℕ → Option Node
    → List ℕ
node_part meaning p sigs locks size number None = []
node_part meaning p sigs locks size number (Some node) =
    if is_source meaning node.body then []
    else node_line p (sig_at sigs number) (locks number) (size number) node

abbrev pub node_lines : LibraryMeaning → Program → List NodeSig → Holds → (ℕ → ℕ) → List ℕ
node_lines meaning p sigs locks size =
    flat_map (λ number. node_part meaning p sigs locks size number (slice_get p.nodes number))
    (range_with_len 0 (length p.nodes))

-- ---- the sources

-- `source NAME => TARGET session F size S`
abbrev pub source_line : Program → ℕ → SourceLine → List ℕ
source_line p size line =
    codes "source " ++ node_name p line.node ++ codes " => " ++ node_name p line.target
    ++ codes " session " ++ printed_function line.session ++ codes " size " ++ decimal size ++ codes "\n"

abbrev pub source_lines : Program → (SourceLine → ℕ) → List SourceLine → List ℕ
source_lines p size lines = flat_map (λ line. source_line p (size line) line) lines

-- ---- the whole

-- nodes in order of their numbers, and then sources in order of the text
abbrev pub printed_plan : LibraryMeaning → Program → List NodeSig → Holds → List ℕ
printed_plan meaning p sigs locks =
    node_lines meaning p sigs locks (size_of locks p.nodes)
    ++ source_lines p (source_size locks p) p.sources
