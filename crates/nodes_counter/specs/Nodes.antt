-- The nodes of the library by name, and their signatures.
use Rattle.std.specs.Prelude.{ℕ, if◌then◌else◌, List, [], ◌∷◌, Option, Some, None, codes}
use Rattle.std.specs.Str.{bytes_eq}
use Rattle.flux_values.specs.declared.values.Kind.TheVariants.{Int, Text}
use Rattle.flux_values.specs.declared.answers.Mode.TheVariants.{Reader, Writer}
use Rattle.flux_values.specs.declared.meanings.Sig.{Sig}
use Rattle.flux_values.specs.declared.meanings.Role.TheVariants.{Source, LineSource}
use Rattle.flux_library.specs.Signatures.{source_sig, plain_sig, uses}
use Rattle.nodes_counter.specs.declared.nodes.Node.{Node}
use Rattle.nodes_counter.specs.declared.nodes.Node.TheVariants as nodes

-- the node that has this name
abbrev pub node_named : List ℕ → Option Node
node_named name =
    if bytes_eq name (codes "Tick") then Some nodes.Tick else
    if bytes_eq name (codes "Listen") then Some nodes.Listen else
    if bytes_eq name (codes "Pass") then Some nodes.Pass else
    if bytes_eq name (codes "Fail") then Some nodes.Fail else
    if bytes_eq name (codes "Show") then Some nodes.Show else
    if bytes_eq name (codes "Echo") then Some nodes.Echo else
    if bytes_eq name (codes "Refuse") then Some nodes.Refuse else
    if bytes_eq name (codes "Command") then Some nodes.Command else
    if bytes_eq name (codes "Amount") then Some nodes.Amount else
    if bytes_eq name (codes "Add") then Some nodes.Add else
    if bytes_eq name (codes "Read") then Some nodes.Read else
    if bytes_eq name (codes "Bump") then Some nodes.Bump else None

-- a node's signature
abbrev pub sig_of : Node → Sig
sig_of nodes.Tick = source_sig Source (Int ∷ [])
sig_of nodes.Listen = source_sig LineSource (Int ∷ Text ∷ [])
sig_of nodes.Pass = plain_sig (Int ∷ []) (Int ∷ []) []
sig_of nodes.Fail = plain_sig (Int ∷ []) (Int ∷ []) []
sig_of nodes.Show = plain_sig (Int ∷ []) [] []
sig_of nodes.Echo = plain_sig (Int ∷ Text ∷ []) [] []
sig_of nodes.Refuse = plain_sig (Int ∷ Text ∷ []) [] []
sig_of nodes.Command = plain_sig (Int ∷ Text ∷ []) (Text ∷ Int ∷ []) []
sig_of nodes.Amount = plain_sig (Text ∷ Int ∷ []) (Int ∷ []) []
sig_of nodes.Add = plain_sig (Int ∷ []) (Int ∷ []) (uses (codes "counter") Writer)
sig_of nodes.Read = plain_sig (Int ∷ []) (Int ∷ []) (uses (codes "counter") Reader)
sig_of nodes.Bump = plain_sig (Int ∷ []) (Int ∷ []) (uses (codes "visits") Writer)

-- the signature of a name
abbrev pub sig_named : Option Node → Option Sig
sig_named (Some node) = Some (sig_of node)
sig_named None = None
