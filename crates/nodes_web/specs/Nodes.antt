-- The nodes of the library by name, and their signatures.
use Rattle.std.specs.Prelude.{ℕ, if◌then◌else◌, List, [], ◌∷◌, Option, Some, None, codes}
use Rattle.std.specs.Str.{bytes_eq}
use Rattle.flux_values.specs.declared.values.Kind.TheVariants.{Int, Text}
use Rattle.flux_values.specs.declared.meanings.Sig.{Sig}
use Rattle.flux_values.specs.declared.meanings.Role.TheVariants.{HeadSource}
use Rattle.flux_library.specs.Signatures.{source_sig, plain_sig}
use Rattle.nodes_web.specs.declared.nodes.Node.{Node}
use Rattle.nodes_web.specs.declared.nodes.Node.TheVariants as nodes

-- the node that has this name
abbrev pub node_named : List ℕ → Option Node
node_named name =
    if bytes_eq name (codes "Accept") then Some nodes.Accept else
    if bytes_eq name (codes "ReadRequest") then Some nodes.ReadRequest else
    if bytes_eq name (codes "LookUp") then Some nodes.LookUp else
    if bytes_eq name (codes "SendDoc") then Some nodes.SendDoc else
    if bytes_eq name (codes "SendHead") then Some nodes.SendHead else
    if bytes_eq name (codes "NotFound") then Some nodes.NotFound else
    if bytes_eq name (codes "NotAllowed") then Some nodes.NotAllowed else
    if bytes_eq name (codes "BadRequest") then Some nodes.BadRequest else None

-- a node's signature
abbrev pub sig_of : Node → Sig
sig_of nodes.Accept = source_sig HeadSource (Int ∷ Text ∷ [])
sig_of nodes.ReadRequest = plain_sig (Int ∷ Text ∷ []) (Text ∷ Text ∷ []) []
sig_of nodes.LookUp = plain_sig (Text ∷ Text ∷ []) (Text ∷ Text ∷ []) []
sig_of nodes.SendDoc = plain_sig (Text ∷ Text ∷ []) [] []
sig_of nodes.SendHead = plain_sig (Text ∷ Text ∷ []) [] []
sig_of nodes.NotFound = plain_sig (Text ∷ Text ∷ []) [] []
sig_of nodes.NotAllowed = plain_sig (Text ∷ Text ∷ []) [] []
sig_of nodes.BadRequest = plain_sig (Int ∷ Text ∷ []) [] []

-- the signature of a name
abbrev pub sig_named : Option Node → Option Sig
sig_named (Some node) = Some (sig_of node)
sig_named None = None
