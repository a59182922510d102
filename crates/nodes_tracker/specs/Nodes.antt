-- The nodes of the library by name, and their signatures.
use Rattle.std.specs.Prelude.{ℕ, if◌then◌else◌, List, [], ◌∷◌, Option, Some, None, codes}
use Rattle.std.specs.Str.{bytes_eq}
use Rattle.flux_values.specs.declared.values.Kind.{Kind}
use Rattle.flux_values.specs.declared.values.Kind.TheVariants.{Int, Text}
use Rattle.flux_values.specs.declared.answers.Mode.TheVariants.{Reader, Writer}
use Rattle.flux_values.specs.declared.meanings.Sig.{Sig}
use Rattle.flux_values.specs.declared.meanings.Role.TheVariants.{LineSource}
use Rattle.flux_library.specs.Signatures.{source_sig, plain_sig, uses}
use Rattle.nodes_tracker.specs.declared.nodes.Node.{Node}
use Rattle.nodes_tracker.specs.declared.nodes.Node.TheVariants as nodes

-- the node that has this name
abbrev pub node_named : List ℕ → Option Node
node_named name =
    if bytes_eq name (codes "Listen") then Some nodes.Listen else
    if bytes_eq name (codes "ReadAsk") then Some nodes.ReadAsk else
    if bytes_eq name (codes "Swarm") then Some nodes.Swarm else
    if bytes_eq name (codes "Scrape") then Some nodes.Scrape else
    if bytes_eq name (codes "Send") then Some nodes.Send else
    if bytes_eq name (codes "Failure") then Some nodes.Failure else
    if bytes_eq name (codes "Full") then Some nodes.Full else None

-- an ask: its action, the hash, the peer and the number left
abbrev pub ask_kinds : List Kind
ask_kinds = Text ∷ Text ∷ Text ∷ Int ∷ []

-- a node's signature
abbrev pub sig_of : Node → Sig
sig_of nodes.Listen = source_sig LineSource (Int ∷ Text ∷ [])
sig_of nodes.ReadAsk = plain_sig (Int ∷ Text ∷ []) ask_kinds []
sig_of nodes.Swarm = plain_sig ask_kinds (Text ∷ []) (uses (codes "swarms") Writer)
sig_of nodes.Scrape = plain_sig ask_kinds (Text ∷ []) (uses (codes "swarms") Reader)
sig_of nodes.Send = plain_sig (Text ∷ []) [] []
sig_of nodes.Failure = plain_sig (Int ∷ Text ∷ []) [] []
sig_of nodes.Full = plain_sig ask_kinds [] []

-- the signature of a name
abbrev pub sig_named : Option Node → Option Sig
sig_named (Some node) = Some (sig_of node)
sig_named None = None
