-- The nodes of the library by name, and their signatures.
use Rattle.std.specs.Prelude.{ℕ, if◌then◌else◌, List, [], ◌∷◌, Option, Some, None, codes}
use Rattle.std.specs.Str.{bytes_eq}
use Rattle.flux_values.specs.declared.values.Kind.{Kind}
use Rattle.flux_values.specs.declared.values.Kind.TheVariants.{Int, Bool, Text}
use Rattle.flux_values.specs.declared.answers.Mode.TheVariants.{Writer}
use Rattle.flux_values.specs.declared.meanings.Sig.{Sig}
use Rattle.flux_values.specs.declared.meanings.CellUse.{CellUse}
use Rattle.flux_values.specs.declared.meanings.Role.TheVariants.{LineSource}
use Rattle.flux_library.specs.Signatures.{source_sig, plain_sig, uses}
use Rattle.nodes_cache.specs.declared.nodes.Node.{Node}
use Rattle.nodes_cache.specs.declared.nodes.Node.TheVariants as nodes

-- the node that has this name
abbrev pub node_named : List ℕ → Option Node
node_named name =
    if bytes_eq name (codes "Listen") then Some nodes.Listen else
    if bytes_eq name (codes "ReadName") then Some nodes.ReadName else
    if bytes_eq name (codes "CheckCache") then Some nodes.CheckCache else
    if bytes_eq name (codes "ReadInFromDisk") then Some nodes.ReadInFromDisk else
    if bytes_eq name (codes "StoreInCache") then Some nodes.StoreInCache else
    if bytes_eq name (codes "Write") then Some nodes.Write else
    if bytes_eq name (codes "Complete") then Some nodes.Complete else
    if bytes_eq name (codes "FourOhFour") then Some nodes.FourOhFour else None

-- a name, its body, and whether that was in the cache
abbrev pub entry_kinds : List Kind
entry_kinds = Text ∷ Text ∷ Bool ∷ []

-- the cell `cache`, a writer in every use
abbrev pub cache : List CellUse
cache = uses (codes "cache") Writer

-- a node's signature
abbrev pub sig_of : Node → Sig
sig_of nodes.Listen = source_sig LineSource (Int ∷ Text ∷ [])
sig_of nodes.ReadName = plain_sig (Int ∷ Text ∷ []) (Text ∷ []) []
sig_of nodes.CheckCache = plain_sig (Text ∷ []) entry_kinds cache
sig_of nodes.ReadInFromDisk = plain_sig entry_kinds entry_kinds []
sig_of nodes.StoreInCache = plain_sig entry_kinds entry_kinds cache
sig_of nodes.Write = plain_sig entry_kinds (Text ∷ []) []
sig_of nodes.Complete = plain_sig (Text ∷ []) [] cache
sig_of nodes.FourOhFour = plain_sig entry_kinds [] []

-- the signature of a name
abbrev pub sig_named : Option Node → Option Sig
sig_named (Some node) = Some (sig_of node)
sig_named None = None
