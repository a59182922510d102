-- What the nodes of declarations take and give.
use Rattle.std.specs.Prelude.{◌≡◌, ℕ, ◌<◌, ◌==◌, if◌then◌else◌, List, [], ◌∷◌, length, Option, Some, None}
use Rattle.std.specs.List.{slice_get, flat_map}
use Rattle.flux_values.specs.declared.values.Kind.{Kind}
use Rattle.flux_model.specs.declared.signatures.TypeText.{TypeText}
use Rattle.flux_model.specs.declared.signatures.NodeSig.{NodeSig}
use Rattle.flux_model.specs.declared.programs.NodeNo.{NodeNo}
use Rattle.flux_model.specs.declared.programs.Case.{Case}
use Rattle.flux_model.specs.declared.programs.Body.{Body}
use Rattle.flux_model.specs.declared.programs.Body.TheVariants.{Concrete, Abstract}
use Rattle.flux_model.specs.declared.programs.Program.{Program}
use Rattle.flux_model.specs.declared.programs.Node.{Node}
use Rattle.flux_model.specs.Nested.{Rule, through}
use Rattle.flux_syntax.specs.declared.declarations.Param.{Param}
use Rattle.flux_syntax.specs.declared.declarations.Decl.{Decl}
use Rattle.flux_syntax.specs.declared.declarations.Decl.TheVariants.{Signature}
use Rattle.flux_syntax.specs.Words.{spelling, names_of}
use Rattle.flux_syntax.specs.ProgramOfText.{place_of, program_of}

-- a library's kinds of types
abbrev pub Kinds : Type 0
Kinds = List ℕ → Option Kind

-- ---- signature lines

-- a parameter's type as it is spelled, with the library's kind for it; its name doesn't matter
abbrev pub with_kind : List ℕ → Option Kind → List TypeText
with_kind words None = []
with_kind words (Some kind) = record { words = words; kind = kind } ∷ []

abbrev pub type_of : Kinds → Param → List TypeText
type_of kind param = with_kind (spelling param) (kind (spelling param))

abbrev pub types_of : Kinds → List Param → List TypeText
types_of kind params = flat_map (type_of kind) params

abbrev pub line_sig : Kinds → List Param → List Param → NodeSig
line_sig kind ins outs = record { ins = types_of kind ins; outs = types_of kind outs }

-- a node that takes and gives nothing
abbrev pub nothing : NodeSig
nothing = record { ins = []; outs = [] }

-- what its signature line writes for a node, by the node's number
abbrev pub written : Kinds → List (List ℕ) → List Decl → ℕ → NodeSig
written kind names [] number = nothing
written kind names (Signature name ins outs ∷ decls) number =
    if place_of names name == number
    then line_sig kind ins outs
    else written kind names decls number
written kind names (decl ∷ decls) number = written kind names decls number

-- ---- cases

-- the last of a first and others
abbrev pub last_of : {A : Type 0} → A → List A → A
last_of first [] = first
last_of first (next ∷ others) = last_of next others

-- a node takes what the first member of its first case that isn't empty takes, and gives what that
-- case's last member gives
abbrev pub case_sig : (ℕ → NodeSig) → List NodeNo → NodeSig → NodeSig
case_sig sigs [] other = other
case_sig sigs (first ∷ members) other =
    let from = sigs first.0 in let last = last_of first members in let to = sigs last.0 in
    record { ins = from.ins; outs = to.outs }

abbrev pub cases_sig : (ℕ → NodeSig) → List Case → NodeSig
cases_sig sigs [] = nothing
cases_sig sigs (case ∷ cases) = case_sig sigs case.members (cases_sig sigs cases)

-- ---- nodes

-- a concrete node has what its line writes, any other what its cases have
abbrev pub body_sig : (ℕ → NodeSig) → NodeSig → Body → NodeSig
body_sig sigs own (Concrete name) = own
body_sig sigs own (Abstract cases) = cases_sig sigs cases

abbrev pub sig_by : (ℕ → NodeSig) → Rule NodeSig
sig_by lines sigs number node = body_sig sigs (lines number) node.body

abbrev pub nodes_of : List Decl → List Node
nodes_of decls = let program = program_of decls in program.nodes

-- the signature of a node, by its number
abbrev pub sig_of : Kinds → List Decl → ℕ → NodeSig
sig_of kind decls number =
    through nothing (sig_by (written kind (names_of decls) decls)) (nodes_of decls) number

-- one for each node
pub record AreSigs (kind : Kinds) (decls : List Decl) (sigs : List NodeSig) : Type 0 where
  pub many : length sigs ≡ length (nodes_of decls)
  pub each : (number : ℕ) → number < length (nodes_of decls)
      → slice_get sigs number ≡ Some (sig_of kind decls number)
