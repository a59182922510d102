-- The words of declarations, by what they are there for.
use Rattle.std.specs.Prelude.{ℕ, Bool, if◌then◌else◌, List, [], ◌∷◌, ◌++◌, map, replicate, Option, Some, None}
use Rattle.std.specs.List.{list_any, filter_map, flat_map}
use Rattle.std.specs.Str.{bytes_eq}
use Rattle.flux_syntax.specs.declared.declarations.Word.{Word}
use Rattle.flux_syntax.specs.declared.declarations.Param.{Param}
use Rattle.flux_syntax.specs.declared.declarations.Constraint.{Constraint}
use Rattle.flux_syntax.specs.declared.declarations.Decl.{Decl}
use Rattle.flux_syntax.specs.declared.declarations.Decl.TheVariants.{Signature, Flow, Source, Typedef, Handler, Atomic, Session}
use Rattle.flux_syntax.specs.Names.{with_name}

-- the name of a node, where it is signed or has a flow
abbrev pub naming : Decl → Option Word
naming (Signature name ins outs) = Some name
naming (Flow name patterns members) = Some name
naming other = None

-- the name before `=>` in a source line, and the target after it
abbrev pub sourced : Decl → Option Word
sourced (Source name target) = Some name
sourced other = None

abbrev pub targeted : Decl → Option Word
targeted (Source name target) = Some target
targeted other = None

-- the name of a predicate in a `typedef` line, and the library's function after it
abbrev pub defined : Decl → Option Word
defined (Typedef name function) = Some name
defined other = None

abbrev pub function_of : Decl → Option Word
function_of (Typedef name function) = Some function
function_of other = None

-- the target of a source line, and the members of a flow
abbrev pub inner : Decl → List Word
inner (Source name target) = target ∷ []
inner (Flow name patterns members) = members
inner other = []

-- ---- lists of names

-- whether a name is among names
abbrev pub known : List (List ℕ) → List ℕ → Bool
known names name = list_any (bytes_eq name) names

-- the names so far, with one more if there is one
abbrev pub and_name : List (List ℕ) → Option Word → List (List ℕ)
and_name names None = names
and_name names (Some word) = with_name names word.text

-- the distinct names of nodes, in order of their first naming lines: their places are the nodes' numbers
abbrev pub names_after : List (List ℕ) → List Decl → List (List ℕ)
names_after names [] = names
names_after names (decl ∷ decls) = names_after (and_name names (naming decl)) decls

abbrev pub names_of : List Decl → List (List ℕ)
names_of decls = names_after [] decls

-- the words of those first naming lines
abbrev pub unless_known : List (List ℕ) → Option Word → List Word
unless_known names None = []
unless_known names (Some word) = if known names word.text then [] else word ∷ []

abbrev pub first_words_after : List (List ℕ) → List Decl → List Word
first_words_after names [] = []
first_words_after names (decl ∷ decls) =
    unless_known names (naming decl) ++ first_words_after (and_name names (naming decl)) decls

abbrev pub first_words : List Decl → List Word
first_words decls = first_words_after [] decls

-- the texts of the words of one sort, in order of the text
abbrev pub texts_of : (Decl → Option Word) → List Decl → List (List ℕ)
texts_of sort decls = map (λ word. word.text) (filter_map sort decls)

abbrev pub listed : Option Word → List Word
listed None = []
listed (Some word) = word ∷ []

-- a type as it is spelled: its word and its stars
abbrev pub spelling : Param → List ℕ
spelling param = param.ty.text ++ replicate param.stars 42
