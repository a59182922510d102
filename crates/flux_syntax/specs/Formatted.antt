-- The one formatted text of declarations, line by line.
use Rattle.std.specs.Prelude.{ℕ, Bool, true, false, List, [], ◌∷◌, ◌++◌, codes, Option, Some, None, replicate}
use Rattle.std.specs.List.{flat_map}
use Rattle.flux_values.specs.declared.answers.Mode.{Mode}
use Rattle.flux_values.specs.declared.answers.Mode.TheVariants.{Reader, Writer}
use Rattle.flux_syntax.specs.declared.declarations.Word.{Word}
use Rattle.flux_syntax.specs.declared.declarations.Param.{Param}
use Rattle.flux_syntax.specs.declared.declarations.Constraint.{Constraint}
use Rattle.flux_syntax.specs.declared.declarations.Decl.{Decl}
use Rattle.flux_syntax.specs.declared.declarations.Decl.TheVariants as decl

-- each with the bytes before it
abbrev pub others : {A : Type 0} → List ℕ → (A → List ℕ) → List A → List ℕ
others between text xs = flat_map (λ y. between ++ text y) xs

-- one after the other, with bytes between them
abbrev pub joined : {A : Type 0} → List ℕ → (A → List ℕ) → List A → List ℕ
joined between text [] = []
joined between text (x ∷ xs) = text x ++ others between text xs

-- `char* line`
abbrev pub param_text : Param → List ℕ
param_text p = p.ty.text ++ (replicate p.stars 42 ++ (codes " " ++ p.name.text))

-- `(int socket, char* line)`
abbrev pub params_text : List Param → List ℕ
params_text params = codes "(" ++ (joined (codes ", ") param_text params ++ codes ")")

-- `_` or `hit`
abbrev pub pattern_text : Option Word → List ℕ
pattern_text None = codes "_"
pattern_text (Some word) = word.text

-- `:[_, _, hit]`, or nothing
abbrev pub patterns_text : Option (List (Option Word)) → List ℕ
patterns_text None = []
patterns_text (Some patterns) =
    codes ":[" ++ (joined (codes ", ") pattern_text patterns ++ codes "]")

-- a name or a number as it is spelled
abbrev pub word_text : Word → List ℕ
word_text word = word.text

-- `:(1, 2)`, or nothing
abbrev pub codes_text : List Word → List ℕ
codes_text [] = []
codes_text (number ∷ numbers) =
    codes ":(" ++ (joined (codes ", ") word_text (number ∷ numbers) ++ codes ")")

-- `ReadRequest -> Write`
abbrev pub members_text : List Word → List ℕ
members_text members = joined (codes " -> ") word_text members

-- a writer has no mark
abbrev pub mode_text : Mode → List ℕ
mode_text Reader = codes "?"
mode_text Writer = []

-- the whole program's has no mark
abbrev pub scope_text : Bool → List ℕ
scope_text true = codes "(session)"
scope_text false = []

-- `users?(session)`
abbrev pub constraint_text : Constraint → List ℕ
constraint_text c = c.name.text ++ (mode_text c.mode ++ scope_text c.session)

-- a declaration's line
abbrev pub line_of : Decl → List ℕ
-- `ReadRequest (int socket, char* line) => (int socket, bool close);`
line_of (decl.Signature called ins outs) =
    called.text ++ (codes " " ++ (params_text ins
    ++ (codes " => " ++ (params_text outs ++ codes ";\n"))))
-- `Image = ReadRequest -> Write;` and `Handler:[_, _, hit] = ;`
line_of (decl.Flow called patterns members) =
    called.text ++ (patterns_text patterns
    ++ (codes " = " ++ (members_text members ++ codes ";\n")))
-- `source Listen => Image;`
line_of (decl.Source called target) =
    codes "source " ++ (called.text ++ (codes " => " ++ (target.text ++ codes ";\n")))
-- `typedef hit TestInCache;`
line_of (decl.Typedef called function) =
    codes "typedef " ++ (called.text ++ (codes " " ++ (function.text ++ codes ";\n")))
-- `handle error ReadInFromDisk => FourOhFour;` and `handle error Fail:(1, 2) => Show;`
line_of (decl.Handler node numbers handler) =
    codes "handle error " ++ (node.text ++ (codes_text numbers
    ++ (codes " => " ++ (handler.text ++ codes ";\n"))))
-- `atomic CheckCache:{cache, users?(session)};`
line_of (decl.Atomic node constraints) =
    codes "atomic " ++ (node.text
    ++ (codes ":{" ++ (joined (codes ", ") constraint_text constraints ++ codes "};\n")))
-- `session Listen => ByConn;`
line_of (decl.Session source function) =
    codes "session " ++ (source.text ++ (codes " => " ++ (function.text ++ codes ";\n")))

-- all lines, one after the other
abbrev pub formatted : List Decl → List ℕ
formatted decls = flat_map line_of decls
