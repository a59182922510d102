-- The names of a program: identifiers, each of one node, or of one class of its scope.
use Rattle.std.proofs.Common.{◌≡◌, ℕ, Bool, true, false, ◌||◌, if◌then◌else◌, List, [], ◌∷◌, ◌++◌, map, ltb, Some, refl, sym, ap, subst, ◌∙◌, arith}
use Rattle.std.specs.List.{position_or_len, flat_map, AllByRecursion}
use Rattle.std.specs.declared.cmp.Ordering.{Ordering}
use Rattle.std.specs.declared.cmp.Ordering.TheVariants.{Less, Equal}
use Rattle.std.proofs.lemmas.Bool.Decides.{nat_tests}
use Rattle.std.specs.Str.{bytes_eq}
use Rattle.flux_values.specs.Identifiers.{IsIdentifier}
use Rattle.flux_lexer.specs.declared.kinds.TokenKind.TheVariants as tokens
use Rattle.flux_model.specs.declared.programs.Class.{Class}
use Rattle.flux_model.specs.declared.programs.Node.{Node}
use Rattle.flux_model.specs.Modes.{class_cmp, AreCanonical}
use Rattle.flux_model.specs.Names.{AreNamedApart, AreClassesApart, IsNamed}
use Rattle.flux_syntax.specs.declared.declarations.Word.{Word}
use Rattle.flux_syntax.specs.declared.declarations.Constraint.{Constraint}
use Rattle.flux_syntax.specs.declared.declarations.Decl.{Decl}
use Rattle.flux_syntax.specs.declared.declarations.Decl.TheVariants.{Signature, Flow, Source, Typedef, Handler, Atomic, Session}
use Rattle.flux_syntax.specs.Words.{known, and_name, names_after, names_of}
use Rattle.flux_syntax.specs.ProgramOfText.{constraints_of, classes_of, program_of}
use Rattle.flux_syntax.proofs.Spelled.{IsName}
use Rattle.flux_syntax.proofs.Standing.{StandsIn, AllStandIn}
use Rattle.flux_syntax.proofs.Printed.{word_of_name}
use Rattle.flux_syntax.proofs.NumberedNames.{place_at}
use Rattle.flux_types.specs.Signatures.{nodes_of}
use Rattle.flux_check.proofs.Numbered.{text_same, node_named, map_get}
use Rattle.flux_check.proofs.Constrained.{ties_itself, all_classes}

-- ---- names are identifiers

unreserved : (a b c d e f g : Bool)
    → (if a then tokens.Source else if b then tokens.Typedef else if c then tokens.Handle else if d then tokens.Error else if e then tokens.Atomic else if f then tokens.Session else if g then tokens.Wildcard else tokens.Identifier) ≡ tokens.Identifier
    → (a || (b || (c || (d || (e || (f || (g || false))))))) ≡ false
unreserved true b c d e f g is = absurd cc
unreserved false true c d e f g is = absurd cc
unreserved false false true d e f g is = absurd cc
unreserved false false false true e f g is = absurd cc
unreserved false false false false true f g is = absurd cc
unreserved false false false false false true g is = absurd cc
unreserved false false false false false false true is = absurd cc
unreserved false false false false false false false is = refl

-- a name as the text spells it is an identifier
pub name_identified : (text : List ℕ) → IsName text → IsIdentifier text
name_identified text name =
    let word = word_of_name text name.kind in
    record { word = word.0; free = unreserved _ _ _ _ _ _ _ word.1 }

-- ---- the names of declarations

with_last : (names : List (List ℕ)) (name : List ℕ) → AllByRecursion IsIdentifier names → IsIdentifier name → AllByRecursion IsIdentifier (names ++ name ∷ [])
with_last [] name all own = (own, tt)
with_last (n ∷ names) name all own = (all.0, with_last names name all.1 own)

with_word : (names : List (List ℕ)) (word : Word) → AllByRecursion IsIdentifier names → IsName word.text → AllByRecursion IsIdentifier (and_name names (Some word))
with_word names word all own = one (known names word.text)
  where
    one : (t : Bool) → AllByRecursion IsIdentifier (if t then names else names ++ word.text ∷ [])
    one true = all
    one false = with_last names word.text all (name_identified word.text own)

all_identified : (text : List ℕ) (names : List (List ℕ)) (decls : List Decl) → AllStandIn text decls → AllByRecursion IsIdentifier names → AllByRecursion IsIdentifier (names_after names decls)
all_identified text names [] stand all = all
all_identified text names (Signature name ins outs ∷ decls) stand all = let own = stand.0.0.0 in all_identified text (and_name names (Some name)) decls stand.1 (with_word names name all own.name)
all_identified text names (Flow name patterns members ∷ decls) stand all = let own = stand.0.0.0 in all_identified text (and_name names (Some name)) decls stand.1 (with_word names name all own.name)
all_identified text names (other ∷ decls) stand all = all_identified text names decls stand.1 all

nodes_identified : (of : List ℕ → Node) → ((name : List ℕ) → (let node = of name in node.name ≡ name)) → (names : List (List ℕ)) → AllByRecursion IsIdentifier names → AllByRecursion (λ node. IsIdentifier node.name) (map of names)
nodes_identified of same [] all = tt
nodes_identified of same (n ∷ names) all = (subst IsIdentifier (sym (same n)) all.0, nodes_identified of same names all.1)

-- ---- nodes are apart

-- no two nodes of declarations have one name
pub nodes_apart : (decls : List Decl) → AreNamedApart (nodes_of decls)
nodes_apart decls a b first second at_first at_second same =
    let one = map_get (node_named decls) (names_of decls) a first at_first in
    let other = map_get (node_named decls) (names_of decls) b second at_second in
    let names_same : one.from ≡ other.from = ap (λ (node : Node). node.name) one.is ∙ same ∙ sym (ap (λ (node : Node). node.name) other.is) in
    sym (place_at decls a one.from one.from one.at (text_same one.from one.from refl))
    ∙ ap (λ (name : List ℕ). position_or_len (bytes_eq name) (names_of decls)) names_same
    ∙ place_at decls b other.from other.from other.at (text_same other.from other.from refl)

-- ---- classes

constraints_identified : (constraints : List Constraint) (text : List ℕ) → AllByRecursion (StandsIn text) (map (λ c. c.name) constraints) → AllByRecursion (λ (c : Constraint). let name = c.name in IsIdentifier name.text) constraints
constraints_identified [] text all = tt
constraints_identified (c ∷ constraints) text all = let own = all.0 in let name = c.name in (name_identified name.text own.name, constraints_identified constraints text all.1)

both_identified : (a b : List Constraint) → AllByRecursion (λ (c : Constraint). let name = c.name in IsIdentifier name.text) a → AllByRecursion (λ (c : Constraint). let name = c.name in IsIdentifier name.text) b
    → AllByRecursion (λ (c : Constraint). let name = c.name in IsIdentifier name.text) (a ++ b)
both_identified [] b x y = y
both_identified (c ∷ a) b x y = (x.0, both_identified a b x.1 y)

lines_identified : (text : List ℕ) (decls : List Decl) → AllStandIn text decls → AllByRecursion (λ (c : Constraint). let name = c.name in IsIdentifier name.text) (flat_map constraints_of decls)
lines_identified text [] stand = tt
lines_identified text (Atomic node constraints ∷ decls) stand = both_identified constraints (flat_map constraints_of decls) (constraints_identified constraints text stand.0.0.1) (lines_identified text decls stand.1)
lines_identified text (other ∷ decls) stand = lines_identified text decls stand.1

-- classes in canonical order are apart
pub classes_apart : (classes : List Class) → AreCanonical classes → AreClassesApart classes
classes_apart classes canonical a b first second at_first at_second named scoped = one (ltb a b) refl (ltb b a) refl
  where
    same : first ≡ second
    same = ap (λ (n : List ℕ). record { name = n; session = first.session }) named ∙ ap (λ (s : Bool). record { name = second.name; session = s }) scoped

    less : class_cmp first second ≡ Less → ⊥
    less e = let tie : class_cmp first second ≡ Equal = ap (class_cmp first) (sym same) ∙ ties_itself first in let turned : Less ≡ Equal = sym e ∙ tie in absurd cc

    more : class_cmp second first ≡ Less → ⊥
    more e = let tie : class_cmp second first ≡ Equal = ap (class_cmp second) same ∙ ties_itself second in let turned : Less ≡ Equal = sym e ∙ tie in absurd cc

    one : (s : Bool) → ltb a b ≡ s → (t : Bool) → ltb b a ≡ t → a ≡ b
    one true i t j = absurd (less (canonical a b first second (grind (arith, nat_tests, i)) at_first at_second))
    one false i true j = absurd (more (canonical b a second first (grind (arith, nat_tests, j)) at_second at_first))
    one false i false j = grind (arith, nat_tests, i, j)

-- the program of declarations whose words are names of a text has names
pub names_kept : (text : List ℕ) (decls : List Decl) → AreCanonical (classes_of decls) → AllStandIn text decls → IsNamed (program_of decls)
names_kept text decls canonical stand = record {
  nodes = nodes_identified (node_named decls) (λ name. refl) (names_of decls) (all_identified text [] decls stand tt);
  classes = all_classes (λ class. IsIdentifier class.name) (flat_map constraints_of decls) (lines_identified text decls stand);
  apart = nodes_apart decls;
  classes_apart = classes_apart (classes_of decls) canonical;
}
