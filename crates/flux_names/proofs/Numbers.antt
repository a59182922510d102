-- Where no row applies the program is numbered.
use Rattle.std.proofs.Common.{◌≡◌, ◌≤◌, ◌<◌, ◌+◌, ℕ, Bool, true, false, if◌then◌else◌, List, [], ◌∷◌, ◌++◌, length, map, Option, Some, None, refl, sym, subst, arith}
use Rattle.std.specs.List.{list_any, filter_map, cons_option, flat_map, enumerate_from, AllByRecursion}
use Rattle.std.specs.Str.{bytes_eq}
use Rattle.std.proofs.lemmas.List.{length-append, length-map}
use Rattle.flux_syntax.proofs.RowLemmas.{none_either}
use Rattle.flux_values.specs.Meanings.{LibraryMeaning}
use Rattle.flux_values.specs.declared.answers.Mode.{Mode}
use Rattle.flux_model.specs.declared.programs.TheConstants.{COUNT_LIMIT}
use Rattle.flux_model.specs.declared.programs.Class.{Class}
use Rattle.flux_model.specs.declared.programs.Hold.{Hold}
use Rattle.flux_model.specs.declared.programs.NodeNo.{NodeNo}
use Rattle.flux_model.specs.declared.programs.HandleArm.{HandleArm}
use Rattle.flux_model.specs.declared.programs.Case.{Case}
use Rattle.flux_model.specs.declared.programs.Body.TheVariants.{Concrete, Abstract}
use Rattle.flux_model.specs.declared.programs.SourceLine.{SourceLine}
use Rattle.flux_model.specs.Leading.{members_of, handlers_of, leads_to}
use Rattle.flux_model.specs.Numbered.{AreBelow, AreOnClasses, IsPatternBelow, ArePatternsBelow, parts_of, IsNumbered}
use Rattle.flux_syntax.specs.declared.declarations.Word.{Word}
use Rattle.flux_syntax.specs.declared.declarations.Decl.{Decl}
use Rattle.flux_syntax.specs.declared.declarations.Decl.TheVariants.{Signature, Flow, Source, Typedef, Handler, Atomic, Session}
use Rattle.flux_syntax.specs.Counted.{total, words_in, words_of}
use Rattle.flux_syntax.specs.Words.{naming, defined, known, and_name, names_after, names_of, function_of, texts_of}
use Rattle.flux_syntax.specs.ProgramOfText.{place_of, number_of, library_name, pattern_of, patterns_of, case_of, is_signed, body_of, arm_of, constraints_of, constraints_on, decimal_value, classes_of, hold_on, mode_on, source_of, node_of, program_of}
use Rattle.flux_syntax.specs.Least.{first_fault}
use Rattle.flux_syntax.proofs.Counts.{decls_few}
use Rattle.flux_names.specs.Rows.{not_among, used_names, pattern_words, unknown_function, unknown_predicates_in, rows}
use Rattle.flux_names.proofs.Symbols.{bytes_same, below_length}
use Rattle.flux_names.proofs.Canonical.{classes_in_order, canonical, few_classes}
use Rattle.flux_names.proofs.Sound.{AreSound, sound}

-- ---- lists

pub all_append : {X : Type 0} (P : X → Type 0) (a b : List X) → AllByRecursion P a → AllByRecursion P b → AllByRecursion P (a ++ b)
all_append P [] b x y = y
all_append P (x ∷ a) b h y = (h.0, all_append P a b h.1 y)

all_map : {X Y : Type 0} (P : Y → Type 0) (f : X → Y) → ((x : X) → P (f x)) → (xs : List X) → AllByRecursion P (map f xs)
all_map P f each [] = tt
all_map P f each (x ∷ xs) = (each x, all_map P f each xs)

-- ---- words that are known have numbers

-- no word is unknown
pub known_words : (names : List (List ℕ)) (words : List Word) → not_among names words ≡ [] → AllByRecursion (λ w. known names w.text ≡ true) words
known_words names [] e = tt
known_words names (w ∷ words) e = one (known names w.text) refl (known_words names words)
  where
    one : (t : Bool) → known names w.text ≡ t → (not_among names words ≡ [] → AllByRecursion (λ w. known names w.text ≡ true) words) → AllByRecursion (λ w. known names w.text ≡ true) (w ∷ words)
    one true i more = (i, more (rw i at e))
    one false i more = let h : ◌≡◌ {A = List Word} (w ∷ not_among names words) [] = rw i at e in absurd cc

pub known_below : (names : List (List ℕ)) (w : Word) → known names w.text ≡ true → place_of names w < length names
known_below names w e = below_length bytes_eq bytes_same w.text names e

all_below : (names : List (List ℕ)) (words : List Word) → AllByRecursion (λ w. known names w.text ≡ true) words → AreBelow (length names) (map (number_of names) words)
all_below names [] each = tt
all_below names (w ∷ words) each = (known_below names w each.0, all_below names words each.1)

-- the names of a line are known
abbrev KnowsLines : List (List ℕ) → List Decl → Type 0
KnowsLines names decls = flat_map (λ d. not_among names (used_names d)) decls ≡ []

knows_first : (names : List (List ℕ)) (d : Decl) (decls : List Decl) → KnowsLines names (d ∷ decls) → AllByRecursion (λ w. known names w.text ≡ true) (used_names d)
knows_first names d decls e = known_words names (used_names d) (none_either (not_among names (used_names d)) (flat_map (λ d. not_among names (used_names d)) decls) e).0

knows_rest : (names : List (List ℕ)) (d : Decl) (decls : List Decl) → KnowsLines names (d ∷ decls) → KnowsLines names decls
knows_rest names d decls e = (none_either (not_among names (used_names d)) (flat_map (λ d. not_among names (used_names d)) decls) e).1

-- ---- members and handlers

members_more : (count : ℕ) (o : Option Case) (cases : List Case) → AllByRecursion (λ case. AreBelow count case.members) (cons_option o []) → AreBelow count (flat_map (λ case. case.members) cases)
    → AreBelow count (flat_map (λ case. case.members) (cons_option o cases))
members_more count None cases own rest = rest
members_more count (Some case) cases own rest = all_append (λ (n : NodeNo). n.0 < count) case.members (flat_map (λ case. case.members) cases) own.0 rest

case_below : (names types : List (List ℕ)) (name : List ℕ) (d : Decl) → AllByRecursion (λ w. known names w.text ≡ true) (used_names d) → AllByRecursion (λ case. AreBelow (length names) case.members) (cons_option (case_of names types name d) [])
case_below names types name (Flow called patterns members) each = one (bytes_eq called.text name)
  where
    case : Case
    case = record { patterns = patterns_of types patterns; members = map (number_of names) members }

    one : (b : Bool) → AllByRecursion (λ case. AreBelow (length names) case.members) (cons_option (if b then Some case else None) [])
    one true = (all_below names members each, tt)
    one false = tt
case_below names types name other each = tt

cases_below : (names types : List (List ℕ)) (name : List ℕ) (decls : List Decl) → KnowsLines names decls → AreBelow (length names) (flat_map (λ case. case.members) (filter_map (case_of names types name) decls))
cases_below names types name [] e = tt
cases_below names types name (d ∷ decls) e =
    members_more (length names) (case_of names types name d) (filter_map (case_of names types name) decls)
    (case_below names types name d (knows_first names d decls e)) (cases_below names types name decls (knows_rest names d decls e))

body_below : (names types : List (List ℕ)) (name : List ℕ) (decls : List Decl) → KnowsLines names decls → (b : Bool)
    → AreBelow (length names) (members_of (if b then Concrete (library_name name) else Abstract (filter_map (case_of names types name) decls)))
body_below names types name decls e true = tt
body_below names types name decls e false = cases_below names types name decls e

arm_below : (names : List (List ℕ)) (name : List ℕ) (d : Decl) (arms : List HandleArm) → AllByRecursion (λ w. known names w.text ≡ true) (used_names d) → AreBelow (length names) (handlers_of arms)
    → AreBelow (length names) (handlers_of (cons_option (arm_of names name d) arms))
arm_below names name (Handler node codes handler) arms each rest = one (bytes_eq node.text name)
  where
    arm : HandleArm
    arm = record { codes = map (λ code. decimal_value code.text) codes; node = number_of names handler }

    one : (b : Bool) → AreBelow (length names) (handlers_of (cons_option (if b then Some arm else None) arms))
    one true = (known_below names handler each.1.0, rest)
    one false = rest
arm_below names name other arms each rest = rest

arms_below : (names : List (List ℕ)) (name : List ℕ) (decls : List Decl) → KnowsLines names decls → AreBelow (length names) (handlers_of (filter_map (arm_of names name) decls))
arms_below names name [] e = tt
arms_below names name (d ∷ decls) e = arm_below names name d (filter_map (arm_of names name) decls) (knows_first names d decls e) (arms_below names name decls (knows_rest names d decls e))

node_below : (names types : List (List ℕ)) (classes : List Class) (decls : List Decl) → KnowsLines names decls → (name : List ℕ) → AreBelow (length names) (leads_to (node_of names types classes decls name))
node_below names types classes decls e name =
    all_append (λ (n : NodeNo). n.0 < length names) (members_of (body_of names types name decls)) (handlers_of (filter_map (arm_of names name) decls))
    (body_below names types name decls e (list_any (is_signed name) decls)) (arms_below names name decls e)

-- ---- constraints

hold_below : (count number : ℕ) (mode : Option Mode) (holds : List Hold) → number < count → AreOnClasses count holds → AreOnClasses count (cons_option (hold_on number mode) holds)
hold_below count number None holds lt rest = rest
hold_below count number (Some mode) holds lt rest = (lt, rest)

holds_below : (f : Class → Option Mode) (count number : ℕ) (classes : List Class) → number + length classes ≤ count → AreOnClasses count (filter_map (λ numbered. hold_on numbered.0 (f numbered.1)) (enumerate_from number classes))
holds_below f count number [] le = tt
holds_below f count number (class ∷ classes) le =
    hold_below count number (f class) (filter_map (λ numbered. hold_on numbered.0 (f numbered.1)) (enumerate_from (number + 1) classes)) (omega arith) (holds_below f count (number + 1) classes (omega arith))

-- ---- patterns

pattern_below : (types : List (List ℕ)) (pattern : Option Word) (rest : List Word) → AllByRecursion (λ w. known types w.text ≡ true) (cons_option pattern rest) → IsPatternBelow (length types) (pattern_of types pattern) × AllByRecursion (λ w. known types w.text ≡ true) rest
pattern_below types None rest each = (tt, each)
pattern_below types (Some w) rest each = (known_below types w each.0, each.1)

patterns_below : (types : List (List ℕ)) (patterns : List (Option Word)) → AllByRecursion (λ w. known types w.text ≡ true) (filter_map (λ p. p) patterns) → AllByRecursion (IsPatternBelow (length types)) (map (pattern_of types) patterns)
patterns_below types [] each = tt
patterns_below types (pattern ∷ patterns) each =
    let parts = pattern_below types pattern (filter_map (λ p. p) patterns) each in (parts.0, patterns_below types patterns parts.1)

abbrev KnowsPatterns : List (List ℕ) → List Decl → Type 0
KnowsPatterns types decls = AllByRecursion (λ d. AllByRecursion (λ w. known types w.text ≡ true) (pattern_words d)) decls

knows_patterns : (meaning : LibraryMeaning) (types : List (List ℕ)) (decls : List Decl) → flat_map (unknown_predicates_in meaning types) decls ≡ [] → KnowsPatterns types decls
knows_patterns meaning types [] e = tt
knows_patterns meaning types (d ∷ decls) e =
    let both = none_either (unknown_predicates_in meaning types d) (flat_map (unknown_predicates_in meaning types) decls) e in
    (known_words types (pattern_words d) (none_either (unknown_function meaning d) (not_among types (pattern_words d)) both.0).1, knows_patterns meaning types decls both.1)

flow_patterns_below : (types : List (List ℕ)) (name : Word) (patterns : Option (List (Option Word))) (members : List Word) → AllByRecursion (λ w. known types w.text ≡ true) (pattern_words (Flow name patterns members)) → AllByRecursion (IsPatternBelow (length types)) (patterns_of types patterns)
flow_patterns_below types name None members each = tt
flow_patterns_below types name (Some patterns) members each = patterns_below types patterns each

case_patterns : (names types : List (List ℕ)) (name : List ℕ) (d : Decl) (cases : List Case) → AllByRecursion (λ w. known types w.text ≡ true) (pattern_words d)
    → AllByRecursion (λ case. AllByRecursion (IsPatternBelow (length types)) case.patterns) cases → AllByRecursion (λ case. AllByRecursion (IsPatternBelow (length types)) case.patterns) (cons_option (case_of names types name d) cases)
case_patterns names types name (Flow called patterns members) cases each rest = one (bytes_eq called.text name)
  where
    case : Case
    case = record { patterns = patterns_of types patterns; members = map (number_of names) members }

    one : (b : Bool) → AllByRecursion (λ case. AllByRecursion (IsPatternBelow (length types)) case.patterns) (cons_option (if b then Some case else None) cases)
    one true = (flow_patterns_below types called patterns members each, rest)
    one false = rest
case_patterns names types name other cases each rest = rest

cases_patterns : (names types : List (List ℕ)) (name : List ℕ) (decls : List Decl) → KnowsPatterns types decls → AllByRecursion (λ case. AllByRecursion (IsPatternBelow (length types)) case.patterns) (filter_map (case_of names types name) decls)
cases_patterns names types name [] e = tt
cases_patterns names types name (d ∷ decls) e = case_patterns names types name d (filter_map (case_of names types name) decls) e.0 (cases_patterns names types name decls e.1)

body_patterns : (names types : List (List ℕ)) (name : List ℕ) (decls : List Decl) → KnowsPatterns types decls → (b : Bool) → ArePatternsBelow (length types) (if b then Concrete (library_name name) else Abstract (filter_map (case_of names types name) decls))
body_patterns names types name decls e true = tt
body_patterns names types name decls e false = cases_patterns names types name decls e

-- as many predicates as names of them
as_many : (decls : List Decl) → length (texts_of defined decls) ≡ length (texts_of function_of decls)
as_many [] = refl
as_many (Typedef name function ∷ decls) = let more = as_many decls in omega (arith, more)
as_many (other ∷ decls) = as_many decls

-- ---- sources

abbrev IsLineBelow : ℕ → SourceLine → Type 0
IsLineBelow count line = (line.node.0 < count) × (line.target.0 < count)

lines_below : (names : List (List ℕ)) (all decls : List Decl) → KnowsLines names decls → AllByRecursion (IsLineBelow (length names)) (filter_map (source_of names all) decls)
lines_below names all [] e = tt
lines_below names all (Source called target ∷ decls) e =
    let each = knows_first names (Source called target) decls e in
    ((known_below names called each.0, known_below names target each.1.0), lines_below names all decls (knows_rest names (Source called target) decls e))
lines_below names all (Signature called ins outs ∷ decls) e = lines_below names all decls (knows_rest names (Signature called ins outs) decls e)
lines_below names all (Flow called patterns members ∷ decls) e = lines_below names all decls (knows_rest names (Flow called patterns members) decls e)
lines_below names all (Typedef called function ∷ decls) e = lines_below names all decls (knows_rest names (Typedef called function) decls e)
lines_below names all (Handler node codes handler ∷ decls) e = lines_below names all decls (knows_rest names (Handler node codes handler) decls e)
lines_below names all (Atomic node constraints ∷ decls) e = lines_below names all decls (knows_rest names (Atomic node constraints) decls e)
lines_below names all (Session source function ∷ decls) e = lines_below names all decls (knows_rest names (Session source function) decls e)

-- ---- nothing is longer than the declarations

one_name : (names : List (List ℕ)) (word : Option Word) → length (and_name names word) ≤ length names + 1
one_name names None = omega arith
one_name names (Some word) = one (known names word.text)
  where
    one : (b : Bool) → length (if b then names else names ++ word.text ∷ []) ≤ length names + 1
    one true = omega arith
    one false = omega (arith, length-append names (word.text ∷ []))

few_after : (names : List (List ℕ)) (decls : List Decl) → length (names_after names decls) ≤ length names + length decls
few_after names [] = omega arith
few_after names (d ∷ decls) = let more = few_after (and_name names (naming d)) decls in let one = one_name names (naming d) in omega (arith, more, one)

-- there are no more names than words
pub few_names : (decls : List Decl) → length (names_of decls) ≤ words_of decls
few_names decls = let more = few_after [] decls in omega (arith, more, decls_few decls)

few_filtered : {Y : Type 0} (f : Decl → Option Y) (decls : List Decl) → length (filter_map f decls) ≤ length decls
few_filtered f [] = omega arith
few_filtered {Y} f (d ∷ decls) = one (f d) (few_filtered f decls)
  where
    one : (o : Option Y) → length (filter_map f decls) ≤ length decls → length (cons_option o (filter_map f decls)) ≤ length (d ∷ decls)
    one None more = omega (arith, more)
    one (Some y) more = omega (arith, more)

-- nor more texts of a sort
pub few_texts : (sort : Decl → Option Word) (decls : List Decl) → length (texts_of sort decls) ≤ words_of decls
few_texts sort decls = omega (arith, length-map (filter_map sort decls) (λ (w : Word). w.text), few_filtered sort decls, decls_few decls)

total_each : {X : Type 0} (xs : List X) → total (λ _. 1) xs ≡ length xs
total_each [] = refl
total_each (x ∷ xs) = let more = total_each xs in omega (arith, more)

constraints_few : (d : Decl) → length (constraints_of d) ≤ words_in d
constraints_few (Atomic node constraints) = omega (arith, total_each constraints)
constraints_few other = omega arith

all_constraints_few : (decls : List Decl) → length (flat_map constraints_of decls) ≤ words_of decls
all_constraints_few [] = omega arith
all_constraints_few (d ∷ decls) = omega (arith, constraints_few d, all_constraints_few decls, length-append (constraints_of d) (flat_map constraints_of decls))

-- nor more classes
pub few_classes_of : (decls : List Decl) → length (classes_of decls) ≤ words_of decls
few_classes_of decls = omega (arith, few_classes (flat_map constraints_of decls), all_constraints_few decls)

abbrev parts : List Case → ℕ
parts cases = length cases + length (flat_map (λ case. case.members) cases)

case_parts : (names types : List (List ℕ)) (name : List ℕ) (d : Decl) (cases : List Case) → parts (cons_option (case_of names types name d) cases) ≤ words_in d + parts cases
case_parts names types name (Flow called patterns members) cases = one (bytes_eq called.text name)
  where
    case : Case
    case = record { patterns = patterns_of types patterns; members = map (number_of names) members }

    one : (b : Bool) → parts (cons_option (if b then Some case else None) cases) ≤ words_in (Flow called patterns members) + parts cases
    one true = omega (arith, total_each members, length-map members (number_of names), length-append (map (number_of names) members) (flat_map (λ case. case.members) cases))
    one false = omega arith
case_parts names types name other cases = omega arith

cases_parts : (names types : List (List ℕ)) (name : List ℕ) (decls : List Decl) → parts (filter_map (case_of names types name) decls) ≤ words_of decls
cases_parts names types name [] = omega arith
cases_parts names types name (d ∷ decls) = omega (arith, case_parts names types name d (filter_map (case_of names types name) decls), cases_parts names types name decls)

body_parts : (names types : List (List ℕ)) (name : List ℕ) (decls : List Decl) (b : Bool) → parts_of (if b then Concrete (library_name name) else Abstract (filter_map (case_of names types name) decls)) ≤ words_of decls
body_parts names types name decls true = omega arith
body_parts names types name decls false = cases_parts names types name decls

-- ---- the program

pub numbered : (meaning : LibraryMeaning) (decls : List Decl) → words_of decls ≤ COUNT_LIMIT → first_fault (rows meaning decls) ≡ None → IsNumbered (program_of decls)
numbered meaning decls few none = record {
  few = omega (arith, count, few_names decls, few);
  few_classes = omega (arith, few_classes_of decls, few);
  few_sources = omega (arith, few_filtered (source_of names decls) decls, decls_few decls, few);
  few_predicates = omega (arith, few_texts function_of decls, few);
  parts = all_map (λ node. parts_of node.body ≤ COUNT_LIMIT) (node_of names types classes decls) (λ name. omega (arith, few, body_parts names types name decls (list_any (is_signed name) decls))) names;
  canonical = canonical classes (classes_in_order (flat_map constraints_of decls));
  nodes = subst (λ n. AllByRecursion (λ node. AreBelow n (leads_to node)) (map (node_of names types classes decls) names)) (sym count) (all_map (λ node. AreBelow (length names) (leads_to node)) (node_of names types classes decls) (node_below names types classes decls no.known_nodes) names);
  classes = all_map (λ node. AreOnClasses (length classes) node.declared) (node_of names types classes decls) (λ name. holds_below (λ class. mode_on class (flat_map (constraints_on name) decls)) (length classes) 0 classes (omega arith)) names;
  patterns = subst (λ n. AllByRecursion (λ node. ArePatternsBelow n node.body) (map (node_of names types classes decls) names)) (as_many decls) (all_map (λ node. ArePatternsBelow (length types) node.body) (node_of names types classes decls) (λ name. body_patterns names types name decls (knows_patterns meaning types decls no.known_predicates) (list_any (is_signed name) decls)) names);
  sources = subst (λ n. AllByRecursion (IsLineBelow n) (filter_map (source_of names decls) decls)) (sym count) (lines_below names decls decls no.known_nodes);
}
  where
    names : List (List ℕ)
    names = names_of decls

    types : List (List ℕ)
    types = texts_of defined decls

    classes : List Class
    classes = classes_of decls

    no : AreSound meaning decls
    no = sound meaning decls none

    count : length (map (node_of (names_of decls) (texts_of defined decls) (classes_of decls) decls) (names_of decls)) ≡ length (names_of decls)
    count = length-map (names_of decls) (node_of (names_of decls) (texts_of defined decls) (classes_of decls) decls)
