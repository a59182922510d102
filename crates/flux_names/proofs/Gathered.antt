-- A node made from its lines is the node made from all declarations.
use Rattle.std.proofs.Common.{◌≡◌, ◌<◌, ◌+◌, ℕ, zero, suc, ◌||◌, ◌&&◌, Bool, true, false, cond, if◌then◌else◌, List, [], ◌∷◌, ◌++◌, length, get_or, set, take, drop, map, replicate, Option, Some, None, refl, sym, ap, ◌∙◌, arith}
use Rattle.std.specs.List.{list_any, filter, filter_map, cons_option, flat_map, range_with_len, enumerate_from, AllByRecursion}
use Rattle.std.specs.Str.{bytes_eq}
use Rattle.std.proofs.lemmas.List.{take_more, at_drop_more, append-nil, append_assoc, length-append, length-map, get_or_at, get_or-map}
use Rattle.std.proofs.lemmas.List.Elements.{filter-append}
use Rattle.flux_syntax.proofs.RowLemmas.{none_either}
use Rattle.flux_model.specs.declared.programs.Class.{Class}
use Rattle.flux_model.specs.declared.programs.Hold.{Hold}
use Rattle.flux_model.specs.declared.programs.Node.{Node}
use Rattle.flux_model.specs.declared.programs.HandleArm.{HandleArm}
use Rattle.flux_model.specs.declared.programs.Case.{Case}
use Rattle.flux_model.specs.declared.programs.Body.TheVariants.{Concrete, Abstract}
use Rattle.flux_model.specs.declared.programs.SourceLine.{SourceLine}
use Rattle.flux_syntax.specs.declared.declarations.Word.{Word}
use Rattle.flux_syntax.specs.declared.declarations.Constraint.{Constraint}
use Rattle.flux_syntax.specs.declared.declarations.Decl.{Decl}
use Rattle.flux_syntax.specs.declared.declarations.Decl.TheVariants.{Signature, Flow, Source, Typedef, Handler, Atomic, Session}
use Rattle.flux_syntax.specs.Words.{known, names_of, first_words, texts_of, function_of}
use Rattle.flux_syntax.specs.ProgramOfText.{place_of, number_of, decimal_value, patterns_of, library_name, case_of, is_signed, body_of, arm_of, constraints_of, constraints_on, hold_on, mode_on, node_of, session_of, source_of, handler_place}
use Rattle.flux_names.specs.Rows.{is_code, code_of, used_names, not_among}
use Rattle.flux_names.specs.steps.Classes.{with_constraints, holds_of}
use Rattle.flux_names.specs.steps.Nodes.{unknown_in, subject, with_line, has_text, is_line_of, lines_of, is_signature, cases_in, arms_in, session_in, handler_sites_in, no_modes, node_in, sources_in, predicates_in, nodes_from, handler_sites_from}
use Rattle.flux_names.proofs.Symbols.{AreApart, bytes_same, changed_at, at_its_place, below_length, map_same, flat_map_same, first_texts}
use Rattle.flux_names.proofs.Joined.{holds_are}

-- ---- what lists of lines give

abbrev pub option_list : {X : Type 0} → Option X → List X
option_list None = []
option_list (Some x) = x ∷ []

cons_is : {X : Type 0} (o : Option X) (xs : List X) → cons_option o xs ≡ option_list o ++ xs
cons_is None xs = refl
cons_is (Some x) xs = refl

abbrev pub if_is : {Y : Type 0} → Bool → List Y → List Y
if_is wanted ys = if wanted then ys else []

gathered : {X Y : Type 0} (p : X → Bool) (f : X → List Y) (g : X → Option Y) (xs : List X) → AllByRecursion (λ x. option_list (g x) ≡ if_is (p x) (f x)) xs → flat_map f (filter p xs) ≡ filter_map g xs
gathered p f g [] each = refl
gathered {X} {Y} p f g (x ∷ xs) each = one (p x) refl (gathered p f g xs each.1)
  where
    one : (t : Bool) → p x ≡ t → flat_map f (filter p xs) ≡ filter_map g xs → flat_map f (filter p (x ∷ xs)) ≡ filter_map g (x ∷ xs)
    one true e more =
        let own : option_list (g x) ≡ f x = each.0 ∙ ap (λ (t : Bool). if_is t (f x)) e in
        rw e (ap (λ (l : List Y). l ++ flat_map f (filter p xs)) (sym own) ∙ ap (λ (l : List Y). option_list (g x) ++ l) more ∙ sym (cons_is (g x) (filter_map g xs)))
    one false e more =
        let own : option_list (g x) ≡ [] = each.0 ∙ ap (λ (t : Bool). if_is t (f x)) e in
        rw e (more ∙ ap (λ (l : List Y). l ++ filter_map g xs) (sym own) ∙ sym (cons_is (g x) (filter_map g xs)))

gathered_flat : {X Y : Type 0} (p : X → Bool) (f g : X → List Y) → ((x : X) → g x ≡ if_is (p x) (f x)) → (xs : List X) → flat_map f (filter p xs) ≡ flat_map g xs
gathered_flat p f g each [] = refl
gathered_flat {X} {Y} p f g each (x ∷ xs) = one (p x) refl (gathered_flat p f g each xs)
  where
    one : (t : Bool) → p x ≡ t → flat_map f (filter p xs) ≡ flat_map g xs → flat_map f (filter p (x ∷ xs)) ≡ flat_map g (x ∷ xs)
    one true e more =
        let own : g x ≡ f x = each x ∙ ap (λ (t : Bool). if_is t (f x)) e in
        rw e (ap (λ (l : List Y). l ++ flat_map f (filter p xs)) (sym own) ∙ ap (λ (l : List Y). g x ++ l) more)
    one false e more =
        let own : g x ≡ [] = each x ∙ ap (λ (t : Bool). if_is t (f x)) e in
        rw e (more ∙ ap (λ (l : List Y). l ++ flat_map g xs) (sym own))

gathered_any : {X : Type 0} (p f g : X → Bool) → ((x : X) → g x ≡ (p x && f x)) → (xs : List X) → list_any f (filter p xs) ≡ list_any g xs
gathered_any p f g each [] = refl
gathered_any {X} p f g each (x ∷ xs) = one (p x) refl (gathered_any p f g each xs)
  where
    one : (t : Bool) → p x ≡ t → list_any f (filter p xs) ≡ list_any g xs → list_any f (filter p (x ∷ xs)) ≡ list_any g (x ∷ xs)
    one true e more =
        let own : g x ≡ f x = each x ∙ ap (λ (t : Bool). t && f x) e in
        rw e (ap (λ (t : Bool). t || list_any f (filter p xs)) (sym own) ∙ ap (λ (t : Bool). g x || t) more)
    one false e more =
        let own : g x ≡ false = each x ∙ ap (λ (t : Bool). t && f x) e in
        rw e (more ∙ ap (λ (t : Bool). t || list_any g xs) (sym own))

all_of : {X : Type 0} {P : X → Type 0} → ((x : X) → P x) → (xs : List X) → AllByRecursion P xs
all_of each [] = tt
all_of each (x ∷ xs) = (each x, all_of each xs)

-- ---- codes

-- the numbers of a line are codes
abbrev pub AreCodes : List Word → Type 0
AreCodes numbers = AllByRecursion (λ number. is_code number.text ≡ true) numbers

abbrev pub numbers_of : Decl → List Word
numbers_of (Handler node codes handler) = codes
numbers_of other = []

codes_are : (numbers : List Word) → AreCodes numbers → filter_map (λ number. code_of number.text) numbers ≡ map (λ number. decimal_value number.text) numbers
codes_are [] each = refl
codes_are (n ∷ numbers) each = rw each.0 (ap (λ (l : List ℕ). decimal_value n.text ∷ l) (codes_are numbers each.1))

-- ---- the parts of a node

nothing_if : {Y : Type 0} (b : Bool) → ◌≡◌ {A = List Y} [] (if_is b [])
nothing_if true = refl
nothing_if false = refl

some_if : {X : Type 0} (b : Bool) (x : X) → option_list (if b then Some x else None) ≡ if_is b (x ∷ [])
some_if true x = refl
some_if false x = refl

case_is : (names types : List (List ℕ)) (name : List ℕ) (d : Decl) → option_list (case_of names types name d) ≡ if_is (is_line_of name d) (cases_in names types d)
case_is names types name (Flow called patterns members) = some_if (bytes_eq called.text name) (record { patterns = patterns_of types patterns; members = map (number_of names) members })
case_is names types name (Signature called ins outs) = nothing_if (is_line_of name (Signature called ins outs))
case_is names types name (Source called target) = refl
case_is names types name (Typedef called function) = refl
case_is names types name (Handler node codes handler) = nothing_if (is_line_of name (Handler node codes handler))
case_is names types name (Atomic node constraints) = nothing_if (is_line_of name (Atomic node constraints))
case_is names types name (Session source function) = nothing_if (is_line_of name (Session source function))

arm_is : (names : List (List ℕ)) (name : List ℕ) (d : Decl) → AreCodes (numbers_of d) → option_list (arm_of names name d) ≡ if_is (is_line_of name d) (arms_in names d)
arm_is names name (Handler node codes handler) are = rw (codes_are codes are) (some_if (bytes_eq node.text name) (record { codes = map (λ code. decimal_value code.text) codes; node = number_of names handler }))
arm_is names name (Flow called patterns members) are = nothing_if (is_line_of name (Flow called patterns members))
arm_is names name (Signature called ins outs) are = nothing_if (is_line_of name (Signature called ins outs))
arm_is names name (Source called target) are = refl
arm_is names name (Typedef called function) are = refl
arm_is names name (Atomic node constraints) are = nothing_if (is_line_of name (Atomic node constraints))
arm_is names name (Session source function) are = nothing_if (is_line_of name (Session source function))

constraints_are : (name : List ℕ) (d : Decl) → constraints_on name d ≡ if_is (is_line_of name d) (constraints_of d)
constraints_are name (Atomic node constraints) = refl
constraints_are name (Signature called ins outs) = nothing_if (is_line_of name (Signature called ins outs))
constraints_are name (Flow called patterns members) = nothing_if (is_line_of name (Flow called patterns members))
constraints_are name (Source called target) = refl
constraints_are name (Typedef called function) = refl
constraints_are name (Handler node codes handler) = nothing_if (is_line_of name (Handler node codes handler))
constraints_are name (Session source function) = nothing_if (is_line_of name (Session source function))

no_signature : (b : Bool) → false ≡ (b && false)
no_signature true = refl
no_signature false = refl

signed_is : (name : List ℕ) (d : Decl) → is_signed name d ≡ (is_line_of name d && is_signature d)
signed_is name (Signature called ins outs) = one (bytes_eq called.text name)
  where
    one : (b : Bool) → b ≡ (b && true)
    one true = refl
    one false = refl
signed_is name (Flow called patterns members) = no_signature (bytes_eq called.text name)
signed_is name (Source called target) = refl
signed_is name (Typedef called function) = refl
signed_is name (Handler node codes handler) = no_signature (bytes_eq node.text name)
signed_is name (Atomic node constraints) = no_signature (bytes_eq node.text name)
signed_is name (Session source function) = no_signature (bytes_eq source.text name)

handler_is : (name : List ℕ) (d : Decl) → option_list (handler_place name d) ≡ if_is (is_line_of name d) (handler_sites_in d)
handler_is name (Handler node codes handler) = some_if (bytes_eq node.text name) handler.at
handler_is name (Flow called patterns members) = nothing_if (is_line_of name (Flow called patterns members))
handler_is name (Signature called ins outs) = nothing_if (is_line_of name (Signature called ins outs))
handler_is name (Source called target) = refl
handler_is name (Typedef called function) = refl
handler_is name (Atomic node constraints) = nothing_if (is_line_of name (Atomic node constraints))
handler_is name (Session source function) = nothing_if (is_line_of name (Session source function))

-- the session that its lines give a source is that of all declarations
session_is : (decls : List Decl) (name : List ℕ) → session_in (lines_of decls name) ≡ session_of name decls
session_is [] name = refl
session_is (Session source function ∷ decls) name = one (bytes_eq source.text name) refl (session_is decls name)
  where
    one : (t : Bool) → bytes_eq source.text name ≡ t → session_in (lines_of decls name) ≡ session_of name decls → session_in (lines_of (Session source function ∷ decls) name) ≡ session_of name (Session source function ∷ decls)
    one true e more = rw e refl
    one false e more = rw e more
session_is (Signature called ins outs ∷ decls) name = skipped (bytes_eq called.text name) (session_is decls name)
  where
    skipped : (t : Bool) → session_in (lines_of decls name) ≡ session_of name decls → session_in (cond t (Signature called ins outs ∷ lines_of decls name) (lines_of decls name)) ≡ session_of name decls
    skipped true more = more
    skipped false more = more
session_is (Flow called patterns members ∷ decls) name = skipped (bytes_eq called.text name) (session_is decls name)
  where
    skipped : (t : Bool) → session_in (lines_of decls name) ≡ session_of name decls → session_in (cond t (Flow called patterns members ∷ lines_of decls name) (lines_of decls name)) ≡ session_of name decls
    skipped true more = more
    skipped false more = more
session_is (Source called target ∷ decls) name = session_is decls name
session_is (Typedef called function ∷ decls) name = session_is decls name
session_is (Handler node codes handler ∷ decls) name = skipped (bytes_eq node.text name) (session_is decls name)
  where
    skipped : (t : Bool) → session_in (lines_of decls name) ≡ session_of name decls → session_in (cond t (Handler node codes handler ∷ lines_of decls name) (lines_of decls name)) ≡ session_of name decls
    skipped true more = more
    skipped false more = more
session_is (Atomic node constraints ∷ decls) name = skipped (bytes_eq node.text name) (session_is decls name)
  where
    skipped : (t : Bool) → session_in (lines_of decls name) ≡ session_of name decls → session_in (cond t (Atomic node constraints ∷ lines_of decls name) (lines_of decls name)) ≡ session_of name decls
    skipped true more = more
    skipped false more = more

-- ---- nodes

abbrev held : List Class → List Constraint → List Hold
held classes cs = holds_of (with_constraints cs classes (no_modes classes))

abbrev held_by : List Class → List Constraint → List Hold
held_by classes cs = filter_map (λ numbered. hold_on numbered.0 (mode_on numbered.1 cs)) (enumerate_from 0 classes)

arms_are : (names : List (List ℕ)) (name : List ℕ) (decls : List Decl) → AllByRecursion (λ d. AreCodes (numbers_of d)) decls → AllByRecursion (λ d. option_list (arm_of names name d) ≡ if_is (is_line_of name d) (arms_in names d)) decls
arms_are names name [] codes = tt
arms_are names name (d ∷ decls) codes = (arm_is names name d codes.0, arms_are names name decls codes.1)

node_is : (names types : List (List ℕ)) (classes : List Class) (decls : List Decl) → AllByRecursion (λ d. AreCodes (numbers_of d)) decls → (name : List ℕ) → node_in names types classes name (lines_of decls name) ≡ node_of names types classes decls name
node_is names types classes decls codes name =
    ap (λ (b : Bool). record { name = name; body = if b then Concrete (library_name name) else Abstract (flat_map (cases_in names types) own); on_fail = flat_map (arms_in names) own; declared = held classes (flat_map constraints_of own) })
    (gathered_any (is_line_of name) is_signature (is_signed name) (signed_is name) decls)
    ∙ ap (λ (cases : List Case). record { name = name; body = if list_any (is_signed name) decls then Concrete (library_name name) else Abstract cases; on_fail = flat_map (arms_in names) own; declared = held classes (flat_map constraints_of own) })
    (gathered (is_line_of name) (cases_in names types) (case_of names types name) decls (all_of (case_is names types name) decls))
    ∙ ap (λ (arms : List HandleArm). record { name = name; body = body_of names types name decls; on_fail = arms; declared = held classes (flat_map constraints_of own) })
    (gathered (is_line_of name) (arms_in names) (arm_of names name) decls (arms_are names name decls codes))
    ∙ ap (λ (holds : List Hold). record { name = name; body = body_of names types name decls; on_fail = filter_map (arm_of names name) decls; declared = holds })
    (holds_are (flat_map constraints_of own) classes
    ∙ ap (held_by classes) (gathered_flat (is_line_of name) constraints_of (constraints_on name) (constraints_are name) decls))
  where
    own : List Decl
    own = lines_of decls name

-- ---- lines, one more at a time

map_map : {X Y Z : Type 0} (f : X → Y) (g : Y → Z) (xs : List X) → map g (map f xs) ≡ map (λ x. g (f x)) xs
map_map f g [] = refl
map_map {X} {Y} {Z} f g (x ∷ xs) = ap (λ (l : List Z). g (f x) ∷ l) (map_map f g xs)

flat_map_map : {X Y Z : Type 0} (f : X → Y) (g : Y → List Z) (xs : List X) → flat_map g (map f xs) ≡ flat_map (λ x. g (f x)) xs
flat_map_map f g [] = refl
flat_map_map {X} {Y} {Z} f g (x ∷ xs) = ap (λ (l : List Z). g (f x) ++ l) (flat_map_map f g xs)

-- before any line
pub no_lines : (names : List (List ℕ)) → replicate (length names) [] ≡ map (lines_of []) names
no_lines [] = refl
no_lines (name ∷ names) = ap (λ (l : List (List Decl)). [] ∷ l) (no_lines names)

last_line : (decls : List Decl) (d : Decl) (name : List ℕ) → lines_of (decls ++ d ∷ []) name ≡ lines_of decls name ++ cond (is_line_of name d) (d ∷ []) []
last_line decls d name = filter-append (is_line_of name) decls (d ∷ [])

-- a line of a name is added at the place of the name
pub line_more : (names : List (List ℕ)) (decls : List Decl) (d : Decl) (word : Word) → AreApart bytes_eq names → subject d ≡ Some word
    → map (lines_of (decls ++ d ∷ [])) names ≡ set (map (lines_of decls) names) (place_of names word) (get_or (map (lines_of decls) names) (place_of names word) [] ++ d ∷ [])
line_more names decls d word apart is =
    map_same (lines_of (decls ++ d ∷ [])) (λ name. if bytes_eq word.text name then lines_of decls name ++ d ∷ [] else lines_of decls name) each names
    ∙ changed_at bytes_eq bytes_same (lines_of decls) (λ l. l ++ d ∷ []) word.text names [] apart
  where
    one : (name : List ℕ) (t : Bool) → bytes_eq word.text name ≡ t → lines_of decls name ++ cond (bytes_eq word.text name) (d ∷ []) [] ≡ (if bytes_eq word.text name then lines_of decls name ++ d ∷ [] else lines_of decls name)
    one name true e = rw e refl
    one name false e = rw e (append-nil (lines_of decls name))

    each : (name : List ℕ) → lines_of (decls ++ d ∷ []) name ≡ (if bytes_eq word.text name then lines_of decls name ++ d ∷ [] else lines_of decls name)
    each name =
        last_line decls d name
        ∙ ap (λ (s : Option Word). lines_of decls name ++ cond (has_text s name) (d ∷ []) []) is
        ∙ one name (bytes_eq word.text name) refl

-- a line without a name is none of theirs
pub line_apart : (names : List (List ℕ)) (decls : List Decl) (d : Decl) → subject d ≡ None → map (lines_of (decls ++ d ∷ [])) names ≡ map (lines_of decls) names
line_apart names decls d is =
    map_same (lines_of (decls ++ d ∷ [])) (lines_of decls)
    (λ name. last_line decls d name ∙ ap (λ (s : Option Word). lines_of decls name ++ cond (has_text s name) (d ∷ []) []) is ∙ append-nil (lines_of decls name))
    names

-- ---- all nodes

at_end : (front : List (List Decl)) (lines : List Decl) (back : List (List Decl)) → get_or (front ++ lines ∷ back) (length front) [] ≡ lines
at_end front lines back = get_or_at front lines back [] (length front) refl

nodes_behind : (names types : List (List ℕ)) (classes : List Class) (decls : List Decl) (front : List (List Decl)) (number : ℕ) (words : List Word) → length front ≡ number
    → nodes_from names types classes (front ++ map (λ w. lines_of decls w.text) words) number words ≡ map (λ w. node_in names types classes w.text (lines_of decls w.text)) words
nodes_behind names types classes decls front number [] is = refl
nodes_behind names types classes decls front number (w ∷ words) is =
    let own = lines_of decls w.text in
    let back = map (λ (v : Word). lines_of decls v.text) words in
    ap (λ (lines : List Decl). node_in names types classes w.text lines ∷ nodes_from names types classes (front ++ own ∷ back) (number + 1) words)
    (ap (λ (n : ℕ). get_or (front ++ own ∷ back) n []) (sym is) ∙ at_end front own back)
    ∙ ap (λ (l : List Node). node_in names types classes w.text own ∷ l)
    (ap (λ (lines : List (List Decl)). nodes_from names types classes lines (number + 1) words) (sym (append_assoc front (own ∷ []) back))
    ∙ nodes_behind names types classes decls (front ++ own ∷ []) (number + 1) words (omega (arith, is, length-append front (own ∷ []))))

-- the nodes with the lines of their numbers are the program's
pub nodes_are : (types : List (List ℕ)) (classes : List Class) (decls : List Decl) → AllByRecursion (λ d. AreCodes (numbers_of d)) decls
    → nodes_from (names_of decls) types classes (map (lines_of decls) (names_of decls)) 0 (first_words decls) ≡ map (node_of (names_of decls) types classes decls) (names_of decls)
nodes_are types classes decls codes =
    let names = names_of decls in
    let words = first_words decls in
    ap (λ (lines : List (List Decl)). nodes_from names types classes lines 0 words)
    (ap (map (lines_of decls)) (sym (first_texts decls)) ∙ map_map (λ (w : Word). w.text) (lines_of decls) words)
    ∙ nodes_behind names types classes decls [] 0 words refl
    ∙ map_same (λ (w : Word). node_in names types classes w.text (lines_of decls w.text)) (λ (w : Word). node_of names types classes decls w.text) (λ w. node_is names types classes decls codes w.text) words
    ∙ sym (map_map (λ (w : Word). w.text) (node_of names types classes decls) words)
    ∙ ap (map (node_of names types classes decls)) (first_texts decls)

-- ---- places of handlers

sites_behind : (front lines : List (List Decl)) (number : ℕ) → length front ≡ number
    → flat_map (λ n. flat_map handler_sites_in (get_or (front ++ lines) n [])) (range_with_len number (length lines)) ≡ flat_map (flat_map handler_sites_in) lines
sites_behind front [] number is = refl
sites_behind front (own ∷ lines) number is =
    ap (λ (l : List Decl). flat_map handler_sites_in l ++ flat_map (λ n. flat_map handler_sites_in (get_or (front ++ own ∷ lines) n [])) (range_with_len (number + 1) (length lines)))
    (ap (λ (n : ℕ). get_or (front ++ own ∷ lines) n []) (sym is) ∙ at_end front own lines)
    ∙ ap (λ (l : List ℕ). flat_map handler_sites_in own ++ l)
    (ap (λ (all : List (List Decl)). flat_map (λ n. flat_map handler_sites_in (get_or all n [])) (range_with_len (number + 1) (length lines))) (sym (append_assoc front (own ∷ []) lines))
    ∙ sites_behind (front ++ own ∷ []) lines (number + 1) (omega (arith, is, length-append front (own ∷ []))))

pub handlers_are : (decls : List Decl) → handler_sites_from (map (lines_of decls) (names_of decls)) (length (names_of decls)) ≡ flat_map (λ name. filter_map (handler_place name) decls) (names_of decls)
handlers_are decls =
    let names = names_of decls in
    ap (λ (n : ℕ). handler_sites_from (map (lines_of decls) names) n) (sym (length-map names (lines_of decls)))
    ∙ sites_behind [] (map (lines_of decls) names) 0 refl
    ∙ flat_map_map (lines_of decls) (flat_map handler_sites_in) names
    ∙ flat_map_same (λ (name : List ℕ). flat_map handler_sites_in (lines_of decls name)) (λ (name : List ℕ). filter_map (handler_place name) decls)
    (λ name. gathered (is_line_of name) handler_sites_in (handler_place name) decls (all_of (handler_is name) decls)) names

-- ---- sources, predicates and places

-- no word is left out
known_of : (names : List (List ℕ)) (w : Word) (rest : List Word) → not_among names (w ∷ rest) ≡ [] → known names w.text ≡ true
known_of names w rest e = one (known names w.text) refl
  where
    one : (t : Bool) → known names w.text ≡ t → known names w.text ≡ true
    one true i = i
    one false i = let h : ◌≡◌ {A = List Word} (w ∷ not_among names rest) [] = rw i at e in absurd cc

lines_at : (all : List Decl) (w : Word) → known (names_of all) w.text ≡ true → get_or (map (lines_of all) (names_of all)) (place_of (names_of all) w) [] ≡ lines_of all w.text
lines_at all w e =
    let names = names_of all in
    get_or-map (lines_of all) names (place_of names w) [] [] (below_length bytes_eq bytes_same w.text names e)
    ∙ ap (lines_of all) (at_its_place bytes_eq bytes_same w.text names [] e)

sources_from : (all decls : List Decl) → flat_map (λ d. not_among (names_of all) (used_names d)) decls ≡ []
    → flat_map (sources_in (names_of all) (map (lines_of all) (names_of all))) decls ≡ filter_map (source_of (names_of all) all) decls
sources_from all [] e = refl
sources_from all (Source called target ∷ decls) e =
    let names = names_of all in
    let both = none_either (not_among names (called ∷ target ∷ [])) (flat_map (λ d. not_among names (used_names d)) decls) e in
    let known_name = known_of names called (target ∷ []) both.0 in
    ap (λ (s : Option (List ℕ)). record { node = number_of names called; target = number_of names target; session = s } ∷ flat_map (sources_in names (map (lines_of all) names)) decls)
    (ap session_in (lines_at all called known_name) ∙ session_is all called.text)
    ∙ ap (λ (l : List SourceLine). record { node = number_of names called; target = number_of names target; session = session_of called.text all } ∷ l) (sources_from all decls both.1)
sources_from all (Signature called ins outs ∷ decls) e = sources_from all decls e
sources_from all (Flow called patterns members ∷ decls) e = sources_from all decls (none_either (not_among (names_of all) members) (flat_map (λ d. not_among (names_of all) (used_names d)) decls) e).1
sources_from all (Typedef called function ∷ decls) e = sources_from all decls e
sources_from all (Handler node codes handler ∷ decls) e = sources_from all decls (none_either (not_among (names_of all) (node ∷ handler ∷ [])) (flat_map (λ d. not_among (names_of all) (used_names d)) decls) e).1
sources_from all (Atomic node constraints ∷ decls) e = sources_from all decls (none_either (not_among (names_of all) (node ∷ [])) (flat_map (λ d. not_among (names_of all) (used_names d)) decls) e).1
sources_from all (Session source function ∷ decls) e = sources_from all decls (none_either (not_among (names_of all) (source ∷ [])) (flat_map (λ d. not_among (names_of all) (used_names d)) decls) e).1

pub sources_are : (decls : List Decl) → flat_map (λ d. not_among (names_of decls) (used_names d)) decls ≡ [] → flat_map (sources_in (names_of decls) (map (lines_of decls) (names_of decls))) decls ≡ filter_map (source_of (names_of decls) decls) decls
sources_are decls e = sources_from decls decls e

pub predicates_are : (decls : List Decl) → flat_map predicates_in decls ≡ texts_of function_of decls
predicates_are [] = refl
predicates_are (Typedef called function ∷ decls) = ap (λ (l : List (List ℕ)). function.text ∷ l) (predicates_are decls)
predicates_are (other ∷ decls) = predicates_are decls

-- ---- the lines of nodes, gathered one after another

pub line_gathered : (names : List (List ℕ)) (decls : List Decl) (i : ℕ) (d : Decl) → AreApart bytes_eq names → i < length decls → d ≡ get_or decls i d
    → with_line names d (subject d) (map (lines_of (take i decls)) names) ≡ map (lines_of (take (i + 1) decls)) names
line_gathered names decls i d apart lt is =
    one (subject d) refl ∙ ap (λ (ds : List Decl). map (lines_of ds) names) (sym (take_more decls i d lt ∙ ap (λ (x : Decl). take i decls ++ x ∷ []) (sym is)))
  where
    one : (w : Option Word) → subject d ≡ w → with_line names d (subject d) (map (lines_of (take i decls)) names) ≡ map (lines_of (take i decls ++ d ∷ [])) names
    one None e = rw e (sym (line_apart names (take i decls) d e))
    one (Some word) e = rw e (sym (line_more names (take i decls) d word apart e))

range_more : {Y : Type 0} (f : ℕ → List Y) (a n : ℕ) → flat_map f (range_with_len a (suc n)) ≡ flat_map f (range_with_len a n) ++ f (a + n)
range_more {Y} f a zero = append-nil (f a) ∙ ap f (let same : a ≡ a + 0 = omega arith in same)
range_more {Y} f a (suc n) =
    ap (λ (l : List Y). f a ++ l) (range_more f (a + 1) n)
    ∙ sym (append_assoc (f a) (flat_map f (range_with_len (a + 1) n)) (f (a + 1 + n)))
    ∙ ap (λ (m : ℕ). (f a ++ flat_map f (range_with_len (a + 1) n)) ++ f m) (let same : a + 1 + n ≡ a + suc n = omega arith in same)

-- one number more
pub sites_more : (lines : List (List Decl)) (n : ℕ) → handler_sites_from lines (n + 1) ≡ handler_sites_from lines n ++ flat_map handler_sites_in (get_or lines n [])
sites_more lines n =
    ap (handler_sites_from lines) (let next : n + 1 ≡ suc n = omega arith in next)
    ∙ range_more (λ m. flat_map handler_sites_in (get_or lines m [])) 0 n
    ∙ ap (λ (m : ℕ). handler_sites_from lines n ++ flat_map handler_sites_in (get_or lines m [])) (let same : 0 + n ≡ n = omega arith in same)

-- the names of a line are known, and those after it
pub known_lines : (names : List (List ℕ)) (decls : List Decl) (i : ℕ) (d : Decl) → i < length decls → d ≡ get_or decls i d → unknown_in names (drop i decls) ≡ []
    → (not_among names (used_names d) ≡ []) × (unknown_in names (drop (i + 1) decls) ≡ [])
known_lines names decls i d lt is e =
    none_either (not_among names (used_names d)) (unknown_in names (drop (i + 1) decls))
    (ap (λ (x : Decl). not_among names (used_names x) ++ unknown_in names (drop (i + 1) decls)) is ∙ sym (at_drop_more (unknown_in names) decls i d lt) ∙ e)
