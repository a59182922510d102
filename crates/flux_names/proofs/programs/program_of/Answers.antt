use Rattle.std.proofs.Common.{◌≡◌, ◌∙◌, [], ℕ, List, length, map, ap, sym, subst, arith}
use Rattle.std.specs.List.{flat_map, filter_map}
use Rattle.std.specs.Borrow.{Bor}
use Rattle.std.proofs.lemmas.List.{length-map}
use Rattle.flux_model.specs.declared.programs.Class.{Class}
use Rattle.flux_model.specs.declared.programs.Node.{Node}
use Rattle.flux_model.specs.declared.programs.SourceLine.{SourceLine}
use Rattle.flux_syntax.specs.declared.declarations.Word.{Word}
use Rattle.flux_syntax.specs.declared.declarations.Decl.{Decl}
use Rattle.flux_syntax.specs.Words.{names_of, first_words, defined, function_of, texts_of}
use Rattle.flux_syntax.specs.ProgramOfText.{constraints_of, classes_of, node_of, source_of}
use Rattle.flux_names.specs.steps.Nodes.{lines_of, nodes_from, sources_in, unknown_in}
use Rattle.flux_names.proofs.Symbols.{first_texts}
use Rattle.flux_names.proofs.Canonical.{sorted_in_order, classes_in_order}
use Rattle.flux_names.proofs.Gathered.{nodes_are, sources_are, predicates_are}
use Rattle.flux_names.proofs.Sound.{types_are, are_codes}
use Rattle.flux_names.proofs.Numbers.{few_names, few_texts, few_classes_of}
use Rattle.flux_names.proofs.programs.program_of.Goals as goal

pub nodes_of-requires-clause-names : goal.nodes_of-requires-clause-names
nodes_of-requires-clause-names c = rw c.requires.names (omega (arith, few_names c.args.decls.now, c.requires.few))

pub nodes_of-requires-clause-types : goal.nodes_of-requires-clause-types
nodes_of-requires-clause-types c =
    rw (c.requires.types, types_are c.args.decls.now c.requires.once) (omega (arith, few_texts defined c.args.decls.now, c.requires.few))

pub nodes_of-requires-clause-order : goal.nodes_of-requires-clause-order
nodes_of-requires-clause-order c =
    let decls = c.args.decls.now in
    rw (c.as_slice.ensures, c.in_ok-classes.ensures, c.requires.classes) (sorted_in_order (classes_of decls) (classes_in_order (flat_map constraints_of decls)))

pub nodes_of-requires-clause-few : goal.nodes_of-requires-clause-few
nodes_of-requires-clause-few c =
    rw (c.as_slice.ensures, c.in_ok-classes.ensures, c.requires.classes) (omega (arith, few_classes_of c.args.decls.now, c.requires.few))

pub nodes_of-requires-clause-each : goal.nodes_of-requires-clause-each
nodes_of-requires-clause-each c =
    let decls = c.args.decls.now in
    sym (length-map c.as_slice-2.result.now (λ (w : Bor Word). w.now))
    ∙ ap length (c.as_slice-2.ensures ∙ c.requires.words)
    ∙ sym (length-map (first_words decls) (λ (w : Word). w.text))
    ∙ ap length (first_texts decls)
    ∙ sym (length-map (names_of decls) (lines_of decls))
    ∙ ap length (sym c.requires.lines)

pub sources_of-requires-clause-few : goal.sources_of-requires-clause-few
sources_of-requires-clause-few c = rw c.requires.names (omega (arith, few_names c.args.decls.now, c.requires.few))

pub sources_of-requires-clause-each : goal.sources_of-requires-clause-each
sources_of-requires-clause-each c =
    ap length c.requires.lines ∙ length-map (names_of c.args.decls.now) (lines_of c.args.decls.now) ∙ ap length (sym c.requires.names)

pub sources_of-requires-clause-known : goal.sources_of-requires-clause-known
sources_of-requires-clause-known c = subst (λ (names : List (List ℕ)). unknown_in names c.args.decls.now ≡ []) (sym c.requires.names) c.requires.known

pub returns : goal.returns
returns c =
    let decls = c.args.decls.now in
    let names = names_of decls in
    let types = texts_of defined decls in
    let lines = c.args.lines.now in
    let symbols = c.args.symbols.now in
    let words = c.as_slice-2.result.now in
    let classes : c.in_ok-classes.classes ≡ classes_of decls = c.in_ok-classes.ensures ∙ c.requires.classes in
    let nodes : c.in_ok-nodes.nodes ≡ map (node_of names types (classes_of decls) decls) names =
    c.in_ok-nodes.ensures
    ∙ ap (λ (n : List (List ℕ)). nodes_from n symbols.types c.as_slice.result.now lines 0 (map (λ (w : Bor Word). w.now) words)) c.requires.names
    ∙ ap (λ (t : List (List ℕ)). nodes_from names t c.as_slice.result.now lines 0 (map (λ (w : Bor Word). w.now) words)) (c.requires.types ∙ types_are decls c.requires.once)
    ∙ ap (λ (cs : List Class). nodes_from names types cs lines 0 (map (λ (w : Bor Word). w.now) words)) (c.as_slice.ensures ∙ classes)
    ∙ ap (λ (ls : List (List Decl)). nodes_from names types (classes_of decls) ls 0 (map (λ (w : Bor Word). w.now) words)) c.requires.lines
    ∙ ap (nodes_from names types (classes_of decls) (map (lines_of decls) names) 0) (c.as_slice-2.ensures ∙ c.requires.words)
    ∙ nodes_are types (classes_of decls) decls (are_codes decls c.requires.codes) in
    let sources : c.in_ok-sources_of.field-0 ≡ filter_map (source_of names decls) decls =
    c.in_ok-sources_of.ensures
    ∙ ap (λ (n : List (List ℕ)). flat_map (sources_in n lines) decls) c.requires.names
    ∙ ap (λ (ls : List (List Decl)). flat_map (sources_in names ls) decls) c.requires.lines
    ∙ sources_are decls c.requires.known in
    let predicates : c.in_ok-predicates_of.field-0 ≡ texts_of function_of decls = c.in_ok-predicates_of.ensures ∙ predicates_are decls in
    ap (λ (x : List Class). record { classes = x; nodes = c.in_ok-nodes.nodes; sources = c.in_ok-sources_of.field-0; predicates = c.in_ok-predicates_of.field-0 }) classes
    ∙ ap (λ (x : List Node). record { classes = classes_of decls; nodes = x; sources = c.in_ok-sources_of.field-0; predicates = c.in_ok-predicates_of.field-0 }) nodes
    ∙ ap (λ (x : List SourceLine). record { classes = classes_of decls; nodes = map (node_of names types (classes_of decls) decls) names; sources = x; predicates = c.in_ok-predicates_of.field-0 }) sources
    ∙ ap (λ (x : List (List ℕ)). record { classes = classes_of decls; nodes = map (node_of names types (classes_of decls) decls) names; sources = filter_map (source_of names decls) decls; predicates = x }) predicates
