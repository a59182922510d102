-- Signatures that are put into their places in an order are those of the declarations' nodes.
use Rattle.std.proofs.Common.{◌≡◌, ◌<◌, ◌≤◌, ◌++◌, ℕ, zero, suc, Bool, true, false, eqb, ltb, if◌then◌else◌, List, [], ◌∷◌, length, map, replicate, slice_set, Option, Some, None, refl, sym, ap, subst, ◌∙◌, arith}
use Rattle.std.specs.List.{slice_get, fold}
use Rattle.std.proofs.lemmas.Bool.Decides.{nat_tests}
use Rattle.std.proofs.lemmas.List.{length-set, length-replicate, get_or-replicate}
use Rattle.std.proofs.lemmas.Option.{slice_get_past, slice_get-get_or}
use Rattle.flux_values.proofs.Sets.{get_put, get_beside}
use Rattle.flux_model.specs.declared.signatures.NodeSig.{NodeSig}
use Rattle.flux_model.specs.declared.programs.NodeNo.{NodeNo}
use Rattle.flux_model.specs.declared.programs.Node.{Node}
use Rattle.flux_model.specs.declared.programs.Body.{Body}
use Rattle.flux_model.specs.declared.programs.Body.TheVariants.{Concrete, Abstract}
use Rattle.flux_model.specs.Leading.{members_of, handlers_of, leads_in}
use Rattle.flux_model.specs.Children.{IsIn}
use Rattle.flux_model.specs.Nested.{for_node, nested}
use Rattle.flux_model.proofs.NodeLists.{in_front}
use Rattle.flux_model.specs.Kinds.{sig_or_none, sig_at}
use Rattle.flux_model.specs.Ordering.{IsOrder}
use Rattle.flux_syntax.specs.declared.declarations.Decl.{Decl}
use Rattle.flux_syntax.specs.declared.declarations.Decl.TheVariants.{Signature, Flow, Source, Typedef, Handler, Atomic, Session}
use Rattle.flux_syntax.specs.Words.{names_of, texts_of, defined}
use Rattle.flux_syntax.specs.ProgramOfText.{place_of, node_of, classes_of}
use Rattle.flux_graph.proofs.Depths.{through-rule}
use Rattle.flux_graph.proofs.Fillings.{Puts, length-filled, slice_get-filled}
use Rattle.flux_types.specs.Signatures.{Kinds, nothing, line_sig, written, cases_sig, sig_by, nodes_of, sig_of, AreSigs}
use Rattle.flux_types.specs.steps.Filling.{put_line, put_lines, put_body, put_found, put_node}
use Rattle.flux_types.proofs.Looking.{cases_same, sigs_look_down}

-- ---- what lines write

length-put_line : (kind : Kinds) (names : List (List ℕ)) (d : Decl) (sigs : List NodeSig) → length (put_line kind names d sigs) ≡ length sigs
length-put_line kind names (Signature name ins outs) sigs = length-set sigs (place_of names name) (line_sig kind ins outs)
length-put_line kind names other sigs = refl

pub length-put_lines : (kind : Kinds) (names : List (List ℕ)) (decls : List Decl) (sigs : List NodeSig) → length (put_lines kind names decls sigs) ≡ length sigs
length-put_lines kind names [] sigs = refl
length-put_lines kind names (d ∷ decls) sigs = length-put_line kind names d (put_lines kind names decls sigs) ∙ length-put_lines kind names decls sigs

-- from the last line to the first
pub put_lines-append : (kind : Kinds) (names : List (List ℕ)) (decls : List Decl) (d : Decl) (sigs : List NodeSig) → put_lines kind names (decls ++ d ∷ []) sigs ≡ put_lines kind names decls (put_line kind names d sigs)
put_lines-append kind names [] d sigs = refl
put_lines-append kind names (other ∷ decls) d sigs = ap (put_line kind names other) (put_lines-append kind names decls d sigs)

blank_at : (count number : ℕ) → number < count → slice_get (replicate count nothing) number ≡ Some nothing
blank_at count number below =
    slice_get-get_or (replicate count nothing) number nothing (omega (arith, below, length-replicate count nothing))
    ∙ ap Some (get_or-replicate count number nothing nothing below)

pub written_at : (kind : Kinds) (names : List (List ℕ)) (count : ℕ) (decls : List Decl) (number : ℕ) → number < count
    → slice_get (put_lines kind names decls (replicate count nothing)) number ≡ Some (written kind names decls number)
written_at kind names count [] number below = blank_at count number below
written_at kind names count (Signature name ins outs ∷ decls) number below = one (eqb (place_of names name) number) refl (written_at kind names count decls number below)
  where
    before : List NodeSig
    before = put_lines kind names decls (replicate count nothing)

    inside : number < length before
    inside = omega (arith, below, length-put_lines kind names decls (replicate count nothing), length-replicate count nothing)

    one : (t : Bool) → eqb (place_of names name) number ≡ t → slice_get before number ≡ Some (written kind names decls number)
        → slice_get (slice_set before (place_of names name) (line_sig kind ins outs)) number ≡ Some (if t then line_sig kind ins outs else written kind names decls number)
    one true e others =
        let same : place_of names name ≡ number = grind (arith, nat_tests, e) in
        ap (λ (p : ℕ). slice_get (slice_set before p (line_sig kind ins outs)) number) same ∙ get_put before number (line_sig kind ins outs) inside
    one false e others =
        get_beside before (place_of names name) number (line_sig kind ins outs) (λ (same : number ≡ place_of names name). grind (arith, nat_tests, e, same))
        ∙ others
written_at kind names count (other ∷ decls) number below = written_at kind names count decls number below

-- ---- the table

length-map : {X Y : Type 0} (f : X → Y) (xs : List X) → length (map f xs) ≡ length xs
length-map f [] = refl
length-map f (x ∷ xs) = ap suc (length-map f xs)

some_node : (found : List Node) (number : ℕ) → number < length found → (node : Node) × (slice_get found number ≡ Some node)
some_node [] number below = absurd (omega (arith, below))
some_node (n ∷ found) zero below = (n, refl)
some_node (n ∷ found) (suc number) below = some_node found number (omega (arith, below))

module _ (kind : Kinds) (decls : List Decl) (order : List NodeNo) (is_order : IsOrder (nodes_of decls) order) where
  abbrev nodes : List Node
  nodes = nodes_of decls

  abbrev names : List (List ℕ)
  names = names_of decls

  abbrev lines : List NodeSig
  lines = put_lines kind names decls (replicate (length names) nothing)

  -- a node's signature follows the rule
  pub sig_rule : (number : ℕ) (node : Node) → slice_get nodes number ≡ Some node → sig_of kind decls number ≡ sig_by (written kind names decls) (sig_of kind decls) number node
  sig_rule = through-rule nothing (sig_by (written kind names decls)) (sigs_look_down (written kind names decls)) nodes order is_order

  many_nodes : length nodes ≡ length names
  many_nodes = length-map (node_of names (texts_of defined decls) (classes_of decls) decls) names

  many : length lines ≡ length nodes
  many = length-put_lines kind names decls (replicate (length names) nothing) ∙ length-replicate (length names) nothing ∙ sym many_nodes

  own_body : (table : List NodeSig) (number : ℕ) (node : Node) → number < length nodes → length table ≡ length nodes → slice_get table number ≡ slice_get lines number → slice_get nodes number ≡ Some node
      → ((led : ℕ) → IsIn led (leads_in nodes number) → slice_get table led ≡ Some (sig_of kind decls led)) → slice_get (put_body table number node.body) number ≡ Some (sig_of kind decls number)
  own_body table number node below size start at filled = one node.body refl
    where
      keeps : sig_of kind decls number ≡ sig_by (written kind names decls) (sig_of kind decls) number node
      keeps = sig_rule number node at

      agrees : (x : ℕ) → IsIn x (members_of node.body) → sig_at table x ≡ sig_of kind decls x
      agrees x is = ap sig_or_none (filled x (rw at (in_front x (members_of node.body) (handlers_of node.on_fail) is)))

      one : (body : Body) → node.body ≡ body → slice_get (put_body table number body) number ≡ Some (sig_of kind decls number)
      one (Concrete name) is =
          start ∙ written_at kind names (length names) decls number (omega (arith, below, many_nodes)) ∙ ap Some (sym (keeps ∙ (rw is refl)))
      one (Abstract cases) is =
          get_put table number (cases_sig (sig_at table) cases) (omega (arith, size, below))
          ∙ ap Some (cases_same (sig_at table) (sig_of kind decls) cases (λ x i. agrees x (rw is i)) ∙ sym (keeps ∙ (rw is refl)))

  puts : Puts (sig_of kind decls) nodes lines (put_node nodes)
  puts = record {
    many = λ table node. size table node.0 (slice_get nodes node.0);
    beside = λ table node other apart. beside table node.0 other apart (slice_get nodes node.0);
    own = λ table node below size_ start filled.
        let found = some_node nodes node.0 below in
        ap (λ (n : Option Node). slice_get (put_found table node.0 n) node.0) found.1 ∙ own_body table node.0 found.0 below size_ start found.1 filled;
  }
    where
      size_body : (table : List NodeSig) (number : ℕ) (body : Body) → length (put_body table number body) ≡ length table
      size_body table number (Concrete name) = refl
      size_body table number (Abstract cases) = length-set table number (cases_sig (sig_at table) cases)

      size : (table : List NodeSig) (number : ℕ) (found : Option Node) → length (put_found table number found) ≡ length table
      size table number None = refl
      size table number (Some node) = size_body table number node.body

      beside_body : (table : List NodeSig) (number other : ℕ) → (other ≡ number → ⊥) → (body : Body) → slice_get (put_body table number body) other ≡ slice_get table other
      beside_body table number other apart (Concrete name) = refl
      beside_body table number other apart (Abstract cases) = get_beside table number other (cases_sig (sig_at table) cases) apart

      beside : (table : List NodeSig) (number other : ℕ) → (other ≡ number → ⊥) → (found : Option Node) → slice_get (put_found table number found) other ≡ slice_get table other
      beside table number other apart None = refl
      beside table number other apart (Some node) = beside_body table number other apart node.body

  -- the filled table
  pub filled_sigs : AreSigs kind decls (fold (put_node nodes) lines order)
  filled_sigs = record {
    many = length-filled (sig_of kind decls) nodes lines (put_node nodes) puts order is_order many;
    each = slice_get-filled (sig_of kind decls) nodes lines (put_node nodes) puts order is_order many;
  }

-- ---- what a table says of every number

past_nested : (ls : ℕ → NodeSig) (ns : List Node) (depth number : ℕ) → slice_get ns number ≡ None → nested nothing (sig_by ls) ns depth number ≡ nothing
past_nested ls ns zero number none = refl
past_nested ls ns (suc depth) number none = ap (for_node nothing (sig_by ls (nested nothing (sig_by ls) ns depth) number)) none

sig_is : (kind : Kinds) (decls : List Decl) (sigs : List NodeSig) → AreSigs kind decls sigs → (number : ℕ) → sig_at sigs number ≡ sig_of kind decls number
sig_is kind decls sigs are number = one (ltb number (length (nodes_of decls))) refl
  where
    one : (t : Bool) → ltb number (length (nodes_of decls)) ≡ t → sig_at sigs number ≡ sig_of kind decls number
    one true e = ap sig_or_none (are.each number (grind (arith, nat_tests, e)))
    one false e =
        let past : length (nodes_of decls) ≤ number = grind (arith, nat_tests, e) in
        ap sig_or_none (slice_get_past sigs number (omega (arith, past, are.many)))
        ∙ sym (past_nested (written kind (names_of decls) decls) (nodes_of decls) (length (nodes_of decls)) number (slice_get_past (nodes_of decls) number past))

-- a table of signatures and the definition are the same at every number
pub sigs_same : (kind : Kinds) (decls : List Decl) (sigs : List NodeSig) → AreSigs kind decls sigs → sig_at sigs ≡ sig_of kind decls
sigs_same kind decls sigs are = λ i number. sig_is kind decls sigs are number i
