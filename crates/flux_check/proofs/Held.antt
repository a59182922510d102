-- Cells that are protected, by the modes that were seen and by the constraints of a node.
use Rattle.std.proofs.Common.{◌≡◌, ℕ, ◌||◌, ◌&&◌, Bool, true, false, not, if◌then◌else◌, List, [], ◌∷◌, ◌++◌, map, Option, Some, None, refl, sym, ap, ◌∙◌}
use Rattle.std.specs.Bool.{beq}
use Rattle.std.specs.List.{list_any, list_all, flat_map}
use Rattle.std.specs.Str.{bytes_eq}
use Rattle.std.proofs.lemmas.List.Folds.{list_any-append}
use Rattle.std.proofs.Math.Bool.{or_assoc, and-false, or-false}
use Rattle.flux_syntax.proofs.Found.{any_same}
use Rattle.flux_values.specs.declared.answers.Mode.{Mode}
use Rattle.flux_values.specs.declared.answers.Mode.TheVariants.{Reader, Writer}
use Rattle.flux_values.specs.declared.meanings.Sig.{Sig}
use Rattle.flux_values.specs.declared.meanings.CellUse.{CellUse}
use Rattle.flux_values.specs.Meanings.{LibraryMeaning}
use Rattle.flux_model.specs.Modes.{at_least}
use Rattle.flux_syntax.specs.declared.declarations.Word.{Word}
use Rattle.flux_syntax.specs.declared.declarations.Constraint.{Constraint}
use Rattle.flux_syntax.specs.declared.declarations.Decl.{Decl}
use Rattle.flux_syntax.specs.declared.declarations.Decl.TheVariants.{Signature, Atomic}
use Rattle.flux_syntax.specs.ProgramOfText.{constraints_on}
use Rattle.flux_names.specs.Rows.{word_if, library_node}
use Rattle.flux_names.proofs.Symbols.{bytes_same, flat_map_same}
use Rattle.flux_check.specs.Rows.{ConstraintOn, constraints_in, protects, are_protected, unprotected_in, unprotected}
use Rattle.flux_check.specs.steps.Seen.{Flags, has_flag, is_writer, and_mode, and_modes, is_held, are_held, unheld_in}
use Rattle.flux_check.proofs.Flagged.{has_more}

-- ---- modes as they were seen

abbrev flagged : List ConstraintOn → List ℕ → List ℕ → Bool → Bool
flagged ons node name flag = list_any (λ (b : ConstraintOn). let c = b.constraint in bytes_eq node b.node.text && bytes_eq name c.name.text && beq flag (is_writer c.mode)) ons

modes_from : (seen : Flags) (ons : List ConstraintOn) (node name : List ℕ) (flag : Bool) → has_flag (and_modes seen ons) node name flag ≡ (has_flag seen node name flag || flagged ons node name flag)
modes_from seen [] node name flag = sym (or-false (has_flag seen node name flag))
modes_from seen (own ∷ ons) node name flag =
    let mine = own.constraint in
    let new : Bool = bytes_eq node own.node.text && bytes_eq name mine.name.text && beq flag (is_writer mine.mode) in
    modes_from (and_mode seen own) ons node name flag
    ∙ ap (λ (b : Bool). b || flagged ons node name flag) (has_more seen own.node.text mine.name.text (is_writer mine.mode) node name flag)
    ∙ or_assoc (has_flag seen node name flag) new (flagged ons node name flag)

pub modes_append : (seen : Flags) (first second : List ConstraintOn) → and_modes seen (first ++ second) ≡ and_modes (and_modes seen first) second
modes_append seen [] second = refl
modes_append seen (own ∷ first) second = modes_append (and_mode seen own) first second

-- ---- one cell

-- on a node, the constraint protects the cell
abbrev protects_on : List ℕ → CellUse → ConstraintOn → Bool
protects_on node cell b = bytes_eq b.node.text node && protects cell b.constraint

abbrev is_mode : List ℕ → CellUse → Bool → ConstraintOn → Bool
is_mode node cell flag b = let c = b.constraint in bytes_eq node b.node.text && bytes_eq cell.name c.name.text && beq flag (is_writer c.mode)

by_modes : (p q : Bool) (use_ mode : Mode) → (p && (q && at_least mode use_)) ≡ ((p && q && beq true (is_writer mode)) || (not (is_writer use_) && (p && q && beq false (is_writer mode))))
by_modes true true Writer Writer = refl
by_modes true true Writer Reader = refl
by_modes true true Reader Writer = refl
by_modes true true Reader Reader = refl
by_modes true false Writer mode = refl
by_modes true false Reader mode = refl
by_modes false q Writer mode = refl
by_modes false q Reader mode = refl

protects_by_modes : (node : List ℕ) (cell : CellUse) (b : ConstraintOn) → protects_on node cell b ≡ (is_mode node cell true b || (not (is_writer cell.mode) && is_mode node cell false b))
protects_by_modes node cell b =
    let c = b.constraint in
    ap (λ (t : Bool). t && (bytes_eq c.name.text cell.name && at_least c.mode cell.mode)) (bytes_same.symm b.node.text node)
    ∙ ap (λ (t : Bool). bytes_eq node b.node.text && (t && at_least c.mode cell.mode)) (bytes_same.symm c.name.text cell.name)
    ∙ by_modes (bytes_eq node b.node.text) (bytes_eq cell.name c.name.text) cell.mode c.mode

or_and : (a b k x y : Bool) → ((a || (k && b)) || (x || (k && y))) ≡ ((a || x) || (k && (b || y)))
or_and true b k x y = refl
or_and false true true true y = refl
or_and false true true false y = refl
or_and false true false true y = refl
or_and false true false false y = refl
or_and false false true true y = refl
or_and false false true false y = refl
or_and false false false true y = refl
or_and false false false false y = refl

split : {X : Type 0} (p q : X → Bool) (k : Bool) (xs : List X) → list_any (λ x. p x || (k && q x)) xs ≡ (list_any p xs || (k && list_any q xs))
split p q k [] = sym (and-false k)
split p q k (x ∷ xs) = ap (λ (b : Bool). (p x || (k && q x)) || b) (split p q k xs) ∙ or_and (p x) (q x) k (list_any p xs) (list_any q xs)

-- the constraints of a node among those of all
own_line : (node : List ℕ) (p : Constraint → Bool) (own : Word) (cs : List Constraint) (t : Bool) → bytes_eq own.text node ≡ t
    → list_any p (if t then cs else []) ≡ list_any (λ (b : ConstraintOn). bytes_eq b.node.text node && p b.constraint) (map (λ c. record { node = own; constraint = c }) cs)
own_line node p own [] true e = refl
own_line node p own [] false e = refl
own_line node p own (c ∷ cs) true e = rw e (ap (λ (b : Bool). p c || b) (own_line node p own cs true e))
own_line node p own (c ∷ cs) false e = rw e (own_line node p own cs false e)

any_on : (node : List ℕ) (p : Constraint → Bool) (decls : List Decl) → list_any p (flat_map (constraints_on node) decls) ≡ list_any (λ (b : ConstraintOn). bytes_eq b.node.text node && p b.constraint) (flat_map constraints_in decls)
any_on node p [] = refl
any_on node p (Atomic own cs ∷ decls) =
    list_any-append p (constraints_on node (Atomic own cs)) (flat_map (constraints_on node) decls)
    ∙ ap (λ (b : Bool). b || list_any p (flat_map (constraints_on node) decls)) (own_line node p own cs (bytes_eq own.text node) refl)
    ∙ ap (λ (b : Bool). list_any (λ (b : ConstraintOn). bytes_eq b.node.text node && p b.constraint) (constraints_in (Atomic own cs)) || b) (any_on node p decls)
    ∙ sym (list_any-append (λ (b : ConstraintOn). bytes_eq b.node.text node && p b.constraint) (constraints_in (Atomic own cs)) (flat_map constraints_in decls))
any_on node p (other ∷ decls) = any_on node p decls

module _ (meaning : LibraryMeaning) (all : List Decl) where
  abbrev ons : List ConstraintOn
  ons = flat_map constraints_in all

  abbrev seen : Flags
  seen = and_modes [] ons

  held_is : (node : List ℕ) (cell : CellUse) → is_held seen node cell ≡ list_any (protects cell) (flat_map (constraints_on node) all)
  held_is node cell =
      ap (λ (b : Bool). b || (not (is_writer cell.mode) && has_flag seen node cell.name false)) (modes_from [] ons node cell.name true)
      ∙ ap (λ (b : Bool). flagged ons node cell.name true || (not (is_writer cell.mode) && b)) (modes_from [] ons node cell.name false)
      ∙ sym (split (is_mode node cell true) (is_mode node cell false) (not (is_writer cell.mode)) ons)
      ∙ sym (any_same (protects_on node cell) (λ b. is_mode node cell true b || (not (is_writer cell.mode) && is_mode node cell false b)) (protects_by_modes node cell) ons)
      ∙ sym (any_on node (protects cell) all)

  all_same : (p q : CellUse → Bool) → ((c : CellUse) → p c ≡ q c) → (cells : List CellUse) → list_all p cells ≡ list_all q cells
  all_same p q same [] = refl
  all_same p q same (c ∷ cells) = ap (λ (b : Bool). b && list_all p cells) (same c) ∙ ap (λ (b : Bool). q c && b) (all_same p q same cells)

  are_held_is : (node : List ℕ) (sig : Option Sig) → are_held seen node sig ≡ are_protected (flat_map (constraints_on node) all) sig
  are_held_is node None = refl
  are_held_is node (Some sig) = all_same (is_held seen node) (λ cell. list_any (protects cell) (flat_map (constraints_on node) all)) (held_is node) sig.cells

  unheld_is : (d : Decl) → unheld_in meaning seen d ≡ unprotected_in meaning all d
  unheld_is (Signature name ins outs) = ap (λ (b : Bool). word_if (not b) name) (are_held_is name.text (library_node meaning name.text))
  unheld_is other = refl

  -- the signatures whose cells aren't protected by the modes that were seen are those of the row
  pub unheld_are : flat_map (unheld_in meaning seen) all ≡ unprotected meaning all
  unheld_are = flat_map_same (unheld_in meaning seen) (unprotected_in meaning all) unheld_is all
