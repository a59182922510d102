-- Pieces of the report: how they are put together, and what is said of a class that a node holds.
use Rattle.std.proofs.Common.{◌≡◌, ◌+◌, ◌<◌, ℕ, zero, suc, true, inl, inr, List, [], ◌∷◌, ◌++◌, length, get_or, take, slice_get, Option, Some, None, refl, sym, ap, subst, ◌∙◌, arith, codes, append_assoc}
use Rattle.std.specs.List.{flat_map, range_with_len}
use Rattle.std.proofs.lemmas.Grind.{flat_map-append}
use Rattle.std.proofs.lemmas.List.{take_more, append-nil}
use Rattle.std.proofs.lemmas.Option.{slice_get-get_or}
use Rattle.flux_values.specs.declared.answers.Mode.{Mode}
use Rattle.flux_values.specs.declared.answers.Mode.TheVariants.{Reader, Writer}
use Rattle.flux_model.specs.declared.programs.Hold.{Hold}
use Rattle.flux_model.specs.declared.programs.Node.{Node}
use Rattle.flux_model.specs.declared.programs.NodeNo.{NodeNo}
use Rattle.flux_model.specs.declared.programs.Program.{Program}
use Rattle.flux_model.specs.Modes.{at_least}
use Rattle.flux_model.specs.Leading.{members_of}
use Rattle.flux_model.specs.Locks.{declared, HasClass, HasAtLeast, IsGreatest, DeclaresHere}
use Rattle.flux_model.specs.Texts.{name_in, node_name}
use Rattle.flux_hoist.specs.Printed.{printed_hold}
use Rattle.flux_hoist.specs.Reports.{IsCause, IsLine, line_of, IsSaid, ArePieces}
use Rattle.flux_hoist.specs.steps.Appending.{HasGained}
use Rattle.flux_hoist.specs.steps.Lowest.{lowest_among, IsLowest, AreLowest, IsCausal}
use Rattle.flux_constraints.proofs.Joins.{has_itself}
use Rattle.flux_hoist.proofs.Declared.{lowest_below}

-- ---- pieces in a row

pub pieces_more : {X : Type 0} (Is : X → List ℕ → Type 0) (xs : List X) (x : X) (text piece : List ℕ) → ArePieces Is xs text → Is x piece → ArePieces Is (xs ++ x ∷ []) (text ++ piece)
pieces_more Is [] x text piece none is = (piece, [], is, refl, ap (λ (t : List ℕ). t ++ piece) none ∙ sym (append-nil piece))
pieces_more Is (y ∷ xs) x text piece (first, rest, own, others, same) is =
    (first, rest ++ piece, own, pieces_more Is xs x rest piece others is, ap (λ (t : List ℕ). t ++ piece) same ∙ append_assoc first rest piece)

pub gained_none : {X : Type 0} (Is : X → List ℕ → Type 0) (text : List ℕ) → HasGained (ArePieces Is []) text text
gained_none Is text = record { piece = []; is = refl; added = sym (append-nil text) }

pub gained_more : {X : Type 0} (Is : X → List ℕ → Type 0) (xs : List X) (i : ℕ) (d : X) (before mid after : List ℕ) → i < length xs
    → HasGained (ArePieces Is (take i xs)) before mid → HasGained (Is (get_or xs i d)) mid after → HasGained (ArePieces Is (take (i + 1) xs)) before after
gained_more Is xs i d before mid after lt first then = record {
  piece = first.piece ++ then.piece;
  is = subst (λ (front : List _). ArePieces Is front (first.piece ++ then.piece)) (sym (take_more xs i d lt)) (pieces_more Is (take i xs) (get_or xs i d) first.piece then.piece first.is then.is);
  added = then.added ∙ ap (λ (t : List ℕ). t ++ then.piece) first.added ∙ append_assoc before first.piece then.piece;
}

range_more : (a n : ℕ) → range_with_len a (n + 1) ≡ range_with_len a n ++ (a + n) ∷ []
range_more a zero = ap (λ (m : ℕ). m ∷ []) (let same : a ≡ a + 0 = omega arith in same)
range_more a (suc n) =
    ap (range_with_len a) (let next : suc n + 1 ≡ suc (n + 1) = omega arith in next)
    ∙ ap (λ (ns : List ℕ). a ∷ ns) (range_more (a + 1) n)
    ∙ ap (λ (m : ℕ). a ∷ range_with_len (a + 1) n ++ m ∷ []) (let same : a + 1 + n ≡ a + suc n = omega arith in same)

-- a text that goes on with what a function gives for each number from 0 on
pub numbered_more : (f : ℕ → List ℕ) (n : ℕ) (start text after : List ℕ) → text ≡ start ++ flat_map f (range_with_len 0 n) → after ≡ text ++ f n → after ≡ start ++ flat_map f (range_with_len 0 (n + 1))
numbered_more f n start text after so_far more =
    more ∙ ap (λ (t : List ℕ). t ++ f n) so_far ∙ append_assoc start (flat_map f (range_with_len 0 n)) (f n) ∙ ap (λ (t : List ℕ). start ++ t) (sym parts)
  where
    parts : flat_map f (range_with_len 0 (n + 1)) ≡ flat_map f (range_with_len 0 n) ++ f n
    parts =
        ap (flat_map f) (range_more 0 n) ∙ flat_map-append f (range_with_len 0 n) ((0 + n) ∷ [])
        ∙ ap (λ (t : List ℕ). flat_map f (range_with_len 0 n) ++ t) (append-nil (f (0 + n)) ∙ ap f (omega arith))

-- for each number from 0 on
pub pieces_on : (Is : ℕ → List ℕ → Type 0) (n : ℕ) (text after : List ℕ) → ArePieces Is (range_with_len 0 n) text → HasGained (Is n) text after → ArePieces Is (range_with_len 0 (n + 1)) after
pieces_on Is n text after pieces gained =
    subst (λ (t : List ℕ). ArePieces Is (range_with_len 0 (n + 1)) t) (sym gained.added)
    (subst (λ (numbers : List ℕ). ArePieces Is numbers (text ++ gained.piece)) (sym (range_more 0 n ∙ ap (λ (m : ℕ). range_with_len 0 n ++ m ∷ []) (omega arith)))
    (pieces_more Is (range_with_len 0 n) n text gained.piece pieces gained.is))

-- ---- what is said of a class that a node holds

-- the node of a number, as it is read
read_node : (p : Program) (number : ℕ) (nodes : List Node) (node : Node) → nodes ≡ p.nodes → number < length p.nodes → node ≡ get_or nodes number node → slice_get p.nodes number ≡ Some node
read_node p number nodes node same lt read =
    slice_get-get_or p.nodes number node lt ∙ ap Some (sym (read ∙ ap (λ (ns : List Node). get_or ns number node) same))

module _ (p : Program) (number : ℕ) (hold : Hold) where
  pub kept_said : (text : List ℕ) → HasAtLeast (declared p number) hold → HasGained (IsSaid p number hold) text text
  kept_said text kept = record { piece = []; is = inl (kept, refl); added = sym (append-nil text) }

  module _ (nodes : List Node) (node : Node) (same : nodes ≡ p.nodes) (within : number < length p.nodes) (read : node ≡ get_or nodes number node) where
    -- the lowest in a table is the lowest below
    pub found_lowest : (table : List (Option NodeNo)) (found : Option NodeNo) → AreLowest p.nodes hold table → found ≡ lowest_among table None (members_of node.body) → IsLowest (IsCausal p number hold) found
    found_lowest table found lowest is =
        subst (IsLowest (IsCausal p number hold)) (sym is) (lowest_below p number node hold table (read_node p number nodes node same within read) lowest)

    -- a line begins with the node's own name
    pub line_here : (word : List ℕ) (cause : NodeNo) → node.name ++ word ++ printed_hold p hold ++ codes " for " ++ node_name p cause ++ codes "\n" ≡ line_of p number word hold cause
    line_here word cause =
        ap (λ (found : Option Node). name_in found ++ word ++ printed_hold p hold ++ codes " for " ++ node_name p cause ++ codes "\n") (sym (read_node p number nodes node same within read))

  any_reads : (mode : Mode) → at_least mode Reader ≡ true
  any_reads Reader = refl
  any_reads Writer = refl

  -- a class that is declared at all is declared as a reader at least
  has_read : HasClass (declared p number) hold.class → HasAtLeast (declared p number) (record { class = hold.class; mode = Reader })
  has_read (mode, has) = record { mode = mode; has = has; enough = any_reads mode }

  module _ (held : IsGreatest p number hold) (new : HasAtLeast (declared p number) hold → ⊥) where
    -- some node below declares it
    pub some_cause : (found : Option NodeNo) → IsLowest (IsCausal p number hold) found → found ≡ None → ⊥
    some_cause found lowest none = on held.declares
      where
        never : (n : ℕ) → IsCausal p number hold n → ⊥
        never = subst (IsLowest (IsCausal p number hold)) none lowest

        on : DeclaresHere p number hold → ⊥
        on (inl own) = new (has_itself (declared p number) hold own)
        on (inr (other, below, declares)) = never other (below, has_itself (declared p other) hold declares)

    cause_is : (cause : NodeNo) → IsLowest (IsCausal p number hold) (Some cause) → IsCause p number hold cause
    cause_is cause lowest = record { below = lowest.0.0; declares = lowest.0.1; lowest = λ other below declares. lowest.1 other (below, declares) }

    line_is : (word : List ℕ) (cause : NodeNo) (text : List ℕ) → IsLowest (IsCausal p number hold) (Some cause) → text ≡ line_of p number word hold cause → IsLine p number word hold text
    line_is word cause text lowest same = record { cause = cause; is = cause_is cause lowest; text_ = same }

    pub raised_said : (cause : NodeNo) (before after : List ℕ) → IsLowest (IsCausal p number hold) (Some cause) → HasAtLeast (declared p number) (record { class = hold.class; mode = Reader })
        → after ≡ before ++ line_of p number (codes " raises ") hold cause → HasGained (IsSaid p number hold) before after
    raised_said cause before after lowest read same = record {
      piece = line_of p number (codes " raises ") hold cause;
      is = inr (inr (((read.mode, read.has), new), line_is (codes " raises ") cause _ lowest refl));
      added = same;
    }

    pub added_said : (cause : NodeNo) (before after : List ℕ) → IsLowest (IsCausal p number hold) (Some cause) → (HasAtLeast (declared p number) (record { class = hold.class; mode = Reader }) → ⊥)
        → after ≡ before ++ line_of p number (codes " adds ") hold cause → HasGained (IsSaid p number hold) before after
    added_said cause before after lowest unread same = record {
      piece = line_of p number (codes " adds ") hold cause;
      is = inr (inl (λ has. unread (has_read has), line_is (codes " adds ") cause _ lowest refl));
      added = same;
    }
