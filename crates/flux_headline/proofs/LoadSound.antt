-- What the program of a load declares is sound for the library, with any documents.
use Rattle.std.proofs.Common.{◌≡◌, ◌<◌, ◌≤◌, ◌⊎◌, inl, inr, ℕ, zero, suc, ◌==◌, Bool, true, false, ◌||◌, List, [], ◌∷◌, length, None, refl, arith}
use Rattle.std.specs.List.{list_any}
use Rattle.std.proofs.lemmas.Bool.{or_left, eq-eqb}
use Rattle.flux_library.specs.Documents.{DocMap}
use Rattle.nodes_joined.specs.Joined.{joined}
use Rattle.nodes_all.specs.Alls.{all_meaning}
use Rattle.nodes_own.specs.Own.{own_meaning}
use Rattle.flux_model.specs.declared.programs.NodeNo.{NodeNo}
use Rattle.flux_model.specs.declared.programs.TheConstants.{COUNT_LIMIT}
use Rattle.flux_model.specs.Children.{IsIn}
use Rattle.flux_model.specs.Ordering.{IsOrder, HasCycle}
use Rattle.flux_model.specs.Locks.{Holds, AreLocks}
use Rattle.flux_syntax.specs.Counted.{words_of}
use Rattle.flux_syntax.specs.Least.{first_fault}
use Rattle.flux_syntax.specs.ProgramOfText.{program_of}
use Rattle.flux_names.specs.Rows.{rows}
use Rattle.flux_names.proofs.Numbers.{numbered}
use Rattle.flux_types.specs.Signatures.{nodes_of}
use Rattle.flux_graph.proofs.Ends.{no_cycle}
use Rattle.flux_laws.specs.Hoisted.{locks_of}
use Rattle.flux_laws.proofs.Locks.{locks_are_there}
use Rattle.flux_check.specs.Rows.{later_rows, size_rows}
use Rattle.flux_check.specs.Judgement.{AreSound}
use Rattle.flux_commands.specs.BuiltIn.{built_in}
use Rattle.flux_headline.specs.LoadDeclarations.{program_decls}

-- ---- an order of the nodes: `Load` and `Visit` are last

abbrev no : ℕ → NodeNo
no n = record { 0 = n }

abbrev order : List NodeNo
order = no 0 ∷ no 1 ∷ no 2 ∷ no 3 ∷ no 5 ∷ no 4 ∷ []

six : length (nodes_of program_decls) ≡ 6
six = refl

each : (number : ℕ) → number < length (nodes_of program_decls) → IsIn number order
each zero lt = inl refl
each (suc zero) lt = inr (inl refl)
each (suc (suc zero)) lt = inr (inr (inl refl))
each (suc (suc (suc zero))) lt = inr (inr (inr (inl refl)))
each (suc (suc (suc (suc zero)))) lt = inr (inr (inr (inr (inr (inl refl)))))
each (suc (suc (suc (suc (suc zero))))) lt = inr (inr (inr (inr (inl refl))))
each (suc (suc (suc (suc (suc (suc number)))))) lt = absurd (omega (arith, lt, six))

below : (number : ℕ) → number < 6 → number < length (nodes_of program_decls)
below number lt = omega (arith, lt, six)

-- whether a number is among nodes
abbrev finds : ℕ → List NodeNo → Bool
finds number nodes = list_any (λ node. number == node.0) nodes

-- a number that the test doesn't find isn't there
not_in : (number : ℕ) (nodes : List NodeNo) → finds number nodes ≡ false → IsIn number nodes → ⊥
not_in number [] none is = is
not_in number (node ∷ nodes) none (inl same) =
    let found : finds number (node ∷ nodes) ≡ true =
    or_left (number == node.0) (finds number nodes) (eq-eqb number node.0 same) in
    absurd cc
not_in number (node ∷ nodes) none (inr is) = rest (number == node.0) none (λ e. not_in number nodes e is)
  where
    rest : (own : Bool) → (own || finds number nodes) ≡ false → (finds number nodes ≡ false → ⊥) → ⊥
    rest true e later = absurd cc
    rest false e later = later e

visit_leads : (led : ℕ) → (led ≡ 3) ⊎ ⊥ → IsIn led (no 3 ∷ no 2 ∷ no 1 ∷ no 0 ∷ [])
visit_leads led (inl same) = inl same
visit_leads led (inr none) = absurd none

load_leads : (led : ℕ) → (led ≡ 1) ⊎ ((led ≡ 5) ⊎ ((led ≡ 2) ⊎ ⊥)) → IsIn led (no 5 ∷ no 3 ∷ no 2 ∷ no 1 ∷ no 0 ∷ [])
load_leads led (inl same) = inr (inr (inr (inl same)))
load_leads led (inr (inl same)) = inl same
load_leads led (inr (inr (inl same))) = inr (inr (inl same))
load_leads led (inr (inr (inr none))) = absurd none

is_order : IsOrder (nodes_of program_decls) order
is_order = record {
  each = each;
  after = (
    below 0 (omega arith),
    not_in 0 [] refl,
    (λ led is. absurd is),
    (
      below 1 (omega arith),
      not_in 1 (no 0 ∷ []) refl,
      (λ led is. absurd is),
      (
        below 2 (omega arith),
        not_in 2 (no 1 ∷ no 0 ∷ []) refl,
        (λ led is. absurd is),
        (
          below 3 (omega arith),
          not_in 3 (no 2 ∷ no 1 ∷ no 0 ∷ []) refl,
          (λ led is. absurd is),
          (
            below 5 (omega arith),
            not_in 5 (no 3 ∷ no 2 ∷ no 1 ∷ no 0 ∷ []) refl,
            visit_leads,
            (
              below 4 (omega arith),
              not_in 4 (no 5 ∷ no 3 ∷ no 2 ∷ no 1 ∷ no 0 ∷ []) refl,
              load_leads,
              tt,
            ),
          ),
        ),
      ),
    ),
  );
}

pub acyclic : HasCycle (nodes_of program_decls) → ⊥
acyclic = no_cycle (nodes_of program_decls) order is_order

-- ---- no row applies

few_words : words_of program_decls ≤ COUNT_LIMIT
few_words = let many : words_of program_decls ≡ 40 = refl in omega (arith, many)

-- the locks, which are counted out
abbrev pub load_locks : Holds
load_locks = locks_of (program_of program_decls)

module _ (docs : DocMap) where
  pub no_names_row : first_fault (rows (built_in docs) program_decls) ≡ None
  unfolding joined all_meaning own_meaning
  no_names_row = refl

  pub no_later_row : first_fault (later_rows (built_in docs) program_decls) ≡ None
  unfolding joined all_meaning own_meaning
  no_later_row = refl

  pub no_size_row : first_fault (size_rows load_locks program_decls) ≡ None
  no_size_row = refl

  pub are_locks : AreLocks (program_of program_decls) load_locks
  are_locks = let program_numbered = numbered (built_in docs) program_decls few_words no_names_row in
      locks_are_there (program_of program_decls) program_numbered acyclic

  abbrev pub program_sound : AreSound (built_in docs) program_decls
  program_sound = record {
    joined = record { ordered = record { named = no_names_row; acyclic = acyclic }; later = no_later_row };
    locks = load_locks;
    are_locks = are_locks;
    sized = no_size_row;
  }
