-- What a library of nodes means.
use Rattle.std.specs.Prelude.{ℕ, Bool, List, Option}
use Rattle.flux_values.specs.declared.values.Kind.{Kind}
use Rattle.flux_values.specs.declared.values.Value.{Value}
use Rattle.flux_values.specs.declared.answers.Answer.{Answer}
use Rattle.flux_values.specs.declared.meanings.Sig.{Sig}
use Rattle.flux_values.specs.Cells.{CellMap}

-- by names: the kind that a type spells, a node's signature, what a predicate takes, what a
-- session function takes; a node's answer on values and cells; whether a predicate holds; a
-- session's number
pub record LibraryMeaning : Type 0 where
  pub kind : List ℕ → Option Kind
  pub node : List ℕ → Option Sig
  pub predicate : List ℕ → Option Kind
  pub session : List ℕ → Option (List Kind)
  pub call : List ℕ → List Value → List CellMap → Answer
  pub test : List ℕ → Value → Bool
  pub id : List ℕ → List Value → ℕ
