-- The nodes: their signatures, and what they answer.
use Rattle.std.specs.Prelude.{ℕ, List, [], Option, None}
use Rattle.flux_values.specs.declared.values.Value.{Value}
use Rattle.flux_values.specs.declared.answers.Answer.{Answer}
use Rattle.flux_values.specs.declared.meanings.Sig.{Sig}
use Rattle.flux_values.specs.Cells.{CellMap}
use Rattle.flux_library.specs.Answers.{ok}

-- Write here what each node means, as
--     abbrev pub double_sig : Sig
--     double_sig = plain_sig (Int ∷ []) (Int ∷ []) []
-- and
--     abbrev pub double_call : List Value → List CellMap → Answer
--     double_call args cells = ..
-- and put both below, in the order of `src/nodes.rt`.

-- the signature of the node that has this name:
--     if bytes_eq name (codes "Double") then Some double_sig else None
abbrev pub sig_named : List ℕ → Option Sig
sig_named name = None

-- the answer of the node that has this name:
--     if bytes_eq name (codes "Double") then double_call else nothing
abbrev pub answer_named : List ℕ → List Value → List CellMap → Answer
answer_named name = λ args cells. ok []
