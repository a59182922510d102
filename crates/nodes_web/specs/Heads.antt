-- The request head at the front of a text.
use Rattle.std.specs.Prelude.{ℕ, ◌≤◌, List, length}
use Rattle.httparse.specs.Grammar.{RequestHead, ReadsRequest}
use Rattle.nodes_web.specs.declared.requests.TheConstants.{FIELD_LIMIT}

-- the text begins with a request head of the grammar that `httparse` accepts (RFC 9112, sections 2
-- to 5), which has at most 64 fields
pub record IsHeadOf (text : List ℕ) (head : RequestHead) : Type 0 where
  pub rest : List ℕ
  pub reads : ReadsRequest text head rest
  pub few : length head.fields ≤ FIELD_LIMIT

-- a text has such a head, or it has none
pub data Front (text : List ℕ) : Type 0 where
  headed : (head : RequestHead) → IsHeadOf text head → Front text
  headless : ((head : RequestHead) → ¬ (IsHeadOf text head)) → Front text
