-- Steps of the reader: when replies are written.
use Rattle.std.specs.Prelude.{ℕ, List, Option, Some, None}
use Rattle.flux_cli.specs.declared.replies.Replying.{Replying}
use Rattle.flux_cli.specs.Replies.{IsReplying}

-- what was read of the values of both options, or that they say nothing
abbrev pub IsReplyingRead : List (List ℕ) → List (List ℕ) → Option Replying → Type 0
IsReplyingRead runtimes at_once (Some replying) = IsReplying runtimes at_once replying
IsReplyingRead runtimes at_once None = (replying : Replying) → IsReplying runtimes at_once replying → ⊥
