-- Documents by name.
use Rattle.std.specs.Prelude.{ℕ, ◌<◌, ◌≤◌, if◌then◌else◌, List, length, is_some, IfSome, All}
use Rattle.std.specs.Ordering.{nat_cmp}
use Rattle.std.specs.Cmp.Lexicographic.{slice_cmp}
use Rattle.std.specs.FinMap.{FinMap, get, insert}
use Rattle.flux_library.specs.declared.documents.TheConstants.{BODY_LIMIT}

-- a document's body: at most 1,048,576 bytes
abbrev pub IsBody : List ℕ → Type 0
IsBody body = All (λ byte. byte < 256) body × (length body ≤ BODY_LIMIT)

-- bodies by name, in bytewise order
abbrev pub Bodies : Type 0
Bodies = FinMap (slice_cmp nat_cmp) (List ℕ)

abbrev pub AreBodies : Bodies → Type 0
AreBodies named = (name : List ℕ) → IfSome (get named name) IsBody

-- documents: a finite map from names to bodies
pub record DocMap : Type 0 where
  pub named : Bodies
  pub bodies : AreBodies named

-- a document is added where there is none of its name
abbrev pub added : Bodies → List ℕ → List ℕ → Bodies
added named name body = if is_some (get named name) then named else insert named name body
