-- The documents of a folder: which ones are within the limits, and which body is under a name.
use Rattle.std.specs.Prelude.{◌≡◌, ℕ, ◌≤◌, List, length, sum_by}
use Rattle.std.specs.List.{AllByRecursion}
use Rattle.std.specs.FinMap.{get}
use Rattle.flux_library.specs.declared.documents.TheConstants.{BODY_LIMIT}
use Rattle.flux_library.specs.Documents.{Bodies}
use Rattle.flux_outside.specs.declared.memory.FileBytes.{FileBytes}
use Rattle.flux_outside.specs.Memory.{first_of}
use Rattle.flux_docs.specs.declared.reading.TheConstants.{DOC_LIMIT, BODIES_LIMIT}

-- a document's body has at most 1,048,576 bytes
abbrev pub IsShort : FileBytes → Type 0
IsShort doc = length doc.body ≤ BODY_LIMIT

-- the bytes of all bodies
abbrev pub total_size : List FileBytes → ℕ
total_size docs = sum_by (λ doc. length doc.body) docs

-- every body is within its limit, there are at most 4,096 documents, and their bodies have at most
-- 67,108,864 bytes together; documents of one name count each
pub record AreWithin (docs : List FileBytes) : Type 0 where
  pub each : AllByRecursion IsShort docs
  pub few : length docs ≤ DOC_LIMIT
  pub small : total_size docs ≤ BODIES_LIMIT

-- under each name is the body of its first document
abbrev pub HasFirst : Bodies → List FileBytes → Type 0
HasFirst named docs = (name : List ℕ) → get named name ≡ first_of docs name
