-- Steps of reading: the documents so far.
use Rattle.std.specs.Prelude.{◌≡◌, ℕ, List, ◌++◌, length, Option, Some, IsNone, Result, Ok, Err, ⊤}
use Rattle.flux_library.specs.Documents.{Bodies, DocMap}
use Rattle.flux_outside.specs.declared.memory.FileBytes.{FileBytes}
use Rattle.flux_docs.specs.declared.faults.DocsFault.{DocsFault}
use Rattle.flux_docs.specs.declared.faults.DocsFault.TheVariants.{Failed, Missing, TooLong, Memory}
use Rattle.flux_docs.specs.Documents.{AreWithin, HasFirst, total_size}
use Rattle.flux_docs.specs.Folders.{AreDocsOf, IsPast}

-- so many documents were read, of so many bytes, and the rest is left
pub record AreSoFar (docs : List FileBytes) (left : Option (List FileBytes)) (named : Bodies)
    (count size : ℕ) : Type 0 where
  pub done : List FileBytes
  pub rest : List FileBytes
  pub are : docs ≡ done ++ rest
  pub left_ : left ≡ Some rest
  pub within : AreWithin done
  pub first : HasFirst named done
  pub count_ : count ≡ length done
  pub size_ : size ≡ total_size done

-- what is read of a folder, if there is one
abbrev pub AreRead : Option (List FileBytes) → Result DocMap DocsFault → Type 0
AreRead found (Ok docs) = AreDocsOf found docs
AreRead found (Err Missing) = IsNone found
AreRead found (Err TooLong) = IsPast found
AreRead found (Err Failed) = ⊤
AreRead found (Err Memory) = ⊤
