-- What can be printed and read back, which file is what a run printed, and which locks are in use.
use Rattle.std.specs.Prelude.{ℕ, pos, if◌then◌else◌, List, [], ◌∷◌, Option, Some, None, codes}
use Rattle.std.specs.Str.{bytes_eq}
use Rattle.flux_values.specs.declared.values.Value.TheVariants.{Int}
use Rattle.flux_values.specs.declared.answers.Put.{Put}
use Rattle.flux_values.specs.declared.answers.Answer.{Answer}
use Rattle.flux_values.specs.declared.answers.CallResult.TheVariants.{Good}
use Rattle.flux_table.specs.Tables.{AreInUse}
use Rattle.flux_commands.specs.Told.{Files}
use Rattle.flux_upheld.specs.Printable.{PutsValue, IsPrintable}
use Rattle.flux_headline.specs.Upheld.{IsKept}
use Rattle.flux_examples.specs.Small.{a}

-- ---- puts and emissions

-- a put of a number
abbrev pub put_of : ℕ → Put
put_of number = record { cell = codes "cell"; name = []; value = Some (Int (pos number)) }

-- an answer that emits one number as a byte
abbrev pub emitted : ℕ → Answer
emitted byte = record { result = Good []; puts = []; emits = byte ∷ [] }

-- the greatest number of 64 bits can be put, and the next one can't
abbrev pub GreatestNumberFits : Type 0
GreatestNumberFits = PutsValue (put_of 9223372036854775807)

abbrev pub NextNumberIsRefused : Type 0
NextNumberIsRefused = PutsValue (put_of 9223372036854775808) → ⊥

-- so can a value that goes
abbrev pub RemovalFits : Type 0
RemovalFits = PutsValue (record { cell = codes "cell"; name = []; value = None })

-- a byte can be emitted, and a number above 255 can't
abbrev pub ByteFits : Type 0
ByteFits = IsPrintable (emitted 255)

abbrev pub MoreThanAByteIsRefused : Type 0
MoreThanAByteIsRefused = IsPrintable (emitted 256) → ⊥

-- ---- files

-- a file `items` with this text, and other files that are empty
abbrev pub items_are : List ℕ → Files
items_are text = Some (λ name. if bytes_eq name (codes "items") then Some text else Some [])

-- a printed text is kept where the files are as they were
abbrev pub TextIsKept : Type 0
TextIsKept = IsKept (items_are (1 ∷ [])) (items_are (1 ∷ [])) (codes "file") (codes "items")
    (codes "journal") []

-- where the items have changed, it isn't
abbrev pub OtherItemsAreRefused : Type 0
OtherItemsAreRefused = IsKept (items_are (1 ∷ [])) (items_are (2 ∷ [])) (codes "file")
    (codes "items") (codes "journal") [] → ⊥

-- nor is another text
abbrev pub OtherTextIsRefused : Type 0
OtherTextIsRefused = IsKept (items_are []) (items_are []) (codes "file") (codes "items")
    (codes "journal") (1 ∷ []) → ⊥

-- ---- locks

-- a table without locks keeps none that nobody uses
abbrev pub NoLocksAreInUse : Type 0
NoLocksAreInUse = AreInUse []

-- a lock without holders and waiters is one that nobody uses
abbrev pub IdleLockIsRefused : Type 0
IdleLockIsRefused = AreInUse ((a, record { holders = []; line = [] }) ∷ []) → ⊥

-- ---- all

pub record Fits : Type 0 where
  pub number : GreatestNumberFits
  pub removal : RemovalFits
  pub byte : ByteFits
  pub text : TextIsKept
  pub locks : NoLocksAreInUse

pub record Refuses : Type 0 where
  pub number : NextNumberIsRefused
  pub byte : MoreThanAByteIsRefused
  pub items_ : OtherItemsAreRefused
  pub text : OtherTextIsRefused
  pub lock : IdleLockIsRefused
