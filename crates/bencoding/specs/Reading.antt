-- Which value is at the front of bytes, and where there is none.
use Rattle.std.specs.Prelude.{◌≡◌, ℕ, ◌+◌, ◌<◌, ◌≤◌, List, ◌++◌, length, take, Result, Ok, Err, ⊤}
use Rattle.bencoding.specs.Trees.{Tree, spelling, IsTree}
use Rattle.bencoding.specs.Views.{tree_of}
use Rattle.bencoding.specs.declared.values.Ben.{Ben}
use Rattle.bencoding.specs.declared.values.BenFault.{BenFault}
use Rattle.bencoding.specs.declared.values.BenFault.TheVariants as faults
use Rattle.bencoding.specs.declared.values.TheConstants.{DEPTH_LIMIT}

-- a value's spelling begins the bytes, and is so many bytes long
pub record BeginsWith (depth : ℕ) (bytes : List ℕ) (t : Tree) (n : ℕ) : Type 0 where
  pub is_tree : IsTree depth t
  pub rest : List ℕ
  pub front : bytes ≡ spelling t ++ rest
  pub long : n ≡ length (spelling t)

-- some value's spelling begins with these bytes
pub record CanGoOn (depth : ℕ) (bytes : List ℕ) : Type 0 where
  pub value : Tree
  pub is_tree : IsTree depth value
  pub more : List ℕ
  pub spelled : bytes ++ more ≡ spelling value

-- no value's spelling begins the bytes; some begins with the bytes before this place, and none with
-- those up to and with it, unless the bytes end there
pub record IsBadBen (depth : ℕ) (bytes : List ℕ) (at : ℕ) : Type 0 where
  pub no_value : (t : Tree) (n : ℕ) → BeginsWith depth bytes t n → ⊥
  pub within : at ≤ length bytes
  pub before : CanGoOn depth (take at bytes)
  pub after : at < length bytes → CanGoOn depth (take (at + 1) bytes) → ⊥

-- ---- answers

-- an answer has its cause
abbrev pub HasCause : Result (Ben × ℕ) BenFault → List ℕ → Type 0
HasCause (Ok read) bytes = BeginsWith DEPTH_LIMIT bytes (tree_of read.0) read.1
HasCause (Err (faults.BadBen at)) bytes = IsBadBen DEPTH_LIMIT bytes at
HasCause (Err faults.Memory) bytes = ⊤

-- this value was read with this length, or memory was short
abbrev pub IsRead : Tree → ℕ → Result (Ben × ℕ) BenFault → Type 0
IsRead t n (Ok read) = (tree_of read.0 ≡ t) × (read.1 ≡ n)
IsRead t n (Err (faults.BadBen at)) = ⊥
IsRead t n (Err faults.Memory) = ⊤

-- the bytes were refused at this place, or memory was short
abbrev pub IsRefused : ℕ → Result (Ben × ℕ) BenFault → Type 0
IsRefused at (Ok read) = ⊥
IsRefused at (Err (faults.BadBen place)) = place ≡ at
IsRefused at (Err faults.Memory) = ⊤
