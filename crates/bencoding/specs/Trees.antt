-- Bencoded values, and the one spelling of each (BEP 3).
use Rattle.std.specs.Prelude.{◌≡◌, ◌⊎◌, ℕ, ◌-◌, ◌<◌, ◌≤◌, ℤ, List, [], ◌∷◌, ◌++◌, length, All, Option, Some, None, FitsSigned, codes, ⊤}
use Rattle.std.specs.Int.{w64}
use Rattle.std.specs.Fmt.{decimal, signed_decimal}
use Rattle.bencoding.specs.declared.values.TheConstants.{STRING_LIMIT}

-- a value is a number, a string, a list or a dictionary
mutual
  pub data Tree : Type 0 where
    number : ℤ → Tree
    string : List ℕ → Tree
    items : Trees → Tree
    dictionary : Fields → Tree

  pub data Trees : Type 0 where
    no_items : Trees
    item : Tree → Trees → Trees

  pub data Fields : Type 0 where
    no_fields : Fields
    field : List ℕ → Tree → Fields → Fields

-- ---- spellings

-- a string is its length, a colon and its bytes
abbrev pub spelled_string : List ℕ → List ℕ
spelled_string bytes = decimal (length bytes) ++ codes ":" ++ bytes

-- `i`, a decimal number and `e`; a string; `l`, items and `e`; `d`, keys with values and `e`
abbrev mutual
  pub spelling : Tree → List ℕ
  spelling (number z) = codes "i" ++ (signed_decimal z ++ codes "e")
  spelling (string bytes) = spelled_string bytes
  spelling (items ts) = codes "l" ++ (spelled_items ts ++ codes "e")
  spelling (dictionary fs) = codes "d" ++ (spelled_fields fs ++ codes "e")

  pub spelled_items : Trees → List ℕ
  spelled_items no_items = []
  spelled_items (item t ts) = spelling t ++ spelled_items ts

  pub spelled_fields : Fields → List ℕ
  spelled_fields no_fields = []
  spelled_fields (field key t fs) = spelled_string key ++ (spelling t ++ spelled_fields fs)

-- ---- which values there are

-- bytes, at most 65,536 of them
abbrev pub IsString : List ℕ → Type 0
IsString bytes = All (λ byte. byte < 256) bytes × (length bytes ≤ STRING_LIMIT)

-- the second of two keys is above the first, bytewise: it goes on from it, or has a greater
-- byte at the first place where they differ
abbrev pub IsAbove : List ℕ → List ℕ → Type 0
IsAbove [] [] = ⊥
IsAbove [] (b ∷ key) = ⊤
IsAbove (a ∷ before) [] = ⊥
IsAbove (a ∷ before) (b ∷ key) = (a < b) ⊎ ((a ≡ b) × IsAbove before key)

-- a key that may come after another, or be the first
abbrev pub IsKey : Option (List ℕ) → List ℕ → Type 0
IsKey None key = IsString key
IsKey (Some before) key = IsString key × IsAbove before key

-- values with at most so many lists and dictionaries in one another: a number has 64 bits, and keys
-- rise strictly
abbrev mutual
  pub IsTree : ℕ → Tree → Type 0
  IsTree depth (number z) = FitsSigned w64 z
  IsTree depth (string bytes) = IsString bytes
  IsTree depth (items ts) = (0 < depth) × AreItems (depth - 1) ts
  IsTree depth (dictionary fs) = (0 < depth) × AreFields (depth - 1) None fs

  pub AreItems : ℕ → Trees → Type 0
  AreItems depth no_items = ⊤
  AreItems depth (item t ts) = IsTree depth t × AreItems depth ts

  pub AreFields : ℕ → Option (List ℕ) → Fields → Type 0
  AreFields depth before no_fields = ⊤
  AreFields depth before (field key t fs) =
      IsKey before key × IsTree depth t × AreFields depth (Some key) fs
