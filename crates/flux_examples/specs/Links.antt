-- What links send.
use Rattle.std.specs.Prelude.{◌≡◌, ℕ, List, [], ◌∷◌, ◌++◌, codes, Some}
use Rattle.flux_doors.specs.declared.framing.Framing.TheVariants.{Head, Line}
use Rattle.flux_batches.specs.declared.reading.Sent.TheVariants.{Text, Failed, Memory}
use Rattle.flux_doors.specs.Texts.{text_of}
use Rattle.flux_doors.specs.Seen.{SeenLink}
use Rattle.flux_batches.specs.Links.{HadNotEnded, IsReadNoFurther, IsSent, WereRead}
use Rattle.flux_batches.specs.Links.{link_item, items_from}
use Rattle.flux_examples.specs.SmallServing.{link, link_of, told, itself, read}

-- CR LF
abbrev pub crlf : List ℕ
crlf = 13 ∷ 10 ∷ []

-- a link that has bytes to read
abbrev pub fresh : List ℕ → SeenLink
fresh bytes = link bytes [] 0

-- one that has none left
abbrev pub spent : List ℕ → SeenLink
spent bytes = told bytes []

-- a line, and a byte after it
abbrev pub more_than_a_line : List ℕ
more_than_a_line = codes "a" ++ 10 ∷ codes "b"

-- a link that had these bytes: its line was read, and then, by one more read, the byte after it
abbrev pub read_on : SeenLink
read_on = link_of more_than_a_line [] (codes "b") [] 0

pub record LinksFit : Type 0 where
  -- a line goes up to its end, which it loses, or is all that comes
  pub line : text_of Line (codes "add 5" ++ crlf ++ codes "get") ≡ codes "add 5"
  pub rest : text_of Line (codes "get") ≡ codes "get"
  -- a head goes up to its empty line, which it keeps
  pub head : text_of Head (codes "GET" ++ crlf ++ crlf ++ codes "x") ≡ codes "GET" ++ crlf ++ crlf
  -- before its LF was read, a line hadn't ended; one read may give the line and a byte after it
  pub unended : HadNotEnded Line (Some more_than_a_line) (Some (10 ∷ codes "b"))
  pub no_further : IsReadNoFurther Line (fresh more_than_a_line) (spent more_than_a_line)
  -- a link was read; or it failed, and its count rose; or memory was short, and its count is as
  -- before
  pub sent : IsSent Line (fresh (codes "a")) (spent (codes "a")) (Text (codes "a"))
  pub failed : IsSent Line (fresh (codes "a")) (link (codes "a") [] 1) Failed
  pub short : IsSent Line (fresh (codes "a")) (spent (codes "a")) Memory
  -- of two links the first was read, and the other is left
  pub read_ : WereRead itself Line (fresh (codes "a") ∷ fresh (codes "b") ∷ [])
      (read (spent (codes "a")) (Text (codes "a")) ∷ []) (fresh (codes "b") ∷ [])
  -- each link has a number, and one that failed has no item
  pub items : items_from 7
      (read (spent []) (Text (codes "a")) ∷ read (spent []) Failed ∷ read (spent []) (Text (codes "b")) ∷ [])
      ≡ link_item 7 (codes "a") ∷ link_item 9 (codes "b") ∷ []

pub record LinksMisfit : Type 0 where
  -- a line doesn't keep its CR
  pub line : text_of Line (codes "add 5" ++ crlf) ≡ codes "add 5" ++ 13 ∷ [] → ⊥
  -- a line had ended before the byte after it was read, so no read was to be made for that byte
  pub unended : HadNotEnded Line (Some more_than_a_line) (Some (codes "b")) → ⊥
  pub no_further : IsReadNoFurther Line (fresh more_than_a_line) read_on → ⊥
  pub sent_on : IsSent Line (fresh more_than_a_line) read_on (Text (codes "a")) → ⊥
  -- another text than came
  pub sent : IsSent Line (fresh (codes "a")) (spent (codes "a")) (Text (codes "b")) → ⊥
  -- a link that failed isn't answered as want of memory
  pub short : IsSent Line (fresh (codes "a")) (link (codes "a") [] 1) Memory → ⊥
  -- two texts don't change places
  pub turned : WereRead itself Line (fresh (codes "a") ∷ fresh (codes "b") ∷ [])
      (read (spent (codes "a")) (Text (codes "b")) ∷ read (spent (codes "b")) (Text (codes "a")) ∷ []) [] → ⊥
  -- nor two links whose texts stay
  pub exchanged : WereRead itself Line (fresh (codes "a") ∷ fresh (codes "b") ∷ [])
      (read (spent (codes "b")) (Text (codes "a")) ∷ read (spent (codes "a")) (Text (codes "b")) ∷ []) [] → ⊥
  -- and none is lost
  pub lost : WereRead itself Line (fresh (codes "a") ∷ fresh (codes "b") ∷ [])
      (read (spent (codes "a")) (Text (codes "a")) ∷ []) [] → ⊥
  -- a link that failed has no empty item
  pub items : items_from 7 (read (spent []) Failed ∷ []) ≡ link_item 7 [] ∷ [] → ⊥
