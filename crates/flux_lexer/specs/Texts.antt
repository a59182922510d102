-- The tokens and the faults of a whole text.
use Rattle.std.specs.Prelude.{◌≡◌, ℕ, ◌+◌, ◌<◌, ◌≤◌, ◌⊎◌, ⊤, List, [], ◌∷◌, ◌++◌, length, drop, Result, Ok, Err}
use Rattle.flux_faults.specs.declared.faults.FaultKind.{FaultKind}
use Rattle.flux_faults.specs.declared.faults.FaultKind.TheVariants.{TooLong, BadByte, UnclosedComment}
use Rattle.flux_faults.specs.declared.faults.CheckFault.{CheckFault}
use Rattle.flux_faults.specs.declared.faults.CheckFault.TheVariants.{Static, Memory}
use Rattle.flux_lexer.specs.declared.kinds.Token.{Token}
use Rattle.flux_lexer.specs.Pieces.{Piece, blank, remark, comment, token, Begins, BeginsNone, IsUnclosed}

-- a program's text has at most so many bytes
abbrev pub program_limit : ℕ
program_limit = 1048576

-- a piece with its length
pub record Part : Type 0 where
  pub piece : Piece
  pub length : ℕ

-- the text is laid out in these parts, one after the other, and this is left
abbrev pub Laid : List Part → List ℕ → List ℕ → Type 0
Laid [] rest text = text ≡ rest
Laid (part ∷ parts) rest text =
    Begins part.piece part.length text × Laid parts rest (drop part.length text)

-- the token of a piece, at its place and with its length
abbrev pub token_of : Piece → ℕ → ℕ → List Token
token_of (token kind) at n = record { kind = kind; start = at; end = at + n } ∷ []
token_of blank at n = []
token_of remark at n = []
token_of comment at n = []

-- the tokens of parts from a place on
abbrev pub tokens_of : ℕ → List Part → List Token
tokens_of at [] = []
tokens_of at (part ∷ parts) =
    token_of part.piece at part.length ++ tokens_of (at + part.length) parts

-- the text isn't too long, and is laid out to its end with these tokens
pub record AreTokensOf (tokens : List Token) (text : List ℕ) : Type 0 where
  pub few : length text ≤ program_limit
  pub parts : List Part
  pub laid : Laid parts [] text
  pub are : tokens ≡ tokens_of 0 parts

-- the text isn't too long, and is laid out up to a place, from which on this is left
pub record IsLaidUpTo (at : ℕ) (rest text : List ℕ) : Type 0 where
  pub few : length text ≤ program_limit
  pub parts : List Part
  pub laid : Laid parts rest text
  pub place : at + length rest ≡ length text

-- fault 1: the text is too long
abbrev pub IsTooLong : ℕ → List ℕ → Type 0
IsTooLong at text = (at ≡ 0) × (program_limit < length text)

-- fault 2: bytes are left of which no piece begins them, nor a comment that nothing closes
pub record IsBadByte (at : ℕ) (text : List ℕ) : Type 0 where
  pub rest : List ℕ
  pub laid : IsLaidUpTo at rest text
  pub some : 0 < length rest
  pub none : BeginsNone rest
  pub closed : IsUnclosed rest → ⊥

-- fault 3: what is left is a comment that nothing closes
pub record IsUnclosedComment (at : ℕ) (text : List ℕ) : Type 0 where
  pub rest : List ℕ
  pub laid : IsLaidUpTo at rest text
  pub unclosed : IsUnclosed rest

-- one of the three is at a place
abbrev pub Stands : FaultKind → ℕ → List ℕ → Type 0
Stands kind at text =
    ((kind ≡ TooLong) × IsTooLong at text)
    ⊎ (((kind ≡ BadByte) × IsBadByte at text)
    ⊎ ((kind ≡ UnclosedComment) × IsUnclosedComment at text))

-- what a refusal says of the text
abbrev pub IsFaultOf : List ℕ → CheckFault → Type 0
IsFaultOf text (Static fault) = (fault.path ≡ []) × Stands fault.kind fault.at text
IsFaultOf text Memory = ⊤

-- the tokens are answered, or memory was short
abbrev pub IsTokensOrMemory : List Token → Result (List Token) CheckFault → Type 0
IsTokensOrMemory tokens (Ok answered) = answered ≡ tokens
IsTokensOrMemory tokens (Err Memory) = ⊤
IsTokensOrMemory tokens (Err (Static fault)) = ⊥

-- whatever tokens the text has are answered, unless memory is short
abbrev pub GivesTokens : List ℕ → Result (List Token) CheckFault → Type 0
GivesTokens text result =
    (tokens : List Token) → AreTokensOf tokens text → IsTokensOrMemory tokens result

-- the fault is answered, or memory was short
abbrev pub IsFaultOrMemory : FaultKind → ℕ → Result (List Token) CheckFault → Type 0
IsFaultOrMemory kind at (Ok answered) = ⊥
IsFaultOrMemory kind at (Err Memory) = ⊤
IsFaultOrMemory kind at (Err (Static fault)) = (fault.kind ≡ kind) × (fault.at ≡ at)

-- whatever fault applies is answered, unless memory is short
abbrev pub GivesFault : List ℕ → Result (List Token) CheckFault → Type 0
GivesFault text result =
    (kind : FaultKind) (at : ℕ) → Stands kind at text → IsFaultOrMemory kind at result
