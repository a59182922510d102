-- The numbers, names and lines of faults.
use Rattle.std.specs.Prelude.{ℕ, ◌≤◌, ◌<◌, ◌==◌, ⊤, if◌then◌else◌, List, [], ◌∷◌, ◌++◌, length, codes}
use Rattle.std.specs.Fmt.{decimal}
use Rattle.flux_faults.specs.declared.faults.FaultKind.{FaultKind}
use Rattle.flux_faults.specs.declared.faults.FaultKind.TheVariants.{TooLong, BadByte, UnclosedComment, Unexpected, TwiceNamed, UnknownNode, UnknownType, NotInLibrary, UnlikeLibrary, UnknownPredicate, UnknownSession, NotASource, SourceMisused, TooMany, Cycle, NoSignature, JoinTypes, CaseCount, CaseTypes, PredicateType, HandlerTypes, SourceTypes, SessionTypes, BothScopes, Unprotected, NoSession, PlanTooLarge, BadCode}
use Rattle.flux_faults.specs.declared.faults.StaticFault.{StaticFault}
use Rattle.flux_faults.specs.declared.faults.CheckFault.{CheckFault}
use Rattle.flux_faults.specs.declared.faults.CheckFault.TheVariants.{Static, Memory}
use Rattle.flux_faults.specs.declared.places.TheConstants.{PLACE_LIMIT}
use Rattle.flux_faults.specs.Places.{line_of, column_of}

-- a fault's number in its line
abbrev pub number_of : FaultKind → ℕ
number_of TooLong = 1
number_of BadByte = 2
number_of UnclosedComment = 3
number_of Unexpected = 4
number_of TwiceNamed = 5
number_of UnknownNode = 6
number_of UnknownType = 7
number_of NotInLibrary = 8
number_of UnlikeLibrary = 9
number_of UnknownPredicate = 10
number_of UnknownSession = 11
number_of NotASource = 12
number_of SourceMisused = 13
number_of TooMany = 14
number_of Cycle = 15
number_of NoSignature = 16
number_of JoinTypes = 17
number_of CaseCount = 18
number_of CaseTypes = 19
number_of PredicateType = 20
number_of HandlerTypes = 21
number_of SourceTypes = 22
number_of SessionTypes = 23
number_of BothScopes = 24
number_of Unprotected = 25
number_of NoSession = 26
number_of PlanTooLarge = 27
number_of BadCode = 28

-- a fault's name in its line
abbrev pub name_of : FaultKind → List ℕ
name_of TooLong = codes "TooLong"
name_of BadByte = codes "BadByte"
name_of UnclosedComment = codes "UnclosedComment"
name_of Unexpected = codes "Unexpected"
name_of TwiceNamed = codes "TwiceNamed"
name_of UnknownNode = codes "UnknownNode"
name_of UnknownType = codes "UnknownType"
name_of NotInLibrary = codes "NotInLibrary"
name_of UnlikeLibrary = codes "UnlikeLibrary"
name_of UnknownPredicate = codes "UnknownPredicate"
name_of UnknownSession = codes "UnknownSession"
name_of NotASource = codes "NotASource"
name_of SourceMisused = codes "SourceMisused"
name_of TooMany = codes "TooMany"
name_of Cycle = codes "Cycle"
name_of NoSignature = codes "NoSignature"
name_of JoinTypes = codes "JoinTypes"
name_of CaseCount = codes "CaseCount"
name_of CaseTypes = codes "CaseTypes"
name_of PredicateType = codes "PredicateType"
name_of HandlerTypes = codes "HandlerTypes"
name_of SourceTypes = codes "SourceTypes"
name_of SessionTypes = codes "SessionTypes"
name_of BothScopes = codes "BothScopes"
name_of Unprotected = codes "Unprotected"
name_of NoSession = codes "NoSession"
name_of PlanTooLarge = codes "PlanTooLarge"
name_of BadCode = codes "BadCode"

-- names with ` -> ` between them
abbrev pub arrows : List (List ℕ) → List ℕ
arrows [] = []
arrows (name ∷ []) = name
arrows (name ∷ next ∷ names) = name ++ codes " -> " ++ arrows (next ∷ names)

-- what follows the name: the path of a cycle
abbrev pub printed_path : StaticFault → List ℕ
printed_path fault =
    if number_of fault.kind == number_of Cycle then codes " " ++ arrows fault.path else []

-- `LINE:COLUMN: fault NUMBER NAME`, and the path
abbrev pub printed_fault : List ℕ → StaticFault → List ℕ
printed_fault text fault =
    decimal (line_of text fault.at) ++ codes ":" ++ decimal (column_of text fault.at)
    ++ codes ": fault " ++ decimal (number_of fault.kind)
    ++ codes " " ++ name_of fault.kind ++ printed_path fault

-- a refusal's fault, if it is one, is at a byte of the text or at its end, and has a line
abbrev pub IsPlacedIn : List ℕ → CheckFault → Type 0
IsPlacedIn text (Static fault) = (fault.at ≤ length text) × (fault.at < PLACE_LIMIT)
IsPlacedIn text Memory = ⊤
