-- Legal journals can be read back, and what is printed of them is upheld.
use Rattle.std.specs.Prelude.{◌≡◌, ◌≤◌, ◌<◌, ◌+◌, ◌*◌, ◌^◌, ℕ, List, length}
use Rattle.std.specs.List.{AllByRecursion}
use Rattle.flux_values.specs.Meanings.{LibraryMeaning}
use Rattle.flux_library.specs.Documents.{DocMap}
use Rattle.flux_library.specs.Libraries.{IsLawful}
use Rattle.flux_model.specs.Items.{IsItemFor}
use Rattle.flux_model.specs.Kinds.{NodeKinds, node_kinds}
use Rattle.flux_model.specs.Names.{IsNamed}
use Rattle.flux_model.specs.Soundness.{IsSound}
use Rattle.flow_model.specs.declared.journals.Entry.{Entry}
use Rattle.flow_model.specs.declared.journals.Journal.{Journal}
use Rattle.flow_model.specs.declared.journals.Key.{Key}
use Rattle.flow_model.specs.Setup.{Setup}
use Rattle.flow_model.specs.Legal.{IsLegal, IsWhole}
use Rattle.flow_model.specs.Texts.{printed_journal}
use Rattle.flux_laws.specs.Growth.{flow_size, sum_below}
use Rattle.flux_syntax.specs.declared.declarations.Decl.{Decl}
use Rattle.flux_syntax.specs.Declares.{Declares}
use Rattle.flux_syntax.specs.ProgramOfText.{program_of}
use Rattle.flux_types.specs.Signatures.{sig_of}
use Rattle.flux_check.specs.Judgement.{AreSound}
use Rattle.flux_journal.specs.Entries.{AreEntriesOf}
use Rattle.flux_journal.specs.Formats.{printed_journal_2}
use Rattle.flux_audit.specs.declared.verdicts.Verdict.TheVariants.{Yes}
use Rattle.flux_audit.specs.Verdicts.{HasVerdict}
use Rattle.nodes_all.specs.Alls.{all_meaning}
use Rattle.nodes_joined.specs.Joined.{joined}
use Rattle.nodes_own.specs.Own.{own_meaning}
use Rattle.flux_upheld.specs.Printable.{HoldsValues, AnswersCanBePrinted}

-- ---- journals

-- Where a legal journal can be read back: a sound program, a lawful library whose answers can be
-- printed, items of their sources' kinds, not too many, and cells that hold values at the start.
pub record CanBeRead (setup : Setup) : Type 0 where
  pub kinds : ℕ → NodeKinds
  pub sound : IsSound setup.meaning setup.program kinds
  pub lawful : IsLawful setup.meaning
  pub printable : AnswersCanBePrinted setup.meaning
  pub items_ : AllByRecursion (IsItemFor setup.program kinds) setup.items
  pub few : length setup.items < 2 ^ 32
  pub opening_ : (key : Key) → HoldsValues (setup.opening key)

-- there, each part of each entry is one that a text can hold
abbrev pub LegalIsReadable : Type 0
LegalIsReadable = (setup : Setup) (entries : List Entry) → CanBeRead setup → IsLegal setup entries
    → AreEntriesOf setup.program entries

-- a legal journal has at most twice as many entries as the sizes of its flows come to, and one more
-- for each flow
abbrev pub LegalIsBounded : Type 0
LegalIsBounded = (setup : Setup) (entries : List Entry) → IsLegal setup entries
    → length entries ≤ 2 * sum_below (flow_size setup) (length setup.items) + length setup.items

-- what is printed of a journal, in either format, is upheld, with as many events as it has entries
pub record AreUpheld (setup : Setup) (journal : Journal) : Type 0 where
  pub one : HasVerdict setup (printed_journal setup.program journal) (Yes (length journal.entries))
  pub two : HasVerdict setup (printed_journal_2 setup.program (length setup.items) journal)
      (Yes (length journal.entries))

-- so it is where the program has names, for a legal and whole journal of fewer than 2^64 entries
abbrev pub LegalIsUpheld : Type 0
LegalIsUpheld = (setup : Setup) (journal : Journal) → CanBeRead setup → IsNamed setup.program
    → IsLegal setup journal.entries → IsWhole setup journal.entries → length journal.entries < 2 ^ 64
    → AreUpheld setup journal

-- ---- libraries

-- the answers of two libraries as one can be printed where those of each can
abbrev pub JoinedCanBePrinted : Type 0
JoinedCanBePrinted = (first second : LibraryMeaning) → AnswersCanBePrinted first
    → AnswersCanBePrinted second → AnswersCanBePrinted (joined first second)

-- so can those of the program's own libraries, with any documents
abbrev pub AllCanBePrinted : Type 0
AllCanBePrinted = (docs : DocMap) → AnswersCanBePrinted (all_meaning docs)

-- and those of nodes of one's own
abbrev pub OwnCanBePrinted : Type 0
OwnCanBePrinted = AnswersCanBePrinted own_meaning

-- ---- programs

-- the program of sound declarations is sound for the library, with the kinds that its signatures say,
-- and has names
pub record IsProgramSound (meaning : LibraryMeaning) (decls : List Decl) : Type 0 where
  pub sound : IsSound meaning (program_of decls)
      (λ number. node_kinds (sig_of meaning.kind decls number))
  pub named : IsNamed (program_of decls)

-- so it is where a text declares them
abbrev pub SoundDeclarationsAreSound : Type 0
SoundDeclarationsAreSound = (meaning : LibraryMeaning) (decls : List Decl) (text : List ℕ)
    → Declares decls text → AreSound meaning decls → IsProgramSound meaning decls
