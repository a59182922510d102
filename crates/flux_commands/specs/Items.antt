-- What an items text is read by.
use Rattle.std.specs.Prelude.{ℕ, List, map, Some}
use Rattle.flux_values.specs.Meanings.{LibraryMeaning}
use Rattle.flux_model.specs.declared.programs.Program.{Program}
use Rattle.flux_model.specs.Kinds.{NodeKinds, node_kinds}
use Rattle.flux_model.specs.Locks.{Holds}
use Rattle.flux_model.specs.Sizes.{source_size}
use Rattle.flux_model.specs.Texts.{source_name}
use Rattle.flux_syntax.specs.declared.declarations.Decl.{Decl}
use Rattle.flux_syntax.specs.ProgramOfText.{program_of}
use Rattle.flux_types.specs.Signatures.{sig_of}
use Rattle.flux_check.specs.Judgement.{AreSound}
use Rattle.flux_items.specs.declared.rules.ItemRules.{ItemRules}

-- the sources of a program: their names, the kinds of what they give, and how many events their flows have at most
abbrev pub rules_of : Program → (ℕ → NodeKinds) → Holds → ItemRules
rules_of p kinds locks = record {
  names = map (λ line. source_name p (Some line)) p.sources;
  kinds = map (λ line. let from = kinds line.node.0 in from.outs) p.sources;
  sizes = map (source_size locks p) p.sources;
}

-- what the nodes of sound declarations take and give
abbrev pub kinds_in : LibraryMeaning → List Decl → ℕ → NodeKinds
kinds_in meaning decls number = node_kinds (sig_of meaning.kind decls number)

-- the sources of sound declarations
abbrev pub rules_in : (meaning : LibraryMeaning) (decls : List Decl) → AreSound meaning decls → ItemRules
rules_in meaning decls sound = rules_of (program_of decls) (kinds_in meaning decls) sound.locks
