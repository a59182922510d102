-- What was found of sound declarations is what a checked program keeps.
use Rattle.std.proofs.Common.{ℕ, List, refl, sym, subst}
use Rattle.std.specs.List.{AllByRecursion}
use Rattle.flux_values.specs.Meanings.{LibraryMeaning}
use Rattle.flux_model.specs.declared.programs.NodeNo.{NodeNo}
use Rattle.flux_model.specs.declared.programs.Hold.{Hold}
use Rattle.flux_model.specs.declared.signatures.NodeSig.{NodeSig}
use Rattle.flux_model.specs.Numbered.{IsNumbered}
use Rattle.flux_model.specs.Locks.{AreLocks}
use Rattle.flux_model.specs.Soundness.{HasSession}
use Rattle.flux_model.specs.Ordering.{IsOrder}
use Rattle.flux_syntax.specs.declared.declarations.Decl.{Decl}
use Rattle.flux_syntax.specs.Declares.{Declares}
use Rattle.flux_syntax.specs.ProgramOfText.{program_of}
use Rattle.flux_syntax.proofs.Standing.{all_stand}
use Rattle.flux_types.specs.Signatures.{nodes_of, AreSigs}
use Rattle.flux_hoist.specs.Sets.{held_by}
use Rattle.flux_hoist.specs.Types.{TypesAgree}
use Rattle.flux_types.proofs.Written.{sigs_same}
use Rattle.flux_check.proofs.Joins.{types_agree}
use Rattle.flux_check.specs.Judgement.{AreJoined}
use Rattle.flux_check.specs.Checked.{AreChecked}
use Rattle.flux_check.specs.steps.Checking.{AreSizes}
use Rattle.flux_check.proofs.Soundness.{sound}
use Rattle.flux_check.proofs.Identified.{names_kept}

-- the program of a text's sound declarations is checked, by an order, signatures, sets and sizes that are its own
pub checked : (meaning : LibraryMeaning) (text : List ℕ) (decls : List Decl) (order : List NodeNo) (sigs : List NodeSig) (sets : List (List Hold)) (sizes : List ℕ)
    → Declares decls text → IsNumbered (program_of decls) → IsOrder (nodes_of decls) order → AreSigs meaning.kind decls sigs → AreJoined meaning decls
    → (let p = program_of decls in AllByRecursion (HasSession p) p.sources) → AreLocks (program_of decls) (held_by sets) → AreSizes (held_by sets) decls (program_of decls) sizes
    → AreChecked meaning decls (program_of decls) sigs order sets sizes
checked meaning text decls order sigs sets sizes declared numbered ordered are joined served locks sized =
    let for_library = sound meaning decls order sigs numbered ordered are joined served in
    record {
      sound = record { joined = joined; locks = held_by sets; are_locks = locks; sized = sized.sound };
      is = refl;
      sigs_ = are;
      keeps = record {
        numbered = numbered;
        named = names_kept text decls numbered.canonical (all_stand decls text declared);
        acyclic = joined.ordered.acyclic;
        many = are.many;
        types = subst (TypesAgree (program_of decls)) (sym (sigs_same meaning.kind decls sigs are)) (types_agree meaning decls joined);
        agree = for_library.kinds_are.agree;
        ordered = ordered;
        locks = locks;
        sizes_ = sized.are;
        small = sized.small;
      };
      for_library = for_library;
    }
