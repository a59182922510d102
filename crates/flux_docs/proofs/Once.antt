-- A folder that is reported gives one map of documents, or is lost.
use Rattle.std.proofs.Common.{◌≡◌, ◌⊎◌, inl, inr, ℕ, true, false, List, Option, Some, None, Result, Ok, Err, sym, ◌∙◌}
use Rattle.std.specs.Prelude.{IfSome, IfOk, IfErr, IsNone}
use Rattle.std.specs.Cmp.Lexicographic.{nat_list_cmp_total}
use Rattle.std.specs.FinMap as fin
use Rattle.flux_library.specs.Documents.{DocMap}
use Rattle.flux_library.specs.laws.Documents.{same_docs}
use Rattle.flux_outside.specs.declared.memory.FileBytes.{FileBytes}
use Rattle.flux_docs.specs.declared.faults.DocsFault.{DocsFault}
use Rattle.flux_docs.specs.declared.faults.DocsFault.TheVariants.{Failed, Missing, TooLong, Memory}
use Rattle.flux_docs.specs.Folders.{Folders, AreDocsOf, IsPast, GivesDocs, IsFolderLost, IsUnread}
use Rattle.flux_docs.specs.steps.Reading.{AreRead}

same_of : (found : Option (List FileBytes)) (a b : DocMap) → AreDocsOf found a → AreDocsOf found b → a ≡ b
same_of None a b x y = absurd x
same_of (Some held) a b x y =
    same_docs a b (fin.same_map nat_list_cmp_total (fin.slice_cmp-IsAntisymmetric fin.nat_cmp-IsAntisymmetric) a.named b.named (λ name. x.1 name ∙ sym (y.1 name)))

pub one_docs : (held : List ℕ → Option (List FileBytes)) (dir : List ℕ) (a b : DocMap) → GivesDocs (Some held) dir a → GivesDocs (Some held) dir b → a ≡ b
one_docs held dir a b x y = same_of (held dir) a b x y

none_lost : (found : Option (List FileBytes)) (docs : DocMap) → AreDocsOf found docs → IsNone found ⊎ IsPast found → ⊥
none_lost None docs are lost = are
none_lost (Some held) docs are (inl none) = let no : true ≡ false = none in absurd cc
none_lost (Some held) docs are (inr past) = past are.0

pub not_lost : (held : List ℕ → Option (List FileBytes)) (dir : List ℕ) (docs : DocMap) → GivesDocs (Some held) dir docs → IsFolderLost (Some held) dir → ⊥
not_lost held dir docs are lost = none_lost (held dir) docs are lost

-- ---- what was read

pub gives_docs : (told : Folders) (dir : List ℕ) (result : Result DocMap DocsFault) → IfSome told (λ folders. AreRead (folders dir) result) → IfOk result (GivesDocs told dir)
gives_docs None dir (Ok docs) read = tt
gives_docs (Some held) dir (Ok docs) read = read
gives_docs told dir (Err fault) read = tt

unread_for : (told : Folders) (dir : List ℕ) (fault : DocsFault) → IfSome told (λ folders. AreRead (folders dir) (Err fault)) → IsUnread told dir fault
unread_for None dir Missing read = tt
unread_for None dir TooLong read = tt
unread_for None dir Failed read = tt
unread_for None dir Memory read = tt
unread_for (Some held) dir Missing read = read
unread_for (Some held) dir TooLong read = read
unread_for (Some held) dir Failed read = tt
unread_for (Some held) dir Memory read = tt

pub is_unread : (told : Folders) (dir : List ℕ) (result : Result DocMap DocsFault) → IfSome told (λ folders. AreRead (folders dir) result) → IfErr result (IsUnread told dir)
is_unread told dir (Ok docs) read = tt
is_unread told dir (Err fault) read = unread_for told dir fault read
