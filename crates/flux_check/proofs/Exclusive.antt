-- A text is sound or has a fault, and not both; and it has one fault.
use Rattle.std.proofs.Common.{◌≡◌, ◌≤◌, ℕ, inl, inr, List, Option, Some, None, Err, refl, sym, ap, subst, ◌∙◌, arith}
use Rattle.std.specs.List.{slice_get}
use Rattle.flux_values.specs.Meanings.{LibraryMeaning}
use Rattle.flux_faults.specs.declared.faults.FaultKind.{FaultKind}
use Rattle.flux_faults.specs.declared.faults.CheckFault.{CheckFault}
use Rattle.flux_faults.specs.declared.faults.CheckFault.TheVariants as causes
use Rattle.flux_faults.specs.declared.faults.StaticFault.{StaticFault}
use Rattle.flux_model.specs.declared.programs.NodeNo.{NodeNo}
use Rattle.flux_model.specs.declared.programs.Node.{Node}
use Rattle.flux_model.specs.declared.named.Named.{Named}
use Rattle.flux_syntax.specs.declared.declarations.Decl.{Decl}
use Rattle.flux_syntax.specs.Declares.{Declares}
use Rattle.flux_syntax.specs.Unexpected.{IsFaulty, IsThatOrMemory, AreDeclsOrMemory}
use Rattle.flux_syntax.specs.ProgramOfText.{program_of, named_of}
use Rattle.flux_syntax.proofs.Texts.{one_list, no_decls}
use Rattle.flux_model.specs.Ordering.{HasCycle, IsCycle, IsLowestCycle}
use Rattle.flux_model.specs.Locks.{Holds}
use Rattle.flux_syntax.specs.Least.{first_fault}
use Rattle.flux_check.specs.Rows.{size_rows}
use Rattle.flux_model.proofs.Hoisting.{locks_once}
use Rattle.flux_check.specs.Judgement.{AreSound, IsCycleOf, IsDeclsFault, IsTextFault}
use Rattle.flux_check.specs.Checked.{IsSoundText, IsRefusalOf, IsThatFault}

some_none : {A : Type 0} (o : Option A) (x : A) → o ≡ Some x → o ≡ None → ⊥
some_none o x s n = let e = sym s ∙ n in absurd cc

fault_pair : (x y : FaultKind × ℕ) (o : Option (FaultKind × ℕ)) → o ≡ Some x → o ≡ Some y → x ≡ y
fault_pair x y o a b = let e = sym a ∙ b in cc

place_is : (x y : ℕ) (o : Option ℕ) → o ≡ Some x → o ≡ Some y → x ≡ y
place_is x y o a b = let e = sym a ∙ b in cc

abbrev around : (nodes : List Node) (path : List NodeNo) → IsCycle nodes path → HasCycle nodes
around nodes path c = let first = c.first in (first.0, record { between = c.others; led = c.led })

pub sound_no_fault : (meaning : LibraryMeaning) (decls : List Decl) (fault : StaticFault) → AreSound meaning decls → IsDeclsFault meaning decls fault → ⊥
sound_no_fault meaning decls fault s (inl f) = let o = s.joined.ordered in some_none _ (fault.kind, fault.at) f.is o.named
sound_no_fault meaning decls fault s (inr (inl c)) = let o = s.joined.ordered in let round = c.cycle in let low = round.cycle in o.acyclic (around _ round.path low.cycle)
sound_no_fault meaning decls fault s (inr (inr (inl l))) = let j = s.joined in let first = l.first in some_none _ (fault.kind, fault.at) first.is j.later
sound_no_fault meaning decls fault s (inr (inr (inr l))) =
    let first = l.first in some_none _ (fault.kind, fault.at) (ap (λ (locks : Holds). first_fault (size_rows locks decls)) (locks_once (program_of decls) s.locks l.locks s.are_locks l.are_locks) ∙ first.is) s.sized

pub not_both : (meaning : LibraryMeaning) (text : List ℕ) (fault : StaticFault) → IsSoundText meaning text → IsTextFault meaning text fault → ⊥
not_both meaning text fault s (inl (faulty, path)) = no_decls fault.kind fault.at text s.decls faulty s.declared
not_both meaning text fault s (inr (decls, declared, f)) = sound_no_fault meaning s.decls fault s.sound (subst (λ (ds : List Decl). IsDeclsFault meaning ds fault) (one_list text decls s.decls declared s.declared) f)

-- ---- one fault

abbrev Same : StaticFault → StaticFault → Type 0
Same a b = (a.kind ≡ b.kind) × (a.at ≡ b.at)

both_of : (a b : StaticFault) (o : Option (FaultKind × ℕ)) → o ≡ Some (a.kind, a.at) → o ≡ Some (b.kind, b.at) → Same a b
both_of a b o x y = let e = fault_pair (a.kind, a.at) (b.kind, b.at) o x y in (ap (λ (p : FaultKind × ℕ). p.0) e, ap (λ (p : FaultKind × ℕ). p.1) e)

lowest_same : (nodes : List Node) (p q : List NodeNo) (x : IsLowestCycle nodes p) (y : IsLowestCycle nodes q) → let first = x.cycle.first in let second = y.cycle.first in first.0 ≡ second.0
lowest_same nodes p q x y =
    let first = x.cycle.first in let second = y.cycle.first in
    let here = around nodes p x.cycle in let there = around nodes q y.cycle in
    let a : first.0 ≤ second.0 = x.lowest second.0 there.1 in let b : second.0 ≤ first.0 = y.lowest first.0 here.1 in omega (arith, a, b)

cycles_same : (named : Named) (a b : StaticFault) → IsCycleOf named a → IsCycleOf named b → Same a b
cycles_same named a b x y =
    let low = lowest_same named.program.nodes x.path y.path x.cycle y.cycle in
    (x.is ∙ sym y.is, place_is a.at b.at _ (ap (slice_get named.sites.nodes) (sym low) ∙ x.site) y.site)

-- a later group isn't looked at where an earlier one has a fault
pub same_fault : (meaning : LibraryMeaning) (decls : List Decl) (a b : StaticFault) → IsDeclsFault meaning decls a → IsDeclsFault meaning decls b → Same a b
same_fault meaning decls a b (inl x) (inl y) = both_of a b _ x.is y.is
same_fault meaning decls a b (inl x) (inr (inl y)) = absurd (some_none _ (a.kind, a.at) x.is y.named)
same_fault meaning decls a b (inl x) (inr (inr (inl y))) = let o = y.ordered in absurd (some_none _ (a.kind, a.at) x.is o.named)
same_fault meaning decls a b (inl x) (inr (inr (inr y))) = let o = y.joined.ordered in absurd (some_none _ (a.kind, a.at) x.is o.named)
same_fault meaning decls a b (inr (inl x)) (inl y) = absurd (some_none _ (b.kind, b.at) y.is x.named)
same_fault meaning decls a b (inr (inl x)) (inr (inl y)) = cycles_same (named_of decls) a b x.cycle y.cycle
same_fault meaning decls a b (inr (inl x)) (inr (inr (inl y))) = let o = y.ordered in let round = x.cycle in let low = round.cycle in absurd (o.acyclic (around _ round.path low.cycle))
same_fault meaning decls a b (inr (inl x)) (inr (inr (inr y))) = let o = y.joined.ordered in let round = x.cycle in let low = round.cycle in absurd (o.acyclic (around _ round.path low.cycle))
same_fault meaning decls a b (inr (inr (inl x))) (inl y) = let o = x.ordered in absurd (some_none _ (b.kind, b.at) y.is o.named)
same_fault meaning decls a b (inr (inr (inl x))) (inr (inl y)) = let o = x.ordered in let round = y.cycle in let low = round.cycle in absurd (o.acyclic (around _ round.path low.cycle))
same_fault meaning decls a b (inr (inr (inl x))) (inr (inr (inl y))) = let f = x.first in let g = y.first in both_of a b _ f.is g.is
same_fault meaning decls a b (inr (inr (inl x))) (inr (inr (inr y))) = let f = x.first in let j = y.joined in absurd (some_none _ (a.kind, a.at) f.is j.later)
same_fault meaning decls a b (inr (inr (inr x))) (inl y) = let o = x.joined.ordered in absurd (some_none _ (b.kind, b.at) y.is o.named)
same_fault meaning decls a b (inr (inr (inr x))) (inr (inl y)) = let o = x.joined.ordered in let round = y.cycle in let low = round.cycle in absurd (o.acyclic (around _ round.path low.cycle))
same_fault meaning decls a b (inr (inr (inr x))) (inr (inr (inl y))) = let g = y.first in let j = x.joined in absurd (some_none _ (b.kind, b.at) g.is j.later)
same_fault meaning decls a b (inr (inr (inr x))) (inr (inr (inr y))) =
    let f = x.first in let g = y.first in
    both_of a b _ f.is (ap (λ (locks : Holds). first_fault (size_rows locks decls)) (locks_once (program_of decls) x.locks y.locks x.are_locks y.are_locks) ∙ g.is)

-- ---- what holds of a text is answered

pub only_memory : (meaning : LibraryMeaning) (text : List ℕ) (refusal : CheckFault) → IsSoundText meaning text → IsRefusalOf meaning text refusal → refusal ≡ causes.Memory
only_memory meaning text causes.Memory s r = refl
only_memory meaning text (causes.Static fault) s (f, within, room) = absurd (not_both meaning text fault s f)

pub that_decls : (meaning : LibraryMeaning) (text : List ℕ) (decls : List Decl) (fault : StaticFault) (refusal : CheckFault) → Declares decls text → IsTextFault meaning text fault → IsRefusalOf meaning text refusal → IsThatFault fault refusal
that_decls meaning text decls fault causes.Memory declared t r = tt
that_decls meaning text decls fault (causes.Static own) declared (inl (faulty, path)) r = absurd (no_decls fault.kind fault.at text decls faulty declared)
that_decls meaning text decls fault (causes.Static own) declared (inr (ds, d, f)) (inl (faulty, path), within, room) = absurd (no_decls own.kind own.at text decls faulty declared)
that_decls meaning text decls fault (causes.Static own) declared (inr (ds, d, f)) (inr (es, e, g), within, room) =
    same_fault meaning ds own fault (subst (λ (xs : List Decl). IsDeclsFault meaning xs own) (one_list text es ds e d) g) f

pub that_reading : (meaning : LibraryMeaning) (text : List ℕ) (fault : StaticFault) (refusal : CheckFault) → ((k : FaultKind) (at : ℕ) → IsFaulty k at text → IsThatOrMemory k at (Err refusal)) → ((decls : List Decl) → Declares decls text → AreDeclsOrMemory decls (Err refusal))
    → IsTextFault meaning text fault → IsThatFault fault refusal
that_reading meaning text fault causes.Memory stands decls t = tt
that_reading meaning text fault (causes.Static own) stands decls (inl (faulty, path)) = stands fault.kind fault.at faulty
that_reading meaning text fault (causes.Static own) stands decls (inr (ds, d, f)) = absurd (decls ds d)
