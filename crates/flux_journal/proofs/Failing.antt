-- What a reader answers where a part of it fails.
use Rattle.std.proofs.Common.{◌≡◌, List, ℕ, Option, Result, Ok, Err, sym, subst}
use Rattle.std.specs.Result.{IsErrAnd}
use Rattle.flux_values.specs.declared.values.Value.{Value}
use Rattle.flux_values.specs.declared.answers.Put.{Put}
use Rattle.flux_model.specs.declared.programs.Program.{Program}
use Rattle.flow_model.specs.declared.journals.Entry.{Entry}
use Rattle.flux_journal.specs.Spelled.{IsEntryLine}
use Rattle.flux_journal.specs.Journals.{HasLineCause}
use Rattle.flux_journal.specs.declared.faults.LineFault.{LineFault}
use Rattle.flux_journal.specs.declared.faults.LineFault.TheVariants as faults
use Rattle.flux_journal.specs.steps.Reading.{OnBad, BeginsNone, IsPartRead, IsWholeRead, NoMore, AreMoreRead, IsBadPut, IsPutOrNone, NoPuts, ArePutsRead}

pub on_bad : {Bad Worse : Type 0} (fault : LineFault) → OnBad fault Bad → (Bad → Worse) → OnBad fault Worse
on_bad faults.BadLine h f = f h
on_bad faults.Memory h f = tt

-- a fact on all faults holds on this one
pub bad : {Bad : Type 0} (fault : LineFault) → Bad → OnBad fault Bad
bad faults.BadLine h = h
bad faults.Memory h = tt

pub part_fails : {Y : Type 0} (Part : List ℕ → Y → List ℕ → Type 0) (text rest : List ℕ) (fault : LineFault) (r : Result Y LineFault) → IsErrAnd r (λ f. f ≡ fault) → OnBad fault (BeginsNone Part text) → IsPartRead Part text rest r
part_fails Part text rest fault (Ok y) is h = absurd is
part_fails Part text rest fault (Err f) is h = subst (λ g. OnBad g (BeginsNone Part text)) (sym is) h

pub whole_fails : {Y : Type 0} (Is : Y → Type 0) (fault : LineFault) (r : Result Y LineFault) → IsErrAnd r (λ f. f ≡ fault) → OnBad fault ((y : Y) → Is y → ⊥) → IsWholeRead Is r
whole_fails Is fault (Ok y) is h = absurd is
whole_fails {Y} Is fault (Err f) is h = subst (λ g. OnBad g ((y : Y) → Is y → ⊥)) (sym is) h

pub more_fails : (old new : List Value) (text rest : List ℕ) (fault : LineFault) (r : Result (Unit {0}) LineFault) → IsErrAnd r (λ f. f ≡ fault) → OnBad fault (NoMore text) → AreMoreRead old new text rest r
more_fails old new text rest fault (Ok y) is h = absurd is
more_fails old new text rest fault (Err f) is h = subst (λ g. OnBad g (NoMore text)) (sym is) h

pub puts_fail : (p : Program) (text rest : List ℕ) (fault : LineFault) (r : Result (List Put) LineFault) → IsErrAnd r (λ f. f ≡ fault) → OnBad fault (NoPuts p text) → ArePutsRead p text rest r
puts_fail p text rest fault (Ok y) is h = absurd is
puts_fail p text rest fault (Err f) is h = subst (λ g. OnBad g (NoPuts p text)) (sym is) h

pub put_fails : (p : Program) (text rest : List ℕ) (fault : LineFault) (r : Result (Option Put) LineFault) → IsErrAnd r (λ f. f ≡ fault) → OnBad fault (IsBadPut p text) → IsPutOrNone p text rest r
put_fails p text rest fault (Ok y) is h = absurd is
put_fails p text rest fault (Err f) is h = subst (λ g. OnBad g (IsBadPut p text)) (sym is) h

pub line_fails : (p : Program) (line : List ℕ) (fault : LineFault) (r : Result Entry LineFault) → IsErrAnd r (λ f. f ≡ fault) → OnBad fault ((entry : Entry) → IsEntryLine p line entry → ⊥) → HasLineCause p line r
line_fails p line fault (Ok entry) is h = absurd is
line_fails p line faults.BadLine (Err faults.BadLine) is h = h
line_fails p line faults.Memory (Err faults.BadLine) is h = absurd cc
line_fails p line fault (Err faults.Memory) is h = tt
