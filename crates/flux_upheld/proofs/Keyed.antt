-- The keys of a flow are of the program's classes, and so is what nodes hold.
use Rattle.std.proofs.Common.{◌≡◌, ◌<◌, ◌^◌, ℕ, zero, suc, ◌⊎◌, inl, inr, Bool, true, false, cond, List, [], ◌∷◌, length, Option, Some, None, refl, subst, arith}
use Rattle.std.specs.List.{slice_get, Contains, AllByRecursion}
use Rattle.flux_values.specs.declared.values.Value.{Value}
use Rattle.flux_values.specs.declared.answers.Mode.{Mode}
use Rattle.flux_values.specs.Meanings.{LibraryMeaning}
use Rattle.flux_values.specs.Reading.{IsValue}
use Rattle.flux_model.specs.declared.programs.Program.{Program}
use Rattle.flux_model.specs.declared.programs.Class.{Class}
use Rattle.flux_model.specs.declared.programs.ClassNo.{ClassNo}
use Rattle.flux_model.specs.declared.programs.Hold.{Hold}
use Rattle.flux_model.specs.declared.programs.Node.{Node}
use Rattle.flux_model.specs.declared.programs.SourceLine.{SourceLine}
use Rattle.flux_model.specs.Locks.{HasClass, declared_on, declared, IsLocked, Holds, AreLocks}
use Rattle.flux_model.specs.Numbered.{AreOnClasses, IsNumbered}
use Rattle.flow_model.specs.Keys.{session_number, class_key, flow_key}
use Rattle.flux_journal.specs.Entries.{HasSession, IsKeyOf}
use Rattle.flux_laws.proofs.Members.{In, in-from_contains, contains-from_in, all-get, get-within}
use Rattle.flux_upheld.specs.Printable.{AnswersCanBePrinted}
use Rattle.flux_upheld.proofs.Walked.{AreOfClasses}

-- ---- members of lists

pub all-in : {X : Type 0} (P : X → Type 0) (xs : List X) (x : X) → AllByRecursion P xs → In x xs → P x
all-in P [] x all is = absurd is
all-in P (y ∷ xs) x all (inl same) = subst P same all.0
all-in P (y ∷ xs) x all (inr is) = all-in P xs x all.1 is

pub all-from_in : {X : Type 0} (P : X → Type 0) (xs : List X) → ((x : X) → In x xs → P x) → AllByRecursion P xs
all-from_in P [] each = tt
all-from_in P (x ∷ xs) each = (each x (inl refl), all-from_in P xs (λ y is. each y (inr is)))

-- ---- keys

module _ (p : Program) (meaning : LibraryMeaning) (printable : AnswersCanBePrinted meaning) (line : SourceLine) (values : List Value) (are : AllByRecursion IsValue values) where
  session-small : session_number meaning line.session values < 2 ^ 64
  session-small = by line.session
    where
      by : (function : Option (List ℕ)) → session_number meaning function values < 2 ^ 64
      by None = omega arith
      by (Some function) = printable.sessions function values are

  scoped : (number : ℕ) → number < 2 ^ 64 → (session : Bool) → HasSession session (cond session (Some number) None)
  scoped number lt true = lt
  scoped number lt false = tt

  -- a flow's key of a class of the program is one of its keys
  pub key-of : (class : ClassNo) → class.0 < length p.classes → IsKeyOf p (flow_key p meaning line values class)
  key-of class lt = let (found, at) = get-within p.classes class.0 lt in by found at
    where
      by : (found : Class) → slice_get p.classes class.0 ≡ Some found → IsKeyOf p (class_key (slice_get p.classes class.0) class (session_number meaning line.session values))
      by found at = rw at (rw at (scoped (session_number meaning line.session values) session-small found.session))

-- ---- locks

module _ (p : Program) (numbered : IsNumbered p) where
  on-node : (number : ℕ) (found : Option Node) → slice_get p.nodes number ≡ found → AreOnClasses (length p.classes) (declared_on found)
  on-node number None at = tt
  on-node number (Some node) at = all-get (λ n. AreOnClasses (length p.classes) n.declared) p.nodes number node numbered.classes at

  -- a class that a node declares is of the program
  pub declared-below : (number : ℕ) (class : ClassNo) → HasClass (declared p number) class → class.0 < length p.classes
  declared-below number class (mode, has) =
      all-in (λ (hold : Hold). hold.class.0 < length p.classes) (declared p number) (record { class = class; mode = mode })
      (on-node number (slice_get p.nodes number) refl) (in-from_contains (declared p number) (record { class = class; mode = mode }) has)

  locked-below : (number : ℕ) (class : ClassNo) → IsLocked p number class → class.0 < length p.classes
  locked-below number class (inl has) = declared-below number class has
  locked-below number class (inr (below, past)) = declared-below below.node class below.declares

  -- so is what a node holds
  pub locks-below : (locks : Holds) → AreLocks p locks → (number : ℕ) → AreOfClasses p (locks number)
  locks-below locks are number = let own = are number in
      all-from_in (λ (hold : Hold). hold.class.0 < length p.classes) (locks number)
      (λ hold is. locked-below number hold.class (own.only hold (contains-from_in (locks number) hold is)))
