-- How the reading of a segment goes on from place to place.
use Rattle.std.proofs.Common.{◌≡◌, ℕ, zero, suc, ◌+◌, ◌<◌, Bool, true, false, nat_eq, List, [], ◌∷◌, Option, Some, None, refl, ap, arith, add-one, add-zero, zero-add}
use Rattle.std.specs.Prelude.{if◌then◌else◌, ⊤}
use Rattle.std.specs.List.{slice_get}
use Rattle.std.proofs.lemmas.Bool.Decides.{nat_tests}
use Rattle.flux_values.specs.declared.answers.Mode.{Mode}
use Rattle.flux_model.specs.declared.programs.NodeNo.{NodeNo}
use Rattle.flux_model.specs.declared.programs.ClassNo.{ClassNo}
use Rattle.flux_model.specs.declared.programs.HandleArm.{HandleArm}
use Rattle.flux_plan.specs.declared.plans.Segment.{Segment}
use Rattle.flux_plan.specs.declared.plans.Arm.{Arm}
use Rattle.flux_plan.specs.declared.plans.Instr.{Instr}
use Rattle.flux_plan.specs.declared.plans.Instr.TheVariants.{Take, Enter, Choose, Go, Leave, Call, Exit, Drop, Handle, EndHandle, Return}
use Rattle.flux_plan.specs.Reading.{Reading, taking, entered, between, within, dropping, handling, closing, whole, is_above, in_takes, in_body, in_arm, at_exit, in_drops, in_handling, in_closing, read_more, read_on, reading_at}

-- ---- from place to place

read_on-zero : (exit place : ℕ) (o : Option Reading) (code : List Instr) → read_on exit place o code 0 ≡ o
read_on-zero exit place None code = refl
read_on-zero exit place (Some r) code = refl

read_on-next : (exit place : ℕ) (o : Option Reading) (code : List Instr) (n : ℕ) (reading : Reading) (instr : Instr)
    → read_on exit place o code n ≡ Some reading → slice_get code n ≡ Some instr
    → read_on exit place o code (suc n) ≡ read_more exit (place + n) reading instr
read_on-next exit place None code n reading instr e at = absurd cc
read_on-next exit place (Some r) [] n reading instr e at = absurd cc
read_on-next exit place (Some r) (i ∷ code) zero reading instr e at =
    let same : r ≡ reading = cc in
    let here : i ≡ instr = cc in
    rw (add-zero, same, here) (read_on-zero exit (place + 1) (read_more exit place reading instr) code)
read_on-next exit place (Some r) (i ∷ code) (suc n) reading instr e at =
    let more = read_on-next exit (place + 1) (read_more exit place r i) code n reading instr e at in
    let p : place + 1 + n ≡ place + suc n = omega arith in
    rw p at more

-- what has been read with the instruction at a place
pub reading_at-next : (segment : Segment) (place : ℕ) (reading : Reading) (instr : Instr)
    → reading_at segment place ≡ Some reading → slice_get segment.code place ≡ Some instr
    → reading_at segment (place + 1) ≡ read_more segment.exit place reading instr
reading_at-next segment place reading instr e at =
    let h = read_on-next segment.exit 0 (Some (taking [])) segment.code place reading instr e at in
    let more = rw zero-add at h in
    rw add-one more

-- ---- the table of what goes on with what

-- classes go on rising
abbrev pub AreBelowOne : ClassNo → List ClassNo → Type 0
AreBelowOne class [] = ⊤
AreBelowOne class (last ∷ classes) = last.0 < class.0

-- what has been read, an instruction at a place, and what has been read with it
pub data Goes (exit place : ℕ) : Reading → Instr → Reading → Type 0 where
  take : {classes : List ClassNo} {class : ClassNo} {mode : Mode} → AreBelowOne class classes → Goes exit place (taking classes) (Take class mode) (taking (class ∷ classes))
  enter : {classes : List ClassNo} → Goes exit place (taking classes) Enter (entered classes)
  call : {classes : List ClassNo} → Goes exit place (entered classes) Call (between [] classes)
  choose : {arms : List Arm} {classes : List ClassNo} → Goes exit place (entered classes) (Choose arms) (between arms classes)
  leave : {classes : List ClassNo} → exit ≡ place → Goes exit place (between [] classes) Exit (dropping classes)
  first_go : {arm : Arm} {arms : List Arm} {classes : List ClassNo} {node : NodeNo} → arm.to ≡ place → Goes exit place (between (arm ∷ arms) classes) (Go node) (within arms classes)
  no_go : {arm : Arm} {arms : List Arm} {classes : List ClassNo} → arm.to ≡ place → Goes exit place (between (arm ∷ arms) classes) Leave (between arms classes)
  go : {arms : List Arm} {classes : List ClassNo} {node : NodeNo} → Goes exit place (within arms classes) (Go node) (within arms classes)
  last_go : {arms : List Arm} {classes : List ClassNo} → Goes exit place (within arms classes) Leave (between arms classes)
  drop : {class last : ClassNo} {classes : List ClassNo} → class ≡ last → Goes exit place (dropping (last ∷ classes)) (Drop class) (dropping classes)
  handle : {arms : List HandleArm} → Goes exit place (dropping []) (Handle arms) handling
  return : Goes exit place (dropping []) Return whole
  end_handle : Goes exit place handling EndHandle closing
  close : Goes exit place closing Return whole

some_if : {X : Type 0} (b : Bool) (x y : X) → (if b then Some x else None) ≡ Some y → (b ≡ true) × (x ≡ y)
some_if true x y e = (refl, cc)
some_if false x y e = absurd cc

some_where : {X : Type 0} (b : Bool) (o : Option X) (y : X) → (if b then o else None) ≡ Some y → (b ≡ true) × (o ≡ Some y)
some_where true o y e = (refl, e)
some_where false o y e = absurd cc

above_one : (class : ClassNo) (classes : List ClassNo) → is_above class classes ≡ true → AreBelowOne class classes
above_one class [] is = tt
above_one class (last ∷ classes) is = grind (arith, nat_tests, is)

takes_one : (exit place : ℕ) (classes : List ClassNo) (instr : Instr) (next : Reading) → in_takes classes instr ≡ Some next → Goes exit place (taking classes) instr next
takes_one exit place classes (Take class mode) next e =
    let both = some_if (is_above class classes) (taking (class ∷ classes)) next e in
    rw (← both.1) (take (above_one class classes both.0))
takes_one exit place classes Enter next e = let same : entered classes ≡ next = cc in rw (← same) enter
takes_one exit place classes other next e = absurd cc

enters_one : (exit place : ℕ) (classes : List ClassNo) (instr : Instr) (next : Reading) → in_body classes instr ≡ Some next → Goes exit place (entered classes) instr next
enters_one exit place classes Call next e = let same : between [] classes ≡ next = cc in rw (← same) call
enters_one exit place classes (Choose arms) next e = let same : between arms classes ≡ next = cc in rw (← same) choose
enters_one exit place classes other next e = absurd cc

leaves_one : (exit place : ℕ) (classes : List ClassNo) (instr : Instr) (next : Reading) → exit ≡ place → at_exit classes instr ≡ Some next → Goes exit place (between [] classes) instr next
leaves_one exit place classes Exit next at e = let same : dropping classes ≡ next = cc in rw (← same) (leave at)
leaves_one exit place classes other next at e = absurd cc

begins_one : (exit place : ℕ) (arm : Arm) (arms : List Arm) (classes : List ClassNo) (instr : Instr) (next : Reading) → arm.to ≡ place → in_arm arms classes instr ≡ Some next → Goes exit place (between (arm ∷ arms) classes) instr next
begins_one exit place arm arms classes (Go node) next at e = let same : within arms classes ≡ next = cc in rw (← same) (first_go at)
begins_one exit place arm arms classes Leave next at e = let same : between arms classes ≡ next = cc in rw (← same) (no_go at)
begins_one exit place arm arms classes other next at e = absurd cc

within_one : (exit place : ℕ) (arms : List Arm) (classes : List ClassNo) (instr : Instr) (next : Reading) → in_arm arms classes instr ≡ Some next → Goes exit place (within arms classes) instr next
within_one exit place arms classes (Go node) next e = let same : within arms classes ≡ next = cc in rw (← same) go
within_one exit place arms classes Leave next e = let same : between arms classes ≡ next = cc in rw (← same) last_go
within_one exit place arms classes other next e = absurd cc

drops_one : (exit place : ℕ) (classes : List ClassNo) (instr : Instr) (next : Reading) → in_drops classes instr ≡ Some next → Goes exit place (dropping classes) instr next
drops_one exit place [] (Drop class) next e = absurd cc
drops_one exit place (last ∷ classes) (Drop class) next e =
    let both = some_if (nat_eq class.0 last.0) (dropping classes) next e in
    let same : class.0 ≡ last.0 = grind (arith, nat_tests, both.0) in
    let own : class ≡ last = ap (λ (n : ℕ). let c : ClassNo = record { 0 = n } in c) same in
    rw (← both.1) (drop own)
drops_one exit place [] (Handle arms) next e = let same : handling ≡ next = cc in rw (← same) handle
drops_one exit place (class ∷ classes) (Handle arms) next e = absurd cc
drops_one exit place [] Return next e = let same : whole ≡ next = cc in rw (← same) return
drops_one exit place (class ∷ classes) Return next e = absurd cc
drops_one exit place classes other next e = absurd cc

handles_one : (exit place : ℕ) (instr : Instr) (next : Reading) → in_handling instr ≡ Some next → Goes exit place handling instr next
handles_one exit place EndHandle next e = let same : closing ≡ next = cc in rw (← same) end_handle
handles_one exit place other next e = absurd cc

closes_one : (exit place : ℕ) (instr : Instr) (next : Reading) → in_closing instr ≡ Some next → Goes exit place closing instr next
closes_one exit place Return next e = let same : whole ≡ next = cc in rw (← same) close
closes_one exit place other next e = absurd cc

-- what has been read more is as the table has it
pub goes_on : (exit place : ℕ) (reading : Reading) (instr : Instr) (next : Reading) → read_more exit place reading instr ≡ Some next → Goes exit place reading instr next
goes_on exit place (taking classes) instr next e = takes_one exit place classes instr next e
goes_on exit place (entered classes) instr next e = enters_one exit place classes instr next e
goes_on exit place (between [] classes) instr next e =
    let both = some_where (nat_eq exit place) (at_exit classes instr) next e in
    leaves_one exit place classes instr next (grind (arith, nat_tests, both.0)) both.1
goes_on exit place (between (arm ∷ arms) classes) instr next e =
    let both = some_where (nat_eq arm.to place) (in_arm arms classes instr) next e in
    begins_one exit place arm arms classes instr next (grind (arith, nat_tests, both.0)) both.1
goes_on exit place (within arms classes) instr next e = within_one exit place arms classes instr next e
goes_on exit place (dropping classes) instr next e = drops_one exit place classes instr next e
goes_on exit place handling instr next e = handles_one exit place instr next e
goes_on exit place closing instr next e = closes_one exit place instr next e
goes_on exit place whole instr next e = absurd cc
