-- The shape of a segment read place by place: what has been read, and with which instructions it may go on.
use Rattle.std.specs.Prelude.{ℕ, zero, suc, ◌+◌, ◌==◌, nat_lt, Bool, true, if◌then◌else◌, List, [], ◌∷◌, Option, Some, None}
use Rattle.flux_model.specs.declared.programs.ClassNo.{ClassNo}
use Rattle.flux_plan.specs.declared.plans.Segment.{Segment}
use Rattle.flux_plan.specs.declared.plans.Arm.{Arm}
use Rattle.flux_plan.specs.declared.plans.Instr.{Instr}
use Rattle.flux_plan.specs.declared.plans.Instr.TheVariants.{Take, Enter, Choose, Go, Leave, Call, Exit, Drop, Handle, EndHandle, Return}

-- what has been read so far; the classes are those that are taken there, the latest first, and the arms those that are
-- still to come
pub data Reading : Type 0 where
  -- takes alone
  taking : List ClassNo → Reading
  -- `Enter`
  entered : List ClassNo → Reading
  -- a choice, and whole arms; or a call
  between : List Arm → List ClassNo → Reading
  -- part of an arm
  within : List Arm → List ClassNo → Reading
  -- `Exit`, and perhaps drops
  dropping : List ClassNo → Reading
  -- `Handle`
  handling : Reading
  -- `EndHandle`
  closing : Reading
  -- all
  whole : Reading

-- a class is above those that are taken
abbrev pub is_above : ClassNo → List ClassNo → Bool
is_above class [] = true
is_above class (last ∷ classes) = nat_lt last.0 class.0

-- takes, and then `Enter`
abbrev pub in_takes : List ClassNo → Instr → Option Reading
in_takes classes (Take class mode) =
    if is_above class classes then Some (taking (class ∷ classes)) else None
in_takes classes Enter = Some (entered classes)
in_takes classes other = None

-- a call or a choice
abbrev pub in_body : List ClassNo → Instr → Option Reading
in_body classes Call = Some (between [] classes)
in_body classes (Choose arms) = Some (between arms classes)
in_body classes other = None

-- the instructions of an arm, where these follow it
abbrev pub in_arm : List Arm → List ClassNo → Instr → Option Reading
in_arm arms classes (Go node) = Some (within arms classes)
in_arm arms classes Leave = Some (between arms classes)
in_arm arms classes other = None

abbrev pub at_exit : List ClassNo → Instr → Option Reading
at_exit classes Exit = Some (dropping classes)
at_exit classes other = None

-- the drop of the class that was taken last
abbrev pub one_less : ClassNo → List ClassNo → Option Reading
one_less class [] = None
one_less class (last ∷ classes) = if class.0 == last.0 then Some (dropping classes) else None

-- where nothing is taken any more
abbrev pub behind_drops : Reading → List ClassNo → Option Reading
behind_drops reading [] = Some reading
behind_drops reading (class ∷ classes) = None

-- drops, and then perhaps `Handle`, and `Return`
abbrev pub in_drops : List ClassNo → Instr → Option Reading
in_drops classes (Drop class) = one_less class classes
in_drops classes (Handle arms) = behind_drops handling classes
in_drops classes Return = behind_drops whole classes
in_drops classes other = None

abbrev pub in_handling : Instr → Option Reading
in_handling EndHandle = Some closing
in_handling other = None

abbrev pub in_closing : Instr → Option Reading
in_closing Return = Some whole
in_closing other = None

-- what has been read with the instruction at a place, where the segment has this `exit`; none where the shape can't go on
-- with that. The places of `Exit` and of arms are compared where the code has them
abbrev pub read_more : ℕ → ℕ → Reading → Instr → Option Reading
read_more exit place (taking classes) instr = in_takes classes instr
read_more exit place (entered classes) instr = in_body classes instr
read_more exit place (between [] classes) instr =
    if exit == place then at_exit classes instr else None
read_more exit place (between (arm ∷ arms) classes) instr =
    if arm.to == place then in_arm arms classes instr else None
read_more exit place (within arms classes) instr = in_arm arms classes instr
read_more exit place (dropping classes) instr = in_drops classes instr
read_more exit place handling instr = in_handling instr
read_more exit place closing instr = in_closing instr
read_more exit place whole instr = None

-- from a place on, what has been read after so many instructions; none where the code ended or couldn't be gone on with
-- before
abbrev pub read_on : ℕ → ℕ → Option Reading → List Instr → ℕ → Option Reading
read_on exit place None code count = None
read_on exit place (Some reading) code zero = Some reading
read_on exit place (Some reading) [] (suc count) = None
read_on exit place (Some reading) (instr ∷ code) (suc count) =
    read_on exit (place + 1) (read_more exit place reading instr) code count

-- what has been read of a segment before a place
abbrev pub reading_at : Segment → ℕ → Option Reading
reading_at segment place = read_on segment.exit 0 (Some (taking [])) segment.code place
