-- Where the shape of a segment can't go on.
use Rattle.std.proofs.Common.{◌≡◌, ◌≢◌, ◌<◌, ◌≤◌, ◌+◌, ◌-◌, ◌⊎◌, inl, inr, ℕ, zero, suc, List, [], ◌∷◌, length, Option, Some, None, refl, sym, ap, subst, ◌∙◌, arith}
use Rattle.std.specs.List.{slice_get}
use Rattle.std.proofs.lemmas.Bool.{cases_order}
use Rattle.std.proofs.lemmas.Option.{slice_get_within}
use Rattle.flux_plan.specs.declared.plans.Segment.{Segment}
use Rattle.flux_plan.specs.declared.plans.Instr.{Instr}
use Rattle.flux_plan.specs.Reading.{Reading, taking, whole, read_more, read_on, reading_at}
use Rattle.flux_plan.specs.Faulty.{CantGoOn, IsMisshapen}
use Rattle.flux_verify.specs.steps.Checks.{IsFirstPlace}
use Rattle.flux_verify.specs.declared.shapes.Reading as code
use Rattle.flux_verify.specs.declared.shapes.Reading.TheVariants.{Whole}
use Rattle.flux_verify.specs.steps.Shapes.{reading_of}
use Rattle.std.specs.Option.{option_map}
use Rattle.flux_plan.proofs.Readings.{reading_at-next}

-- what had been read one place before
pub record Before (exit place : ℕ) (start : Option Reading) (instrs : List Instr) (count : ℕ) (now : Reading) : Type 0 where
  pub reading : Reading
  pub read : read_on exit place start instrs count ≡ Some reading
  pub instr : Instr
  pub at_ : slice_get instrs count ≡ Some instr
  pub more : read_more exit (place + count) reading instr ≡ Some now

read_back : (exit place : ℕ) (start : Option Reading) (instrs : List Instr) (count : ℕ) (now : Reading) → read_on exit place start instrs (suc count) ≡ Some now → Before exit place start instrs count now
read_back exit place None instrs count now e = absurd cc
read_back exit place (Some r) [] count now e = absurd cc
read_back exit place (Some r) (i ∷ instrs) zero now e = record { reading = r; read = refl; instr = i; at_ = refl; more = let p : place + 0 ≡ place = omega arith in rw p (one (read_more exit place r i) e) }
  where
    one : (o : Option Reading) → read_on exit (place + 1) o instrs 0 ≡ Some now → o ≡ Some now
    one None e = absurd cc
    one (Some r) e = e
read_back exit place (Some r) (i ∷ instrs) (suc count) now e =
    let b = read_back exit (place + 1) (read_more exit place r i) instrs count now e in
    let p : place + suc count ≡ place + 1 + count = omega arith in
    record { reading = b.reading; read = b.read; instr = b.instr; at_ = b.at_; more = rw p b.more }

nothing : (instrs : List Instr) → slice_get instrs (length instrs) ≡ None
nothing [] = refl
nothing (i ∷ instrs) = nothing instrs

module _ (segment : Segment) where
  abbrev At : ℕ → Reading → Type 0
  At count now = Before segment.exit 0 (Some (taking [])) segment.code count now

  back : (count : ℕ) (now : Reading) → reading_at segment (suc count) ≡ Some now → At count now
  back count now e = read_back segment.exit 0 (Some (taking [])) segment.code count now e

  -- where something has been read, the shape went on before
  went_on : (n at count : ℕ) (now : Reading) → count ≡ n + at → reading_at segment (suc count) ≡ Some now → IsMisshapen segment at → ⊥
  went_on zero at count now same e is =
      let b = back count now e in
      let here : count ≡ at = omega (arith, same) in
      let before : reading_at segment count ≡ Some is.reading = subst (λ n. reading_at segment n ≡ Some is.reading) (sym here) is.before in
      let own : b.reading ≡ is.reading = (let h = b.read in cc) in
      let stands : slice_get segment.code at ≡ Some b.instr = subst (λ n. slice_get segment.code n ≡ Some b.instr) here b.at_ in
      let stops : read_more segment.exit at is.reading b.instr ≡ None = subst (λ o. CantGoOn segment.exit at is.reading o) stands is.stops in
      let more : read_more segment.exit (0 + count) is.reading b.instr ≡ Some now = subst (λ r. read_more segment.exit (0 + count) r b.instr ≡ Some now) own b.more in
      let place : 0 + count ≡ at = omega (arith, here) in
      let h : read_more segment.exit at is.reading b.instr ≡ Some now = subst (λ n. read_more segment.exit n is.reading b.instr ≡ Some now) place more in
      let none : Some now ≡ None = sym h ∙ stops in
      cc
  went_on (suc n) at zero now same e is = absurd (omega (arith, same))
  went_on (suc n) at (suc count) now same e is = let b = back (suc count) now e in went_on n at count b.reading (omega (arith, same)) b.read is

  pub not_before : (place : ℕ) (now : Reading) → reading_at segment place ≡ Some now → (at : ℕ) → IsMisshapen segment at → place ≤ at
  not_before place now e at is = one (cases_order at place)
    where
      one : (at ≡ place) ⊎ ((at < place) ⊎ (place < at)) → place ≤ at
      one (inl same) = omega (arith, same)
      one (inr (inl less)) =
          let p : place ≡ suc (place - 1) = omega (arith, less) in
          absurd (went_on (place - suc at) at (place - 1) now (omega (arith, less)) (subst (λ n. reading_at segment n ≡ Some now) p e) is)
      one (inr (inr more)) = omega (arith, more)

  -- an instruction with which the shape can't go on
  pub stops_here : (place : ℕ) (now : Reading) (instr : Instr) → reading_at segment place ≡ Some now → slice_get segment.code place ≡ Some instr → read_more segment.exit place now instr ≡ None → IsFirstPlace (IsMisshapen segment) (Some place)
  stops_here place now instr e at none = (record { reading = now; before = e; stops = rw at none }, not_before place now e)

  -- the code ends too early
  pub ends_early : (now : Reading) → reading_at segment (length segment.code) ≡ Some now → now ≢ whole → IsFirstPlace (IsMisshapen segment) (Some (length segment.code))
  ends_early now e more = (record { reading = now; before = e; stops = rw (nothing segment.code) more }, not_before (length segment.code) now e)

  -- the code ends where all has been read
  pub ends_whole : reading_at segment (length segment.code) ≡ Some whole → IsFirstPlace (IsMisshapen segment) None
  ends_whole e at is = one (cases_order at (length segment.code))
    where
      le : length segment.code ≤ at
      le = not_before (length segment.code) whole e at is

      past : (count : ℕ) → count ≡ at → length segment.code < count → ⊥
      past zero same lt = absurd (omega (arith, lt))
      past (suc count) same lt =
          let b = back count is.reading (subst (λ n. reading_at segment n ≡ Some is.reading) (sym same) is.before) in
          let within = slice_get_within segment.code count b.instr b.at_ in
          absurd (omega (arith, lt, within))

      one : (at ≡ length segment.code) ⊎ ((at < length segment.code) ⊎ (length segment.code < at)) → ⊥
      one (inl same) =
          let h : Some is.reading ≡ Some whole = sym is.before ∙ ap (reading_at segment) same ∙ e in
          let own : is.reading ≡ whole = cc in
          let stops : CantGoOn segment.exit at is.reading None = subst (λ o. CantGoOn segment.exit at is.reading o) (ap (slice_get segment.code) same ∙ nothing segment.code) is.stops in
          stops own
      one (inr (inl less)) = absurd (omega (arith, less, le))
      one (inr (inr more)) = past at refl more

-- ---- as the code has read it

mapped : {X Y : Type 0} (f : X → Y) (found own : Option X) (then : Option Y) → option_map f found ≡ then → found ≡ own → then ≡ option_map f own
mapped f found own then e is = sym e ∙ ap (option_map f) is

not_whole : (reading : code.Reading) → (reading ≡ Whole → ⊥) → reading_of reading ≢ whole
not_whole Whole other same = other refl
not_whole taken other same = cc

module _ (segment : Segment) (reading : code.Reading) (place : ℕ) (read : reading_at segment place ≡ Some (reading_of reading)) where
  pub code_stops : (instr : Instr) (found : Option code.Reading) → slice_get segment.code place ≡ Some instr
      → option_map reading_of found ≡ read_more segment.exit place (reading_of reading) instr → found ≡ None → IsFirstPlace (IsMisshapen segment) (Some place)
  code_stops instr found at e is = stops_here segment place (reading_of reading) instr read at (mapped reading_of found None _ e is)

  pub code_goes_on : (instr : Instr) (found : Option code.Reading) (more : code.Reading) → slice_get segment.code place ≡ Some instr
      → option_map reading_of found ≡ read_more segment.exit place (reading_of reading) instr → found ≡ Some more → reading_at segment (place + 1) ≡ Some (reading_of more)
  code_goes_on instr found more at e is = reading_at-next segment place (reading_of reading) instr read at ∙ mapped reading_of found (Some more) _ e is

  pub code_ends_whole : place ≡ length segment.code → reading ≡ Whole → IsFirstPlace (IsMisshapen segment) None
  code_ends_whole at is = ends_whole segment (subst (λ n. reading_at segment n ≡ Some whole) at (read ∙ ap (λ r. Some (reading_of r)) is))

  pub code_ends_early : place ≡ length segment.code → (reading ≡ Whole → ⊥) → IsFirstPlace (IsMisshapen segment) (Some place)
  code_ends_early at other =
      subst (λ n. IsFirstPlace (IsMisshapen segment) (Some n)) (sym at)
      (ends_early segment (reading_of reading) (subst (λ n. reading_at segment n ≡ Some (reading_of reading)) at read) (not_whole reading other))
