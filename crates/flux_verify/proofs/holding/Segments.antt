-- Where the takes of a segment are.
use Rattle.std.proofs.Common.{◌≡◌, ◌≢◌, ◌⊎◌, inl, inr, ℕ, zero, suc, ◌+◌, List, [], ◌∷◌, Option, Some, None, refl, sym, ap, ◌∙◌, subst, arith, add-zero}
use Rattle.std.specs.Prelude.{⊤}
use Rattle.std.specs.List.{slice_get, flat_map, Contains}
use Rattle.std.proofs.lemmas.List.Elements.{Contains-append_right, Contains-append_cases}
use Rattle.std.proofs.lemmas.Option.{slice_get_within, slice_get-get_or}
use Rattle.flux_values.specs.declared.answers.Mode.{Mode}
use Rattle.flux_model.specs.declared.programs.ClassNo.{ClassNo}
use Rattle.flux_model.specs.declared.programs.Hold.{Hold}
use Rattle.flux_model.proofs.RisingHolds.{contains_first, contains_cases, contains_none}
use Rattle.flux_plan.specs.declared.plans.Segment.{Segment}
use Rattle.flux_plan.specs.declared.plans.Instr.{Instr}
use Rattle.flux_plan.specs.declared.plans.Instr.TheVariants.{Take}
use Rattle.flux_plan.specs.Reading.{Reading, taking, whole, reading_at}
use Rattle.flux_plan.specs.Leading.{taken_by}
use Rattle.flux_plan.specs.Faulty.{CantGoOn, IsMisshapen}
use Rattle.flux_plan.proofs.Readings.{Goes, take, enter, call, choose, leave, first_go, no_go, go, last_go, drop, handle, return, end_handle, close}
use Rattle.flux_plan.proofs.Placing.{shape_goes}

-- ---- in code

-- what is taken somewhere is among the takes
pub contains_take : (code : List Instr) (place : ℕ) (hold : Hold) → slice_get code place ≡ Some (Take hold.class hold.mode) → Contains (flat_map taken_by code) hold
contains_take [] place hold at = absurd cc
contains_take (instr ∷ code) zero hold at =
    let same : instr ≡ Take hold.class hold.mode = cc in
    rw same (contains_first hold (flat_map taken_by code))
contains_take (instr ∷ code) (suc place) hold at = Contains-append_right (taken_by instr) (flat_map taken_by code) hold (contains_take code place hold at)

taken_is : (instr : Instr) (hold : Hold) → Contains (taken_by instr) hold → instr ≡ Take hold.class hold.mode
taken_is (Take class mode) hold is = elim (contains_cases _ [] hold is) [
  | inl same ↦ ap (λ (h : Hold). Take h.class h.mode) (sym same)
  | inr none ↦ absurd (contains_none hold none)
]
taken_is other hold is = absurd (contains_none hold is)

-- each of the takes is somewhere
pub take_stands : (code : List Instr) (hold : Hold) → Contains (flat_map taken_by code) hold → (place : ℕ) × (slice_get code place ≡ Some (Take hold.class hold.mode))
take_stands [] hold is = absurd (contains_none hold is)
take_stands (instr ∷ code) hold is = elim (Contains-append_cases (taken_by instr) (flat_map taken_by code) hold is) [
  | inl own ↦ (0, ap Some (taken_is instr hold own))
  | inr later ↦ let (place, at) = take_stands code hold later in (suc place, at)
]

-- ---- after `Enter`

-- it has been read further than the takes
abbrev pub IsBehindTakes : Reading → Type 0
IsBehindTakes (taking classes) = ⊥
IsBehindTakes other = ⊤

stays_behind : (exit place : ℕ) (reading : Reading) (instr : Instr) (next : Reading) → Goes exit place reading instr next → IsBehindTakes reading → IsBehindTakes next
stays_behind exit place reading instr next (take below) behind = behind
stays_behind exit place reading instr next enter behind = tt
stays_behind exit place reading instr next call behind = tt
stays_behind exit place reading instr next choose behind = tt
stays_behind exit place reading instr next (leave e) behind = tt
stays_behind exit place reading instr next (first_go e) behind = tt
stays_behind exit place reading instr next (no_go e) behind = tt
stays_behind exit place reading instr next go behind = tt
stays_behind exit place reading instr next last_go behind = tt
stays_behind exit place reading instr next (drop e) behind = tt
stays_behind exit place reading instr next handle behind = tt
stays_behind exit place reading instr next return behind = tt
stays_behind exit place reading instr next end_handle behind = tt
stays_behind exit place reading instr next close behind = tt

takes_nothing : (exit place : ℕ) (reading : Reading) (class : ClassNo) (mode : Mode) (next : Reading) → Goes exit place reading (Take class mode) next → IsBehindTakes reading → ⊥
takes_nothing exit place reading class mode next (take below) behind = behind

is_whole : (reading : Reading) → (reading ≡ whole) ⊎ (reading ≢ whole)
is_whole whole = inl refl
is_whole other = inr (λ e. cc)

module _ (segment : Segment) (shaped : (place : ℕ) → IsMisshapen segment place → ⊥) where
  -- after all there is nothing
  ends : (place : ℕ) → reading_at segment place ≡ Some whole → (further : ℕ) (instr : Instr) → slice_get segment.code (place + further) ≡ Some instr → ⊥
  ends place before further instr at = here (slice_get segment.code place) refl
    where
      here : (o : Option Instr) → slice_get segment.code place ≡ o → ⊥
      here None none =
          let lt = slice_get_within segment.code (place + further) instr at in
          let some = slice_get-get_or segment.code place instr (omega (arith, lt)) in
          cc
      here (Some own) is = shaped place (record { reading = whole; before = before; stops = subst (CantGoOn segment.exit place whole) (sym is) refl })

  -- after `Enter` nothing is taken
  pub none_taken : (further place : ℕ) (reading : Reading) → reading_at segment place ≡ Some reading → IsBehindTakes reading
      → (class : ClassNo) (mode : Mode) → slice_get segment.code (place + further) ≡ Some (Take class mode) → ⊥
  none_taken zero place reading before behind class mode at = elim (is_whole reading) [
    | inl all ↦ ends place (before ∙ ap Some all) 0 (Take class mode) at
    | inr on ↦
        let step = shape_goes segment shaped place reading before on in
        let here : slice_get segment.code place ≡ Some (Take class mode) = rw add-zero at at in
        let same : step.instr ≡ Take class mode = let is = step.is in cc in
        takes_nothing segment.exit place reading class mode step.next (subst (λ (i : Instr). Goes segment.exit place reading i step.next) same step.goes) behind
  ]
  none_taken (suc further) place reading before behind class mode at = elim (is_whole reading) [
    | inl all ↦ ends place (before ∙ ap Some all) (suc further) (Take class mode) at
    | inr on ↦
        let step = shape_goes segment shaped place reading before on in
        let p : place + suc further ≡ place + 1 + further = omega arith in
        none_taken further (place + 1) step.next step.after (stays_behind segment.exit place reading step.instr step.next step.goes behind) class mode (rw p at at)
  ]
