-- Why these entries keep and break rules.
use Rattle.std.proofs.Common.{◌≡◌, ◌⊎◌, inl, inr, ℕ, true, ap, drop, length, List, [], ◌∷◌, ◌++◌, refl, sym, arith}
use Rattle.std.proofs.lemmas.List.{length-append}
use Rattle.flux_values.specs.declared.answers.Answer.{Answer}
use Rattle.flux_values.specs.declared.answers.CallResult.{CallResult}
use Rattle.flux_values.specs.declared.answers.CallResult.TheVariants as results
use Rattle.flux_values.specs.declared.answers.Mode.{Mode}
use Rattle.flux_values.specs.declared.answers.Mode.TheVariants.{Writer}
use Rattle.flux_model.specs.declared.items.FlowNo.{FlowNo}
use Rattle.flow_model.specs.declared.journals.Entry.{Entry}
use Rattle.flow_model.specs.declared.journals.Event.{Event}
use Rattle.flow_model.specs.declared.journals.Event.TheVariants.{Take, Wait}
use Rattle.flow_model.specs.Exclusion.{holds_against}
use Rattle.flow_model.specs.Waits.{IsNoWaitLast, StandsAt, StandsBefore}
use Rattle.flux_audit.specs.Rules.{IsHeld, IsOutOfTurn, HasCause}
use Rattle.flux_examples.specs.SmallAudits.{flow, by, a}
use Rattle.flux_examples.specs.Audits.{taken, awaited, Kept, Broken}

-- nothing is in an empty list
nothing_there : (before : List Entry) (x : Entry) (after : List Entry) → [] ≡ before ++ x ∷ after → ⊥
nothing_there before x after e = omega (arith, ap length e, length-append before (x ∷ after))

abbrev first_flow : List Entry → ℕ
first_flow [] = 0
first_flow (x ∷ entries) = let flow = x.flow in flow.0

abbrev is_wait : Event → ℕ
is_wait (Wait key mode) = 1
is_wait other = 0

abbrev first_wait : List Entry → ℕ
first_wait [] = 0
first_wait (x ∷ entries) = is_wait x.event

-- in a list of one entry is that one
one_there : (x : Entry) (before : List Entry) (flow : FlowNo) (event : Event) (after : List Entry)
    → x ∷ [] ≡ before ++ record { flow = flow; event = event } ∷ after
    → (first_flow (x ∷ []) ≡ flow.0) × (first_wait (x ∷ []) ≡ is_wait event)
one_there x [] flow event after e = (ap (λ (es : List Entry). first_flow es) e, ap (λ (es : List Entry). first_wait es) e)
one_there x (y ∷ before) flow event after e =
    absurd (nothing_there before (record { flow = flow; event = event }) after (ap (drop 1) e))

none_waits : IsNoWaitLast taken (flow 1)
none_waits key mode place last =
    let is = one_there (by 0 (Take a Writer)) last.before (flow 1) (Wait key mode) last.after last.stands in
    let same = is.0 in omega (arith, same)

nobody_stands : (other : ℕ) (place : ℕ) (mode : Mode) → StandsAt [] other a mode place → ⊥
nobody_stands other place mode stands =
    nothing_there stands.before (record { flow = flow other; event = Wait a mode }) stands.after stands.stands

not_blocked : HasCause [] (flow 1) (Wait a Writer) → ⊥
not_blocked (other, blocked) = by_cause blocked.cause
  where
    by_cause : (holds_against [] other a Writer ≡ true) ⊎ StandsBefore [] other 1 a Writer → ⊥
    by_cause (inl holds) = absurd cc
    by_cause (inr before) = nobody_stands other before.place before.their before.stands

unheld : IsHeld [] (flow 0) (Take a Writer) → ⊥
unheld (other, apart, against) = absurd cc

-- of those that wait, flow 1 is the only one
in_turn : IsOutOfTurn awaited (flow 1) (Take a Writer) → ⊥
in_turn (free, (other, apart, ahead)) =
    let stands = ahead.stands in
    let is = one_there (by 1 (Wait a Writer)) stands.before (flow other) (Wait a ahead.their) stands.after stands.stands in
    apart (sym is.0)

-- the code of a failure
abbrev code_of : CallResult → ℕ
code_of (results.Good values) = 0
code_of (results.Bad code) = code

pub kept : Kept
kept = record {
  flow_ = omega arith;
  path = record { rest = _; next = refl };
  path_of_wait = (record { rest = _; next = refl }, none_waits);
  answer_ = refl;
  hold = unheld;
  turn = in_turn;
  wait = (0, record { free = λ holds. holds refl; apart = λ same. omega (arith, same); cause = inl refl });
}

pub broken : Broken
broken = record {
  flow_ = λ lt. omega (arith, lt);
  path = λ path. let e = path.next in cc;
  path_of_wait = λ path. path.1 a Writer 0 (record { before = []; after = []; stands = refl; last = refl; at = refl });
  answer_ = λ right. let same : 2 ≡ 1 = ap (λ (x : Answer). code_of x.result) right in omega (arith, same);
  hold = (0, λ same. omega (arith, same), refl);
  turn = (
    λ holds. holds refl,
    (
      1,
      λ same. omega (arith, same),
      record {
        their = Writer;
        place = 0;
        stands = record { before = []; after = []; stands = refl; last = refl; at = refl };
        against = refl;
        first = λ own behind stands.
            let is = one_there (by 1 (Wait a Writer)) stands.before (flow 0) (Wait a own) stands.after stands.stands in
            let same = is.0 in absurd (omega (arith, same));
      },
    ),
  );
  wait = not_blocked;
}
