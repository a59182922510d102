-- What is past stays so, whatever comes later.
use Rattle.std.proofs.Common.{◌≡◌, ◌<◌, ◌≤◌, inl, inr, ℕ, false, eqb, leb, ◌&&◌, List, [], ◌∷◌, ◌++◌, refl, sym, ap, subst, ◌∙◌, arith}
use Rattle.std.specs.List.{sum_by}
use Rattle.std.proofs.lemmas.Bool.{ne_eqb, and_left, and_right}
use Rattle.flow_model.specs.declared.journals.Entry.{Entry}
use Rattle.flow_model.specs.Setup.{Setup}
use Rattle.flow_model.specs.Events.{IsLive}
use Rattle.flow_orders.specs.declared.runs.Run.{Run}
use Rattle.flow_orders.specs.Ticks.{Timed, until}
use Rattle.flow_orders.specs.Runs.{covers, running_at, running_of, starting_from}
use Rattle.flow_orders.specs.Rule.{IsPassedOver, IsSettled}
use Rattle.flux_simulate.specs.steps.Ticking.{ArePast}
use Rattle.flux_simulate.proofs.Tallies.{count_one, sum-moved, sum-behind, covers-before}

-- of two lists as many runs cover a tick, and start at it
pub record AreAlike (old new : List Run) (t : ℕ) : Type 0 where
  pub at : running_at new t ≡ running_at old t
  pub of : (flow : ℕ) → running_of new flow t ≡ running_of old flow t
  pub starting : (flow : ℕ) → starting_from new flow t ≡ starting_from old flow t

pub alike-same : (runs : List Run) (t : ℕ) → AreAlike runs runs t
alike-same runs t = record { at = refl; of = λ flow. refl; starting = λ flow. refl }

-- where a run has moved to those that have ended
pub alike-moved : (ended front : List Run) (run : Run) (back : List Run) (t : ℕ)
    → AreAlike (ended ++ (front ++ run ∷ back)) ((ended ++ run ∷ []) ++ (front ++ back)) t
alike-moved ended front run back t = record {
  at = sum-moved (λ (r : Run). count_one (covers t r)) ended front run back;
  of = λ flow. sum-moved (λ (r : Run). count_one (eqb r.flow.0 flow && covers t r)) ended front run back;
  starting = λ flow. sum-moved (λ (r : Run). count_one (eqb r.start t && leb flow r.flow.0)) ended front run back;
}

-- where a run has begun later
pub alike-begun : (ended running : List Run) (run : Run) (t : ℕ) → t < run.start
    → AreAlike (ended ++ running) (ended ++ (running ++ run ∷ [])) t
alike-begun ended running run t later = record {
  at = sum-none (λ (r : Run). count_one (covers t r)) (ap count_one early);
  of = λ flow. sum-none (λ (r : Run). count_one (eqb r.flow.0 flow && covers t r))
      (ap count_one (and_right (eqb run.flow.0 flow) (covers t run) early));
  starting = λ flow. sum-none (λ (r : Run). count_one (eqb r.start t && leb flow r.flow.0))
      (ap count_one (and_left (eqb run.start t) (leb flow run.flow.0)
      (ne_eqb run.start t (λ same. omega (arith, same, later)))));
}
  where
    early : covers t run ≡ false
    early = covers-before t run later

    sum-none : (f : Run → ℕ) → f run ≡ 0 → sum_by f (ended ++ (running ++ run ∷ [])) ≡ sum_by f (ended ++ running)
    sum-none f none = let more = sum-behind f ended running run in omega (arith, more, none)

settled-alike : (setup : Setup) (processors : ℕ) (entries : List Entry) (old new : List Run) (t flow : ℕ)
    → AreAlike old new t → IsSettled setup processors entries old t flow → IsSettled setup processors entries new t flow
settled-alike setup processors entries old new t flow alike (inl (blocked, none)) =
    inl (blocked, alike.of flow ∙ none)
settled-alike setup processors entries old new t flow alike (inr (inl (call, one))) =
    inr (inl (call, alike.of flow ∙ one))
settled-alike setup processors entries old new t flow alike (inr (inr (call, none, passed))) =
    inr (inr (call, alike.of flow ∙ none, over))
  where
    over : IsPassedOver processors new t flow
    over = record {
      taken = subst (λ (count : ℕ). processors ≤ count) (sym alike.at) passed.taken;
      lower = alike.starting flow ∙ passed.lower;
    }

pub past-alike : (setup : Setup) (processors : ℕ) (was now : Timed) (old new : List Run) (tick : ℕ)
    → ((t : ℕ) → t < tick → until t now ≡ until t was) → ((t : ℕ) → t < tick → AreAlike old new t)
    → ArePast setup processors was old tick → ArePast setup processors now new tick
past-alike setup processors was now old new tick same alike past = record {
  few = λ t lt. let a = alike t lt in subst (λ (count : ℕ). count ≤ processors) (sym a.at) (past.few t lt);
  settled = λ t flow lt live.
      subst (λ (es : List Entry). IsSettled setup processors es new t flow) (sym (same t lt))
      (settled-alike setup processors (until t was) old new t flow (alike t lt)
      (past.settled t flow lt (subst (λ (es : List Entry). IsLive setup es flow) (same t lt) live)));
}
