-- Runs, one after another: with more steps, and with more answers.
use Rattle.std.proofs.Common.{◌≡◌, ℕ, zero, suc, ◌+◌, List, [], ◌∷◌, ◌++◌, refl, sym, ap, ◌∙◌, subst, arith, append_assoc, zero-add}
use Rattle.flux_values.specs.declared.answers.Answer.{Answer}
use Rattle.flux_model.specs.declared.programs.NodeNo.{NodeNo}
use Rattle.flux_model.specs.declared.programs.ClassNo.{ClassNo}
use Rattle.flow_model.specs.declared.journals.Key.{Key}
use Rattle.flow_model.specs.declared.journals.Event.{Event}
use Rattle.flux_plan.specs.declared.plans.Segment.{Segment}
use Rattle.flux_plan.specs.Machine.{State, Step, silent, acts, calls, ended, stuck, Matches, step, answered}
use Rattle.flux_plan.specs.Moves.{after_silence, settled}
use Rattle.flux_plan.specs.Runs.{event_of, Standing, at_end, at_call, nowhere, on_the_way, Ran, after_event, run, run_step, run_call}

-- a run after events
abbrev pub behind : List Event → Ran → Ran
behind before ran = record { events = before ++ ran.events; standing = ran.standing }

pub behind-behind : (a b : List Event) (ran : Ran) → behind a (behind b ran) ≡ behind (a ++ b) ran
behind-behind a b ran = ap (λ (es : List Event). let r : Ran = record { events = es; standing = ran.standing } in r) (sym (append_assoc a b ran.events))

pub behind-event : (before : List Event) (event : Event) (ran : Ran) → behind before (after_event event ran) ≡ behind (before ++ event ∷ []) ran
behind-event before event ran = behind-behind before (event ∷ []) ran

-- a run that came so far, and answers that are left
abbrev pub so_far : List Event → State → List Answer → Ran
so_far before state left = record { events = before; standing = on_the_way state left }

-- a run halts
abbrev pub IsStill : Standing → Type 0
IsStill at_end = Unit {0}
IsStill (at_call node args) = Unit {0}
IsStill nowhere = Unit {0}
IsStill (on_the_way state left) = ⊥

split_front : (event : Event) (ran : Ran) (before : List Event) (standing : Standing) → after_event event ran ≡ record { events = before; standing = standing }
    → (rest : List Event) × (before ≡ event ∷ rest) × (ran ≡ record { events = rest; standing = standing })
split_front event ran before standing e =
    (ran.events, sym (ap (λ (r : Ran). r.events) e), ap (λ (s : Standing). let r : Ran = record { events = ran.events; standing = s } in r) (ap (λ (r : Ran). r.standing) e))

module _ (segments : List Segment) (key : ClassNo → Key) (matches : Matches) where
  abbrev Run : ℕ → State → List Answer → Ran
  Run = run segments key matches

  -- with more steps a run goes on from where it came to
  pub run-add : (n m : ℕ) (state : State) (answers : List Answer) (before : List Event) (next : State) (left : List Answer)
      → Run n state answers ≡ so_far before next left → Run (n + m) state answers ≡ behind before (Run m next left)
  run-add zero m state answers before next left e =
      let none : before ≡ [] = sym (ap (λ (r : Ran). r.events) e) in
      let way : on_the_way state answers ≡ on_the_way next left = ap (λ (r : Ran). r.standing) e in
      let same : state ≡ next = cc in
      let all : answers ≡ left = cc in
      rw (zero-add, none, same, all) refl
  run-add (suc n) m state answers before next left e =
      let more : suc n + m ≡ suc (n + m) = omega arith in
      rw more (by (step segments matches state) (λ s l b x y h. run-add n m s l b x y h) before e)
    where
      Goes : State → List Answer → Type 0
      Goes s l = (b : List Event) (x : State) (y : List Answer) → Run n s l ≡ so_far b x y → Run (n + m) s l ≡ behind b (Run m x y)

      one : (event : Event) (s : State) (l : List Answer) → Goes s l → (b : List Event) → after_event event (Run n s l) ≡ so_far b next left → after_event event (Run (n + m) s l) ≡ behind b (Run m next left)
      one event s l goes b h =
          let (rest, is, own) = split_front event (Run n s l) b (on_the_way next left) h in
          rw is (ap (after_event event) (goes rest next left own))

      call : (node : NodeNo) (own : List Answer) → ((s : State) (l : List Answer) → Goes s l) → (b : List Event) → run_call (Run n) state node own ≡ so_far b next left → run_call (Run (n + m)) state node own ≡ behind b (Run m next left)
      call node [] goes b h = absurd (let x : at_call node state.values ≡ on_the_way next left = ap (λ (r : Ran). r.standing) h in cc)
      call node (answer ∷ rest) goes b h = one _ (answered state answer) rest (goes (answered state answer) rest) b h

      by : (own : Step) → ((s : State) (l : List Answer) → Goes s l) → (b : List Event) → run_step (Run n) key state answers own ≡ so_far b next left → run_step (Run (n + m)) key state answers own ≡ behind b (Run m next left)
      by (silent s) goes b h = goes s answers b next left h
      by (acts act s) goes b h = one (event_of key act) s answers (goes s answers) b h
      by (calls node) goes b h = call node answers goes b h
      by ended goes b h = absurd (let x : at_end ≡ on_the_way next left = ap (λ (r : Ran). r.standing) h in cc)
      by stuck goes b h = absurd (let x : nowhere ≡ on_the_way next left = ap (λ (r : Ran). r.standing) h in cc)

  -- a run that halts stays so with more steps
  pub run-still : (n m : ℕ) (state : State) (answers : List Answer) (before : List Event) (standing : Standing) → IsStill standing
      → Run n state answers ≡ record { events = before; standing = standing } → Run (n + m) state answers ≡ record { events = before; standing = standing }
  run-still zero m state answers before standing still e =
      absurd (subst IsStill (sym (ap (λ (r : Ran). r.standing) e)) still)
  run-still (suc n) m state answers before standing still e =
      let more : suc n + m ≡ suc (n + m) = omega arith in
      rw more (by (step segments matches state) (λ s l b h. run-still n m s l b standing still h) before e)
    where
      Goes : State → List Answer → Type 0
      Goes s l = (b : List Event) → Run n s l ≡ record { events = b; standing = standing } → Run (n + m) s l ≡ record { events = b; standing = standing }

      one : (event : Event) (s : State) (l : List Answer) → Goes s l → (b : List Event) → after_event event (Run n s l) ≡ record { events = b; standing = standing } → after_event event (Run (n + m) s l) ≡ record { events = b; standing = standing }
      one event s l goes b h =
          let (rest, is, own) = split_front event (Run n s l) b standing h in
          rw is (ap (after_event event) (goes rest own))

      call : (node : NodeNo) (own : List Answer) → ((s : State) (l : List Answer) → Goes s l) → (b : List Event) → run_call (Run n) state node own ≡ record { events = b; standing = standing } → run_call (Run (n + m)) state node own ≡ record { events = b; standing = standing }
      call node [] goes b h = h
      call node (answer ∷ rest) goes b h = one _ (answered state answer) rest (goes (answered state answer) rest) b h

      by : (own : Step) → ((s : State) (l : List Answer) → Goes s l) → (b : List Event) → run_step (Run n) key state answers own ≡ record { events = b; standing = standing } → run_step (Run (n + m)) key state answers own ≡ record { events = b; standing = standing }
      by (silent s) goes b h = goes s answers b h
      by (acts act s) goes b h = one (event_of key act) s answers (goes s answers) b h
      by (calls node) goes b h = call node answers goes b h
      by ended goes b h = h
      by stuck goes b h = h

  -- with more answers a run goes the same way
  pub run-answers : (n : ℕ) (state : State) (answers more : List Answer) (before : List Event) (next : State) (left : List Answer)
      → Run n state answers ≡ so_far before next left → Run n state (answers ++ more) ≡ so_far before next (left ++ more)
  run-answers zero state answers more before next left e =
      let none : before ≡ [] = sym (ap (λ (r : Ran). r.events) e) in
      let way : on_the_way state answers ≡ on_the_way next left = ap (λ (r : Ran). r.standing) e in
      let same : state ≡ next = cc in
      let all : answers ≡ left = cc in
      rw (none, same, all) refl
  run-answers (suc n) state answers more before next left e =
      by (step segments matches state) (λ s l b h. run-answers n s l more b next left h) before e
    where
      Goes : State → List Answer → Type 0
      Goes s l = (b : List Event) → Run n s l ≡ so_far b next left → Run n s (l ++ more) ≡ so_far b next (left ++ more)

      one : (event : Event) (s : State) (l : List Answer) → Goes s l → (b : List Event) → after_event event (Run n s l) ≡ so_far b next left → after_event event (Run n s (l ++ more)) ≡ so_far b next (left ++ more)
      one event s l goes b h =
          let (rest, is, own) = split_front event (Run n s l) b (on_the_way next left) h in
          rw is (ap (after_event event) (goes rest own))

      call : (node : NodeNo) (own : List Answer) → ((s : State) (l : List Answer) → Goes s l) → (b : List Event) → run_call (Run n) state node own ≡ so_far b next left → run_call (Run n) state node (own ++ more) ≡ so_far b next (left ++ more)
      call node [] goes b h = absurd (let x : at_call node state.values ≡ on_the_way next left = ap (λ (r : Ran). r.standing) h in cc)
      call node (answer ∷ rest) goes b h = one _ (answered state answer) rest (goes (answered state answer) rest) b h

      by : (own : Step) → ((s : State) (l : List Answer) → Goes s l) → (b : List Event) → run_step (Run n) key state answers own ≡ so_far b next left → run_step (Run n) key state (answers ++ more) own ≡ so_far b next (left ++ more)
      by (silent s) goes b h = goes s answers b h
      by (acts act s) goes b h = one (event_of key act) s answers (goes s answers) b h
      by (calls node) goes b h = call node answers goes b h
      by ended goes b h = absurd (let x : at_end ≡ on_the_way next left = ap (λ (r : Ran). r.standing) h in cc)
      by stuck goes b h = absurd (let x : nowhere ≡ on_the_way next left = ap (λ (r : Ran). r.standing) h in cc)

  -- silent steps are those of a run
  pub run-settled : (n : ℕ) (state : State) (answers : List Answer) → (m : ℕ) × (Run m state answers ≡ so_far [] (settled segments matches n state) answers)
  run-settled zero state answers = (0, refl)
  run-settled (suc n) state answers = by (step segments matches state) refl (λ s. run-settled n s answers)
    where
      Settles : State → Type 0
      Settles last = (m : ℕ) × (Run m state answers ≡ so_far [] last answers)

      by : (own : Step) → step segments matches state ≡ own → ((s : State) → (m : ℕ) × (Run m s answers ≡ so_far [] (settled segments matches n s) answers))
          → Settles (after_silence (settled segments matches n) state own)
      by (silent s) is more =
          let (m, same) = more s in
          (suc m, ap (run_step (Run m) key state answers) is ∙ same)
      by (acts act s) is more = (0, refl)
      by (calls node) is more = (0, refl)
      by ended is more = (0, refl)
      by stuck is more = (0, refl)

  -- a run that came so far is the front of one that halts
  pub run-front : (n m : ℕ) (state : State) (answers : List Answer) (before all : List Event) (next : State) (left : List Answer) (standing : Standing)
      → Run n state answers ≡ so_far before next left → IsStill standing → Run m state answers ≡ record { events = all; standing = standing }
      → (k : ℕ) × (behind before (Run k next left) ≡ record { events = all; standing = standing })
  run-front n m state answers before all next left standing e still whole =
      (m, sym (run-add n m state answers before next left e) ∙ ap (λ (i : ℕ). Run i state answers) (omega arith) ∙ run-still m n state answers all standing still whole)

  -- a run gets from a state to another, with these events; it halts with these
  abbrev pub Comes : State → List Answer → List Event → State → List Answer → Type 0
  Comes state answers before next left = (n : ℕ) × (Run n state answers ≡ so_far before next left)

  abbrev pub Stops : State → List Answer → List Event → Standing → Type 0
  Stops state answers all standing = (n : ℕ) × (Run n state answers ≡ record { events = all; standing = standing })

  pub comes-then : (state : State) (answers : List Answer) (before : List Event) (next : State) (left : List Answer) (more : List Event) (last : State) (rest : List Answer)
      → Comes state answers before next left → Comes next left more last rest → Comes state answers (before ++ more) last rest
  comes-then state answers before next left more last rest (n, e) (m, h) = (n + m, run-add n m state answers before next left e ∙ ap (behind before) h)

  pub comes-stops : (state : State) (answers : List Answer) (before : List Event) (next : State) (left : List Answer) (more : List Event) (standing : Standing)
      → Comes state answers before next left → Stops next left more standing → Stops state answers (before ++ more) standing
  comes-stops state answers before next left more standing (n, e) (m, h) = (n + m, run-add n m state answers before next left e ∙ ap (behind before) h)
