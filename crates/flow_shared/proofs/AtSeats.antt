-- What seats and turns may do, and what they keep.
use Rattle.std.specs.Prelude.{◌==◌}
use Rattle.std.proofs.Common.{◌≡◌, ℕ, ◌+◌, true, false, [], ◌∷◌, sym, ap, subst, ◌∙◌, Option, Some, None}
use prog.Atomic.{either}
use Rattle.atomic_table.specs.Table.{Me, rest, Allows, Splits, Joins}
use Rattle.atomic_table.specs.Seated.{TableId}
use Rattle.flow_core.specs.States.{CoreState}
use Rattle.flow_core.specs.Runs.{GoesOn}
use Rattle.flow_shared.specs.States.{SharedState}
use Rattle.flow_shared.specs.Journals.{BeginsWith, merged}
use Rattle.flow_shared.specs.declared.views.View.{View}
use Rattle.flow_shared.specs.declared.views.View.TheVariants.{Spent, Seated}
use Rattle.flow_shared.specs.Rule.{moved_view, without_places, joined, moves_of, seen_of, places_of, IsShared, WinsOrLoses, GivesTurn, Settles, IsSeated, IsOnTurn, seat_view}
use Rattle.flow_shared.proofs.Journals.{begins_of}
use Rattle.flow_shared.proofs.Kept.{at_seat, tries, gives_back, splits, joins, settles}

module _ {L : Type 0} (shared : SharedState L) (own table : TableId) (base : CoreState L)
    (same : shared ≡ record { id = table; base = base }) where
  known : (me : Me (Option (CoreState L)) (View L)) → IsSeated shared own me
      → me ≡ (at_seat base false (moves_of me.0) (seen_of me.0) (places_of me.0), [])
  known me seated = seated.me_ ∙ ap (λ s. (seat_view s false me.0, [])) same

  pub try_at : (me : Me (Option (CoreState L)) (View L)) → IsSeated shared own me → (slots seat : ℕ)
      → Allows (IsShared base) slots seat me 0 (λ n. either (n == 0) 1 n) (WinsOrLoses me)
  try_at me seated slots seat =
      let P : Me (Option (CoreState L)) (View L) → Type 0 = λ m.
      Allows (IsShared base) slots seat m 0 (λ n. either (n == 0) 1 n) (WinsOrLoses m) in
      subst P (sym (known me seated)) (tries base seat (moves_of me.0) (seen_of me.0) (places_of me.0) slots)

  pub split_at : (me : Me (Option (CoreState L)) (View L)) → IsSeated shared own me → (seat : ℕ)
      → Splits (IsShared base) seat me.0 (moved_view 2 me.0) (without_places 2 me.0)
  split_at me seated seat =
      let P : Me (Option (CoreState L)) (View L) → Type 0 = λ m.
      Splits (IsShared base) seat m.0 (moved_view 2 m.0) (without_places 2 m.0) in
      subst P (sym (known me seated)) (splits base seat (moves_of me.0) (seen_of me.0) (places_of me.0))

  module _ (me : Me (Option (CoreState L)) (View L)) (seated : IsSeated shared own me)
      (shared' : SharedState L) (own' : TableId) (me' : Me (Option (CoreState L)) (View L))
      (seated' : IsSeated shared' own' me') (same' : shared' ≡ record { id = table; base = base }) where
    known' : me' ≡ (at_seat base false (moves_of me'.0) (seen_of me'.0) (places_of me'.0), [])
    known' = seated'.me_ ∙ ap (λ s. (seat_view s false me'.0, [])) same'

    pub join_at : (seat other : ℕ) → Joins (IsShared base) seat me.0 other me'.0 (joined me.0 me'.0) Spent
    join_at seat other =
        let one : View L = at_seat base false (moves_of me.0) (seen_of me.0) (places_of me.0) in
        let first : Me (Option (CoreState L)) (View L) → Type 0 = λ m.
        Joins (IsShared base) seat m.0 other me'.0 (joined m.0 me'.0) Spent in
        let second : Me (Option (CoreState L)) (View L) → Type 0 = λ m.
        Joins (IsShared base) seat one other m.0 (joined one m.0) Spent in
        subst first (sym (known me seated))
        (subst second (sym known')
        (joins base seat (moves_of me.0) (seen_of me.0) (places_of me.0) other (moves_of me'.0) (seen_of me'.0) (places_of me'.0)))

    -- what the joined seat knows, before it settles
    abbrev pub before_settling : View L
    before_settling = Seated record {
      base = base;
      moves = moves_of me.0 + 1;
      has_turn = false;
      seen = seen_of me.0;
      aside = seen_of me'.0;
      places = merged (places_of me.0) (places_of me'.0);
    }

    pub joined_is : (mid : Me (Option (CoreState L)) (View L)) → mid ≡ (joined me.0 me'.0, me.1)
        → mid ≡ (before_settling, [])
    joined_is mid is =
        let one : View L = at_seat base false (moves_of me.0) (seen_of me.0) (places_of me.0) in
        is ∙ ap (λ (m : Me (Option (CoreState L)) (View L)). (joined m.0 me'.0, m.1)) (known me seated)
        ∙ ap (λ (m : Me (Option (CoreState L)) (View L)). (joined one m.0, [])) known'

    pub settle_at : (mid : Me (Option (CoreState L)) (View L)) → mid ≡ (joined me.0 me'.0, me.1) → (slots seat : ℕ)
        → Allows (IsShared base) slots seat mid 0 (λ n. n) (λ n. Settles mid)
    settle_at mid is slots seat =
        let P : Me (Option (CoreState L)) (View L) → Type 0 = λ m.
        Allows (IsShared base) slots seat m 0 (λ n. n) (λ n. Settles m) in
        subst P (sym (joined_is mid is))
        (settles base seat (moves_of me.0 + 1) (seen_of me.0) (merged (places_of me.0) (places_of me'.0)) slots
        (seen_of me'.0))

  pub give_at : (found : CoreState L) (me : Me (Option (CoreState L)) (View L)) → IsOnTurn shared own found me
      → (core : CoreState L) → GoesOn found core → (slots seat : ℕ) → slots ≡ 1
      → Allows (IsShared base) slots seat (me.0, (0, Some core) ∷ rest me.1) 0 (λ n. 0)
      (λ n. GivesTurn (me.0, (0, Some core) ∷ rest me.1))
  give_at found me held core on slots seat one =
      let known_on : me ≡ (at_seat base true (moves_of me.0) (seen_of me.0) (places_of me.0), (0, None) ∷ []) =
      held.me_ ∙ ap (λ s. (seat_view s true me.0, (0, None) ∷ [])) same in
      let first : GoesOn base found = subst (λ s. GoesOn s.base found) same held.on in
      let begins : BeginsWith core.entries (seen_of me.0) =
      subst (λ xs. BeginsWith core.entries xs) (sym held.seen_) (begins_of found core on) in
      let P : ℕ → Me (Option (CoreState L)) (View L) → Type 0 = λ n m.
      Allows (IsShared base) n seat (m.0, (0, Some core) ∷ rest m.1) 0 (λ n. 0)
      (λ n. GivesTurn (m.0, (0, Some core) ∷ rest m.1)) in
      subst (λ n. P n me) (sym one) (subst (P 1) (sym known_on)
      (gives_back base seat (moves_of me.0) (seen_of me.0) (places_of me.0) core (on.setup_ ∙ first.setup_) begins))
