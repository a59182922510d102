-- What seats and turns of a hall may do.
use Rattle.std.specs.Prelude.{◌==◌}
use Rattle.std.proofs.Common.{◌≡◌, ℕ, ◌+◌, Bool, true, false, List, [], ◌∷◌, sym, ap, subst, ◌∙◌, Option, Some, None}
use mathlib.Core.Option.{none}
use prog.Atomic.{either}
use Rattle.atomic_table.specs.Table.{Me, step, rest, Allows, Splits, Joins}
use Rattle.atomic_table.specs.Seated.{TableId}
use Rattle.flow_core.specs.States.{CoreState}
use Rattle.flow_core.specs.Runs.{GoesOn}
use Rattle.flow_hall.specs.States.{HallState}
use Rattle.flow_hall.specs.declared.views.View.{View}
use Rattle.flow_hall.specs.declared.views.View.TheVariants.{Spent, Seated}
use Rattle.flow_hall.specs.Rule.{view_after, moves_of, IsHall, TriesTurn, GivesTurn, IsSeated, IsOnTurn}
use Rattle.flow_hall.proofs.Kept.{tries, gives_back, splits, joins}
use Rattle.flow_hall.proofs.Goings.{goes_on-then}

module _ {L : Type 0} (hall : HallState L) (own table : TableId) (base : CoreState L)
    (same : hall ≡ record { id = table; base = base }) where
  known : (me : Me (Option (CoreState L)) (View L)) → IsSeated hall own me
      → me ≡ (Seated base (moves_of me.0) false, [])
  known me seated = seated.me_ ∙ ap (λ h. (Seated h.base (moves_of me.0) false, [])) same

  pub try_at : (me : Me (Option (CoreState L)) (View L)) → IsSeated hall own me → (slots seat : ℕ)
      → Allows (IsHall base) slots seat me 0 (λ n. either (n == 0) 1 n) (TriesTurn (step slots 0 0 1 none) me)
  try_at me seated slots seat =
      let P : Me (Option (CoreState L)) (View L) → Type 0 = λ m.
      Allows (IsHall base) slots seat m 0 (λ n. either (n == 0) 1 n) (TriesTurn (step slots 0 0 1 none) m) in
      subst P (sym (known me seated)) (tries base slots seat (moves_of me.0))

  pub split_at : (me : Me (Option (CoreState L)) (View L)) → IsSeated hall own me → (seat : ℕ)
      → Splits (IsHall base) seat me.0 (view_after 2 false me.0) (view_after 2 false me.0)
  split_at me seated seat =
      let P : Me (Option (CoreState L)) (View L) → Type 0 = λ m.
      Splits (IsHall base) seat m.0 (view_after 2 false m.0) (view_after 2 false m.0) in
      subst P (sym (known me seated)) (splits base seat (moves_of me.0))

  pub join_at : (me : Me (Option (CoreState L)) (View L)) → IsSeated hall own me
      → (hall' : HallState L) (own' : TableId) (me' : Me (Option (CoreState L)) (View L)) → IsSeated hall' own' me'
      → hall' ≡ record { id = table; base = base } → (seat other : ℕ)
      → Joins (IsHall base) seat me.0 other me'.0 (view_after 1 false me.0) Spent
  join_at me seated hall' own' me' seated' same' seat other =
      let first : Me (Option (CoreState L)) (View L) → Type 0 = λ m.
      Joins (IsHall base) seat m.0 other me'.0 (view_after 1 false m.0) Spent in
      let second : Me (Option (CoreState L)) (View L) → Type 0 = λ m.
      Joins (IsHall base) seat (Seated base (moves_of me.0) false) other m.0
      (Seated base (moves_of me.0 + 1) false) Spent in
      let me'-known : me' ≡ (Seated base (moves_of me'.0) false, []) =
      seated'.me_ ∙ ap (λ h. (Seated h.base (moves_of me'.0) false, [])) same' in
      subst first (sym (known me seated))
      (subst second (sym me'-known) (joins base seat (moves_of me.0) other (moves_of me'.0)))

  pub give_at : (found : CoreState L) (me : Me (Option (CoreState L)) (View L)) → IsOnTurn hall own found me
      → (core : CoreState L) → GoesOn found core → (slots seat : ℕ) → slots ≡ 1
      → Allows (IsHall base) slots seat (me.0, (0, Some core) ∷ rest me.1) 0 (λ n. 0)
      (λ n. GivesTurn (me.0, (0, Some core) ∷ rest me.1))
  give_at found me held core on slots seat one =
      let known : me ≡ (Seated base (moves_of me.0) true, (0, None) ∷ []) =
      held.me_ ∙ ap (λ h. (Seated h.base (moves_of me.0) true, (0, None) ∷ [])) same in
      let from : GoesOn base core = goes_on-then base found core
      (subst (λ h. GoesOn h.base found) same held.on) on in
      let P : ℕ → Me (Option (CoreState L)) (View L) → Type 0 = λ n m.
      Allows (IsHall base) n seat (m.0, (0, Some core) ∷ rest m.1) 0 (λ n. 0)
      (λ n. GivesTurn (m.0, (0, Some core) ∷ rest m.1)) in
      subst (λ n. P n me) (sym one) (subst (P 1) (sym known) (gives_back base core seat (moves_of me.0) from))
