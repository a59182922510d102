-- The modes in which holds hold a key.
use Rattle.std.proofs.Common.{◌≡◌, ◌≢◌, inl, inr, ℕ, Bool, true, false, List, [], ◌∷◌, Option, Some, None, refl, sym, ap, ◌∙◌}
use Rattle.std.specs.Prelude.{if◌then◌else◌}
use Rattle.std.specs.List.{Contains}
use Rattle.std.proofs.lemmas.Bool.{and_parts, eqb-true, eq-eqb}
use Rattle.flux_values.specs.declared.answers.Mode.{Mode}
use Rattle.flux_model.specs.declared.programs.ClassNo.{ClassNo}
use Rattle.flux_model.specs.declared.programs.Hold.{Hold}
use Rattle.flow_model.specs.declared.journals.Key.{Key}
use Rattle.flow_model.specs.declared.journals.Event.{Event}
use Rattle.flow_model.specs.declared.journals.Event.TheVariants as kinds
use Rattle.flow_model.specs.Keys.{same_key, same_id}
use Rattle.flow_model.specs.Exclusion.{without_first, held_after}
use Rattle.flux_model.proofs.RisingHolds.{contains_first, contains_later, contains_cases, contains_none}
use Rattle.flux_verify.specs.Holding.{AreOwnKeys}

-- ---- keys

same_id_itself : (id : Option ℕ) → same_id id id ≡ true
same_id_itself None = refl
same_id_itself (Some number) = eq-eqb number number refl

same_key_itself : (k : Key) → same_key k k ≡ true
same_key_itself k = rw (eq-eqb k.class.0 k.class.0 refl) (same_id_itself k.id)

-- classes whose keys are taken for the same are the same
own_class : (key : ClassNo → Key) → AreOwnKeys key → (a b : ClassNo) → same_key (key a) (key b) ≡ true → a ≡ b
own_class key own a b same =
    let x = key a in
    let y = key b in
    let parts = and_parts _ _ same in
    let number : x.class.0 ≡ y.class.0 = eqb-true x.class.0 y.class.0 parts.0 in
    let class : x.class ≡ y.class = ap (λ (n : ℕ). let c : ClassNo = record { 0 = n } in c) number in
    sym (own a) ∙ class ∙ own b

module _ (key : ClassNo → Key) where
  -- the modes in which holds, the latest first, hold a key
  abbrev pub modes_of : Key → List Hold → List Mode
  modes_of k [] = []
  modes_of k (hold ∷ holds) =
      if same_key (key hold.class) k then hold.mode ∷ modes_of k holds else modes_of k holds

  -- after a drop of the latest, what was held before is held
  pub drop_latest : (k : Key) (hold : Hold) (holds : List Hold) (events : List Event)
      → held_after k (modes_of k (hold ∷ holds)) (kinds.Drop (key hold.class) ∷ events) ≡ held_after k (modes_of k holds) events
  drop_latest k hold holds events = ap (λ modes. held_after k modes events) (by (same_key (key hold.class) k) (modes_of k holds))
    where
      by : (same : Bool) (modes : List Mode)
          → (if same then without_first (if same then hold.mode ∷ modes else modes) else (if same then hold.mode ∷ modes else modes)) ≡ modes
      by true modes = refl
      by false modes = refl

  mode_later : (same : Bool) (first mode : Mode) (modes : List Mode) → Contains modes mode → Contains (if same then first ∷ modes else modes) mode
  mode_later true first mode modes is = contains_later first modes mode is
  mode_later false first mode modes is = is

  -- what holds have of a class is held by its key
  pub mode_held : (holds : List Hold) (hold : Hold) → Contains holds hold → Contains (modes_of (key hold.class) holds) hold.mode
  mode_held [] hold is = absurd (contains_none hold is)
  mode_held (first ∷ holds) hold is = elim (contains_cases first holds hold is) [
    | inl same ↦ rw (sym same) (rw (same_key_itself (key hold.class)) (contains_first hold.mode (modes_of (key hold.class) holds)))
    | inr later ↦ mode_later (same_key (key first.class) (key hold.class)) first.mode hold.mode (modes_of (key hold.class) holds) (mode_held holds hold later)
  ]

  -- a class is that of a hold
  pub record HeldBy (holds : List Hold) (class : ClassNo) : Type 0 where
    pub hold : Hold
    pub held : Contains holds hold
    pub same : hold.class ≡ class

  -- so it is where the key is held at all
  pub held_by : AreOwnKeys key → (holds : List Hold) (class : ClassNo) → modes_of (key class) holds ≢ [] → HeldBy holds class
  held_by own [] class some = absurd (some refl)
  held_by own (first ∷ holds) class some = by (same_key (key first.class) (key class)) refl some (held_by own holds class)
    where
      by : (same : Bool) → same_key (key first.class) (key class) ≡ same
          → (if same then first.mode ∷ modes_of (key class) holds else modes_of (key class) holds) ≢ []
          → (modes_of (key class) holds ≢ [] → HeldBy holds class) → HeldBy (first ∷ holds) class
      by true same some more = record { hold = first; held = contains_first first holds; same = own_class key own first.class class same }
      by false apart some more =
          let later = more some in
          record { hold = later.hold; held = contains_later first holds later.hold later.held; same = later.same }
