-- What a joined library has of others.
use Rattle.std.proofs.Common.{◌≡◌, ℕ, if◌then◌else◌, List, Option, Some, None, IfSome, is_some, refl, ap, ◌∙◌}
use Rattle.std.specs.Option.{option_or}
use Rattle.flux_values.specs.Meanings.{LibraryMeaning}
use Rattle.nodes_joined.specs.Joined.{joined, Has}

-- where the first has a name too, it means the same there
abbrev pub AgreeOn : {A B : Type 0} → Option A → Option A → B → B → Type 0
AgreeOn a c f h = IfSome c (λ x. IfSome a (λ y. (y ≡ x) × (f ≡ h)))

-- so it is of all that a part has
pub record Agree (first : LibraryMeaning) (part : LibraryMeaning) : Type 0 where
  pub kinds : (ty : List ℕ) → IfSome (part.kind ty) (λ x. IfSome (first.kind ty) (λ y. y ≡ x))
  pub nodes : (name : List ℕ) → AgreeOn (first.node name) (part.node name) (first.call name) (part.call name)
  pub predicates : (name : List ℕ)
      → AgreeOn (first.predicate name) (part.predicate name) (first.test name) (part.test name)
  pub sessions : (name : List ℕ) → AgreeOn (first.session name) (part.session name) (first.id name) (part.id name)

kept : {A B : Type 0} (a b c : Option A) (f g h : B) → IfSome c (λ x. (b ≡ Some x) × (g ≡ h)) → AgreeOn a c f h
    → IfSome c (λ x. (option_or a b ≡ Some x) × ((if is_some a then f else g) ≡ h))
kept a b None f g h has agree = tt
kept (Some y) b (Some x) f g h has agree = (ap Some agree.0, agree.1)
kept None b (Some x) f g h has agree = has

kept_kind : {A : Type 0} (a b c : Option A) → IfSome c (λ x. b ≡ Some x) → IfSome c (λ x. IfSome a (λ y. y ≡ x))
    → IfSome c (λ x. option_or a b ≡ Some x)
kept_kind a b None has agree = tt
kept_kind (Some y) b (Some x) has agree = ap Some agree
kept_kind None b (Some x) has agree = has

-- what the second has is in both as one, where the first agrees
pub has_behind : (first second part : LibraryMeaning) → Has second part → Agree first part
    → Has (joined first second) part
unfolding joined
has_behind first second part has agree = record {
  kinds = λ ty. kept_kind (first.kind ty) (second.kind ty) (part.kind ty) (has.kinds ty) (agree.kinds ty);
  nodes = λ name. kept (first.node name) (second.node name) (part.node name) (first.call name)
      (second.call name) (part.call name) (has.nodes name) (agree.nodes name);
  predicates = λ name. kept (first.predicate name) (second.predicate name) (part.predicate name)
      (first.test name) (second.test name) (part.test name) (has.predicates name) (agree.predicates name);
  sessions = λ name. kept (first.session name) (second.session name) (part.session name) (first.id name)
      (second.id name) (part.id name) (has.sessions name) (agree.sessions name);
}

first_kept : {A B : Type 0} (a b : Option A) (f g : B)
    → IfSome a (λ x. (option_or a b ≡ Some x) × ((if is_some a then f else g) ≡ f))
first_kept None b f g = tt
first_kept (Some x) b f g = (refl, refl)

first_kind : {A : Type 0} (a b : Option A) → IfSome a (λ x. option_or a b ≡ Some x)
first_kind None b = tt
first_kind (Some x) b = refl

-- what the first has is in both as one
pub has_first : (first second : LibraryMeaning) → Has (joined first second) first
unfolding joined
has_first first second = record {
  kinds = λ ty. first_kind (first.kind ty) (second.kind ty);
  nodes = λ name. first_kept (first.node name) (second.node name) (first.call name) (second.call name);
  predicates = λ name.
      first_kept (first.predicate name) (second.predicate name) (first.test name) (second.test name);
  sessions = λ name. first_kept (first.session name) (second.session name) (first.id name) (second.id name);
}

same_kept : {A B : Type 0} (a : Option A) (f : B) → IfSome a (λ x. (a ≡ Some x) × (f ≡ f))
same_kept None f = tt
same_kept (Some x) f = (refl, refl)

same_kind : {A : Type 0} (a : Option A) → IfSome a (λ x. a ≡ Some x)
same_kind None = tt
same_kind (Some x) = refl

-- a library has what it has
pub has_itself : (library : LibraryMeaning) → Has library library
has_itself library = record {
  kinds = λ ty. same_kind (library.kind ty);
  nodes = λ name. same_kept (library.node name) (library.call name);
  predicates = λ name. same_kept (library.predicate name) (library.test name);
  sessions = λ name. same_kept (library.session name) (library.id name);
}

-- types that mean one thing in both
pub agree_kind : {A : Type 0} (a : Option A) → IfSome a (λ x. IfSome a (λ y. y ≡ x))
agree_kind None = tt
agree_kind (Some x) = refl

through_kept : {A B : Type 0} (a b c : Option A) (f g h : B) → IfSome b (λ x. (a ≡ Some x) × (f ≡ g))
    → IfSome c (λ x. (b ≡ Some x) × (g ≡ h)) → IfSome c (λ x. (a ≡ Some x) × (f ≡ h))
through_kept a b None f g h one other = tt
through_kept a None (Some x) f g h one other = absurd (let none = other.0 in cc)
through_kept a (Some y) (Some x) f g h one other = (one.0 ∙ other.0, one.1 ∙ other.1)

through_kind : {A : Type 0} (a b c : Option A) → IfSome b (λ x. a ≡ Some x) → IfSome c (λ x. b ≡ Some x)
    → IfSome c (λ x. a ≡ Some x)
through_kind a b None one other = tt
through_kind a None (Some x) one other = absurd cc
through_kind a (Some y) (Some x) one other = one ∙ other

-- what a library has of another, whatever has that library has too
pub has_through : (whole middle part : LibraryMeaning) → Has whole middle → Has middle part → Has whole part
has_through whole middle part one other = record {
  kinds = λ ty. through_kind (whole.kind ty) (middle.kind ty) (part.kind ty) (one.kinds ty) (other.kinds ty);
  nodes = λ name. through_kept (whole.node name) (middle.node name) (part.node name) (whole.call name)
      (middle.call name) (part.call name) (one.nodes name) (other.nodes name);
  predicates = λ name. through_kept (whole.predicate name) (middle.predicate name) (part.predicate name)
      (whole.test name) (middle.test name) (part.test name) (one.predicates name) (other.predicates name);
  sessions = λ name. through_kept (whole.session name) (middle.session name) (part.session name) (whole.id name)
      (middle.id name) (part.id name) (one.sessions name) (other.sessions name);
}
