-- What a change of the flows that are parked at one key does to all parked flows.
use Rattle.std.proofs.Common.{◌≡◌, Bool, true, false, cond, not, eqb, ◌&&◌, ℕ, List, [], Option, Some, refl, sym, ap, ◌∙◌}
use Rattle.std.specs.Ordering.{is_eq}
use Rattle.std.specs.Map.{lookup, set_value}
use Rattle.std.proofs.lemmas.Map.Steps.{set_value_same}
use Rattle.flow_model.specs.declared.journals.Key.{Key}
use Rattle.flow_model.specs.Keys.{same_key}
use Rattle.flow_model.proofs.Keys.{key_cmp, key_cmp_same, same_key_itself}
use Rattle.flow_waits.specs.steps.Waking.{ParkedFlows, parked_at, flows_or_none, OthersStay, IsMore, IsLess, IsMoreAt, IsLessAt}

abbrev pub found : ParkedFlows → Key → Option (List ℕ)
found parks key = lookup (λ other. is_eq (key_cmp key other)) parks

pub found_is : (parks : ParkedFlows) (key : Key) → found parks key ≡ lookup (same_key key) parks
found_is parks key = ap (λ (test : Key → Bool). lookup test parks) (λ i other. key_cmp_same key other i)

-- the parked flows after those of one key have changed
pub record IsChanged (before after : ParkedFlows) (key : Key) (now : List ℕ) : Type 0 where
  pub at : parked_at after key ≡ now
  pub others : OthersStay before after key

cond_same : {X : Type 0} (b : Bool) (x y : X) → b ≡ true → cond b x y ≡ x
cond_same true x y same = refl
cond_same false x y same = absurd cc

cond_apart : {X : Type 0} (b : Bool) (x y : X) → b ≡ false → cond b x y ≡ y
cond_apart true x y apart = absurd cc
cond_apart false x y apart = refl

pub changed_is : (before after : ParkedFlows) (key : Key) (now : List ℕ)
    → ((q : Key) → found after q ≡ cond (is_eq (key_cmp key q)) (Some now) (found before q))
    → IsChanged before after key now
changed_is before after key now says = record {
  at = ap flows_or_none (sym (found_is after key) ∙ says key ∙ cond_same (is_eq (key_cmp key key)) (Some now)
      (found before key) (key_cmp_same key key ∙ same_key_itself key));
  others = λ other apart. ap flows_or_none (sym (found_is after other) ∙ says other
      ∙ cond_apart (is_eq (key_cmp key other)) (Some now) (found before other) (key_cmp_same key other ∙ apart)
      ∙ found_is before other);
}

-- what a look-up gives are the flows that are parked there
pub parked_is : (parks : ParkedFlows) (key : Key) (flows : Option (List ℕ)) → flows ≡ found parks key
    → parked_at parks key ≡ flows_or_none flows
parked_is parks key flows is = ap flows_or_none (sym (is ∙ found_is parks key))

pub more_at : (before after : ParkedFlows) (key : Key) (flow : ℕ) (old now : List ℕ) → IsChanged before after key now
    → parked_at before key ≡ old → IsMore old now flow
    → IsMoreAt before after key flow
more_at before after key flow old now is was more = record {
  at = λ other. rw (is.at, was) (more other);
  others = is.others;
}

pub less_at : (before after : ParkedFlows) (key : Key) (flow : ℕ) (old now : List ℕ) → IsChanged before after key now
    → parked_at before key ≡ old → IsLess old now flow
    → IsLessAt before after key flow
less_at before after key flow old now is was less = record {
  at = λ other. rw (is.at, was) (less other);
  others = is.others;
}

-- flows that are written back unchanged
pub unchanged : (parks after : ParkedFlows) (key : Key) (parking now : List ℕ)
    → after ≡ set_value (λ other. is_eq (key_cmp key other)) parks now
    → Some parking ≡ found parks key → now ≡ parking → after ≡ parks
unchanged parks after key parking now written there same =
    written ∙ ap (set_value (λ other. is_eq (key_cmp key other)) parks) same ∙ set_value_same
    (λ other. is_eq (key_cmp key other)) parks parking (sym there)

-- where none are parked, there are no numbers
pub none_less : (parks : ParkedFlows) (key : Key) (flow : ℕ) → parked_at parks key ≡ [] → IsLessAt parks parks key flow
none_less parks key flow none = record {
  at = λ other. rw none (and_false (not (eqb flow other)));
  others = λ other apart. refl;
}
  where
    and_false : (b : Bool) → false ≡ (b && false)
    and_false true = refl
    and_false false = refl
