-- Whether a flow is live, by what a core says of its end.
use Rattle.std.proofs.Common.{◌≡◌, ◌<◌, inl, inr, ℕ, false, List, [], ◌∷◌, length}
use Rattle.std.specs.List.{list_any}
use Rattle.flow_model.specs.declared.journals.Entry.{Entry}
use Rattle.flow_model.specs.declared.journals.Event.{Event}
use Rattle.flow_model.specs.declared.journals.Event.TheVariants.{Take, Wait, Enter, Choose, Call, Exit, Drop, End}
use Rattle.flow_model.specs.declared.journals.Outcome.{Outcome}
use Rattle.flow_model.specs.Setup.{Setup}
use Rattle.flow_model.specs.Events.{events_by, IsLive}
use Rattle.flux_laws.specs.Growth.{is_end, has_ended}
use Rattle.flux_laws.proofs.Members.{In, in-from_contains}

no-end : (list : List Event) (outcome : Outcome) → list_any is_end list ≡ false → In (End outcome) list → ⊥
no-end [] outcome none is = is
no-end (End other ∷ list) outcome none is = absurd cc
no-end (Take key mode ∷ list) outcome none (inl same) = absurd cc
no-end (Take key mode ∷ list) outcome none (inr is) = no-end list outcome none is
no-end (Wait key mode ∷ list) outcome none (inl same) = absurd cc
no-end (Wait key mode ∷ list) outcome none (inr is) = no-end list outcome none is
no-end (Enter node ∷ list) outcome none (inl same) = absurd cc
no-end (Enter node ∷ list) outcome none (inr is) = no-end list outcome none is
no-end (Choose place ∷ list) outcome none (inl same) = absurd cc
no-end (Choose place ∷ list) outcome none (inr is) = no-end list outcome none is
no-end (Call made ∷ list) outcome none (inl same) = absurd cc
no-end (Call made ∷ list) outcome none (inr is) = no-end list outcome none is
no-end (Exit node other ∷ list) outcome none (inl same) = absurd cc
no-end (Exit node other ∷ list) outcome none (inr is) = no-end list outcome none is
no-end (Drop key ∷ list) outcome none (inl same) = absurd cc
no-end (Drop key ∷ list) outcome none (inr is) = no-end list outcome none is

-- a flow without its end is live
pub live-is : (setup : Setup) (entries : List Entry) (flow : ℕ) → flow < length setup.items
    → has_ended entries flow ≡ false → IsLive setup entries flow
live-is setup entries flow item none = record {
  item = item;
  goes_on = λ outcome is. no-end (events_by flow entries) outcome none
      (in-from_contains (events_by flow entries) (End outcome) is);
}
