-- Turns one after another.
use Rattle.std.proofs.Common.{◌≡◌, inl, inr, ℕ, ◌≤◌, List, [], ◌∷◌, ◌++◌, length, take, arith, refl, sym, ap, subst, ◌∙◌, append_assoc}
use Rattle.std.proofs.lemmas.List.{append-nil}
use Rattle.std.proofs.lemmas.Grind.{common_steps}
use Rattle.flux_values.specs.Meanings.{LibraryMeaning}
use Rattle.flux_model.specs.declared.items.FlowNo.{FlowNo}
use Rattle.flow_model.specs.declared.journals.Entry.{Entry}
use Rattle.flow_model.specs.Setup.{Setup}
use Rattle.flow_model.specs.Legal.{IsLegal, IsWhole}
use Rattle.flux_laws.proofs.Added.{moves_are_legal}
use Rattle.flow_core.specs.States.{CoreState, setup_in}
use Rattle.flow_core.specs.Runs.{SameSetting, GoesOnLegally, GoesToEnd}
use Rattle.flow_core.proofs.Sequels.{same-setup, same-then, same-itself, goes-on, legally-same}
use Rattle.flow_orders.specs.Drains.{DrainsTo}
use Rattle.flow_orders.specs.Follow.{IsTurn, AreTurns, IsFollow}

-- one turn more
pub turns-more : (setup : Setup) (before between after : List Entry) (flows : List FlowNo) (flow : FlowNo)
    → AreTurns setup before flows between → IsTurn setup between flow after
    → AreTurns setup before (flows ++ flow ∷ []) after
turns-more setup before between after [] flow same turn =
    (after, subst (λ es. IsTurn setup es flow after) same turn, refl)
turns-more setup before between after (first ∷ flows) flow (middle, own, rest) turn =
    (middle, own, turns-more setup middle between after flows flow rest turn)

-- what is kept while turns are given
pub record IsFollowing {L : Type 0} (meaning : L → LibraryMeaning) (start core : CoreState L) (numbers : List FlowNo) :
    Type 0 where
  pub same : SameSetting start core
  pub turns : AreTurns (setup_in meaning start) start.entries numbers core.entries
  pub more : List Entry
  pub added : core.entries ≡ start.entries ++ more
  pub legal : IsLegal (setup_in meaning start) core.entries

pub following-none : {L : Type 0} (meaning : L → LibraryMeaning) (core : CoreState L)
    → IsLegal (setup_in meaning core) core.entries → IsFollowing meaning core core []
following-none meaning core legal = record {
  same = same-itself core;
  turns = refl;
  more = [];
  added = sym (append-nil core.entries);
  legal = legal;
}

module _ {L : Type 0} (meaning : L → LibraryMeaning) (start core : CoreState L) (numbers : List FlowNo)
    (kept : IsFollowing meaning start core numbers) where
  pub following-legal : GoesOnLegally meaning start core
  following-legal = goes-on meaning start core kept.same kept.more kept.added kept.legal

  -- nothing was added
  pub following-stays : (new : CoreState L) → SameSetting core new → new.entries ≡ core.entries
      → GoesOnLegally meaning start new
  following-stays new stays same =
      goes-on meaning start new (same-then start core new kept.same stays) kept.more (same ∙ kept.added)
      (subst (IsLegal (setup_in meaning start)) (sym same) kept.legal)

  pub following-more : (new : CoreState L) (flow : FlowNo) → SameSetting core new
      → IsTurn (setup_in meaning core) core.entries flow new.entries
      → IsFollowing meaning start new (numbers ++ flow ∷ [])
  following-more new flow stays turn = record {
    same = same-then start core new kept.same stays;
    turns = turns-more (setup_in meaning start) start.entries core.entries new.entries numbers flow kept.turns own;
    more = longer.0;
    added = longer.1;
    legal = legal own;
  }
    where
      own : IsTurn (setup_in meaning start) core.entries flow new.entries
      own = subst (λ s. IsTurn s core.entries flow new.entries) (same-setup meaning start core kept.same) turn

      legal : IsTurn (setup_in meaning start) core.entries flow new.entries
          → IsLegal (setup_in meaning start) new.entries
      legal (inl (rests, same)) = subst (IsLegal (setup_in meaning start)) (sym same) kept.legal
      legal (inr (event, makes)) = subst (IsLegal (setup_in meaning start)) (sym makes.added)
          (moves_are_legal (setup_in meaning start) core.entries flow event kept.legal makes.move)

      longer : (more : List Entry) × (new.entries ≡ start.entries ++ more)
      longer = by own
        where
          by : IsTurn (setup_in meaning start) core.entries flow new.entries
              → (more : List Entry) × (new.entries ≡ start.entries ++ more)
          by (inl (rests, same)) = (kept.more, same ∙ kept.added)
          by (inr (event, makes)) = (
            kept.more ++ record { flow = flow; event = event } ∷ [],
            makes.added ∙ ap (λ es. es ++ record { flow = flow; event = event } ∷ []) kept.added ∙ append_assoc
                start.entries kept.more (record { flow = flow; event = event } ∷ []),
          )

  -- the end
  pub followed : (new : CoreState L) → DrainsTo (setup_in meaning core) core.entries new.entries
      → IsFollow (setup_in meaning start) start.entries numbers new.entries
  followed new drains = record {
    listed = core.entries;
    turns = kept.turns;
    drains = subst (λ s. DrainsTo s core.entries new.entries) (same-setup meaning start core kept.same) drains;
  }

-- a script that is followed ends whole
pub follow-whole : {L : Type 0} (meaning : L → LibraryMeaning) (old new : CoreState L) (numbers : List FlowNo)
    → IsFollow (setup_in meaning old) old.entries numbers new.entries
    → GoesOnLegally meaning old new → GoesToEnd meaning old new
follow-whole meaning old new numbers follow legally =
    let drains = follow.drains in
    let same = legally-same meaning old new legally in
    record {
      legally = legally;
      whole = subst (λ s. IsWhole s new.entries) (sym (same-setup meaning old new same)) drains.whole;
    }

pub take-all : (n : ℕ) (xs : List FlowNo) → length xs ≤ n → take n xs ≡ xs
take-all n xs le = grind (arith, common_steps)
