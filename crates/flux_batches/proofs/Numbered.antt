-- Which flow each link of a batch has.
use Rattle.std.proofs.Common.{◌≡◌, ◌⊎◌, inl, inr, ℕ, zero, suc, ◌<◌, List, [], ◌∷◌, length, slice_index_or, set, ◌+◌, refl, sym, ap, ◌∙◌, arith}
use Rattle.std.proofs.lemmas.Bool.{cases_eq}
use Rattle.std.proofs.lemmas.Grind.{get_or-set_at}
use Rattle.std.proofs.lemmas.List.{get_or-set_other}
use Rattle.flux_batches.specs.declared.reading.ReadLink.{ReadLink}
use Rattle.flux_batches.specs.Replies.{flow_behind}
use Rattle.flux_batches.specs.steps.Answering.{flow_at}

pub flow-first : {K : Type 0} → (flow : ℕ) (requests : List (ReadLink K)) → flow_at flow requests zero ≡ flow
flow-first flow [] = refl
flow-first flow (request ∷ rest) = refl

flow-next : {K : Type 0} → (flow : ℕ) (requests : List (ReadLink K)) (place : ℕ) (none : ReadLink K) → place < length requests
    → flow_at flow requests (suc place) ≡ flow_behind (flow_at flow requests place) (slice_index_or requests place none).sent
flow-next flow [] place none below = absurd (omega (arith, below))
flow-next flow (request ∷ rest) zero none below = flow-first (flow_behind flow request.sent) rest
flow-next flow (request ∷ rest) (suc place) none below = flow-next (flow_behind flow request.sent) rest place none (omega (arith, below))

-- the flow of the place after one
pub flow-behind : {K : Type 0} → (requests : List (ReadLink K)) (place : ℕ) (request : ReadLink K) → place < length requests
    → flow_at 0 requests (place + 1) ≡ flow_behind (flow_at 0 requests place) (slice_index_or requests place request).sent
flow-behind requests place request below =
    let one : place + 1 ≡ suc place = omega arith in
    ap (flow_at 0 requests) one ∙ flow-next 0 requests place request below

-- one place more has its flow
pub flows-more : (flows : List ℕ) (place flow : ℕ) (at : ℕ → ℕ) → place < length flows → flow ≡ at place
    → ((p none : ℕ) → p < place → slice_index_or flows p none ≡ at p)
    → (p none : ℕ) → p < place + 1 → slice_index_or (set flows place flow) p none ≡ at p
flows-more flows place flow at within is each p none below = by (cases_eq p place)
  where
    by : (p ≡ place) ⊎ (p ≡ place → ⊥) → slice_index_or (set flows place flow) p none ≡ at p
    by (inl same) = get_or-set_at flows place p flow none same within ∙ is ∙ ap at (sym same)
    by (inr apart) = get_or-set_other flows place p flow none apart ∙ each p none (omega (arith, below, apart))
