-- Words that spell `serve`, and how serving goes before its first batch.
use Rattle.std.proofs.Common.{◌≡◌, ℕ, ◌<◌, inl, inr, List, [], ◌∷◌, refl, sym, subst, arith}
use Rattle.flux_values.specs.Meanings.{LibraryMeaning}
use Rattle.flux_outside.specs.Causes.{Rose}
use Rattle.flux_outside.specs.Streams.{Stream}
use Rattle.flux_model.specs.declared.programs.Program.{Program}
use Rattle.flux_doors.specs.declared.framing.Framing.{Framing}
use Rattle.flux_doors.specs.Seen.{SeenLink, SeenDoor}
use Rattle.flux_batches.proofs.Giving.{back_none}
use Rattle.flux_serve.specs.declared.batches.ServeEnd.TheVariants.{Door, Memory}
use Rattle.flux_serve.specs.declared.orders.BatchOrder.{BatchOrder}
use Rattle.flux_serve.specs.Batches.{Service}
use Rattle.flux_serve.specs.Ends.{Sight, sight_of, HasServed}
use Rattle.flux_cli.specs.Forms.{Serving}
use Rattle.flux_cli.specs.Values.{IsBatches}
use Rattle.flux_cli.specs.Commands.{serve, Spells}

-- ---- how many batches

some_batches : (values : List (List ℕ)) (batches : ℕ) → IsBatches values batches → 0 < batches
some_batches [] batches is = subst (λ (n : ℕ). 0 < n) (sym is) (omega arith)
some_batches (value ∷ []) batches is = is.from
some_batches (value ∷ other ∷ values) batches is = absurd is

-- ---- before the first batch

module _ {L : Type 0} (see : L → SeenLink) (wanted : ℕ) (some : 0 < wanted) where
  -- there was no memory for the plans
  pub unplanned : (service : Service) (sight : Sight L) → HasServed see service wanted sight sight Memory
  unplanned service sight = record {
    batches = [];
    mid = sight;
    served = refl;
    ended = (some, inl (record { came = []; backs = []; formed = inr (refl, refl, refl); size = omega arith; back = back_none sight.taken_back; unwritten = tt; steady = refl; later = omega arith; log_ = refl }));
  }

  -- the door failed to open
  pub unopened : (service : Service) (before after : Sight L) → Rose before.faults after.faults → after.taken_back ≡ before.taken_back → after.log ≡ before.log → after.to_come ≡ before.to_come
      → after.late ≡ before.late → HasServed see service wanted before after Door
  unopened service before after rose back log_ come late = record {
    batches = [];
    mid = before;
    served = refl;
    ended = (some, (rose, back, log_, come, late));
  }

-- ---- the same service, from the same sight

pub service_same : (p q : Program) (f g : Framing) (o r : BatchOrder) (m n : LibraryMeaning) → p ≡ q → f ≡ g → o ≡ r → m ≡ n
    → ◌≡◌ {A = Service} (record { program = p; framing = f; order = o; meaning = m }) (record { program = q; framing = g; order = r; meaning = n })
service_same p q f g o r m n program framing order meaning = λ i. record { program = program i; framing = framing i; order = order i; meaning = meaning i }

pub sight_same : {L : Type 0} (before after : SeenDoor L) (log : Stream) → before.to_come ≡ after.to_come → before.taken_back ≡ after.taken_back → before.faults ≡ after.faults
    → before.late ≡ after.late → sight_of before log ≡ sight_of after log
sight_same before after log a b c d = λ i. record { to_come = a i; taken_back = b i; faults = c i; late = d i; log = log }

pub serves_some : (words : List (List ℕ)) (file : List ℕ) (serving : Serving) → Spells words (serve file serving) → 0 < serving.batches
serves_some words file serving spelled = let behind = spelled.behind in let fits = behind.fits in some_batches _ serving.batches fits.batches_
