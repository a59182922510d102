-- Batches one after another.
use Rattle.std.proofs.Common.{◌≡◌, ℕ, ◌+◌, ◌<◌, List, [], ◌∷◌, ◌++◌, length, length-append, refl, sym, ap, ◌∙◌, subst, arith}
use Rattle.flow_model.specs.Keys.{Cells}
use Rattle.flux_cells.specs.Kept.{cells_of}
use Rattle.flux_outside.specs.Streams.{Wrote}
use Rattle.flux_doors.specs.Seen.{SeenLink}
use Rattle.flux_serve.specs.declared.batches.ServeEnd.{ServeEnd}
use Rattle.flux_serve.specs.declared.batches.ServeEnd.TheVariants.{Closed, Counted, Door, Log, Memory}
use Rattle.flux_serve.specs.Batches.{Service, Batch, cells_behind, number_behind, empty_cells}
use Rattle.flux_serve.specs.Ends.{Sight, HasDriven, AreServed, cells_at_end, number_at_end, HasStopped, HasEnded, HasServed}
use Rattle.flux_serve.specs.steps.Batches.{HasPassed}

-- one batch more was served
served_more : {L : Type 0} (see : L → SeenLink) (service : Service) (opening : Cells) (count number : ℕ) (before mid after : Sight L) (batches : List (Batch L)) (batch : Batch L) (at : ℕ) → at ≡ count + length batches
    → AreServed see service opening count number before mid batches → HasDriven see service (cells_at_end service opening number batches) at (number_at_end number batches) batch mid after Wrote
    → AreServed see service opening count number before after (batches ++ batch ∷ [])
served_more {L} see service opening count number before mid after [] batch at is same driven =
    let P : Sight L → Type 0 = λ m. HasDriven see service opening at number batch m after Wrote in
    let Q : ℕ → Type 0 = λ n. HasDriven see service opening n number batch before after Wrote in
    (after, subst Q (omega (arith, is)) (subst P same driven), refl)
served_more see service opening count number before mid after (first ∷ batches) batch at is served driven =
    (served.0, served.1, served_more see service (cells_behind service opening number first) (count + 1) (number_behind number first) served.0 mid after batches batch at (omega (arith, is)) served.2 driven)

cells_more : {L : Type 0} (service : Service) (opening : Cells) (number : ℕ) (batches : List (Batch L)) (batch : Batch L)
    → cells_at_end service opening number (batches ++ batch ∷ []) ≡ cells_behind service (cells_at_end service opening number batches) (number_at_end number batches) batch
cells_more service opening number [] batch = refl
cells_more service opening number (first ∷ batches) batch = cells_more service (cells_behind service opening number first) (number_behind number first) batches batch

number_more : {L : Type 0} (number : ℕ) (batches : List (Batch L)) (batch : Batch L) → number_at_end number (batches ++ batch ∷ []) ≡ number_behind (number_at_end number batches) batch
number_more number [] batch = refl
number_more number (first ∷ batches) batch = number_more (number_behind number first) batches batch

-- so many batches were served, and left these cells and the number of the next link
pub record SoFar {L : Type 0} (see : L → SeenLink) (service : Service) (before now : Sight L) (count number : ℕ) (cells : Cells) : Type 0 where
  pub batches : List (Batch L)
  pub served : AreServed see service empty_cells 0 0 before now batches
  pub count_ : length batches ≡ count
  pub cells_ : cells ≡ cells_at_end service empty_cells 0 batches
  pub number_ : number ≡ number_at_end 0 batches

pub so_far_none : {L : Type 0} (see : L → SeenLink) (service : Service) (before : Sight L) → SoFar see service before before 0 0 (cells_of [])
so_far_none see service before = record { batches = []; served = refl; count_ = refl; cells_ = refl; number_ = refl }

pub so_far_more : {L : Type 0} (see : L → SeenLink) (service : Service) (before mid after : Sight L) (count number : ℕ) (cells : Cells) (next : ℕ) (left : Cells)
    → SoFar see service before mid count number cells → HasPassed see service cells count number mid after left next → SoFar see service before after (count + 1) next left
so_far_more {L} see service before mid after count number cells next left s p =
    let C : Cells → Type 0 = λ k. HasDriven see service k count number p.batch mid after Wrote in
    let N : ℕ → Type 0 = λ n. HasDriven see service (cells_at_end service empty_cells 0 s.batches) count n p.batch mid after Wrote in
    record {
      batches = s.batches ++ p.batch ∷ [];
      served = served_more see service empty_cells 0 0 before mid after s.batches p.batch count (omega (arith, s.count_)) s.served (subst N s.number_ (subst C s.cells_ p.driven));
      count_ = omega (arith, length-append s.batches (p.batch ∷ []), s.count_);
      cells_ = p.cells_ ∙ ap (λ k. cells_behind service k number p.batch) s.cells_ ∙ ap (λ n. cells_behind service (cells_at_end service empty_cells 0 s.batches) n p.batch) s.number_
          ∙ sym (cells_more service empty_cells 0 s.batches p.batch);
      number_ = p.number_ ∙ ap (λ n. number_behind n p.batch) s.number_ ∙ sym (number_more 0 s.batches p.batch);
    }

-- as many as were wanted
pub served_all : {L : Type 0} (see : L → SeenLink) (service : Service) (before now : Sight L) (count number : ℕ) (cells : Cells) (wanted : ℕ) → SoFar see service before now count number cells → count ≡ wanted → HasServed see service wanted before now Counted
served_all see service before now count number cells wanted s all = record { batches = s.batches; mid = now; served = s.served; ended = (s.count_ ∙ all, refl) }

-- the next batch ended it
ended_of : {L : Type 0} (see : L → SeenLink) (service : Service) (wanted : ℕ) (batches : List (Batch L)) (mid after : Sight L) (end : ServeEnd) → length batches < wanted
    → HasStopped see service (cells_at_end service empty_cells 0 batches) (length batches) (number_at_end 0 batches) mid after end → HasEnded see service wanted batches mid after end
ended_of see service wanted batches mid after Closed fewer s = (fewer, s)
ended_of see service wanted batches mid after Counted fewer s = absurd s
ended_of see service wanted batches mid after Door fewer s = (fewer, s)
ended_of see service wanted batches mid after Log fewer s = (fewer, s)
ended_of see service wanted batches mid after Memory fewer s = (fewer, s)

pub served_some : {L : Type 0} (see : L → SeenLink) (service : Service) (before mid after : Sight L) (count number : ℕ) (cells : Cells) (wanted : ℕ) (end : ServeEnd) → SoFar see service before mid count number cells → count < wanted
    → HasStopped see service cells count number mid after end → HasServed see service wanted before after end
served_some {L} see service before mid after count number cells wanted end s fewer stopped =
    let C : Cells → Type 0 = λ k. HasStopped see service k count number mid after end in
    let K : ℕ → Type 0 = λ k. HasStopped see service (cells_at_end service empty_cells 0 s.batches) k number mid after end in
    let N : ℕ → Type 0 = λ n. HasStopped see service (cells_at_end service empty_cells 0 s.batches) (length s.batches) n mid after end in
    record {
      batches = s.batches;
      mid = mid;
      served = s.served;
      ended = ended_of see service wanted s.batches mid after end (omega (arith, s.count_, fewer)) (subst N s.number_ (subst K (sym s.count_) (subst C s.cells_ stopped)));
    }
