-- Bytes written piece by piece.
use Rattle.std.proofs.Common.{◌≡◌, ◌≢◌, ℕ, List, [], ◌++◌, length, take, drop, Option, Some, None, refl, sym, ap, ◌∙◌, append_assoc}
use Rattle.std.specs.Option.{option_map}
use Rattle.std.proofs.lemmas.List.{append-nil, take-append-drop, nil_from_length}
use Rattle.flux_outside.specs.Causes.{Rose}
use Rattle.flux_outside.specs.Streams.{Stream, Gains, Wrote, Broke}

-- a front of the bytes has been written, and the rest is left
pub record SoFar (before after : Stream) (bytes rest : List ℕ) : Type 0 where
  pub done : List ℕ
  pub split : bytes ≡ done ++ rest
  pub wrote : Wrote before after done

pub gains_none : (before : Stream) → Gains before before []
gains_none before = one before.written
  where
    one : (written : Option (List ℕ)) → written ≡ option_map (λ w. w ++ []) written
    one None = refl
    one (Some w) = ap (λ (l : List ℕ). Some l) (sym (append-nil w))

-- a stream that wasn't written to has gained nothing
pub wrote_none : (before : Stream) → Wrote before before []
wrote_none before = record { gains = gains_none before; steady = refl }

pub so_far_none : (before : Stream) (bytes : List ℕ) → SoFar before before bytes bytes
so_far_none before bytes = record { done = []; split = refl; wrote = wrote_none before }

pub gains_twice : (before mid after : Stream) (a b : List ℕ) → Gains before mid a → Gains mid after b → Gains before after (a ++ b)
gains_twice before mid after a b first second = one before.written mid.written after.written first second
  where
    one : (x y z : Option (List ℕ)) → y ≡ option_map (λ w. w ++ a) x → z ≡ option_map (λ w. w ++ b) y → z ≡ option_map (λ w. w ++ (a ++ b)) x
    one None y z first second = second ∙ ap (option_map (λ (w : List ℕ). w ++ b)) first
    one (Some w) y z first second = second ∙ ap (option_map (λ (w : List ℕ). w ++ b)) first ∙ ap (λ (l : List ℕ). Some l) (append_assoc w a b)

pub so_far_more : (before mid after : Stream) (bytes rest : List ℕ) (n : ℕ) → SoFar before mid bytes rest → Gains mid after (take n rest) → after.faults ≡ mid.faults → SoFar before after bytes (drop n rest)
so_far_more before mid after bytes rest n s more steady = let wrote = s.wrote in record {
  done = s.done ++ take n rest;
  split = s.split ∙ ap (λ (l : List ℕ). s.done ++ l) (sym (take-append-drop n rest)) ∙ sym (append_assoc s.done (take n rest) (drop n rest));
  wrote = record { gains = gains_twice before mid after s.done (take n rest) wrote.gains more; steady = steady ∙ wrote.steady };
}

pub so_far_all : (before after : Stream) (bytes rest : List ℕ) → SoFar before after bytes rest → length rest ≡ 0 → Wrote before after bytes
so_far_all before after bytes rest s none =
    let all : bytes ≡ s.done = s.split ∙ ap (λ (l : List ℕ). s.done ++ l) (nil_from_length rest none) ∙ append-nil s.done in
    rw all s.wrote

-- the next write failed
pub so_far_broke : (before mid after : Stream) (bytes rest : List ℕ) → SoFar before mid bytes rest → rest ≢ [] → Gains mid after [] → Rose mid.faults after.faults → Broke before after bytes
so_far_broke before mid after bytes rest s left none rose = let wrote = s.wrote in record {
  front = s.done;
  rest = rest;
  is = s.split;
  left = left;
  gains = gains_twice before mid after s.done [] wrote.gains none ∙ ap (λ (l : List ℕ). option_map (λ (w : List ℕ). w ++ l) before.written) (append-nil s.done);
  rose = rw (sym wrote.steady) rose;
}
