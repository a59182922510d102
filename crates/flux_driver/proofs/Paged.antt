-- What a stream gains by pages, one after the other.
use Rattle.std.proofs.Common.{◌≡◌, ◌≢◌, ◌<◌, ℕ, List, [], ◌∷◌, ◌++◌, suc, length, get_or, take, drop, drop-cons, Result, Ok, Err, OnErr, refl, sym, ap, subst, ◌∙◌, append_assoc}
use Rattle.std.proofs.lemmas.List.{take-append-drop}
use Rattle.flux_outside.specs.Streams.{Stream, Wrote, Broke}
use Rattle.std.specs.List.{flat_map}
use Rattle.std.proofs.lemmas.Grind.{flat_map-append}
use Rattle.flux_outside.proofs.Writes.{gains_twice}

-- what holds, holds of a failure
pub on_err : {T E P : Type 0} (result : Result T E) → P → OnErr result P
on_err (Ok answer) holds = tt
on_err (Err error) holds = holds

-- all of one text, and then all of another
pub wrote_twice : (before mid after : Stream) (front rest : List ℕ) → Wrote before mid front → Wrote mid after rest → Wrote before after (front ++ rest)
wrote_twice before mid after front rest one other = record {
  gains = gains_twice before mid after front rest one.gains other.gains;
  steady = other.steady ∙ one.steady;
}

-- all of one text, and a front of another
pub broke_later : (before mid after : Stream) (front rest : List ℕ) → Wrote before mid front → Broke mid after rest → Broke before after (front ++ rest)
broke_later before mid after front rest one other = record {
  front = front ++ other.front;
  rest = other.rest;
  is = ap (λ (l : List ℕ). front ++ l) other.is ∙ sym (append_assoc front other.front other.rest);
  left = other.left;
  gains = gains_twice before mid after front other.front one.gains other.gains;
  rose = rw (sym one.steady) other.rose;
}

-- a front of one text, with another after it
pub broke_sooner : (before after : Stream) (front rest : List ℕ) → Broke before after front → Broke before after (front ++ rest)
broke_sooner before after front rest one = record {
  front = one.front;
  rest = one.rest ++ rest;
  is = ap (λ (l : List ℕ). l ++ rest) one.is ∙ append_assoc one.front one.rest rest;
  left = more one.rest one.left;
  gains = one.gains;
  rose = one.rose;
}
  where
    more : (left : List ℕ) → left ≢ [] → left ++ rest ≢ []
    more [] some = absurd (some refl)
    more (x ∷ left) some = λ e. absurd cc

-- a page of some, where those before it are written
pub broke_at : (before mid after : Stream) (pages : List (List ℕ)) (place : ℕ) (page other : List ℕ) → place < length pages → page ≡ get_or pages place other
    → Wrote before mid (flat_map (λ page. page) (take place pages)) → Broke mid after page → Broke before after (flat_map (λ page. page) pages)
broke_at before mid after pages place page other within is one broke =
    subst (Broke before after) (sym split) (broke_later before mid after (joined (take place pages)) (joined (drop place pages)) one
    (subst (λ (ps : List (List ℕ)). Broke mid after (joined ps)) (sym front) (broke_sooner mid after page (joined (drop (suc place) pages)) broke)))
  where
    joined : List (List ℕ) → List ℕ
    joined = flat_map (λ page. page)

    split : joined pages ≡ joined (take place pages) ++ joined (drop place pages)
    split = ap joined (sym (take-append-drop place pages)) ∙ flat_map-append (λ page. page) (take place pages) (drop place pages)

    front : drop place pages ≡ page ∷ drop (suc place) pages
    front = drop-cons pages place other within ∙ ap (λ (p : List ℕ). p ∷ drop (suc place) pages) (sym is)
