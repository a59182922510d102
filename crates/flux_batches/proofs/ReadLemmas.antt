-- Links that were read side by side.
use Rattle.std.proofs.Common.{◌≡◌, ℕ, zero, suc, ◌<◌, List, [], ◌∷◌, length, map, slice_index_or, refl, sym, subst, arith}
use Rattle.flux_doors.specs.declared.framing.Framing.{Framing}
use Rattle.flux_batches.specs.declared.reading.ReadLink.{ReadLink}
use Rattle.flux_doors.specs.Seen.{SeenLink}
use Rattle.flux_batches.specs.Links.{WereRead}
use Rattle.flux_batches.specs.steps.Reading.{to_read, WasRead}

-- all were read, each at its place
request-each : {K : Type 0} → (see : K → SeenLink) (framing : Framing) (links : List K) (after : List (ReadLink K))
    → length after ≡ length (map to_read links)
    → ((i : ℕ) (none : ReadLink K) → i < length (map to_read links)
    → WasRead see framing (slice_index_or (map to_read links) i none) (slice_index_or after i none))
    → WereRead see framing links after []
request-each see framing [] [] same each = refl
request-each see framing [] (request ∷ rest) same each = absurd (omega (arith, same))
request-each see framing (link ∷ links) [] same each = absurd (omega (arith, same))
request-each see framing (link ∷ links) (request ∷ rest) same each =
    let first = each zero request (omega arith) in
    (first.same, first.sent_, request-each see framing links rest (omega (arith, same)) (λ i none below. each (suc i) none (omega (arith, below))))

-- the same of links in a list
pub request-all : {K : Type 0} → (see : K → SeenLink) (framing : Framing) (links : List K) (before after : List (ReadLink K))
    → before ≡ map to_read links → length after ≡ length before
    → ((i : ℕ) (none : ReadLink K) → i < length before
    → WasRead see framing (slice_index_or before i none) (slice_index_or after i none))
    → WereRead see framing links after []
request-all {K} see framing links before after is =
    let P : List (ReadLink K) → Type 0 = λ them. length after ≡ length them
    → ((i : ℕ) (none : ReadLink K) → i < length them
    → WasRead see framing (slice_index_or them i none) (slice_index_or after i none))
    → WereRead see framing links after []
    in subst P (sym is) (request-each see framing links after)
