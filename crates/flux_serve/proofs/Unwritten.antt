-- Links that were read, and not written.
use Rattle.std.proofs.Common.{◌≡◌, inl, inr, ℕ, ◌+◌, ◌≤◌, List, [], ◌∷◌, length, length-append, map, refl, sym, subst, arith}
use Rattle.flux_doors.specs.declared.framing.Framing.{Framing}
use Rattle.flux_doors.specs.Seen.{SeenLink}
use Rattle.flux_batches.specs.declared.reading.Sent.{Sent}
use Rattle.flux_batches.specs.declared.reading.Sent.TheVariants.{Text, Failed, Memory}
use Rattle.flux_batches.specs.declared.reading.ReadLink.{ReadLink}
use Rattle.flux_batches.specs.Links.{IsSent, IsReadNoFurther, WereRead, item_sent, items_from}
use Rattle.flux_serve.specs.Ends.{AreUnwritten}

pub unwritten_same : {L : Type 0} → (see : L → SeenLink) (framing : Framing) (links : List L) → AreUnwritten see framing links links
unwritten_same see framing [] = tt
unwritten_same see framing (link ∷ links) = (refl, refl, inl (refl, refl, refl), unwritten_same see framing links)

sent_unwritten : (framing : Framing) (before after : SeenLink) (sent : Sent) → IsSent framing before after sent → after.stream.written ≡ before.stream.written
sent_unwritten framing before after (Text text) is = is.2
sent_unwritten framing before after Failed is = is.1
sent_unwritten framing before after Memory is = is.1

sent_no_further : (framing : Framing) (before after : SeenLink) (sent : Sent) → IsSent framing before after sent → IsReadNoFurther framing before after
sent_no_further framing before after (Text text) is = is.3
sent_no_further framing before after Failed is = is.2
sent_no_further framing before after Memory is = is.2

pub unwritten_request : {L : Type 0} → (see : L → SeenLink) (framing : Framing) (links : List L) (requests : List (ReadLink L)) → WereRead see framing links requests [] → AreUnwritten see framing links (map (λ request. request.link) requests)
unwritten_request {L} see framing links [] is = let P : List L → Type 0 = λ l. AreUnwritten see framing l [] in subst P (sym is) tt
unwritten_request see framing [] (request ∷ requests) is = absurd is
unwritten_request see framing (link ∷ links) (request ∷ requests) is =
    let old = see link in let new = see request.link in (
      is.0,
      sent_unwritten framing old new request.sent is.1,
      inr (sent_no_further framing old new request.sent is.1),
      unwritten_request see framing links requests is.2,
    )

few_sent : (number : ℕ) (sent : Sent) → length (item_sent number sent) ≤ 1
few_sent number (Text text) = omega arith
few_sent number Failed = omega arith
few_sent number Memory = omega arith

-- there are no more items than links
pub few_items : {K : Type 0} → (number : ℕ) (requests : List (ReadLink K)) → length (items_from number requests) ≤ length requests
few_items number [] = omega arith
few_items number (request ∷ requests) = omega (arith, length-append (item_sent number request.sent) (items_from (number + 1) requests), few_sent number request.sent, few_items (number + 1) requests)
