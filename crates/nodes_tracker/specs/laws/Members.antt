-- Whose peers are in a swarm that is read, and in one that is changed.
use Rattle.std.proofs.Common.{◌≡◌, ◌<◌, ◌≤◌, ◌^◌, ℕ, ℤ, suc, ◌+◌, Bool, true, false, cond, not, List, [], ◌∷◌, length, Option, Some, None, pos, negsuc, FitsSigned, refl, arith}
use Rattle.std.specs.Int.{w64}
use Rattle.std.proofs.lemmas.Bool.Decides.{nat_tests}
use Rattle.std.proofs.lemmas.Int.{ints}
use Rattle.std.specs.List.{AllByRecursion, list_all}
use Rattle.std.specs.Str.{bytes_eq}
use Rattle.flux_values.specs.declared.values.Value.{Value}
use Rattle.flux_values.specs.declared.values.Value.TheVariants as values
use Rattle.nodes_tracker.specs.declared.peers.Peer.{Peer}
use Rattle.nodes_tracker.specs.Swarms.{is_peer, is_swarm, is_below, swarm_of, swarm_of_text, without, with_peer}
use Rattle.nodes_tracker.specs.Calls.{fits, number_or_zero}
use Rattle.nodes_tracker.specs.steps.Fields.{IsSmall, AreFew}
use Rattle.nodes_tracker.specs.laws.Swarms.{and_left, and_right, six_bytes, left_small, few_peers, all_peers, read_is_swarm}

-- at most 1,000 peers
pub record AreKept (ps : List Peer) : Type 0 where
  pub few : length ps ≤ 1000
  pub peers : list_all is_peer ps ≡ true
  pub small : AllByRecursion IsSmall ps

each_small : (ps : List Peer) → list_all is_peer ps ≡ true → AllByRecursion IsSmall ps
each_small [] all = tt
each_small (p ∷ ps) all =
    let is = and_left (is_peer p) (list_all is_peer ps) all in (
      record { six = six_bytes p is; left_ = left_small p is },
      each_small ps (and_right (is_peer p) (list_all is_peer ps) all),
    )

pub kept_few : (ps : List Peer) → is_swarm ps ≡ true → AreKept ps
kept_few ps is = record {
  few = few_peers ps is;
  peers = all_peers ps is;
  small = each_small ps (all_peers ps is);
}

pub kept_in : (value : Option Value) → AreKept (swarm_of value)
kept_in None = kept_few [] refl
kept_in (Some (values.Int z)) = kept_few [] refl
kept_in (Some (values.Bool b)) = kept_few [] refl
kept_in (Some (values.Text t)) = kept_few (swarm_of_text t) (read_is_swarm t)

-- ---- without a peer

fewer : (address : List ℕ) (ps : List Peer) → length (without address ps) ≤ length ps
fewer address [] = omega arith
fewer address (p ∷ ps) = one (not (bytes_eq p.address address)) (fewer address ps)
  where
    one : (b : Bool) → length (without address ps) ≤ length ps
        → length (cond b (p ∷ without address ps) (without address ps)) ≤ suc (length ps)
    one true le = omega (arith, le)
    one false le = omega (arith, le)

filter_peers : (address : List ℕ) (ps : List Peer) → list_all is_peer ps ≡ true
    → list_all is_peer (without address ps) ≡ true
filter_peers address [] all = refl
filter_peers address (p ∷ ps) all =
    one (not (bytes_eq p.address address))
    (filter_peers address ps (and_right (is_peer p) (list_all is_peer ps) all))
  where
    one : (b : Bool) → list_all is_peer (without address ps) ≡ true
        → list_all is_peer (cond b (p ∷ without address ps) (without address ps)) ≡ true
    one true more = rw (and_left (is_peer p) (list_all is_peer ps) all) more
    one false more = more

pub kept_without : (address : List ℕ) (ps : List Peer) → AreKept ps → AreKept (without address ps)
kept_without address ps kept =
    let peers = filter_peers address ps kept.peers in
    record {
      few = (let le = fewer address ps in let few = kept.few in omega (arith, le, few));
      peers = peers;
      small = each_small (without address ps) peers;
    }

-- ---- with a peer

pub with_one_more : (peer : Peer) (ps : List Peer) → length (with_peer peer ps) ≡ length ps + 1
with_one_more peer [] = omega arith
with_one_more peer (p ∷ ps) = one (is_below p.address peer.address) (with_one_more peer ps)
  where
    one : (b : Bool) → length (with_peer peer ps) ≡ length ps + 1
        → length (cond b (p ∷ with_peer peer ps) (peer ∷ p ∷ ps)) ≡ suc (length ps) + 1
    one true e = omega (arith, e)
    one false e = omega arith

with_small : (peer : Peer) (ps : List Peer) → IsSmall peer → AllByRecursion IsSmall ps
    → AllByRecursion IsSmall (with_peer peer ps)
with_small peer [] own each = (own, tt)
with_small peer (p ∷ ps) own each =
    one (is_below p.address peer.address) (with_small peer ps own each.1)
  where
    one : (b : Bool) → AllByRecursion IsSmall (with_peer peer ps)
        → AllByRecursion IsSmall (cond b (p ∷ with_peer peer ps) (peer ∷ p ∷ ps))
    one true more = (each.0, more)
    one false more = (own, each)

pub few_with : (peer : Peer) (ps : List Peer) → IsSmall peer → AreFew ps → length ps < 1000
    → AreFew (with_peer peer ps)
few_with peer ps own few lt = record {
  few = (let e = with_one_more peer ps in
      omega (arith, e, lt));
  each = with_small peer ps own few.each;
}

-- ---- completions

fits_sound : (z : ℤ) → fits z ≡ true → FitsSigned w64 z
fits_sound (pos n) e = let lt : n < 2 ^ 63 = grind (arith, nat_tests) in omega (arith, ints)
fits_sound (negsuc n) e = let lt : n < 2 ^ 63 = grind (arith, nat_tests) in omega (arith, ints)

pub held_fits : (value : Option Value) → FitsSigned w64 (number_or_zero value)
held_fits None = fits_sound (pos 0) refl
held_fits (Some (values.Bool b)) = fits_sound (pos 0) refl
held_fits (Some (values.Text t)) = fits_sound (pos 0) refl
held_fits (Some (values.Int z)) = one (fits z) refl
  where
    one : (a : Bool) → fits z ≡ a → FitsSigned w64 (cond a z (pos 0))
    one true e = fits_sound z e
    one false e = fits_sound (pos 0) refl
