-- Peers that rise: how they stay so, and that no others have the same members.
use Rattle.std.proofs.Common.{◌≡◌, ◌⊎◌, inl, inr, ℕ, Bool, true, false, ◌&&◌, cond, not, List, [], ◌∷◌, refl, sym, ap, subst, ◌∙◌}
use Rattle.std.specs.declared.cmp.Ordering.{Ordering}
use Rattle.std.specs.declared.cmp.Ordering.TheVariants.{Less, Equal, Greater}
use Rattle.std.specs.Ordering.{nat_cmp, is_lt, is_eq, ordering_reverse}
use Rattle.std.specs.Cmp.Lexicographic.{slice_cmp}
use Rattle.std.specs.List.{AllByRecursion}
use Rattle.std.specs.Str.{bytes_eq}
use Rattle.std.proofs.lemmas.Cmp.{nat_list_cmp_total, tied_itself}
use Rattle.std.proofs.lemmas.Map.Text.{is_eq-slice_cmp}
use Rattle.std.proofs.lemmas.Slice.Eq.{bytes_eq-Decides}
use Rattle.flux_laws.proofs.Members.{In}
use Rattle.nodes_tracker.specs.declared.peers.Peer.{Peer}
use Rattle.nodes_tracker.specs.Swarms.{is_below, is_rising, without, with_peer}

-- ---- texts

less : (o : Ordering) → is_lt o ≡ true → o ≡ Less
less Less e = refl
less Equal e = absurd cc
less Greater e = absurd cc

below_trans : (a b c : List ℕ) → is_below a b ≡ true → is_below b c ≡ true → is_below a c ≡ true
below_trans a b c one two = ap is_lt (nat_list_cmp_total.trans a b c
    (less (slice_cmp nat_cmp a b) one) (less (slice_cmp nat_cmp b c) two))

below_self : (a : List ℕ) → is_below a a ≡ true → ⊥
below_self a e = let tied = tied_itself nat_list_cmp_total a in let lt = less (slice_cmp nat_cmp a a) e in
    let no : Less ≡ Equal = sym lt ∙ tied in cc

equal : (o : Ordering) → o ≡ Equal → is_eq o ≡ true
equal o e = ap is_eq e

-- of two texts that differ one is below the other
above : (a b : List ℕ) → (a ≡ b → ⊥) → is_below a b ≡ false → is_below b a ≡ true
above a b apart e = by (slice_cmp nat_cmp a b) refl
  where
    by : (o : Ordering) → slice_cmp nat_cmp a b ≡ o → is_below b a ≡ true
    by Less at = let no : true ≡ false = sym (ap is_lt at) ∙ e in absurd cc
    by Equal at =
        absurd (apart ((bytes_eq-Decides a b).0 (sym (is_eq-slice_cmp a b) ∙ equal (slice_cmp nat_cmp a b) at)))
    by Greater at = ap is_lt (nat_list_cmp_total.antisymm b a ∙ ap ordering_reverse at)

-- ---- peers that rise

-- each is below all after it
abbrev pub Rises : List Peer → Type 0
Rises [] = Unit {0}
Rises (p ∷ ps) = AllByRecursion (λ q. is_below p.address q.address ≡ true) ps × Rises ps

all_above : (a b : List ℕ) (ps : List Peer) → is_below a b ≡ true
    → AllByRecursion (λ q. is_below b q.address ≡ true) ps → AllByRecursion (λ q. is_below a q.address ≡ true) ps
all_above a b [] lt all = tt
all_above a b (p ∷ ps) lt all = (below_trans a b p.address lt all.0, all_above a b ps lt all.1)

and_one : (a b : Bool) → (a && b) ≡ true → a ≡ true
and_one true b e = refl
and_one false b e = absurd cc

and_two : (a b : Bool) → (a && b) ≡ true → b ≡ true
and_two true b e = e
and_two false b e = absurd cc

pub rises : (ps : List Peer) → is_rising ps ≡ true → Rises ps
rises [] e = tt
rises (p ∷ []) e = (tt, tt)
rises (p ∷ q ∷ ps) e =
    let lt = and_one (is_below p.address q.address) (is_rising (q ∷ ps)) e in
    let more = rises (q ∷ ps) (and_two (is_below p.address q.address) (is_rising (q ∷ ps)) e) in
    ((lt, all_above p.address q.address ps lt more.0), more)

pub rising : (ps : List Peer) → Rises ps → is_rising ps ≡ true
rising [] all = refl
rising (p ∷ []) all = refl
rising (p ∷ q ∷ ps) all = rw all.0.0 (rising (q ∷ ps) all.1)

-- ---- without a peer

all_without : (P : Peer → Type 0) (address : List ℕ) (ps : List Peer) → AllByRecursion P ps
    → AllByRecursion P (without address ps)
all_without P address [] all = tt
all_without P address (p ∷ ps) all = by (not (bytes_eq p.address address)) (all_without P address ps all.1)
  where
    by : (b : Bool) → AllByRecursion P (without address ps)
        → AllByRecursion P (cond b (p ∷ without address ps) (without address ps))
    by true more = (all.0, more)
    by false more = more

pub rises_without : (address : List ℕ) (ps : List Peer) → Rises ps → Rises (without address ps)
rises_without address [] all = tt
rises_without address (p ∷ ps) all = by (not (bytes_eq p.address address)) (rises_without address ps all.1)
  where
    by : (b : Bool) → Rises (without address ps) → Rises (cond b (p ∷ without address ps) (without address ps))
    by true more = (all_without (λ q. is_below p.address q.address ≡ true) address ps all.0, more)
    by false more = more

-- those that stay are those of another address
pub in_without : (q : Peer) (address : List ℕ) (ps : List Peer) → In q (without address ps)
    → In q ps × (q.address ≡ address → ⊥)
in_without q address [] is = absurd is
in_without q address (p ∷ ps) is = by (bytes_eq p.address address) refl is (in_without q address ps)
  where
    by : (b : Bool) → bytes_eq p.address address ≡ b
        → In q (cond (not b) (p ∷ without address ps) (without address ps))
        → (In q (without address ps) → In q ps × (q.address ≡ address → ⊥))
        → In q (p ∷ ps) × (q.address ≡ address → ⊥)
    by true e is more = let had = more is in (inr had.0, had.1)
    by false e (inl same) more = (
      inl same,
      λ its. let at : p.address ≡ address = ap (λ r. r.address) same ∙ its in
          let no : true ≡ false = sym ((bytes_eq-Decides p.address address).1 at) ∙ e in cc,
    )
    by false e (inr is) more = let had = more is in (inr had.0, had.1)

pub without_in : (q : Peer) (address : List ℕ) (ps : List Peer) → In q ps → (q.address ≡ address → ⊥)
    → In q (without address ps)
without_in q address [] is apart = absurd is
without_in q address (p ∷ ps) is apart =
    by (bytes_eq p.address address) refl is (λ more. without_in q address ps more apart)
  where
    by : (b : Bool) → bytes_eq p.address address ≡ b → In q (p ∷ ps) → (In q ps → In q (without address ps))
        → In q (cond (not b) (p ∷ without address ps) (without address ps))
    by true e (inl same) more =
        absurd (apart (sym (ap (λ r. r.address) same) ∙ (bytes_eq-Decides p.address address).0 e))
    by true e (inr is) more = more is
    by false e (inl same) more = inl same
    by false e (inr is) more = inr (more is)

-- none of them has the address
pub none_with : (address : List ℕ) (ps : List Peer)
    → AllByRecursion (λ q. q.address ≡ address → ⊥) (without address ps)
none_with address [] = tt
none_with address (p ∷ ps) = by (bytes_eq p.address address) refl (none_with address ps)
  where
    by : (b : Bool) → bytes_eq p.address address ≡ b
        → AllByRecursion (λ q. q.address ≡ address → ⊥) (without address ps)
        → AllByRecursion (λ q. q.address ≡ address → ⊥)
        (cond (not b) (p ∷ without address ps) (without address ps))
    by true e more = more
    by false e more =
        (λ same. let no : true ≡ false = sym ((bytes_eq-Decides p.address address).1 same) ∙ e in cc, more)

-- ---- with a peer

all_with : (P : Peer → Type 0) (peer : Peer) (ps : List Peer) → P peer → AllByRecursion P ps
    → AllByRecursion P (with_peer peer ps)
all_with P peer [] own all = (own, tt)
all_with P peer (p ∷ ps) own all = by (is_below p.address peer.address) (all_with P peer ps own all.1)
  where
    by : (b : Bool) → AllByRecursion P (with_peer peer ps)
        → AllByRecursion P (cond b (p ∷ with_peer peer ps) (peer ∷ p ∷ ps))
    by true more = (all.0, more)
    by false more = (own, all)

pub rises_with : (peer : Peer) (ps : List Peer) → Rises ps
    → AllByRecursion (λ q. q.address ≡ peer.address → ⊥) ps → Rises (with_peer peer ps)
rises_with peer [] all apart = (tt, tt)
rises_with peer (p ∷ ps) all apart =
    by (is_below p.address peer.address) refl (rises_with peer ps all.1 apart.1)
  where
    by : (b : Bool) → is_below p.address peer.address ≡ b → Rises (with_peer peer ps)
        → Rises (cond b (p ∷ with_peer peer ps) (peer ∷ p ∷ ps))
    by true e more = (all_with (λ q. is_below p.address q.address ≡ true) peer ps e all.0, more)
    by false e more = let lt = above p.address peer.address apart.0 e in
        ((lt, all_above peer.address p.address ps lt all.0), all)

pub in_with : (q peer : Peer) (ps : List Peer) → In q (with_peer peer ps) → (peer ≡ q) ⊎ In q ps
in_with q peer [] (inl same) = inl same
in_with q peer [] (inr is) = absurd is
in_with q peer (p ∷ ps) is = by (is_below p.address peer.address) is (in_with q peer ps)
  where
    on : (peer ≡ q) ⊎ In q ps → (peer ≡ q) ⊎ In q (p ∷ ps)
    on (inl same) = inl same
    on (inr is) = inr (inr is)

    by : (b : Bool) → In q (cond b (p ∷ with_peer peer ps) (peer ∷ p ∷ ps))
        → (In q (with_peer peer ps) → (peer ≡ q) ⊎ In q ps) → (peer ≡ q) ⊎ In q (p ∷ ps)
    by true (inl same) more = inr (inl same)
    by true (inr is) more = on (more is)
    by false (inl same) more = inl same
    by false (inr is) more = inr is

pub with_in : (q peer : Peer) (ps : List Peer) → (peer ≡ q) ⊎ In q ps → In q (with_peer peer ps)
with_in q peer [] (inl same) = inl same
with_in q peer [] (inr is) = absurd is
with_in q peer (p ∷ ps) is = by (is_below p.address peer.address) is (with_in q peer ps)
  where
    by : (b : Bool) → (peer ≡ q) ⊎ In q (p ∷ ps) → ((peer ≡ q) ⊎ In q ps → In q (with_peer peer ps))
        → In q (cond b (p ∷ with_peer peer ps) (peer ∷ p ∷ ps))
    by true (inl same) more = inr (more (inl same))
    by true (inr (inl same)) more = inl same
    by true (inr (inr is)) more = inr (more (inr is))
    by false (inl same) more = inl same
    by false (inr is) more = inr is

-- ---- the same members

above_in : (a : List ℕ) (q : Peer) (ps : List Peer) → AllByRecursion (λ r. is_below a r.address ≡ true) ps → In q ps
    → is_below a q.address ≡ true
above_in a q [] all is = absurd is
above_in a q (p ∷ ps) all (inl same) = subst (λ r. is_below a r.address ≡ true) same all.0
above_in a q (p ∷ ps) all (inr is) = above_in a q ps all.1 is

-- the second list has what the first has, and back
abbrev Same : List Peer → List Peer → Type 0
Same ps qs = ((r : Peer) → In r ps → In r qs) → ((r : Peer) → In r qs → In r ps) → ps ≡ qs

-- peers that rise, with the same members, are the same
pub same_peers : (ps qs : List Peer) → Rises ps → Rises qs → ((r : Peer) → In r ps → In r qs)
    → ((r : Peer) → In r qs → In r ps) → ps ≡ qs
same_peers [] [] one two there back = refl
same_peers [] (q ∷ qs) one two there back = absurd (back q (inl refl))
same_peers (p ∷ ps) [] one two there back = absurd (there p (inl refl))
same_peers (p ∷ ps) (q ∷ qs) one two there back =
    by (there p (inl refl)) (back q (inl refl)) (same_peers ps qs one.1 two.1)
  where
    -- the rest has the same members too, since the first is below each of them
    on : q ≡ p → (r : Peer) → In r ps → In r (q ∷ qs) → In r qs
    on first r is (inl same) = absurd (below_self p.address (subst (λ s. is_below p.address s.address ≡ true)
        (sym same ∙ first) (above_in p.address r ps one.0 is)))
    on first r is (inr more) = more

    off : q ≡ p → (r : Peer) → In r qs → In r (p ∷ ps) → In r ps
    off first r is (inl same) = absurd (below_self q.address (subst (λ s. is_below q.address s.address ≡ true)
        (sym same ∙ sym first) (above_in q.address r qs two.0 is)))
    off first r is (inr more) = more

    tails : q ≡ p → Same ps qs → p ∷ ps ≡ q ∷ qs
    tails first rest = let same = rest (λ r is. on first r is (there r (inr is)))
        (λ r is. off first r is (back r (inr is))) in λ i. sym first i ∷ same i

    by : In p (q ∷ qs) → In q (p ∷ ps) → Same ps qs → p ∷ ps ≡ q ∷ qs
    by (inl first) is rest = tails first rest
    by (inr is) (inl first) rest = tails (sym first) rest
    by (inr is) (inr more) rest = absurd (below_self p.address (below_trans p.address q.address p.address
        (above_in p.address q ps one.0 more) (above_in q.address p qs two.0 is)))
