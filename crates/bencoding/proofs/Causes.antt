-- From a place where no spelling goes on to what the reader answers; and of all answers one has its cause.
use Rattle.std.proofs.Common.{◌≡◌, inl, inr, ℕ, zero, suc, ◌+◌, ◌-◌, ◌<◌, pos, List, [], ◌∷◌, ◌++◌, length, take, drop, get_or, Result, Ok, Err, refl, sym, ap, ◌∙◌, arith, subst, append_assoc, append-nil, take-append-drop, take-add, length-take-le, eq-zero-or-pos}
use Rattle.std.proofs.lemmas.Bool.{cases_order}
use Rattle.std.proofs.lemmas.Int.{ints}
use Rattle.std.proofs.lemmas.List.{take_more}
use Rattle.bencoding.specs.declared.values.Ben.{Ben}
use Rattle.bencoding.specs.declared.values.BenFault.{BenFault}
use Rattle.bencoding.specs.declared.values.BenFault.TheVariants as faults
use Rattle.bencoding.specs.Trees.{Tree, number, spelling}
use Rattle.bencoding.specs.Views.{tree_of}
use Rattle.bencoding.specs.Reading.{BeginsWith, CanGoOn, IsBadBen, HasCause, IsRead, IsRefused}
use Rattle.bencoding.specs.steps.Places.{Follows, IsStuck}
use Rattle.bencoding.specs.steps.Values.{IsSpelled, StandsFirst, IsValueRead}
use Rattle.bencoding.proofs.Prefixes.{tree_same}

-- ---- causes

begins : (depth : ℕ) (bytes : List ℕ) (t : Tree) (n : ℕ) → StandsFirst depth bytes t n → BeginsWith depth bytes t n
begins depth bytes t n first = record {
  is_tree = first.is_tree;
  rest = drop n bytes;
  front = sym (take-append-drop n bytes) ∙ ap (λ l. l ++ drop n bytes) first.spelled;
  long = sym (length-take-le n bytes first.within) ∙ ap length first.spelled;
}

itself : (q : List ℕ) → Follows q q
itself [] = refl
itself (c ∷ q) = refl

nothing_yet : (depth : ℕ) → CanGoOn depth []
nothing_yet depth = record {
  value = number (pos 0);
  is_tree = omega (arith, ints);
  more =
      spelling (number (pos 0));
  spelled = refl;
}

goes : (depth : ℕ) (bytes : List ℕ) (at : ℕ) → IsStuck (IsSpelled depth) bytes at → CanGoOn depth (take at bytes)
goes depth bytes at stuck = elim (eq-zero-or-pos at) as (λ _. CanGoOn depth (take at bytes)) [
  | inl none ↦ subst (λ n. CanGoOn depth (take n bytes)) (sym none) (nothing_yet depth)
  | inr some ↦ let g = stuck.grows some in
      record { value = g.grown.value; is_tree = g.grown.is_tree; more = g.more; spelled = g.grown.spelled }
]

follows_more : (bytes y : List ℕ) (at : ℕ) → at < length bytes → Follows (drop at bytes) (get_or bytes at 0 ∷ y)
follows_more [] y at lt = absurd (omega arith)
follows_more (b ∷ bytes) y zero lt = refl
follows_more (b ∷ bytes) y (suc at) lt = follows_more bytes y at (omega arith)

bad : (depth : ℕ) (bytes : List ℕ) (at : ℕ) → IsStuck (IsSpelled depth) bytes at → IsBadBen depth bytes at
bad depth bytes at stuck = record {
  no_value = λ t n b. stuck.stops (drop at bytes) b.rest (spelling t)
      (record { value = t; is_tree = b.is_tree; spelled = refl }) (itself (drop at bytes)) (take-append-drop at bytes
      ∙ b.front);
  within = stuck.within;
  before = goes depth bytes at stuck;
  after = λ lt on. stuck.stops (get_or bytes at 0 ∷ on.more) [] (spelling on.value)
      (record { value = on.value; is_tree = on.is_tree; spelled = refl }) (follows_more bytes on.more at lt)
      (sym (append_assoc (take at bytes) (get_or bytes at 0 ∷ []) on.more)
      ∙ ap (λ l. l ++ on.more) (sym (take_more bytes at 0 lt)) ∙ on.spelled ∙ sym (append-nil (spelling on.value)));
}

pub has_cause : (r : Result (Ben × ℕ) BenFault) (bytes : List ℕ) → IsValueRead 8 bytes r → HasCause r bytes
has_cause (Ok read) bytes is = begins 8 bytes (tree_of read.0) read.1 is
has_cause (Err (faults.BadBen at)) bytes is = bad 8 bytes at is
has_cause (Err faults.Memory) bytes is = tt

-- ---- answers

one_value : (depth : ℕ) (bytes : List ℕ) (t u : Tree) (n m : ℕ) → BeginsWith depth bytes t n
    → BeginsWith depth bytes u m → (t ≡ u) × (n ≡ m)
one_value depth bytes t u n m a b =
    let same = tree_same depth t u a.rest b.rest a.is_tree b.is_tree (sym a.front ∙ b.front) in
    (same.value, a.long ∙ ap (λ v. length (spelling v)) same.value ∙ sym b.long)

pub is_read : (r : Result (Ben × ℕ) BenFault) (bytes : List ℕ) → HasCause r bytes → (t : Tree) (n : ℕ)
    → BeginsWith 8 bytes t n → IsRead t n r
is_read (Ok read) bytes cause t n begins_ = one_value 8 bytes (tree_of read.0) t read.1 n cause begins_
is_read (Err (faults.BadBen at)) bytes cause t n begins_ = cause.no_value t n begins_
is_read (Err faults.Memory) bytes cause t n begins_ = tt

less_goes : (depth : ℕ) (x y : List ℕ) → CanGoOn depth (x ++ y) → CanGoOn depth x
less_goes depth x y on = record {
  value = on.value;
  is_tree = on.is_tree;
  more = y ++ on.more;
  spelled = sym (append_assoc x y on.more)
      ∙ on.spelled;
}

earlier : (depth : ℕ) (bytes : List ℕ) (at place : ℕ) → IsBadBen depth bytes at → IsBadBen depth bytes place
    → at < place → ⊥
earlier depth bytes at place a b lt =
    let more = place - (at + 1) in
    let is : take place bytes ≡ take (at + 1) bytes ++ take more (drop (at + 1) bytes) =
    ap (λ m. take m bytes) (omega arith) ∙ take-add (at + 1) more bytes in
    a.after (omega (arith, b.within, lt))
    (less_goes depth (take (at + 1) bytes) (take more (drop (at + 1) bytes)) (subst (CanGoOn depth) is b.before))

one_bad : (depth : ℕ) (bytes : List ℕ) (at place : ℕ) → IsBadBen depth bytes at → IsBadBen depth bytes place
    → at ≡ place
one_bad depth bytes at place a b = elim (cases_order at place) as (λ _. at ≡ place) [
  | inl same ↦ same
  | inr differ ↦ absurd (elim differ
      [ inl lt ↦ earlier depth bytes at place a b lt | inr gt ↦ earlier depth bytes place at b a gt ])
]

pub is_refused : (r : Result (Ben × ℕ) BenFault) (bytes : List ℕ) → HasCause r bytes → (at : ℕ) → IsBadBen 8 bytes at
    → IsRefused at r
is_refused (Ok read) bytes cause at bad_ = bad_.no_value (tree_of read.0) read.1 cause
is_refused (Err (faults.BadBen place)) bytes cause at bad_ = one_bad 8 bytes place at cause bad_
is_refused (Err faults.Memory) bytes cause at bad_ = tt
