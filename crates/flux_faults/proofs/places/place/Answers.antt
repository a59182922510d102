use Rattle.std.proofs.Common.{◌≡◌, ℕ, ◌<◌, ◌≤◌, List, length, take, subst, arith}
use Rattle.std.proofs.lemmas.List.{get_or-take, length-take}
use Rattle.flux_faults.specs.Places.{line_of, column_of}
use Rattle.flux_faults.proofs.Counting.{counted_none, counted_next}
use Rattle.flux_faults.proofs.places.place.Goals as goal

-- a byte before the place
before : (text : List ℕ) (at i : ℕ) → i < length (take at text) → i < at
before text at i lt = omega (arith, lt, length-take at text)

pub loop-byte-init : goal.loop-byte-init
loop-byte-init c = counted_none c.args.text.now

pub behind-place-requires : goal.behind-place-requires
behind-place-requires c =
    let lt = before c.args.text.now c.args.at c.loop-byte.byte-index c.loop-byte-test.true in
    (omega (arith, c.loop-byte.invariant.few, lt, c.requires.room), omega (arith, c.loop-byte.invariant.short, lt, c.requires.room))

pub loop-byte-preserved : goal.loop-byte-preserved
loop-byte-preserved c =
    let text = c.args.text.now in
    let at = c.args.at in
    let i = c.loop-byte.byte-index in
    let lt = before text at i c.loop-byte-test.true in
    let inside : i < length text = omega (arith, lt, c.requires.inside) in
    rw c.behind-place.ensures (counted_next text c.loop-byte.place i _ c.loop-byte.invariant inside (get_or-take at text i 0 lt))

ended : (text : List ℕ) (at i : ℕ) → at ≤ length text → i ≤ length (take at text) → length (take at text) ≤ i → i ≡ at
ended text at i inside le over = omega (arith, length-take at text, over)

pub returns-clause-line : goal.returns-clause-line
returns-clause-line c =
    let over = ended c.args.text.now c.args.at c.loop-byte.byte-index c.requires.inside c.loop-byte.auto.byte-index-end c.loop-byte-test.false in
    subst (λ (i : ℕ). c.loop-byte.place.line ≡ line_of c.args.text.now i) over c.loop-byte.invariant.lines

pub returns-clause-column : goal.returns-clause-column
returns-clause-column c =
    let over = ended c.args.text.now c.args.at c.loop-byte.byte-index c.requires.inside c.loop-byte.auto.byte-index-end c.loop-byte-test.false in
    subst (λ (i : ℕ). c.loop-byte.place.column ≡ column_of c.args.text.now i) over c.loop-byte.invariant.columns
