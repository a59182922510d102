use Rattle.std.proofs.Common.{inl, inr, subst}
use Rattle.flux_spelling.proofs.WordsRead.{HavePart, word_parts}
use Rattle.flux_spelling.proofs.reading.read_word.Goals.{then-at-bytes-via-then-at-bytes, then-at-bytes-via-else-at-bytes+then-bytes-at}
use Rattle.flux_spelling.proofs.reading.read_word.Goals as goal

pub returns-then-at-bytes : goal.returns-then-at-bytes
returns-then-at-bytes c = word_parts c.args.truth c.args.bytes.now c.loop-at.at (subst (λ word. HavePart c.args.bytes.now word c.loop-at.at) c.requires.word (record {
  within = c.loop-at.invariant.within;
  in_word = c.loop-at-test.true;
  same = c.loop-at.invariant.same;
  part = elim c.then-at-bytes.branch [
    | then-at-bytes-via-then-at-bytes w ↦ inl w.if-at-bytes.true
    | then-at-bytes-via-else-at-bytes+then-bytes-at w ↦ inr w.if-bytes-at.true
  ];
  first = c.requires.first;
  some = c.requires.some;
}))
