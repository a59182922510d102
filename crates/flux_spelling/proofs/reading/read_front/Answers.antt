use Rattle.std.proofs.Common.{sym}
use Rattle.flux_spelling.proofs.WordsRead.{nothing_none, nothing_some}
use Rattle.flux_spelling.proofs.reading.read_front.Goals as goal

pub returns-in-None : goal.returns-in-None
returns-in-None c = nothing_none c.args.bytes.now c.in-None.ensures.value

pub returns-in-Some-2 : goal.returns-in-Some-2
returns-in-Some-2 c =
    let other = c.in-Some.first-test in
    nothing_some c.args.bytes.now c.in-Some.first.now c.in-Some.ensures.value (record {
      sign = other.1;
      digit = sym c.if-is_ascii_digit.ensures.value;
      true_word = other.0.0.1;
      false_word = other.0.1;
      text = other.0.0.0.1;
    })
