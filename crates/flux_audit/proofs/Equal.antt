-- What `==` says of answers: whether they are equal.
use Rattle.std.proofs.Common.{◌≡◌, List, Decides, rules}
use Rattle.std.specs.Cmp.Lexicographic.{pointwise, pointwise_decides}
use Rattle.std.proofs.lemmas.Slice.Eq.{bytes_eq-Decides}
use Rattle.flux_values.specs.declared.answers.Answer.{Answer}
use Rattle.flux_values.specs.declared.answers.Put.{Put}
use Rattle.flux_values.specs.contracts.answers.PutPartialEq.TheImpl as of_put
use Rattle.flux_values.specs.contracts.answers.AnswerPartialEq.TheImpl as of_answer
use Rattle.flux_values.proofs.Equal.{value_equal, result_equal}

pub put_equal : (a b : Put) → Decides ((of_put.eq-value).it a b) (a ≡ b)
put_equal a b = search (rules, value_equal, bytes_eq-Decides)

pub puts_equal : (a b : List Put) → Decides (pointwise (of_put.eq-value).it a b) (a ≡ b)
puts_equal = pointwise_decides put_equal

pub answer_equal : (a b : Answer) → Decides ((of_answer.eq-value).it a b) (a ≡ b)
answer_equal a b = search (rules, result_equal, puts_equal, bytes_eq-Decides)
