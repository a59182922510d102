-- What `==` says of values, kinds and results of calls, and of lists of these: whether they are equal.
use Rattle.std.proofs.Common.{◌≡◌, List, Decides, rules}
use Rattle.std.specs.Cmp.Lexicographic.{pointwise, pointwise_decides}
use Rattle.flux_values.specs.declared.values.Value.{Value}
use Rattle.flux_values.specs.declared.values.Kind.{Kind}
use Rattle.flux_values.specs.declared.answers.CallResult.{CallResult}
use Rattle.flux_values.specs.contracts.answers.CallResultPartialEq.TheImpl as of_result
use Rattle.flux_values.specs.contracts.values.ValuePartialEq.TheImpl as of_value
use Rattle.flux_values.specs.contracts.values.KindPartialEq.TheImpl as of_kind

pub value_equal : (a b : Value) → Decides ((of_value.eq-value).it a b) (a ≡ b)
value_equal a b = search rules

pub values_equal : (a b : List Value) → Decides (pointwise (of_value.eq-value).it a b) (a ≡ b)
values_equal = pointwise_decides value_equal

pub kind_equal : (a b : Kind) → Decides ((of_kind.eq-value).it a b) (a ≡ b)
kind_equal a b = search rules

pub kinds_equal : (a b : List Kind) → Decides (pointwise (of_kind.eq-value).it a b) (a ≡ b)
kinds_equal = pointwise_decides kind_equal

pub result_equal : (a b : CallResult) → Decides ((of_result.eq-value).it a b) (a ≡ b)
result_equal a b = search (rules, values_equal)
