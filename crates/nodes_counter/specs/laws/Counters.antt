-- The library keeps the laws of a library (an `impl` takes its laws' proofs from here).
use Rattle.std.proofs.Common.{◌≡◌, ◌≤◌, ℕ, ℤ, ◌+ℤ◌, pos, negsuc, suc, nat_abs, Bool, true, false, List, [], ◌∷◌, ◌++◌, length, codes, take, drop, Option, Some, None, refl, arith, length-append, ◌&&◌, int_le, rules}
use Rattle.std.specs.List.{AllByRecursion}
use Rattle.std.specs.Str.{bytes_eq}
use Rattle.std.specs.Fmt.{signed_decimal}
use Rattle.std.specs.FinMap.{get}
use Rattle.std.proofs.lemmas.Fmt.{length-decimal-le}
use Rattle.std.proofs.lemmas.Bool.Decides.{nat_tests}
use Rattle.flux_values.specs.declared.values.Value.{Value}
use Rattle.flux_values.specs.declared.values.Value.TheVariants as values
use Rattle.flux_values.specs.declared.answers.Mode.TheVariants.{Writer}
use Rattle.flux_values.specs.Reading.{IsValue}
use Rattle.flux_values.specs.Cells.{CellMap}
use Rattle.flux_library.specs.Libraries.{IsLawfulNode, IsAnswerOf, IsLawful}
use Rattle.flux_library.specs.laws.Types.{types_short}
use Rattle.flux_library.specs.Answers.{the_text}
use Rattle.flux_library.specs.laws.Answers.{text_valid}
use Rattle.nodes_counter.specs.declared.nodes.Node.{Node}
use Rattle.nodes_counter.specs.declared.nodes.Node.TheVariants as nodes
use Rattle.nodes_counter.specs.Numbers.{fits, int_spelled}
use Rattle.nodes_counter.specs.Nodes.{node_named, sig_of, sig_named}
use Rattle.nodes_counter.specs.Calls.{number_or_zero, number_under, the_number, the_amount, fail_call, added, add_command, command_call, add_call, bump_call, answer_named}
use Rattle.nodes_counter.specs.Counters.{counter_meaning}
use Rattle.nodes_counter.specs.laws.Spellings.{fits_sound, int_sound}

-- ---- what nodes read is a value

zero_valid : IsValue (values.Int (pos 0))
zero_valid = fits_sound (pos 0) refl

number_valid : (args : List Value) → AllByRecursion IsValue args → IsValue (values.Int (the_number args))
number_valid [] all = zero_valid
number_valid (values.Int z ∷ []) all = all.0
number_valid (values.Bool b ∷ []) all = zero_valid
number_valid (values.Text t ∷ []) all = zero_valid
number_valid (values.Int z ∷ w ∷ more) all = zero_valid
number_valid (values.Bool b ∷ w ∷ more) all = zero_valid
number_valid (values.Text t ∷ w ∷ more) all = zero_valid

amount_valid : (args : List Value) → AllByRecursion IsValue args → IsValue (values.Int (the_amount args))
amount_valid [] all = zero_valid
amount_valid (v ∷ []) all = zero_valid
amount_valid (v ∷ values.Int z ∷ []) all = all.1.0
amount_valid (v ∷ values.Bool b ∷ []) all = zero_valid
amount_valid (v ∷ values.Text t ∷ []) all = zero_valid
amount_valid (v ∷ values.Int z ∷ w ∷ more) all = zero_valid
amount_valid (v ∷ values.Bool b ∷ w ∷ more) all = zero_valid
amount_valid (v ∷ values.Text t ∷ w ∷ more) all = zero_valid

held_valid : (value : Option Value) → IsValue (values.Int (number_or_zero value))
held_valid None = zero_valid
held_valid (Some (values.Bool b)) = zero_valid
held_valid (Some (values.Text t)) = zero_valid
held_valid (Some (values.Int z)) = cases (fits z) refl
  where
    cases : (a : Bool) → fits z ≡ a → IsValue (values.Int (number_or_zero (Some (values.Int z))))
    cases true p = rw p (fits_sound z p)
    cases false p = rw p zero_valid

under_valid : (name : List ℕ) (cells : List CellMap) → IsValue (values.Int (number_under name cells))
under_valid name [] = zero_valid
under_valid name (cell ∷ []) = held_valid (get cell name)
under_valid name (cell ∷ next ∷ cells) = zero_valid

number_short : (z : ℤ) → IsValue (values.Int z) → length (signed_decimal z) ≤ 21
number_short (pos n) fits_ = let le = length-decimal-le 20 n (omega arith) (omega arith) (omega arith) in omega (arith, le)
number_short (negsuc n) fits_ = let le = length-decimal-le 20 (suc n) (omega arith) (omega arith) (omega arith) in omega (arith, le)

shown_short : (z : ℤ) → IsValue (values.Int z) → length (signed_decimal z ++ codes "\n") ≤ 1049600
shown_short z fits_ = let le = number_short z fits_ in omega (arith, le, length-append (signed_decimal z) (codes "\n"))

-- ---- answers

fail_lawful : (z : ℤ) → IsValue (values.Int z) → IsAnswerOf (sig_of nodes.Fail) (fail_call z)
fail_lawful z valid = cases (int_le (pos 1) z && int_le z (pos 255)) refl
  where
    cases : (a : Bool) → (int_le (pos 1) z && int_le z (pos 255)) ≡ a → IsAnswerOf (sig_of nodes.Fail) (fail_call z)
    cases true p = rw p (record { result = code z p; puts = tt; emits = omega arith })
      where
        code : (z : ℤ) → (int_le (pos 1) z && int_le z (pos 255)) ≡ true → (1 ≤ nat_abs z) × (nat_abs z ≤ 255)
        code (pos n) p = (grind (arith, nat_tests), grind (arith, nat_tests))
        code (negsuc n) p = absurd cc
    cases false p = rw p (record { result = (refl, (valid, tt)); puts = tt; emits = omega arith })

add_command_lawful : (text : List ℕ) (found : Option ℤ) → int_spelled text ≡ found → IsAnswerOf (sig_of nodes.Command) (add_command found)
add_command_lawful text None e = record { result = (omega arith, omega arith); puts = tt; emits = omega arith }
add_command_lawful text (Some z) e = record { result = (refl, (search rules, ((int_sound text z e).is_value, tt))); puts = tt; emits = omega arith }

added_lawful : (text : List ℕ) → IsAnswerOf (sig_of nodes.Command) (add_command (added text))
added_lawful text = cases (bytes_eq (take 4 text) (codes "add ")) refl
  where
    cases : (a : Bool) → bytes_eq (take 4 text) (codes "add ") ≡ a → IsAnswerOf (sig_of nodes.Command) (add_command (added text))
    cases true p = rw p (add_command_lawful (drop 4 text) (int_spelled (drop 4 text)) refl)
    cases false p = rw p (record { result = (omega arith, omega arith); puts = tt; emits = omega arith })

command_lawful : (text : List ℕ) → IsAnswerOf (sig_of nodes.Command) (command_call text)
command_lawful text = cases (bytes_eq text (codes "get")) refl
  where
    cases : (a : Bool) → bytes_eq text (codes "get") ≡ a → IsAnswerOf (sig_of nodes.Command) (command_call text)
    cases true p = rw p (record { result = (refl, (search rules, (zero_valid, tt))); puts = tt; emits = omega arith })
    cases false p = rw p (added_lawful text)

add_lawful : (sum : ℤ) → IsAnswerOf (sig_of nodes.Add) (add_call sum)
add_lawful sum = cases (fits sum) refl
  where
    cases : (a : Bool) → fits sum ≡ a → IsAnswerOf (sig_of nodes.Add) (add_call sum)
    cases true p = rw p (record {
      result = (refl, (fits_sound sum p, tt));
      puts = (record { use_ = record { name = codes "counter"; mode = Writer }; before = []; after = []; among = refl; name = refl; mode = refl }, tt);
      emits = omega arith;
    })
    cases false p = rw p (record { result = (omega arith, omega arith); puts = tt; emits = omega arith })

bump_lawful : (next z : ℤ) → IsValue (values.Int z) → IsAnswerOf (sig_of nodes.Bump) (bump_call next z)
bump_lawful next z valid = cases (fits next) refl
  where
    cases : (a : Bool) → fits next ≡ a → IsAnswerOf (sig_of nodes.Bump) (bump_call next z)
    cases true p = rw p (record {
      result = (refl, (valid, tt));
      puts = (record { use_ = record { name = codes "visits"; mode = Writer }; before = []; after = []; among = refl; name = refl; mode = refl }, tt);
      emits = omega arith;
    })
    cases false p = rw p (record { result = (omega arith, omega arith); puts = tt; emits = omega arith })

-- ---- nodes

node_lawful : (node : Option Node) → IsLawfulNode (sig_named node) (answer_named node)
node_lawful None = tt
node_lawful (Some nodes.Tick) = record { source = tt; answers = λ args cells fits_ all. let h = fits_.role in absurd cc }
node_lawful (Some nodes.Listen) = record { source = refl; answers = λ args cells fits_ all. let h = fits_.role in absurd cc }
node_lawful (Some nodes.Pass) = record { source = tt; answers = λ args cells fits_ all. record { result = (fits_.kinds, all); puts = tt; emits = omega arith } }
node_lawful (Some nodes.Fail) = record { source = tt; answers = λ args cells fits_ all. fail_lawful (the_number args) (number_valid args all) }
node_lawful (Some nodes.Show) = record { source = tt; answers = λ args cells fits_ all. record { result = (refl, tt); puts = tt; emits = shown_short (the_number args) (number_valid args all) } }
node_lawful (Some nodes.Echo) = record { source = tt; answers = λ args cells fits_ all. record { result = (refl, tt); puts = tt; emits = let short = (text_valid args all).1 in omega arith } }
node_lawful (Some nodes.Refuse) = record { source = tt; answers = λ args cells fits_ all. record { result = (refl, tt); puts = tt; emits = omega arith } }
node_lawful (Some nodes.Command) = record { source = tt; answers = λ args cells fits_ all. command_lawful (the_text args) }
node_lawful (Some nodes.Amount) = record { source = tt; answers = λ args cells fits_ all. record { result = (refl, (amount_valid args all, tt)); puts = tt; emits = omega arith } }
node_lawful (Some nodes.Add) = record { source = tt; answers = λ args cells fits_ all. add_lawful (number_under (codes "total") cells +ℤ the_number args) }
node_lawful (Some nodes.Read) = record { source = tt; answers = λ args cells fits_ all. record { result = (refl, (under_valid (codes "total") cells, tt)); puts = tt; emits = omega arith } }
node_lawful (Some nodes.Bump) = record { source = tt; answers = λ args cells fits_ all. bump_lawful (number_under (codes "n") cells +ℤ pos 1) (the_number args) (number_valid args all) }

pub counter_lawful : {S : Type 0} (library : S) → IsLawful counter_meaning
counter_lawful library = record { short = types_short; nodes = λ name. node_lawful (node_named name) }
