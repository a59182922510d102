-- The answers of `Counter` can be printed.
use Rattle.std.proofs.Common.{◌≡◌, ◌≤◌, ◌<◌, ℕ, ℤ, ◌+ℤ◌, pos, Bool, true, false, ◌&&◌, int_le, nat_abs, List, [], ◌∷◌, ◌++◌, codes, take, drop, Option, Some, None, refl, arith}
use Rattle.std.specs.List.{AllByRecursion}
use Rattle.std.specs.Str.{bytes_eq}
use Rattle.std.specs.Fmt.{signed_decimal}
use Rattle.std.proofs.lemmas.List.Elements.{All-nil}
use Rattle.flux_values.specs.declared.values.Value.{Value}
use Rattle.flux_values.specs.declared.values.Value.TheVariants as values
use Rattle.flux_values.specs.declared.texts.TheConstants.{TEXT_LIMIT}
use Rattle.flux_values.specs.Reading.{IsValue}
use Rattle.flux_library.specs.Answers.{the_text, ok, fails}
use Rattle.flux_library.specs.laws.Answers.{text_valid}
use Rattle.nodes_counter.specs.declared.nodes.Node.{Node}
use Rattle.nodes_counter.specs.declared.nodes.Node.TheVariants as nodes
use Rattle.nodes_counter.specs.Numbers.{fits, int_spelled}
use Rattle.nodes_counter.specs.Nodes.{sig_named}
use Rattle.nodes_counter.specs.Calls.{puts, number_under, the_number, the_amount, fail_call, show_call, added, add_command, command_call, add_call, bump_call, answer_named}
use Rattle.nodes_counter.specs.laws.Spellings.{fits_sound}
use Rattle.flux_upheld.specs.Printable.{IsPrintable, AnswersPrintably}
use Rattle.flux_upheld.proofs.Printing.{bytes-all, both-bytes, signed-bytes, text-of, prints-values, prints-failure, prints-bytes, prints-either}

zero-valid : IsValue (values.Int (pos 0))
zero-valid = fits_sound (pos 0) refl

number-valid : (args : List Value) → AllByRecursion IsValue args → IsValue (values.Int (the_number args))
number-valid [] all = zero-valid
number-valid (values.Int z ∷ []) all = all.0
number-valid (values.Bool b ∷ []) all = zero-valid
number-valid (values.Text t ∷ []) all = zero-valid
number-valid (values.Int z ∷ w ∷ more) all = zero-valid
number-valid (values.Bool b ∷ w ∷ more) all = zero-valid
number-valid (values.Text t ∷ w ∷ more) all = zero-valid

shown : (z : ℤ) → IsValue (values.Int z) → IsPrintable (show_call z)
shown z is = prints-bytes (signed_decimal z ++ codes "\n") (bytes-all (signed_decimal z ++ codes "\n") (both-bytes (signed_decimal z) (codes "\n") (signed-bytes z is) refl))

one-added : (found : Option ℤ) → IsPrintable (add_command found)
one-added None = prints-failure 2
one-added (Some z) = prints-values (values.Text (codes "add") ∷ values.Int z ∷ [])

added-prints : (sum : ℤ) → IsPrintable (add_call sum)
added-prints sum = by (fits sum) refl
  where
    by : (b : Bool) → fits sum ≡ b → IsPrintable (add_call sum)
    by true e = rw e (record {
      puts = (record { name = text-of TEXT_LIMIT (codes "total") refl (omega arith); value = fits_sound sum e }, tt);
      emits = All-nil (λ (byte : ℕ). byte < 256);
    })
    by false e = rw e (prints-failure 1)

bumped-prints : (next z : ℤ) → IsPrintable (bump_call next z)
bumped-prints next z = by (fits next) refl
  where
    by : (b : Bool) → fits next ≡ b → IsPrintable (bump_call next z)
    by true e = rw e (record {
      puts = (record { name = text-of TEXT_LIMIT (codes "n") refl (omega arith); value = fits_sound next e }, tt);
      emits = All-nil (λ (byte : ℕ). byte < 256);
    })
    by false e = rw e (prints-failure 1)

pub counter-prints : (node : Option Node) → AnswersPrintably (sig_named node) (answer_named node)
counter-prints None = tt
counter-prints (Some nodes.Tick) = λ args cells fits_ all held. let h = fits_.role in absurd cc
counter-prints (Some nodes.Listen) = λ args cells fits_ all held. let h = fits_.role in absurd cc
counter-prints (Some nodes.Pass) = λ args cells fits_ all held. prints-values args
counter-prints (Some nodes.Fail) = λ args cells fits_ all held. let z = the_number args in
    prints-either (int_le (pos 1) z && int_le z (pos 255)) (fails (nat_abs z)) (ok (values.Int z ∷ [])) (prints-failure (nat_abs z)) (prints-values (values.Int z ∷ []))
counter-prints (Some nodes.Show) = λ args cells fits_ all held. shown (the_number args) (number-valid args all)
counter-prints (Some nodes.Echo) = λ args cells fits_ all held. prints-bytes (the_text args) (text_valid args all).0
counter-prints (Some nodes.Refuse) = λ args cells fits_ all held. prints-bytes (codes "error\n") (bytes-all (codes "error\n") refl)
counter-prints (Some nodes.Command) = λ args cells fits_ all held. let text = the_text args in
    prints-either (bytes_eq text (codes "get")) (ok (values.Text (codes "get") ∷ values.Int (pos 0) ∷ [])) (add_command (added text))
    (prints-values (values.Text (codes "get") ∷ values.Int (pos 0) ∷ [])) (one-added (added text))
counter-prints (Some nodes.Amount) = λ args cells fits_ all held. prints-values (values.Int (the_amount args) ∷ [])
counter-prints (Some nodes.Add) = λ args cells fits_ all held. added-prints (number_under (codes "total") cells +ℤ the_number args)
counter-prints (Some nodes.Read) = λ args cells fits_ all held. prints-values (values.Int (number_under (codes "total") cells) ∷ [])
counter-prints (Some nodes.Bump) = λ args cells fits_ all held. bumped-prints (number_under (codes "n") cells +ℤ pos 1) (the_number args)
