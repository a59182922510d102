-- Answers that can be printed, and texts of bytes.
use Rattle.std.proofs.Common.{◌≡◌, ◌<◌, ◌≤◌, ◌^◌, ℕ, ℤ, pos, negsuc, suc, Bool, true, false, cond, ltb, List, [], ◌∷◌, ◌++◌, length, codes, FitsSigned, refl, ◌∙◌, arith}
use Rattle.std.specs.Int.{w64}
use Rattle.std.specs.List.{All, list_all}
use Rattle.std.specs.Fmt.{decimal, signed_decimal}
use Rattle.std.specs.Str.Parse.{AllDigits}
use Rattle.std.proofs.lemmas.Str.Parse.{digit_from_value}
use Rattle.std.proofs.lemmas.Fmt.{decimal_is_IsNumeral}
use Rattle.std.proofs.lemmas.Bool.Decides.{nat_tests}
use Rattle.std.proofs.lemmas.Int.{ints}
use Rattle.std.proofs.lemmas.List.Elements.{All-nil}
use Rattle.std.proofs.lemmas.List.Folds.{list_all-append}
use Rattle.std.proofs.lemmas.List.Sums.{AllPass-from_list_all, list_all-from_AllPass}
use Rattle.flux_values.specs.declared.values.Value.{Value}
use Rattle.flux_values.specs.declared.answers.Answer.{Answer}
use Rattle.flux_library.specs.Answers.{ok, fails, emits}
use Rattle.nodes_tracker.specs.Swarms.{are_bytes}
use Rattle.flux_journal.specs.Entries.{IsTextOf}
use Rattle.flux_upheld.specs.Printable.{IsPrintable}

-- ---- bytes, as a test and as a fact

pub bytes-all : (text : List ℕ) → are_bytes text ≡ true → All (λ byte. byte < 256) text
bytes-all text bytes =
    let all = AllPass-from_list_all (λ b. ltb b 256) text bytes in
    (λ k d lt. let h = all k d lt in grind (arith, nat_tests))

pub all-bytes : (text : List ℕ) → All (λ byte. byte < 256) text → are_bytes text ≡ true
all-bytes text all = list_all-from_AllPass (λ b. ltb b 256) text (λ k d lt. let h = all k d lt in grind (arith, nat_tests))

pub both-bytes : (a b : List ℕ) → are_bytes a ≡ true → are_bytes b ≡ true → are_bytes (a ++ b) ≡ true
both-bytes a b one two = list_all-append (λ c. ltb c 256) a b ∙ rw (one, two) refl

digits-bytes : (ds : List ℕ) → AllDigits 10 ds → are_bytes ds ≡ true
digits-bytes [] all = refl
digits-bytes (d ∷ ds) all =
    let r = digit_from_value d all.0 in
    let one : ltb d 256 ≡ true = grind (arith, nat_tests) in
    rw one (digits-bytes ds all.1)

pub decimal-bytes : (n : ℕ) → n < 2 ^ 64 → are_bytes (decimal n) ≡ true
decimal-bytes n lt = digits-bytes (decimal n) ((decimal_is_IsNumeral n lt).0.1)

pub signed-bytes : (z : ℤ) → FitsSigned w64 z → are_bytes (signed_decimal z) ≡ true
signed-bytes (pos n) fits = decimal-bytes n (omega (arith, ints))
signed-bytes (negsuc n) fits = both-bytes (45 ∷ []) (decimal (suc n)) refl (decimal-bytes (suc n) (omega (arith, ints)))

-- a short text of bytes
pub text-of : (limit : ℕ) (text : List ℕ) → are_bytes text ≡ true → length text ≤ limit → IsTextOf limit text
text-of limit text bytes few = record { each = bytes-all text bytes; few = few }

-- ---- answers

pub prints-values : (values : List Value) → IsPrintable (ok values)
prints-values values = record { puts = tt; emits = All-nil (λ (byte : ℕ). byte < 256) }

pub prints-failure : (code : ℕ) → IsPrintable (fails code)
prints-failure code = record { puts = tt; emits = All-nil (λ (byte : ℕ). byte < 256) }

pub prints-bytes : (bytes : List ℕ) → All (λ byte. byte < 256) bytes → IsPrintable (emits bytes)
prints-bytes bytes all = record { puts = tt; emits = all }

pub prints-either : (b : Bool) (one other : Answer) → IsPrintable one → IsPrintable other → IsPrintable (cond b one other)
prints-either true one other first second = first
prints-either false one other first second = second
