-- The lines of calls, in the pieces that they are added in.
use Rattle.std.proofs.Common.{◌≡◌, ℕ, ◌==◌, List, [], ◌∷◌, ◌++◌, length, codes, refl, arith, true, sym, ap, ◌∙◌, append_assoc, append-nil}
use Rattle.std.specs.List.{flat_map}
use Rattle.std.proofs.lemmas.Bool.Decides.{nat_tests}
use Rattle.flux_values.specs.declared.answers.Answer.{Answer}
use Rattle.flux_model.specs.declared.programs.Program.{Program}
use Rattle.flow_model.specs.declared.journals.CallMade.{CallMade}
use Rattle.flow_model.specs.Texts.{printed_put, printed_emission, printed_call}
use Rattle.flux_journal.specs.steps.Listed.{answered}

-- what is found empty
none : (bytes : List ℕ) → true ≡ (length bytes == 0) → bytes ≡ []
none [] found = refl
none (b ∷ bytes) found = absurd (grind (arith, nat_tests))

with_nothing : (flow call puts emission end : List ℕ) → puts ≡ [] → emission ≡ [] → (flow ++ call) ++ end ≡ (flow ++ (call ++ puts ++ emission)) ++ end
with_nothing flow call puts emission end no_puts no_emission = rw (no_puts, no_emission, append-nil (call ++ []), append-nil call) refl

-- a call that neither puts nor emits
pub bare_line : (p : Program) (flow : List ℕ) (made : CallMade) (answer : Answer) → answer ≡ made.answer → answer.puts ≡ [] → true ≡ (length answer.emits == 0)
    → flow ++ answered p made ++ codes "\n" ≡ (flow ++ printed_call p made) ++ codes "\n"
bare_line p flow made answer same no_puts no_emission =
    let puts : made.answer.puts ≡ [] = ap (λ (a : Answer). a.puts) (sym same) ∙ no_puts in
    let emission : made.answer.emits ≡ [] = ap (λ (a : Answer). a.emits) (sym same) ∙ none answer.emits no_emission in
    with_nothing flow (answered p made) (flat_map printed_put made.answer.puts) (printed_emission made.answer.emits) (codes "\n") (ap (flat_map printed_put) puts) (ap printed_emission emission)

-- any other
pub full_line : (flow call emission : List ℕ) → (flow ++ call) ++ (emission ++ codes "\n") ≡ (flow ++ (call ++ emission)) ++ codes "\n"
full_line flow call emission = simp append_assoc
