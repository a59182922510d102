use Rattle.std.proofs.Common.{◌≡◌, ℕ, List, ◌++◌, codes, refl, ap, true, length, ◌==◌, ◌∙◌, subst}
use Rattle.std.specs.Result.{OnOk}
use Rattle.std.specs.Fmt.{decimal}
use Rattle.flux_values.specs.declared.answers.Answer.{Answer}
use Rattle.flow_model.specs.Texts.{printed_emission}
use Rattle.flux_journal.specs.steps.Listed.{called}
use Rattle.flux_journal.proofs.Adding.{added_then}
use Rattle.flux_journal.proofs.CallLines.{bare_line, full_line}
use Rattle.flux_journal.proofs.printing.append_call.Goals as goal

pub returns-then-is_empty-2 : goal.returns-then-is_empty-2
returns-then-is_empty-2 c =
    subst (λ (line : List ℕ). OnOk c.append_answered.result (c.append_answered.new.out ≡ c.args.out.now ++ line))
    (bare_line c.args.phrases.now (decimal c.args.flow.0 ++ codes " ") c.args.made.now c.as_answer-answer.result.now c.as_answer-answer.ensures (c.if-is_empty.ensures.0 refl)
    (subst (λ (emits : List ℕ). true ≡ (length emits == 0)) c.as_bytes.ensures c.if-is_empty-2.ensures))
    c.append_answered.ensures

pub returns : goal.returns
returns c =
    added_then c.append_emission.result c.args.out.now c.append_called.new.out c.append_emission.new.out _ _ _
    c.in_ok-append_called.ensures
    (full_line (decimal c.args.flow.0 ++ codes " ") (called c.args.phrases.now c.args.made.now) (printed_emission c.args.made.now.answer.emits))
    (subst (λ (emits : List ℕ). OnOk c.append_emission.result (c.append_emission.new.out ≡ c.append_called.new.out ++ (printed_emission emits ++ codes "\n"))) (c.as_bytes-2.ensures ∙ ap (λ (a : Answer). a.emits) c.as_answer-answer.ensures) c.append_emission.ensures)
