use Rattle.std.proofs.Common.{◌≡◌, ℕ, List, drop, sym, subst, ◌∙◌, arith}
use Rattle.std.proofs.lemmas.List.{take_rest, length-drop}
use Rattle.flux_faults.specs.declared.faults.FaultKind.TheVariants.{BadByte, UnclosedComment}
use Rattle.flux_lexer.specs.declared.fronts.Front.{Front}
use Rattle.flux_lexer.specs.Pieces.{token}
use Rattle.flux_lexer.specs.steps.Fronts.{front_of}
use Rattle.flux_lexer.proofs.Seen.{Sees, sees}
use Rattle.flux_lexer.proofs.Turns.{piece_fits, passed_fits, so_far_next, so_far_passed}
use Rattle.flux_lexer.proofs.Only.{refuses, no_tokens, tokens_only}
use Rattle.flux_lexer.proofs.Ends.{stands_bad, stands_unclosed, are_tokens}
use Rattle.flux_lexer.proofs.reading.tokens.Goals as goal

-- what was matched is seen
seen : (text : List ℕ) (front is : Front) → front ≡ front_of text → front ≡ is → Sees text is
seen text front is e same = subst (Sees text) (sym e ∙ same) (sees text)

pub overflow_add-lexed : goal.overflow_add-lexed
overflow_add-lexed c =
    let text = c.args.text.now in
    let at = c.loop-lexed.lexed.at in
    let passed = seen (drop at text) c.front_of.result _ (rw take_rest at c.front_of.ensures) c.in-Skip.is in
    omega (arith, (passed_fits c.in-Skip.length (drop at text) passed).inside, length-drop at text)

pub loop-lexed-smaller-in-Skip : goal.loop-lexed-smaller-in-Skip
loop-lexed-smaller-in-Skip c =
    let text = c.args.text.now in
    let at = c.loop-lexed.lexed.at in
    let passed = seen (drop at text) c.front_of.result _ (rw take_rest at c.front_of.ensures) c.in-Skip.is in
    omega (arith, (passed_fits c.in-Skip.length (drop at text) passed).some)

pub loop-lexed-preserved-in-Skip : goal.loop-lexed-preserved-in-Skip
loop-lexed-preserved-in-Skip c =
    let text = c.args.text.now in
    let at = c.loop-lexed.lexed.at in
    let passed = seen (drop at text) c.front_of.result _ (rw take_rest at c.front_of.ensures) c.in-Skip.is in
    so_far_passed text c.loop-lexed.lexed.tokens at c.in-Skip.length c.loop-lexed.invariant passed

pub take-requires : goal.take-requires
take-requires c =
    let text = c.args.text.now in
    let at = c.loop-lexed.lexed.at in
    let begun = seen (drop at text) c.front_of.result _ (rw take_rest at c.front_of.ensures) c.in-Token.is in
    omega (arith, begun.within, length-drop at text)

pub loop-lexed-smaller : goal.loop-lexed-smaller
loop-lexed-smaller c =
    let text = c.args.text.now in
    let at = c.loop-lexed.lexed.at in
    let begun = seen (drop at text) c.front_of.result _ (rw take_rest at c.front_of.ensures) c.in-Token.is in
    omega (arith, (piece_fits (token c.in-Token.kind) c.in-Token.length (drop at text) begun).some, c.in_ok-take-in-Token.ensures.at)

pub loop-lexed-preserved : goal.loop-lexed-preserved
loop-lexed-preserved c =
    let text = c.args.text.now in
    let at = c.loop-lexed.lexed.at in
    let begun = seen (drop at text) c.front_of.result _ (rw take_rest at c.front_of.ensures) c.in-Token.is in
    rw (c.in_ok-take-in-Token.ensures.tokens, c.in_ok-take-in-Token.ensures.at)
    (so_far_next text c.loop-lexed.lexed.tokens at (token c.in-Token.kind) c.in-Token.length c.loop-lexed.invariant begun)

pub returns-in-Unclosed-clause-fault : goal.returns-in-Unclosed-clause-fault
returns-in-Unclosed-clause-fault c =
    let text = c.args.text.now in
    let at = c.loop-lexed.lexed.at in
    let held = seen (drop at text) c.front_of.result _ (rw take_rest at c.front_of.ensures) c.in-Unclosed.is in
    (refuses text UnclosedComment at c.fault-in-Unclosed.result (stands_unclosed text c.loop-lexed.lexed.tokens at c.loop-lexed.invariant (omega arith) held) c.fault-in-Unclosed.ensures).fault

pub returns-in-Unclosed-clause-tokens : goal.returns-in-Unclosed-clause-tokens
returns-in-Unclosed-clause-tokens c =
    let text = c.args.text.now in
    let at = c.loop-lexed.lexed.at in
    let held = seen (drop at text) c.front_of.result _ (rw take_rest at c.front_of.ensures) c.in-Unclosed.is in
    (refuses text UnclosedComment at c.fault-in-Unclosed.result (stands_unclosed text c.loop-lexed.lexed.tokens at c.loop-lexed.invariant (omega arith) held) c.fault-in-Unclosed.ensures).tokens

pub returns-in-Unclosed-clause-stands : goal.returns-in-Unclosed-clause-stands
returns-in-Unclosed-clause-stands c =
    let text = c.args.text.now in
    let at = c.loop-lexed.lexed.at in
    let held = seen (drop at text) c.front_of.result _ (rw take_rest at c.front_of.ensures) c.in-Unclosed.is in
    (refuses text UnclosedComment at c.fault-in-Unclosed.result (stands_unclosed text c.loop-lexed.lexed.tokens at c.loop-lexed.invariant (omega arith) held) c.fault-in-Unclosed.ensures).stands

pub returns-in-Bad-clause-fault : goal.returns-in-Bad-clause-fault
returns-in-Bad-clause-fault c =
    let text = c.args.text.now in
    let at = c.loop-lexed.lexed.at in
    let bad = sym (rw take_rest at c.front_of.ensures) ∙ c.in-Bad.is in
    (refuses text BadByte at c.fault-in-Bad.result (stands_bad text c.loop-lexed.lexed.tokens at c.loop-lexed.invariant (omega arith) (omega arith) bad) c.fault-in-Bad.ensures).fault

pub returns-in-Bad-clause-tokens : goal.returns-in-Bad-clause-tokens
returns-in-Bad-clause-tokens c =
    let text = c.args.text.now in
    let at = c.loop-lexed.lexed.at in
    let bad = sym (rw take_rest at c.front_of.ensures) ∙ c.in-Bad.is in
    (refuses text BadByte at c.fault-in-Bad.result (stands_bad text c.loop-lexed.lexed.tokens at c.loop-lexed.invariant (omega arith) (omega arith) bad) c.fault-in-Bad.ensures).tokens

pub returns-in-Bad-clause-stands : goal.returns-in-Bad-clause-stands
returns-in-Bad-clause-stands c =
    let text = c.args.text.now in
    let at = c.loop-lexed.lexed.at in
    let bad = sym (rw take_rest at c.front_of.ensures) ∙ c.in-Bad.is in
    (refuses text BadByte at c.fault-in-Bad.result (stands_bad text c.loop-lexed.lexed.tokens at c.loop-lexed.invariant (omega arith) (omega arith) bad) c.fault-in-Bad.ensures).stands

pub returns-clause-tokens : goal.returns-clause-tokens
returns-clause-tokens c tokens are =
    tokens_only c.args.text.now tokens c.loop-lexed.lexed.tokens are (are_tokens c.args.text.now c.loop-lexed.lexed.tokens c.loop-lexed.lexed.at c.loop-lexed.invariant (omega arith) (omega arith))

pub returns-clause-stands : goal.returns-clause-stands
returns-clause-stands c kind at stands =
    no_tokens c.args.text.now kind at c.loop-lexed.lexed.tokens stands (are_tokens c.args.text.now c.loop-lexed.lexed.tokens c.loop-lexed.lexed.at c.loop-lexed.invariant (omega arith) (omega arith))
