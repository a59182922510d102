use Rattle.std.proofs.Common.{◌∙◌, ℕ, List, Option, None, drop, ap, sym}
use Rattle.flux_syntax.specs.declared.declarations.Word.{Word}
use Rattle.flux_syntax.specs.Least.{soonest}
use Rattle.flux_syntax.proofs.Soonest.{soonest_append}
use Rattle.flux_names.specs.declared.rows.TheConstants.{NODE_LIMIT, CLASS_LIMIT}
use Rattle.flux_names.specs.steps.Picks.{words_now}
use Rattle.flux_names.proofs.resolving.too_many.Goals as goal

pub returns : goal.returns
returns c =
    let symbols = c.args.symbols.now in
    c.with_words_behind.ensures
    ∙ ap (λ (p : Option ℕ). soonest p (drop CLASS_LIMIT (words_now c.as_slice-2.result.now))) c.with_words_behind-place.ensures
    ∙ ap (λ (ws : List Word). soonest (soonest None (drop NODE_LIMIT (words_now c.as_slice.result.now))) (drop CLASS_LIMIT ws)) c.as_slice-2.ensures
    ∙ ap (λ (ws : List Word). soonest (soonest None (drop NODE_LIMIT ws)) (drop CLASS_LIMIT symbols.classes.words)) c.as_slice.ensures
    ∙ sym (soonest_append None (drop NODE_LIMIT symbols.nodes.words) (drop CLASS_LIMIT symbols.classes.words))
