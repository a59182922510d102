use Rattle.std.proofs.Common.{◌∙◌, ℕ, List, drop, ap, sym}
use Rattle.std.specs.Borrow.{Bor}
use Rattle.std.proofs.lemmas.List.{take_rest, drop_min, drop-map}
use Rattle.flux_syntax.specs.declared.declarations.Word.{Word}
use Rattle.flux_syntax.specs.Least.{soonest}
use Rattle.flux_names.specs.steps.Picks.{words_now}
use Rattle.flux_names.proofs.places.with_words_behind.Goals as goal

pub returns : goal.returns
returns c =
    let words = c.args.words.now in
    let count = c.args.count in
    c.with_words.ensures
    ∙ ap (λ (ws : List (Bor Word)). soonest c.args.place (words_now ws))
    (take_rest words c.min.result ∙ ap (λ (n : ℕ). drop n words) c.min.ensures ∙ drop_min count words)
    ∙ ap (soonest c.args.place) (sym (drop-map (λ (w : Bor Word). w.now) count words))
