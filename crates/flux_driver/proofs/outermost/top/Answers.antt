use Rattle.std.proofs.Common.{◌≡◌, true, false, sym, ◌∙◌}
use Rattle.flux_driver.proofs.outermost.top.Goals as goal

pub serve_words-requires-clause-spelled : goal.serve_words-requires-clause-spelled
serve_words-requires-clause-spelled g c = λ κs lives. c.spells_serve.ensures.0 c.if-spells_serve.true

pub act-requires-clause-printed : goal.act-requires-clause-printed
act-requires-clause-printed g c = λ κs lives command spelled is. let told = c.spells_serve.ensures.1 (command, spelled, is) in let no : true ≡ false = sym told ∙ c.if-spells_serve.false in absurd cc
