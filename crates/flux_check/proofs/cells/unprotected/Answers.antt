use Rattle.std.proofs.Common.{◌≡◌, ◌∙◌, ℕ, [], List, Option, None, ap}
use Rattle.std.specs.List.{flat_map}
use Rattle.std.proofs.lemmas.Result.{IfOk-weaker}
use Rattle.flux_syntax.specs.declared.declarations.Word.{Word}
use Rattle.flux_syntax.specs.Least.{soonest}
use Rattle.flux_check.specs.steps.Seen.{Flags, unheld_in}
use Rattle.flux_check.proofs.Held.{unheld_are}
use Rattle.flux_check.proofs.cells.unprotected.Goals as goal

pub returns : goal.returns
returns g c =
    let meaning = g.L.Meaning.meaning c.args.library.now in
    let decls = c.args.decls.now in
    IfOk-weaker c.unheld.result _ _ (λ p is. is
    ∙ ap (λ (seen : Flags). soonest None (flat_map (unheld_in meaning seen) decls)) c.in_ok-modes.ensures
    ∙ ap (soonest None) (unheld_are meaning decls)) c.unheld.ensures
