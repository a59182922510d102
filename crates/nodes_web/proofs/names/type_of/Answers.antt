use Rattle.std.proofs.Common.{Some, ap, sym, ◌∙◌}
use Rattle.nodes_web.specs.Names.{type_of_ending}
use Rattle.nodes_web.proofs.Endings.{no_ending, ending_found}
use Rattle.nodes_web.proofs.names.type_of.Goals as goal

pub returns-in-Some : goal.returns-in-Some
returns-in-Some c =
    c.type_of_ending.ensures ∙ ap (λ e. type_of_ending (Some e)) c.split_at.ensures.back ∙ sym (ap type_of_ending (ending_found c.args.name.now c.in-Some.at c.in-Some.ensures))

pub returns-in-None : goal.returns-in-None
returns-in-None c = sym (ap type_of_ending (no_ending c.args.name.now c.in-None.ensures))
