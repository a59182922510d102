use Rattle.std.proofs.Common.{subst}
use Rattle.flow_turns.specs.Turns.{AddsOwn}
use Rattle.flow_turns.proofs.Owns.{adds-finished}
use Rattle.flow_turns.proofs.turns.hand_in.Goals as goal

pub returns-in-Ok-clause-own : goal.returns-in-Ok-clause-own
returns-in-Ok-clause-own g c =
    let done = c.args.done.now in
    subst (AddsOwn c.args.core.now c.finish.new.self) c.requires.flow_
    (adds-finished g.L.Meaning.meaning c.args.core.now c.finish.new.self done.flow done.inputs done.answer
    c.finish.result c.finish.ensures.ok c.finish.ensures.err c.finish.ensures.others)

pub returns-in-Err-clause-own : goal.returns-in-Err-clause-own
returns-in-Err-clause-own g c =
    let done = c.args.done.now in
    subst (AddsOwn c.args.core.now c.finish.new.self) c.requires.flow_
    (adds-finished g.L.Meaning.meaning c.args.core.now c.finish.new.self done.flow done.inputs done.answer
    c.finish.result c.finish.ensures.ok c.finish.ensures.err c.finish.ensures.others)
