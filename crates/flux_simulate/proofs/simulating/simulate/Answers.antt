use Rattle.std.proofs.Common.{subst, sym, ap, ◌∙◌}
use Rattle.flux_simulate.specs.declared.clock.Clock.{Clock}
use Rattle.flux_simulate.specs.steps.Calls.{AreSmall}
use Rattle.flux_simulate.specs.steps.Ticking.{AllLast, Goes}
use Rattle.flux_simulate.proofs.Opening.{opening-goes, opening-last}
use Rattle.flux_simulate.proofs.Handing.{done-rule, done-runs, done-few, done-busy, done-bound, done-small, done-end}
use Rattle.flux_simulate.proofs.simulating.simulate.Goals as goal

pub all_ticks-requires-clause-goes : goal.all_ticks-requires-clause-goes
all_ticks-requires-clause-goes g c =
    subst (λ (clock : Clock). Goes g.L.Meaning.meaning c.args.core clock) (sym c.new-clock.ensures)
    (opening-goes g.L.Meaning.meaning c.args.core c.args.processors c.requires.entries c.requires.idle)

pub all_ticks-requires-clause-last : goal.all_ticks-requires-clause-last
all_ticks-requires-clause-last g c =
    subst (λ (clock : Clock). AllLast c.args.costs.now clock) (sym c.new-clock.ensures)
    (opening-last c.args.costs.now c.args.processors)

pub all_ticks-requires-clause-small : goal.all_ticks-requires-clause-small
all_ticks-requires-clause-small g c =
    subst (λ (clock : Clock). AreSmall g.L.Meaning.meaning c.args.core c.args.costs.now clock.processors)
    (sym c.new-clock.ensures)
    (record { costs_ = c.requires.costs; sizes = c.requires.sizes; processors_ = c.requires.most })

pub returns-in-Ok-clause-rule : goal.returns-in-Ok-clause-rule
returns-in-Ok-clause-rule g c =
    done-rule g.L.Meaning.meaning c.args.core c.all_ticks.new.core c.simulated.result.core c.all_ticks.new.clock
    c.all_ticks.ensures.kept c.in-Ok.ensures.rests c.in-Ok.ensures.over c.args.costs.now c.args.processors
    (c.all_ticks.ensures.processors ∙ ap (λ (clock : Clock). clock.processors) c.new-clock.ensures)
    c.requires.some c.in-Ok.ensures.last c.all_ticks.ensures.further c.simulated.result.at c.simulated.result.runs
    c.simulated.result.ticks c.simulated.ensures.core c.simulated.ensures.at c.simulated.ensures.runs
    c.simulated.ensures.ticks

pub returns-in-Ok-clause-end : goal.returns-in-Ok-clause-end
returns-in-Ok-clause-end g c =
    done-end g.L.Meaning.meaning c.args.core c.all_ticks.new.core c.simulated.result.core c.all_ticks.new.clock
    c.all_ticks.ensures.kept c.in-Ok.ensures.rests c.in-Ok.ensures.over c.args.costs.now c.args.processors
    (c.all_ticks.ensures.processors ∙ ap (λ (clock : Clock). clock.processors) c.new-clock.ensures)
    c.requires.some c.in-Ok.ensures.last c.all_ticks.ensures.further c.simulated.result.at c.simulated.result.runs
    c.simulated.result.ticks c.simulated.ensures.core c.simulated.ensures.at c.simulated.ensures.runs
    c.simulated.ensures.ticks

pub returns-in-Ok-clause-runs : goal.returns-in-Ok-clause-runs
returns-in-Ok-clause-runs g c =
    done-runs g.L.Meaning.meaning c.args.core c.all_ticks.new.core c.simulated.result.core c.all_ticks.new.clock
    c.all_ticks.ensures.kept c.in-Ok.ensures.rests c.in-Ok.ensures.over c.args.costs.now c.args.processors
    (c.all_ticks.ensures.processors ∙ ap (λ (clock : Clock). clock.processors) c.new-clock.ensures)
    c.requires.some c.in-Ok.ensures.last c.all_ticks.ensures.further c.simulated.result.at c.simulated.result.runs
    c.simulated.result.ticks c.simulated.ensures.core c.simulated.ensures.at c.simulated.ensures.runs
    c.simulated.ensures.ticks

pub returns-in-Ok-clause-few : goal.returns-in-Ok-clause-few
returns-in-Ok-clause-few g c =
    done-few g.L.Meaning.meaning c.args.core c.all_ticks.new.core c.simulated.result.core c.all_ticks.new.clock
    c.all_ticks.ensures.kept c.in-Ok.ensures.rests c.in-Ok.ensures.over c.args.costs.now c.args.processors
    (c.all_ticks.ensures.processors ∙ ap (λ (clock : Clock). clock.processors) c.new-clock.ensures)
    c.requires.some c.in-Ok.ensures.last c.all_ticks.ensures.further c.simulated.result.at c.simulated.result.runs
    c.simulated.result.ticks c.simulated.ensures.core c.simulated.ensures.at c.simulated.ensures.runs
    c.simulated.ensures.ticks

pub returns-in-Ok-clause-busy : goal.returns-in-Ok-clause-busy
returns-in-Ok-clause-busy g c =
    done-busy g.L.Meaning.meaning c.args.core c.all_ticks.new.core c.simulated.result.core c.all_ticks.new.clock
    c.all_ticks.ensures.kept c.in-Ok.ensures.rests c.in-Ok.ensures.over c.args.costs.now c.args.processors
    (c.all_ticks.ensures.processors ∙ ap (λ (clock : Clock). clock.processors) c.new-clock.ensures)
    c.requires.some c.in-Ok.ensures.last c.all_ticks.ensures.further c.simulated.result.at c.simulated.result.runs
    c.simulated.result.ticks c.simulated.ensures.core c.simulated.ensures.at c.simulated.ensures.runs
    c.simulated.ensures.ticks

pub returns-in-Ok-clause-bound : goal.returns-in-Ok-clause-bound
returns-in-Ok-clause-bound g c =
    done-bound g.L.Meaning.meaning c.args.core c.all_ticks.new.core c.simulated.result.core c.all_ticks.new.clock
    c.all_ticks.ensures.kept c.in-Ok.ensures.rests c.in-Ok.ensures.over c.args.costs.now c.args.processors
    (c.all_ticks.ensures.processors ∙ ap (λ (clock : Clock). clock.processors) c.new-clock.ensures)
    c.requires.some c.in-Ok.ensures.last c.all_ticks.ensures.further c.simulated.result.at c.simulated.result.runs
    c.simulated.result.ticks c.simulated.ensures.core c.simulated.ensures.at c.simulated.ensures.runs
    c.simulated.ensures.ticks

pub returns-in-Ok-clause-small : goal.returns-in-Ok-clause-small
returns-in-Ok-clause-small g c =
    done-small g.L.Meaning.meaning c.args.core c.all_ticks.new.core c.simulated.result.core c.all_ticks.new.clock
    c.all_ticks.ensures.kept c.in-Ok.ensures.rests c.in-Ok.ensures.over c.args.costs.now c.args.processors
    (c.all_ticks.ensures.processors ∙ ap (λ (clock : Clock). clock.processors) c.new-clock.ensures)
    c.requires.some c.in-Ok.ensures.last c.all_ticks.ensures.further c.simulated.result.at c.simulated.result.runs
    c.simulated.result.ticks c.simulated.ensures.core c.simulated.ensures.at c.simulated.ensures.runs
    c.simulated.ensures.ticks
    (record { costs_ = c.requires.costs; sizes = c.requires.sizes; processors_ = c.requires.most })

pub returns-in-Err-clause-err : goal.returns-in-Err-clause-err
returns-in-Err-clause-err g c =
    let further = c.all_ticks.ensures.further in
    let kept = c.all_ticks.ensures.kept in
    record { on = further.on; legal = kept.legal; halted_ = further.halted_ }
